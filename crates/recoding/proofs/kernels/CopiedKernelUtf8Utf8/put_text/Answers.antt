use Rattle.std.proofs.Common.{take, arith, IsUtf8}
use Rattle.utf_lanes.proofs.AsciiTexts.{ascii_text}
use Rattle.recoding.proofs.TextRuns.{PutsText-part, PutsText-text}
use Rattle.recoding.proofs.kernels.CopiedKernelUtf8Utf8.put_text.Goals as goal

pub returns : goal.returns
returns g c = PutsText-part c.min-most.result (PutsText-text c.text_len-len.ensures.within c.text_len-len.ensures.text c.put-2.ensures)

pub returns-then-is_ascii : goal.returns-then-is_ascii
returns-then-is_ascii g c =
    let bytes = c.args.bytes.now in
    let n = c.min-most.result in
    let text : IsUtf8 (take n bytes) = ascii_text (take n bytes) (c.is_ascii.ensures.ascii c.if-is_ascii.true) in
    PutsText-text (omega arith) text c.put.ensures
