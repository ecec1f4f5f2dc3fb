use Rattle.std.proofs.Common.{take, arith}
use Rattle.recoding.proofs.Forms.{is_utf16}
use Rattle.recoding.proofs.TextRuns.{PutsText-none, PutsText-part, PutsText-then}
use Rattle.recoding.proofs.AsciiToUtf16.{PutsText-widened, ascii_front}
use Rattle.recoding.proofs.kernels.WidenedKernelUtf8Utf16.put_text.Goals as goal

pub returns-then-most-bytes : goal.returns-then-most-bytes
returns-then-most-bytes g c = PutsText-none g.met.O.Output.appends_none

pub returns-then-most-lt32-2 : goal.returns-then-most-lt32-2
returns-then-most-lt32-2 g c = PutsText-part c.min-most.result c.put_few.ensures

pub returns-then-is_ascii : goal.returns-then-is_ascii
returns-then-is_ascii g c = PutsText-widened _ (is_utf16 _) (omega arith) (c.is_ascii.ensures.ascii c.if-is_ascii.true) c.put_ascii_as_utf16.ensures

pub returns : goal.returns
returns g c =
    let most = c.min-most.result in
    let front = c.put_ascii_front-front.result in
    let ascii = ascii_front (take most c.args.bytes.now) front c.put_ascii_front-front.ensures.ascii in
    let put = PutsText-widened _ (is_utf16 _) c.put_ascii_front-front.ensures.within ascii c.put_ascii_front-front.ensures.appends in
    PutsText-part most (PutsText-then g.met.O.Output.appends_more put c.put_judged.ensures)
