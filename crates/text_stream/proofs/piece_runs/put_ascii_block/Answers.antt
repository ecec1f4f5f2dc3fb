use Rattle.std.proofs.Common.{arith}
use Rattle.text_stream.proofs.LocatedLemmas.{Puts-one, ascii_begins}
use Rattle.text_stream.proofs.piece_runs.put_ascii_block.Goals as goal

pub loop-count-preserved : goal.loop-count-preserved
loop-count-preserved g c =
    let at = c.loop-count.at in
    let bytes = c.args.bytes.now in
    let (puts, read, written) = c.loop-count.invariant in
    let low = c.requires.ascii at.read (omega arith) (omega arith) in
    let len = puts.writes.len in
    let read_on = c.after-at.ensures.read in
    let written_on = c.after-at.ensures.written in
    (Puts-one _ puts (ascii_begins bytes at.read (omega arith) low) (omega arith) c.from_ascii.ensures c.after-at.ensures.read c.after-at.ensures.written c.after-at.ensures.offset, omega arith, omega arith)
