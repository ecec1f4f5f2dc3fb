use Rattle.std.proofs.Common.{arith}
use Rattle.text_stream.proofs.LocatedLemmas.{Puts-then}
use Rattle.text_stream.proofs.piece_runs.put_many_characters.Goals as goal

pub loop-at-preserved : goal.loop-at-preserved
loop-at-preserved g c =
    let (puts, few, most, enough) = c.loop-at.invariant in
    let test = c.loop-at-test.true in
    let one = c.in-Some.ensures.one in
    let read = c.in-Some.ensures.few in
    (Puts-then puts c.in-Some.ensures.puts, omega arith, most, omega arith)
