use Rattle.std.proofs.Common.{arith}
use Rattle.text_stream.proofs.LocatedLemmas.{Puts-then, ascii_there}
use Rattle.text_stream.proofs.piece_runs.put_located_ascii.Goals as goal

pub put_ascii_block-at-requires-clause-ascii : goal.put_ascii_block-at-requires-clause-ascii
put_ascii_block-at-requires-clause-ascii g c =
    let test = c.loop-at-test.true in
    let within = c.loop-at.invariant.within in
    ascii_there c.args.bytes.now c.loop-at.at.read 8 (omega arith) (c.is_ascii.ensures.ascii c.if-not-is_ascii.false)

pub loop-at-smaller : goal.loop-at-smaller
loop-at-smaller g c =
    let moves = c.put_ascii_block-at.ensures.moves in
    let within = c.put_ascii_block-at.ensures.puts.within in
    omega arith

pub loop-at-preserved : goal.loop-at-preserved
loop-at-preserved g c = Puts-then c.loop-at.invariant c.put_ascii_block-at.ensures.puts
