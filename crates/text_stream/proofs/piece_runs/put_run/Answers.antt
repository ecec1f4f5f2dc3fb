use Rattle.std.proofs.Common.{arith}
use Rattle.text_stream.proofs.LocatedLemmas.{PutsKept-none, PutsKept-then}
use Rattle.text_stream.proofs.piece_runs.put_run.Goals as goal

pub loop-at-init : goal.loop-at-init
loop-at-init g c = PutsKept-none g.K.Kept.keeps_each _ _ _ _ _ c.requires.0 c.requires.1

pub loop-at-smaller : goal.loop-at-smaller
loop-at-smaller g c =
    let ahead = c.put_text-at.ensures.ahead in
    let within = c.put_few_pieces-few.ensures.puts.within in
    let moves = c.put_few_pieces-few.ensures.moves c.if-few.false c.if-few-2.false in
    omega arith

pub loop-at-preserved : goal.loop-at-preserved
loop-at-preserved g c =
    let law = g.K.Kept.keeps_each in
    PutsKept-then law (PutsKept-then law c.loop-at.invariant c.put_text-at.ensures) c.put_few_pieces-few.ensures.puts

pub returns-then-few-clause-puts : goal.returns-then-few-clause-puts
returns-then-few-clause-puts g c =
    let law = g.K.Kept.keeps_each in
    PutsKept-then law (PutsKept-then law c.loop-at.invariant c.put_text-at.ensures) c.put_few_pieces-few.ensures.puts

pub returns-then-at-bytes-clause-puts : goal.returns-then-at-bytes-clause-puts
returns-then-at-bytes-clause-puts g c = rw c.run_ended.ensures (PutsKept-then g.K.Kept.keeps_each c.loop-at.invariant c.put_text-at.ensures)
