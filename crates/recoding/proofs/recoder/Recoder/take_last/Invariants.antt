use Rattle.std.proofs.Common.{length}
use Rattle.recoding.specs.Replacing.{TakesLast}
use Rattle.recoding.proofs.recoder.Recoder.take_last.Given as goal

abbrev pub invariant-loop-from : goal.invariant-loop-from
invariant-loop-from g l =
    let s = l.self-inside in
    TakesLast g.O.Output.appends l.way l.fn.self l.fn.out l.out l.replaced (record { from = s.from; to = s.to; held = s.held; replaced = s.replaced })

abbrev pub decreases-loop-from : goal.decreases-loop-from
decreases-loop-from g l = length l.self-inside.held
