use Rattle.std.proofs.Common.{arith}
use Rattle.recoding.specs.Outputs.{Lengthens-none, Lengthens-room, Lengthens-then}
use Rattle.recoding.proofs.list.append_zeros.Goals as goal

pub loop-left-init : goal.loop-left-init
loop-left-init g c = record { within = omega arith; room = omega arith; lengthens = Lengthens-none _ (omega arith) }

pub loop-left-preserved : goal.loop-left-preserved
loop-left-preserved g c =
    let before = c.loop-left.invariant in
    let put = c.append_few_zeros.ensures in
    record { within = omega arith; room = omega (arith, Lengthens-room put); lengthens = Lengthens-then before.lengthens put (omega arith) }

pub returns : goal.returns
returns g c = Lengthens-then c.loop-left.invariant.lengthens c.append_few_zeros-2.ensures (omega arith)
