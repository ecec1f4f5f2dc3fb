use Rattle.std.proofs.Common.{◌-◌, length, take}
use Rattle.cuts.specs.Fed.{IsFed}
use Rattle.run_examples.proofs.parts.recode_in_parts.Given as goal

abbrev pub invariant-loop-place : goal.invariant-loop-place
invariant-loop-place g l = IsFed l.fn.from l.fn.to (take l.place l.bytes) l.out.items l.recoder

abbrev pub decreases-loop-place : goal.decreases-loop-place
decreases-loop-place g l = length l.bytes - l.place
