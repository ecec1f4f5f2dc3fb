use Rattle.std.proofs.Common.{◌-◌, ◌≤◌}
use Rattle.std.specs.Prelude.{vec_len, vec_capacity}
use Rattle.recoding.specs.Outputs.{Lengthens}
use Rattle.recoding.proofs.list.append_zeros.Given as goal

abbrev pub invariant-loop-left : goal.invariant-loop-left
invariant-loop-left g l = record {
  within : l.left ≤ l.count;
  room : l.left ≤ vec_capacity l.out - vec_len l.out;
  lengthens : Lengthens l.fn.out l.out (l.count - l.left);
}

abbrev pub decreases-loop-left : goal.decreases-loop-left
decreases-loop-left g l = l.left
