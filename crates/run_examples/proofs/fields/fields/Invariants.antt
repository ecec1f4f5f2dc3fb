use Rattle.std.proofs.Common.{◌≡◌}
use Rattle.run_examples.proofs.fields.fields.Given as goal

abbrev pub invariant-loop-field : goal.invariant-loop-field
invariant-loop-field g l = l.fields.items ≡ l.yielded
