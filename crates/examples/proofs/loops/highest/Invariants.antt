use Rattle.std.proofs.Common.{◌≡◌, max}
use Rattle.std.specs.List.{fold}
use Rattle.examples.proofs.loops.highest.Given as goal

abbrev pub invariant-loop-c : goal.invariant-loop-c
invariant-loop-c l = l.most ≡ fold max 0 l.yielded
