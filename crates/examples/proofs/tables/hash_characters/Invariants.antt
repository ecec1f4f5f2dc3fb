use Rattle.std.specs.HashMap as hash
use Rattle.std.specs.Prelude.{nat_eq}
use Rattle.examples.proofs.TableLemmas.{CountsSoFar}
use Rattle.examples.proofs.tables.hash_characters.Given as goal

abbrev pub invariant-loop-c : goal.invariant-loop-c
invariant-loop-c l = CountsSoFar l.text l.yielded l.c-iterator (hash.get nat_eq l.table)
