use Rattle.std.specs.BTreeMap as tree
use Rattle.std.specs.Ordering.{nat_cmp}
use Rattle.examples.proofs.TableLemmas.{CountsSoFar}
use Rattle.examples.proofs.tables.count_characters.Given as goal

abbrev pub invariant-loop-c : goal.invariant-loop-c
invariant-loop-c l = CountsSoFar l.text l.yielded l.c-iterator (tree.get nat_cmp l.table)
