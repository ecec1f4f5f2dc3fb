use Rattle.recoding.proofs.NextPieces.{Begins-char, Begins-unit}
use Rattle.recoding.proofs.next_scalar.next_of_utf16.Goals as goal

pub returns-in-Char-clause-some : goal.returns-in-Char-clause-some
returns-in-Char-clause-some g c way = Begins-char way c.in-Char.ensures

pub returns-in-Fault-clause-some : goal.returns-in-Fault-clause-some
returns-in-Fault-clause-some g c way = Begins-unit way _ c.in-Fault.ensures
