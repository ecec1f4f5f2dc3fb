use Rattle.recoding.proofs.FirstPieces.{BeginsChar-utf8}
use Rattle.recoding.proofs.NextPieces.{Begins-char, no_code_of_four, no_code_where_begun, no_code_where_decided}
use Rattle.recoding.proofs.next_scalar.next_of_utf8.Goals as goal

-- Four bytes or more.

pub returns-in-Some-clause-some : goal.returns-in-Some-clause-some
returns-in-Some-clause-some c = Begins-char _ (BeginsChar-utf8 _ _ _ c.in-Some.ensures.some)

pub fault_of_utf8-requires : goal.fault_of_utf8-requires
fault_of_utf8-requires c = no_code_of_four _ c.if-bytes-ge4.true (c.in-None.ensures.none c.if-bytes-ge4.true)

-- Fewer.

pub returns-in-Char-clause-some : goal.returns-in-Char-clause-some
returns-in-Char-clause-some c = Begins-char _ c.in-Char.ensures

pub fault_of_utf8-requires-in-Fault : goal.fault_of_utf8-requires-in-Fault
fault_of_utf8-requires-in-Fault c = no_code_where_begun _ _ _ c.in-Fault.ensures

pub fault_of_utf8-requires-in-Undecided : goal.fault_of_utf8-requires-in-Undecided
fault_of_utf8-requires-in-Undecided c = no_code_where_decided _ c.in-Undecided.ensures (c.is_front_of_code.ensures.no c.if-is_front_of_code.false)
