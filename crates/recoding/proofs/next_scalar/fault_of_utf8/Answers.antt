use Rattle.recoding.proofs.NextPieces.{Begins-byte, Begins-repaired, Begins-subpart}
use Rattle.recoding.proofs.SubpartLengths.{none_alone, some_where_no_code, subpart_stays}
use Rattle.recoding.proofs.next_scalar.fault_of_utf8.Goals as goal

pub returns-in-Faults : goal.returns-in-Faults
returns-in-Faults c = rw c.in-Faults.is (Begins-byte c.requires)

pub returns-in-Table : goal.returns-in-Table
returns-in-Table c = rw c.in-Table.is (Begins-repaired c.in-Table.field-0 c.requires)

pub returns-in-Subparts : goal.returns-in-Subparts
returns-in-Subparts c = rw c.in-Subparts.is (Begins-subpart c.subpart_len.ensures.within (subpart_stays _ _ c.requires c.subpart_len.ensures.subpart))

pub subpart_len-requires-clause-some : goal.subpart_len-requires-clause-some
subpart_len-requires-clause-some c = some_where_no_code _ c.requires

pub subpart_len-requires-clause-none : goal.subpart_len-requires-clause-none
subpart_len-requires-clause-none c = none_alone _ c.requires
