use Rattle.std.proofs.Common.{Some, None}
use Rattle.utf_base.proofs.FrontLemmas.{no_code_where_fault}
use Rattle.recoding.proofs.shards.part_len.Goals as goal

pub subpart_len-requires-clause-none : goal.subpart_len-requires-clause-none
subpart_len-requires-clause-none c = λ s h. no_code_where_fault _ _ s c.in-Err.ensures.decodes h

pub returns-in-Ok-clause-part : goal.returns-in-Ok-clause-part
returns-in-Ok-clause-part c = (Some _, c.in-Ok.ensures.decodes)

pub returns-in-Err-clause-part : goal.returns-in-Err-clause-part
returns-in-Err-clause-part c = (None, c.subpart_len.ensures.subpart)
