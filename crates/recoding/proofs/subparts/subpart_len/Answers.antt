use Rattle.recoding.proofs.SubpartLengths.{subpart_of_one, subpart_of_two, subpart_of_three}
use Rattle.recoding.proofs.subparts.subpart_len.Goals as goal

pub returns-then-not-begins_long_code-clause-subpart : goal.returns-then-not-begins_long_code-clause-subpart
returns-then-not-begins_long_code-clause-subpart c = subpart_of_one _ c.requires.some c.requires.none (λ l. let yes = c.begins_long_code.ensures.no l in cc)

pub returns-then-third_continues-clause-subpart : goal.returns-then-third_continues-clause-subpart
returns-then-third_continues-clause-subpart c = subpart_of_three _ c.requires.none (c.begins_long_code.ensures.yes c.if-not-begins_long_code.false) (c.third_continues.ensures.yes c.if-third_continues.true)

pub returns-else-third_continues-clause-subpart : goal.returns-else-third_continues-clause-subpart
returns-else-third_continues-clause-subpart c =
    subpart_of_two _ c.requires.none (c.begins_long_code.ensures.yes c.if-not-begins_long_code.false) (λ third. let yes = c.third_continues.ensures.no third in cc)
