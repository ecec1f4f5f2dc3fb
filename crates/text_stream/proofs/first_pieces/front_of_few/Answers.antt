use Rattle.std.proofs.Common.{◌∙◌, sym}
use Rattle.utf_base.proofs.LaterLemmas.{few_where_too_few}
use Rattle.text_stream.proofs.FrontTold.{broken_begins, few_last, few_open}
use Rattle.text_stream.proofs.first_pieces.front_of_few.Goals as goal

pub returns-then-breaks-clause-begins : goal.returns-then-breaks-clause-begins
returns-then-breaks-clause-begins c = broken_begins c.args.bytes.now (sym c.breaks.ensures ∙ c.if-breaks.true)

pub returns-clause-waits : goal.returns-clause-waits
returns-clause-waits c = few_open c.args.bytes.now c.requires (sym c.breaks.ensures ∙ c.if-breaks.false)

pub returns-clause-last : goal.returns-clause-last
returns-clause-last c = few_last c.args.bytes.now c.requires (sym c.breaks.ensures ∙ c.if-breaks.false)

pub returns-clause-few : goal.returns-clause-few
returns-clause-few c = few_where_too_few c.args.bytes.now c.requires
