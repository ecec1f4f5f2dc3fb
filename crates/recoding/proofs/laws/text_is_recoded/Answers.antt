use Rattle.recoding.proofs.TextLaws.{text_is_recoded}
use Rattle.recoding.proofs.laws.text_is_recoded.Goals as goal

pub returns : goal.returns
returns c = text_is_recoded
