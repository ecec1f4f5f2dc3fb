use Rattle.std.proofs.Common.{◌∙◌}
use Rattle.utf_chars.proofs.unsent.Unsent256FromUtf8Char.from.Goals as goal

pub returns : goal.returns
returns c = c.new.ensures ∙ c.number_of_front.ensures ∙ c.to_array-len.ensures.front
