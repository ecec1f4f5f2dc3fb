use Rattle.std.proofs.Common.{◌∙◌, refl}
use Rattle.utf_chars.proofs.DigitLemmas.{no_digits}
use Rattle.utf_chars.proofs.unsent.Unsent0x10000Default.default.Goals as goal

pub returns : goal.returns
returns c = c.new.ensures ∙ no_digits _ _ _ refl
