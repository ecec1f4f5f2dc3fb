use Rattle.std.proofs.Common.{refl}
use Rattle.utf_chars.proofs.PaddedLemmas.{value_padded}
use Rattle.utf_chars.proofs.PaddedUnits.{unit_value_padded}
use Rattle.utf_chars.proofs.laws.forms_keep_the_scalar.Goals as goal

pub returns : goal.returns
returns c = record { bytes = λ s h. value_padded _ s h refl; units = λ s h. unit_value_padded _ s h refl }
