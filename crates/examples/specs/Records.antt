-- Records of UTF-16 units, each ended by a zero unit.
use Rattle.std.specs.Prelude.{◌≡◌, ◌≢◌, ℕ, List, [], ◌∷◌, ◌++◌, Some, All, slice_index}
use Rattle.std.specs.List.{flat_map}
use Rattle.encode_unicode.specs.Code.{utf8, utf16}
use Rattle.encode_unicode.specs.Scalar.{IsScalar}
use Rattle.encode_unicode.specs.Units.{unit_fault_kind}
use Rattle.examples.specs.declared.records.Ending.{Ending}
use Rattle.examples.specs.declared.records.Ending.TheVariants.{Zero, Damaged, Missing}

-- what is at the end of a record, in front of the units `following`: a zero unit, a unit that is damaged, or
-- nothing
abbrev pub EndsRecord : Ending → List ℕ → List ℕ → Type 0
EndsRecord Zero units following = units ≡ 0 ∷ following
EndsRecord (Damaged kind) units following = (unit_fault_kind units ≡ Some kind) × (units ≡ slice_index units 0 ∷ following)
EndsRecord Missing units following = (units ≡ []) × (following ≡ [])

-- the units are the codes of the record's characters, which are its text, its end, and those after it; none of its
-- characters is U+0000
pub record IsRecord (units text : List ℕ) (ending : Ending) (following : List ℕ) : Type 0 where
  pub scalars : List ℕ
  pub all : All (λ s. IsScalar s × (s ≢ 0)) scalars
  pub is_text : text ≡ flat_map utf8 scalars
  pub end : List ℕ
  pub split : units ≡ flat_map utf16 scalars ++ end
  pub ends : EndsRecord ending end following
