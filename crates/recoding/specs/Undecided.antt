-- The bytes that a recoder carries over are undecided: what follows determines the scalar that they show
-- first.
use Rattle.std.specs.Prelude.{◌≡◌, ◌≢◌, ℕ, ◌<◌, ◌≤◌, true, false, List, [], ◌∷◌, ◌++◌, length, All}
use Rattle.utf_base.specs.Scalar.{IsScalar}
use Rattle.recoding.specs.Recoded.{Reads, Lacks, IsProperFront, Continues, written}
use Rattle.recoding.specs.declared.form.Form.{Form}
use Rattle.recoding.specs.declared.form.Form.TheVariants.{Utf8}
use Rattle.recoding.specs.TextForms.{utf16_form}

-- If nothing follows the bytes, U+FFFD is shown first. If the rest of the code of another scalar does, that scalar
-- is.
pub record IsUndecided (from : Form) (w : List ℕ) : Type 0 where
  pub later : List ℕ
  pub char : ℕ
  pub scalar : IsScalar char
  pub other : char ≢ 0xFFFD
  pub code : w ++ later ≡ written from char
  pub followed : Reads from (w ++ later) (char ∷ [])
  pub alone : (ss : List ℕ) × Reads from w (0xFFFD ∷ ss)

abbrev pub AreBytes : List ℕ → Type 0
AreBytes w = All (λ b. b < 0x100) w

-- bytes that are the front of a code are not decided
abbrev pub FrontsAreUndecided : Type 0
FrontsAreUndecided = (from : Form) (w : List ℕ) → 0 < length w → IsProperFront (written from) w → IsUndecided from w

-- bytes of UTF-8 that lack others are undecided
abbrev pub LackingTextIsUndecided : Type 0
LackingTextIsUndecided = (w : List ℕ) → 0 < length w → Lacks Utf8 w → IsUndecided Utf8 w

-- bytes of UTF-16LE that lack others are undecided
abbrev pub LackingUnitsAreUndecided : Type 0
LackingUnitsAreUndecided = (w : List ℕ) → AreBytes w → 0 < length w → Lacks (utf16_form false) w → IsUndecided (utf16_form false) w

-- In UTF-16BE, half a unit may be one that begins no code. A whole one is a leading surrogate.
abbrev pub LackingUnitIsUndecided : Type 0
LackingUnitIsUndecided = (w : List ℕ) → AreBytes w → length w ≡ 2 → Lacks (utf16_form true) w → IsUndecided (utf16_form true) w

-- Some bytes are transcoded to an output and carried-over bytes that are the front of a code. No other way to
-- continue has a longer output.
abbrev pub NothingComesEarlier : Type 0
NothingComesEarlier =
    (from to : Form) (bytes grown held other rest : List ℕ) → IsProperFront (written from) held
    → Continues from to bytes grown held → Continues from to bytes other rest → length other ≤ length grown
