-- The length of the well-formed front of a list.
use Rattle.std.specs.Prelude.{◌≡◌, ℕ, ◌+◌, ◌*◌, ◌/◌, ◌<◌, ◌≤◌, Bool, List, [], ◌∷◌, length, is_ok, if◌then◌else◌}
use Rattle.utf_base.specs.Code.{utf16}
use Rattle.utf_base.specs.Front.{BeginsWith, NoneBegins}
use Rattle.utf_lanes.specs.BytePairs.{units_of}
use Rattle.encode_unicode.specs.Window.{Placed}
use Rattle.recoding.specs.declared.form.Form.{Form}
use Rattle.recoding.specs.TextForms.{text_form}
pub use Rattle.recoding.specs.FirstFaults.{IsFirstFault, IsFirstFaultOf, IsFirstUnitFault}

-- the number of elements before the first fault of some pieces, which is all if none is a fault
abbrev pub valid_len : {E : Type 0} → List (Placed E) → ℕ
valid_len [] = 0
valid_len (x ∷ items) = if is_ok x.1 then x.2 + valid_len items else 0

-- the bytes begin with the n bytes of a character in UTF-16
pub record BeginsUnits (high_first : Bool) (bytes : List ℕ) (n : ℕ) : Type 0 where
  pub char : ℕ
  pub begins : BeginsWith utf16 (units_of high_first bytes) char (n / 2)
  pub even : n ≡ 2 * (n / 2)
  pub within : n ≤ length bytes
  pub least : 0 < n

-- if they are a unit or more, no character begins them
abbrev pub NoUnitsBegin : Bool → List ℕ → Type 0
NoUnitsBegin high_first bytes = 2 ≤ length bytes → NoneBegins utf16 (units_of high_first bytes)

-- the first fault of bytes of that encoding begins at the offset n, or there is none, and n is their length
abbrev pub IsFirstFaultIn : Form → List ℕ → ℕ → Type 0
IsFirstFaultIn form = (text_form form).first_fault
