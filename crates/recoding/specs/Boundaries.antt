-- Offsets that are inside no character.
use Rattle.std.specs.Prelude.{◌≡◌, ℕ, ◌+◌, ◌<◌, ◌≤◌, Bool, List, length}
use Rattle.utf_base.specs.Code.{utf16}
use Rattle.utf_base.specs.Piece.{Stands, Inside}
use Rattle.recoding.specs.declared.form.Form.{Form}
use Rattle.recoding.specs.TextForms.{text_form}
pub use Rattle.recoding.specs.TextForms.{IsUnitsEnd}

-- n is the first of the offsets from `at` on for which that holds, or the end of the list if `at` is the end
-- or after it
pub record IsFirstFrom (IsEnd : ℕ → Type 0) (len at n : ℕ) : Type 0 where
  pub within : n ≤ len
  pub after : at ≤ len → at ≤ n
  pub end : len ≤ at → n ≡ len
  pub outside : IsEnd n
  pub first : (m : ℕ) → m ≤ len → at ≤ m → IsEnd m → n ≤ m

-- n is the last of the offsets up to `at` for which that holds
pub record IsLastTo (IsEnd : ℕ → Type 0) (len at n : ℕ) : Type 0 where
  pub within : n ≤ len
  pub before : n ≤ at
  pub outside : IsEnd n
  pub last : (m : ℕ) → m ≤ len → m ≤ at → IsEnd m → m ≤ n

-- the offset is inside no character of the bytes
abbrev pub IsBoundary : Form → List ℕ → ℕ → Type 0
IsBoundary from = (text_form from).is_boundary

-- the offset is inside no character of the units
abbrev pub IsUnitBoundary : List ℕ → ℕ → Type 0
IsUnitBoundary units n = ¬ (Inside utf16 units n)

-- A code begins at the first offset, and covers the second or ends after it.
pub record LiesOver (code : ℕ → List ℕ) (xs : List ℕ) (from at : ℕ) : Type 0 where
  pub char : ℕ
  pub stands : Stands code xs from char
  pub ends : at < from + length (code char)

-- no code of two units begins these
abbrev pub BeginsNoPair : List ℕ → Type 0
BeginsNoPair units = (s : ℕ) → Stands utf16 units 0 s → length (utf16 s) ≤ 1

-- n is the last offset, up to `at`, that no code of the list covers
pub record IsLastOutside (code : ℕ → List ℕ) (xs : List ℕ) (at n : ℕ) : Type 0 where
  pub before : n ≤ at
  pub outside : ¬ (Inside code xs n)
  pub last : (m : ℕ) → m ≤ at → ¬ (Inside code xs m) → m ≤ n

-- n is the last offset of bytes, up to `at`, that no unit and no pair covers
pub record IsLastUnitsEnd (high_first : Bool) (bytes : List ℕ) (at n : ℕ) : Type 0 where
  pub before : n ≤ at
  pub outside : IsUnitsEnd high_first bytes n
  pub last : (m : ℕ) → m ≤ at → IsUnitsEnd high_first bytes m → m ≤ n
