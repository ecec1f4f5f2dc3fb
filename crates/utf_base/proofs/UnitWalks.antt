-- Each word has a walk over units, since each window that no code begins has a forward kind.
use Rattle.std.proofs.Common.{◌≡◌, ℕ, List, Option, Some, None, refl, ◌-◌, ◌<◌, drop}
use Rattle.std.proofs.lemmas.List.Elements.{All-take, All-drop}
use Rattle.std.specs.Prelude.{slice_range}
use Rattle.utf_base.specs.declared.errors.units.Utf16PairError.{Utf16PairError}
use Rattle.utf_base.specs.Code.{utf16}
use Rattle.utf_base.specs.Piece.{Stands}
use Rattle.utf_base.specs.Scalar.{IsUnits}
use Rattle.utf_base.specs.Units.{unit_fault_kind, unit_value}
use Rattle.utf_base.specs.Walk.{utf16_units}
use Rattle.utf_base.specs.WalkLaws.{WalkExistsOver}
use Rattle.utf_base.proofs.UnitLemmas.{units_where_no_kind, utf16_finds}
use Rattle.utf_base.proofs.Utf16Code.{utf16_is_code}
use Rattle.utf_base.proofs.WalkWords.{HasKinds, walk_exists}

kind_of : (w : List ℕ) (k : Option Utf16PairError) → IsUnits w → unit_fault_kind w ≡ k → ((s : ℕ) → Stands utf16 w 0 s → ⊥) → (e : Utf16PairError) × (unit_fault_kind w ≡ Some e)
kind_of w None units e none = absurd (none (unit_value w) (units_where_no_kind w units e))
kind_of w (Some k) units e none = (k, e)

-- a part of units is units
pub part_of_units : (xs : List ℕ) (i j : ℕ) → IsUnits xs → IsUnits (slice_range xs i j)
part_of_units xs i j units = All-take (λ u. u < 0x1_0000) (j - i) (drop i xs) (All-drop (λ u. u < 0x1_0000) i xs units)

pub unit_walk_exists : WalkExistsOver IsUnits utf16_units
unit_walk_exists xs units word =
    let kinds : HasKinds utf16_units xs = λ i j lt le none. kind_of (slice_range xs i j) (unit_fault_kind (slice_range xs i j)) (part_of_units xs i j units) refl none in
    walk_exists utf16_units utf16_is_code utf16_finds xs kinds word
