-- The bounds of a decoder's hint.
use Rattle.std.proofs.Common.{◌≡◌, ℕ, ◌-◌, ◌/◌, ◌*◌, ◌<◌, ◌≤◌, List, length, lit<, arith}
use Rattle.std.proofs.lemmas.Grind.{common_steps}
use Rattle.std.specs.Prelude.{slice_range, Some}
use Rattle.utf_base.specs.Code.{utf8, utf16, IsCode}
use Rattle.utf_base.specs.Piece.{IsCut, Piece}
use Rattle.utf_base.proofs.Cuts.{Finds, count_of_cut}
use Rattle.utf_base.proofs.FrontLemmas.{utf8_finds}
use Rattle.utf_base.proofs.UnitLemmas.{utf16_finds}
use Rattle.utf_base.proofs.Utf8Code.{utf8_is_code, length_utf8}
use Rattle.utf_base.proofs.Utf16Code.{utf16_is_code, length_utf16}
use Rattle.encode_unicode.specs.Hints.{BoundsPieces, BoundsUnitPieces}

-- the number of pieces of a part of a list is bounded by its length
counts : (code : ℕ → List ℕ) → IsCode code → Finds code → (m : ℕ) → ((s : ℕ) → length (code s) ≤ m) → 0 < m → (xs : List ℕ) (i j : ℕ) → i ≤ j → j ≤ length xs → (ps : List Piece) → IsCut code (slice_range xs i j) ps
    → (length ps ≤ j - i) × (j - i ≤ m * length ps)
counts code is finds m short some xs i j lo hi ps h =
    let count = count_of_cut code is finds m short some (slice_range xs i j) ps h in
    let len : length (slice_range xs i j) ≡ j - i = grind (arith, common_steps) in
    rw len at count

pub BoundsPieces_quarter : (xs : List ℕ) (i j : ℕ) → i ≤ j → j ≤ length xs → BoundsPieces (slice_range xs i j) ((j - i) / 4, Some (j - i))
BoundsPieces_quarter xs i j lo hi ps h = let count = counts utf8 utf8_is_code utf8_finds 4 length_utf8 (lit< tt) xs i j lo hi ps h in (omega arith, omega arith)

pub BoundsUnitPieces_half : (xs : List ℕ) (i j : ℕ) → i ≤ j → j ≤ length xs → BoundsUnitPieces (slice_range xs i j) ((j - i) / 2, Some (j - i))
BoundsUnitPieces_half xs i j lo hi ps h = let count = counts utf16 utf16_is_code utf16_finds 2 length_utf16 (lit< tt) xs i j lo hi ps h in (omega arith, omega arith)
