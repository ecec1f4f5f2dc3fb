-- Blocks of eight units of ASCII, and the scalars of bytes of units.
use Rattle.std.proofs.Common.{◌≡◌, ℕ, zero, suc, ◌-◌, ◌*◌, ◌%◌, ◌<◌, Bool, Option, List, [], ◌∷◌, ◌++◌, map, length, get_or, arith, refl, ap, ap₂, ◌∙◌}
use Rattle.utf_lanes.specs.AsciiTexts.{AreAscii}
use Rattle.recoding.specs.RepairTables.{odd_end_by}
use Rattle.utf_lanes.specs.BytePairs.{unit_of, units_of}
use Rattle.recoding.proofs.Listed.{listed}

-- The scalars of bytes of units.

pub units_append : (high : Bool) (v later : List ℕ) (k : ℕ) → length v ≡ 2 * k → units_of high (v ++ later) ≡ units_of high v ++ units_of high later
units_append high [] later k h = refl
units_append high (a ∷ []) later k h = absurd (omega arith)
units_append high (a ∷ b ∷ v) later k h = ap (λ us. unit_of high a b ∷ us) (units_append high v later (k - 1) (omega arith))

pub odd_append : (unit : Option ℕ) (v later : List ℕ) (k : ℕ) → length v ≡ 2 * k → odd_end_by unit (v ++ later) ≡ odd_end_by unit later
odd_append unit [] later k h = refl
odd_append unit (a ∷ []) later k h = absurd (omega arith)
odd_append unit (a ∷ b ∷ v) later k h = odd_append unit v later (k - 1) (omega arith)

-- Eight units of ASCII.

-- the eight units of sixteen bytes
pub eight_units : (high : Bool) (w : List ℕ) → length w ≡ 16
    → unit_of high (get_or w 0 0) (get_or w 1 0) ∷ unit_of high (get_or w 2 0) (get_or w 3 0) ∷ unit_of high (get_or w 4 0) (get_or w 5 0) ∷ unit_of high (get_or w 6 0) (get_or w 7 0) ∷ unit_of high (get_or w 8 0) (get_or w 9 0) ∷ unit_of high (get_or w 10 0) (get_or w 11 0) ∷ unit_of high (get_or w 12 0) (get_or w 13 0) ∷ unit_of high (get_or w 14 0) (get_or w 15 0) ∷ []
    ≡ units_of high w
eight_units high w h = ap (units_of high) (listed 16 w h)

low_bytes : (us : List ℕ) → AreAscii us 0 (length us) → map (λ u. u % 256) us ≡ us
low_bytes [] low = refl
low_bytes (u ∷ us) low =
    let first : u < 0x80 = low 0 (omega arith) (omega arith) in
    let same : u % 256 ≡ u = omega arith in
    ap₂ (λ x xs. x ∷ xs) same (low_bytes us (λ k ge lt. low (suc k) (omega arith) (omega arith)))

-- eight units of ASCII as bytes
pub eight_bytes : (us : List ℕ) → length us ≡ 8 → AreAscii us 0 8
    → get_or us 0 0 % 256 ∷ get_or us 1 0 % 256 ∷ get_or us 2 0 % 256 ∷ get_or us 3 0 % 256 ∷ get_or us 4 0 % 256 ∷ get_or us 5 0 % 256 ∷ get_or us 6 0 % 256 ∷ get_or us 7 0 % 256 ∷ []
    ≡ us
eight_bytes us h low = ap (map (λ u. u % 256)) (listed 8 us h) ∙ low_bytes us (λ k ge lt. low k ge (omega arith))

-- each of eight units
pub all_eight : (w : List ℕ) → get_or w 0 0 < 0x80 → get_or w 1 0 < 0x80 → get_or w 2 0 < 0x80 → get_or w 3 0 < 0x80 → get_or w 4 0 < 0x80 → get_or w 5 0 < 0x80 → get_or w 6 0 < 0x80 → get_or w 7 0 < 0x80
    → AreAscii w 0 8
all_eight w a b c d e f g h zero ge lt = a
all_eight w a b c d e f g h (suc zero) ge lt = b
all_eight w a b c d e f g h (suc (suc zero)) ge lt = c
all_eight w a b c d e f g h (suc (suc (suc zero))) ge lt = d
all_eight w a b c d e f g h (suc (suc (suc (suc zero)))) ge lt = e
all_eight w a b c d e f g h (suc (suc (suc (suc (suc zero))))) ge lt = f
all_eight w a b c d e f g h (suc (suc (suc (suc (suc (suc zero)))))) ge lt = g
all_eight w a b c d e f g h (suc (suc (suc (suc (suc (suc (suc zero))))))) ge lt = h
all_eight w a b c d e f g h (suc (suc (suc (suc (suc (suc (suc (suc k)))))))) ge lt = absurd (omega arith)
