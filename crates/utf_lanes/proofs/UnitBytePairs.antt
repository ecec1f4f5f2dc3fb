-- Pairs of units in bytes, counted byte by byte: the high bytes determine them.
use Rattle.std.proofs.Common.{◌≡◌, ℕ, zero, suc, ◌+◌, ◌-◌, ◌*◌, ◌/◌, ◌%◌, ◌<◌, ◌≤◌, Bool, true, false, bit_and, not, eqb, eqb-true, cond, List, [], ◌∷◌, length, get_or, arith, refl, ap, ap₂, sym, ◌∙◌, w8, Fits}
use Rattle.std.proofs.lemmas.Bool.{eqb-false}
use Rattle.std.specs.Prelude.{◌&&◌}
use mir.Val.{bool_byte}
use Rattle.utf_base.specs.Units.{is_leading_surrogate, is_trailing_surrogate}
use Rattle.utf_lanes.specs.BytePairs.{high_place, units_of}
use Rattle.utf_lanes.specs.UnitStarts.{are_pair, ends_pair, is_unit_start, place_count, unit_start_count}
use Rattle.utf_lanes.proofs.UnitPairs.{leads, place_below, trails, unit_at}
use Rattle.utf_lanes.proofs.UnitStartLemmas.{places_more, places_told}

-- bytes make half as many units
pub count_in_bytes : (high : Bool) (bytes : List ℕ) → length bytes / 2 ≡ length (units_of high bytes)
count_in_bytes high [] = refl
count_in_bytes high (a ∷ []) = refl
count_in_bytes high (a ∷ b ∷ bytes) = let rest = count_in_bytes high bytes in omega arith

-- Whether a unit is a surrogate depends only on its high byte.
module _ (bytes : List ℕ) (fits : (k : ℕ) → Fits w8 (get_or bytes k 0)) where
  leads_at : (h : Bool) (j m : ℕ) → m ≡ 2 * j + high_place h → 2 * j + 1 < length bytes → eqb (bit_and (get_or bytes m 0) 0xFC) 0xD8 ≡ is_leading_surrogate (get_or (units_of h bytes) j 0)
  leads_at true j m at lt =
      let first : m ≡ 2 * j = omega arith in
      rw (first, unit_at true bytes j lt) (leads (get_or bytes (2 * j) 0) (get_or bytes (2 * j + 1) 0) (fits (2 * j)).fits (fits (2 * j + 1)).fits)
  leads_at false j m at lt = rw (at, unit_at false bytes j lt) (leads (get_or bytes (2 * j + 1) 0) (get_or bytes (2 * j) 0) (fits (2 * j + 1)).fits (fits (2 * j)).fits)

  trails_at : (h : Bool) (j m : ℕ) → m ≡ 2 * j + high_place h → 2 * j + 1 < length bytes → eqb (bit_and (get_or bytes m 0) 0xFC) 0xDC ≡ is_trailing_surrogate (get_or (units_of h bytes) j 0)
  trails_at true j m at lt =
      let first : m ≡ 2 * j = omega arith in
      rw (first, unit_at true bytes j lt) (trails (get_or bytes (2 * j) 0) (get_or bytes (2 * j + 1) 0) (fits (2 * j)).fits (fits (2 * j + 1)).fits)
  trails_at false j m at lt = rw (at, unit_at false bytes j lt) (trails (get_or bytes (2 * j + 1) 0) (get_or bytes (2 * j) 0) (fits (2 * j + 1)).fits (fits (2 * j)).fits)

-- the number of units of a block that have their high byte among its first i bytes
abbrev pub passed : Bool → ℕ → ℕ
passed high i = (i + 1 - high_place high) / 2

-- the number of units of the block that end a pair
pub record HavePairs (high : Bool) (bytes : List ℕ) (place i pairs : ℕ) : Type 0 where
  pub counted : unit_start_count (units_of high bytes) (place + passed high i) + pairs ≡ unit_start_count (units_of high bytes) place + passed high i
  pub few : pairs ≤ passed high i

pub HavePairs-none : (high : Bool) (bytes : List ℕ) (place : ℕ) → HavePairs high bytes place 0 0
HavePairs-none true bytes place = let none : place + passed true 0 ≡ place = omega arith in record { counted = rw none (omega arith); few = omega arith }
HavePairs-none false bytes place = let none : place + passed false 0 ≡ place = omega arith in record { counted = rw none (omega arith); few = omega arith }

module _ (high : Bool) (bytes : List ℕ) (fits : (k : ℕ) → Fits w8 (get_or bytes k 0)) (place i pairs : ℕ) (start : 1 ≤ place) (within : 2 * (place + 32) ≤ length bytes) (inside : i < 64)
    (have : HavePairs high bytes place i pairs) where
  abbrev us : List ℕ
  us = units_of high bytes

  abbrev k : ℕ
  k = place + passed high i

  -- whether the two bytes are the high bytes of a pair
  abbrev pair : Bool
  pair = are_pair (get_or bytes (2 * place + i - 2) 0) (get_or bytes (2 * place + i) 0)

  low : eqb (i % 2) (high_place high) ≡ false → HavePairs high bytes place (i + 1) pairs
  low e =
      let below = place_below high in
      let other = eqb-false (i % 2) (high_place high) e in
      let same : passed high (i + 1) ≡ passed high i = omega (arith, other) in
      record { counted = rw same have.counted; few = rw same have.few }

  told_by_units : eqb (i % 2) (high_place high) ≡ true → pair ≡ (is_leading_surrogate (get_or us (k - 1) 0) && is_trailing_surrogate (get_or us k 0))
  told_by_units e =
      let below = place_below high in
      let is = eqb-true (i % 2) (high_place high) e in
      let at : 2 * place + i ≡ 2 * k + high_place high = omega arith in
      let before : 2 * place + i - 2 ≡ 2 * (k - 1) + high_place high = omega arith in
      ap₂ (λ a b. a && b) (leads_at bytes fits high (k - 1) (2 * place + i - 2) before (omega arith)) (trails_at bytes fits high k (2 * place + i) at (omega arith))

  high_on : eqb (i % 2) (high_place high) ≡ true → (told : Bool) → told ≡ pair → HavePairs high bytes place (i + 1) (pairs + bool_byte told)
  high_on e told is =
      let below = place_below high in
      let hit = eqb-true (i % 2) (high_place high) e in
      let next : passed high (i + 1) ≡ passed high i + 1 = omega arith in
      let at : place + passed high (i + 1) ≡ k + 1 = omega arith in
      let starts : is_unit_start us k ≡ not told = ap not (sym (is ∙ told_by_units e)) in
      let more = places_more (is_unit_start us) k in
      let one = by told starts in
      let counted = have.counted in
      let few = have.few in
      record { counted = rw at (omega arith); few = omega arith }
    where
      by : (told : Bool) → is_unit_start us k ≡ not told → cond {A = ℕ} (is_unit_start us k) 1 0 + bool_byte told ≡ 1
      by true e = rw e refl
      by false e = rw e refl

  pub HavePairs-on : (told : Bool) → told ≡ (eqb (i % 2) (high_place high) && pair) → HavePairs high bytes place (i + 1) (pairs + bool_byte told)
  HavePairs-on told is = by (eqb (i % 2) (high_place high)) refl is
    where
      none : pairs + bool_byte false ≡ pairs
      none = omega arith

      by : (b : Bool) → eqb (i % 2) (high_place high) ≡ b → told ≡ (b && pair) → HavePairs high bytes place (i + 1) (pairs + bool_byte told)
      by true e is = high_on e told is
      by false e is = rw (is, none) (low e)

-- The bytes determine all pairs of a block.
module _ (high : Bool) (bytes : List ℕ) (fits : (k : ℕ) → Fits w8 (get_or bytes k 0)) (place : ℕ) (start : 1 ≤ place) (within : 2 * (place + 32) ≤ length bytes) where
  pub have_pairs : (i : ℕ) → i ≤ 64 → HavePairs high bytes place i (place_count (ends_pair (high_place high) bytes (2 * place)) i)
  have_pairs zero le = HavePairs-none high bytes place
  have_pairs (suc i) le =
      let test = ends_pair (high_place high) bytes (2 * place) in
      let on : i + 1 ≡ suc i = omega arith in
      let more : place_count test (i + 1) ≡ place_count test i + bool_byte (test i) = places_told test i (test i) refl in
      let step : HavePairs high bytes place (i + 1) (place_count test (i + 1))
      = rw more (HavePairs-on high bytes fits place i (place_count test i) start within (omega arith) (have_pairs i (omega arith)) (test i) refl) in
      rw on at step

  pub block_told : (pairs : ℕ) → pairs ≡ place_count (ends_pair (high_place high) bytes (2 * place)) 64
      → (pairs ≤ 32) × (unit_start_count (units_of high bytes) (place + 32) ≡ unit_start_count (units_of high bytes) place + (32 - pairs))
  block_told pairs is =
      let below = place_below high in
      let h = have_pairs 64 (omega arith) in
      let few = h.few in
      let all : passed high 64 ≡ 32 = omega arith in
      let at : place + passed high 64 ≡ place + 32 = omega arith in
      let count = ap (unit_start_count (units_of high bytes)) at in
      let counted = h.counted in
      (omega arith, omega arith)
