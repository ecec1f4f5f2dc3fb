-- The lanes of a vector, and what they imply for the bytes that were loaded.
use Rattle.std.proofs.Common.{◌≡◌, ◌↔◌, ℕ, ◌+◌, ◌-◌, ◌/◌, ◌%◌, ◌^◌, ◌<◌, ◌≤◌, Bool, true, false, not, cond, eqb, leb, ltb, List, map, length, get_or, replicate, bit_and, bit_or, bit_xor, refl, sym, ap, ap₂, ◌∙◌, subst, true≢false, inl, inr, arith, lit<, w8, Fits, eqb-true, eq-eqb, leb-false, ltb-true, ltb-false}
use Rattle.std.proofs.lemmas.Bool.{cases_lt, lt-leb}
use Rattle.std.proofs.lemmas.List.Sums.{prefix_len_passes, prefix_len_stops, prefix_len-le-length}
use Rattle.std.proofs.lemmas.Nat.{and_le_r, le_or_l, le_or_r, or_lt}
use Rattle.std.proofs.lemmas.Nat.Bits.{and_pow, bit_at_or}
use Rattle.std.proofs.lemmas.Simd.{Each1-get_or, length-zip2, get_or-zip2, get_or-replicate, get_or-chunk, length-chunk, zip2_splat, zip2_splat_left, trailing_mask_l, length-replicate}
use Rattle.std.specs.List.{prefix_len}
use lib.Count.{count_trailing_zeros}
use Rattle.std.specs.Int.{bit_at}
use lib.Lanes.{zip2, mask_l, top, Each1, chunk}
use Rattle.utf_lanes.specs.AsciiTexts.{AreAscii}
use Rattle.utf_lanes.specs.Lanes.{AreLookedUp}
use Rattle.utf_lanes.specs.TextBlocks.{Follows, AllMayFollow, ArePairsLeft, IsPair, ZeroLanesFollow}
use Rattle.utf_lanes.proofs.PairTables.{AreRight, tables_judge}
use Rattle.utf_lanes.proofs.PassedLanes.{where_passed, where_passed_len, where_passed_at, passed_mask, mask_is, passed_most, passed_bits, none_passes, passes_none}

-- the list has as many bytes as a vector has lanes
abbrev pub IsVector : ℕ → List ℕ → Type 0
IsVector n v = (length v ≡ n) × Each1 (Fits w8) v

pub lane_fits : {n : ℕ} (v : List ℕ) (k : ℕ) → IsVector n v → k < n → get_or v k 0 < 256
lane_fits v k fits lt = (Each1-get_or (Fits w8) v k 0 (omega (arith, fits.0)) fits.1).fits

pub wide : {n : ℕ} (f : ℕ → ℕ → ℕ) (xs ys : List ℕ) → length xs ≡ n → length ys ≡ n → length (zip2 f xs ys) ≡ n
wide f xs ys p q = length-zip2 f xs ys (p ∙ sym q) ∙ p

pub lane : {n : ℕ} (f : ℕ → ℕ → ℕ) (xs ys : List ℕ) → length xs ≡ n → length ys ≡ n → (k : ℕ) → k < n → get_or (zip2 f xs ys) k 0 ≡ f (get_or xs k 0) (get_or ys k 0)
lane f xs ys p q k lt = get_or-zip2 f xs ys k 0 0 0 (omega (arith, p)) (omega (arith, q))

pub wide_with : {n : ℕ} (f : ℕ → ℕ → ℕ) (xs : List ℕ) (y : ℕ) → length xs ≡ n → length (zip2 f xs (replicate n y)) ≡ n
wide_with {n} f xs y p = wide f xs (replicate n y) p (length-replicate n y)

pub lane_with : {n : ℕ} (f : ℕ → ℕ → ℕ) (xs : List ℕ) (y : ℕ) → length xs ≡ n → (k : ℕ) → k < n → get_or (zip2 f xs (replicate n y)) k 0 ≡ f (get_or xs k 0) y
lane_with {n} f xs y p k lt = lane f xs (replicate n y) p (length-replicate n y) k lt ∙ ap (f (get_or xs k 0)) (get_or-replicate n k y 0 lt)

-- Look-ups.

abbrev down : ℕ → ℕ → ℕ
down a b = a / 2 ^ b

module _ {n : ℕ} (v : List ℕ) (fits : IsVector n v) (k : ℕ) (lt : k < n) where
  upper_at : get_or (zip2 down v (replicate n 4)) k 0 ≡ get_or v k 0 / 16
  upper_at = lane_with down v 4 fits.0 k lt

  lower_at : get_or (zip2 bit_and v (replicate n 15)) k 0 ≡ bit_and (get_or v k 0) 15
  lower_at = lane_with bit_and v 15 fits.0 k lt

  pub upper_below : get_or (zip2 down v (replicate n 4)) k 0 < 16
  upper_below = omega (arith, upper_at, lane_fits v k fits lt)

  pub lower_below : get_or (zip2 bit_and v (replicate n 15)) k 0 < 16
  lower_below = omega (arith, lower_at, and_le_r (get_or v k 0) 15)

module _ {n : ℕ} (high low here : List ℕ) {by_high by_low by_here : List ℕ} (before block : List ℕ) (p : IsVector n before) (q : IsVector n block) (h : AreLookedUp n high (zip2 down before (replicate n 4)) by_high)
    (l : AreLookedUp n low (zip2 bit_and before (replicate n 15)) by_low) (b : AreLookedUp n here (zip2 down block (replicate n 4)) by_here) where
  pub pairs_len : length (zip2 bit_and (zip2 bit_and by_high by_low) by_here) ≡ n
  pairs_len = wide bit_and (zip2 bit_and by_high by_low) by_here (wide bit_and by_high by_low h.wide l.wide) b.wide

  pub pair_lanes : AreRight high low here → ArePairsLeft before block (zip2 bit_and (zip2 bit_and by_high by_low) by_here)
  pair_lanes right k less =
      let lt : k < n = omega (arith, pairs_len) in
      rw (
        lane bit_and (zip2 bit_and by_high by_low) by_here (wide bit_and by_high by_low h.wide l.wide) b.wide k lt,
        lane bit_and by_high by_low h.wide l.wide k lt,
        h.each k lt,
        l.each k lt,
        b.each k lt,
        upper_at before p k lt,
        lower_at before p k lt,
        upper_at block q k lt,
      )
      (tables_judge high low here right (get_or before k 0) (get_or block k 0) (lane_fits before k p lt) (lane_fits block k q lt))

-- Saturating subtraction: the greater of both, minus the second.

abbrev less : ℕ → ℕ → ℕ
less a b = (a + (2 ^ 8 - b)) % 2 ^ 8

abbrev pub excess : ℕ → List ℕ → ℕ → List ℕ
excess n xs y = zip2 less (where_passed n ltb xs y (replicate n y) xs) (replicate n y)

one_excess : (a b : ℕ) (t : Bool) → ltb a b ≡ t → a < 256 → b < 256 → less (cond t b a) b ≡ a - b
one_excess a b true e A B = omega (arith, ltb-true a b e)
one_excess a b false e A B = omega (arith, ltb-false a b e)

module _ {n : ℕ} (xs : List ℕ) (y : ℕ) (fits : IsVector n xs) (Y : y < 256) where
  greater_len : length (where_passed n ltb xs y (replicate n y) xs) ≡ n
  greater_len = where_passed_len n ltb xs y (replicate n y) xs fits.0 (length-replicate n y) fits.0

  pub excess_len : length (excess n xs y) ≡ n
  excess_len = wide_with less (where_passed n ltb xs y (replicate n y) xs) y greater_len

  pub excess_at : (k : ℕ) → k < n → get_or (excess n xs y) k 0 ≡ get_or xs k 0 - y
  excess_at k lt =
      rw (
        lane_with less (where_passed n ltb xs y (replicate n y) xs) y greater_len k lt,
        where_passed_at n ltb xs y (replicate n y) xs fits.0 (length-replicate n y) fits.0 k lt,
        get_or-replicate {A = ℕ} n k y 0 lt,
      )
      (one_excess (get_or xs k 0) y (ltb (get_or xs k 0) y) refl (lane_fits xs k fits lt) Y)

-- Whether a code of three or four bytes has to continue is one bit.

abbrev has_to : ℕ → ℕ → ℕ
has_to a b = bit_and (bit_or (b - 0x60) (a - 0x70)) 0x80

has_to_not : (a b : ℕ) → a < 0xF0 → b < 0xE0 → has_to a b ≡ 0
has_to_not a b low middle =
    let bit = and_pow (bit_or (b - 0x60) (a - 0x70)) 7 in
    let both = bit_at_or (b - 0x60) (a - 0x70) 7 in
    omega arith

has_to_third : (a b : ℕ) → a < 256 → b < 256 → 0xE0 ≤ b → has_to a b ≡ 0x80
has_to_third a b A B high =
    let bit = and_pow (bit_or (b - 0x60) (a - 0x70)) 7 in
    let both = bit_at_or (b - 0x60) (a - 0x70) 7 in
    omega arith

has_to_fourth : (a b : ℕ) → a < 256 → b < 256 → 0xF0 ≤ a → has_to a b ≡ 0x80
has_to_fourth a b A B high =
    let bit = and_pow (bit_or (b - 0x60) (a - 0x70)) 7 in
    let both = bit_at_or (b - 0x60) (a - 0x70) 7 in
    omega arith

lane_follows : (a b : ℕ) {c d left : ℕ} → a < 256 → b < 256 → IsPair c d left → bit_xor (has_to a b) left ≡ 0 → Follows a b c d
lane_follows a b A B pair none = record {
  early = λ low middle. pair.early.0 (rw (has_to_not a b low middle) at none);
  third = λ high. pair.late.0 (rw (has_to_third a b A B high) at none);
  fourth = λ high. pair.late.0 (rw (has_to_fourth a b A B high) at none);
}

follows_lane : (a b : ℕ) {c d left : ℕ} → a < 256 → b < 256 → IsPair c d left → Follows a b c d → bit_xor (has_to a b) left ≡ 0
follows_lane a b A B pair f = elim (cases_lt a 0xF0) [
  | inr high ↦ rw (has_to_fourth a b A B high) (pair.late.1 (f.fourth high))
  | inl low ↦ elim (cases_lt b 0xE0) [
    | inr high ↦ rw (has_to_third a b A B high) (pair.late.1 (f.third high))
    | inl middle ↦ rw (has_to_not a b low middle) (pair.early.1 (f.early low middle))
  ]
]

-- The lanes of the bytes two and three offsets before.

module _ {n : ℕ} (third second : List ℕ) (T : IsVector n third) (S : IsVector n second) (left : List ℕ) (long : length left ≡ n) where
  abbrev either : List ℕ
  either = zip2 bit_or (excess n second 0x60) (excess n third 0x70)

  abbrev faults : List ℕ
  faults = zip2 bit_xor (zip2 bit_and either (replicate n 0x80)) left

  second_len : length (excess n second 0x60) ≡ n
  second_len = excess_len second 0x60 S (lit< tt)

  third_len : length (excess n third 0x70) ≡ n
  third_len = excess_len third 0x70 T (lit< tt)

  either_len : length either ≡ n
  either_len = wide bit_or _ _ second_len third_len

  pub faults_len : length faults ≡ n
  faults_len = wide bit_xor _ left (wide_with bit_and either 0x80 either_len) long

  fault_at : (k : ℕ) → k < n → get_or faults k 0 ≡ bit_xor (has_to (get_or third k 0) (get_or second k 0)) (get_or left k 0)
  fault_at k lt =
      rw (
        lane bit_xor (zip2 bit_and either (replicate n 0x80)) left (wide_with bit_and either 0x80 either_len) long k lt,
        lane_with bit_and either 0x80 either_len k lt,
        lane bit_or (excess n second 0x60) (excess n third 0x70) second_len third_len k lt,
        excess_at second 0x60 S (lit< tt) k lt,
        excess_at third 0x70 T (lit< tt) k lt,
      ) refl

  pub faultless_follows : (first here : List ℕ) → ArePairsLeft first here left → ZeroLanesFollow third second first here faults
  faultless_follows first here pairs k less =
      let lt : k < n = omega (arith, faults_len) in
      let pair = pairs k (omega (arith, long)) in (
        λ none. lane_follows _ _ (lane_fits third k T lt) (lane_fits second k S lt) pair (sym (fault_at k lt) ∙ none),
        λ follows. fault_at k lt ∙ follows_lane _ _ (lane_fits third k T lt) (lane_fits second k S lt) pair follows,
      )

-- Four loads, each one byte before the last.
module _ (n : ℕ) (bytes : List ℕ) (place : ℕ) (start : 3 ≤ place) where
  abbrev loaded : ℕ → Type 0
  loaded k = Follows (get_or (chunk (place - 3) n bytes) k 0) (get_or (chunk (place - 2) n bytes) k 0) (get_or (chunk (place - 1) n bytes) k 0) (get_or (chunk place n bytes) k 0)

  loaded_at : (k j : ℕ) → k < n → place + k ≡ j + 3 → loaded k ≡ Follows (get_or bytes j 0) (get_or bytes (j + 1) 0) (get_or bytes (j + 2) 0) (get_or bytes (j + 3) 0)
  loaded_at k j lt three =
      let zero : place - 3 + k ≡ j = omega arith in
      let one : place - 2 + k ≡ j + 1 = omega arith in
      let two : place - 1 + k ≡ j + 2 = omega arith in
      rw (get_or-chunk (place - 3) n bytes k 0 lt, get_or-chunk (place - 2) n bytes k 0 lt, get_or-chunk (place - 1) n bytes k 0 lt, get_or-chunk place n bytes k 0 lt, zero, one, two, three) refl

  pub loaded_follow : (k : ℕ) → k < n → loaded k ↔ AllMayFollow bytes (place + k) (place + k + 1)
  loaded_follow k lt = (
    λ follows j least most. subst (λ t. t) (loaded_at k j lt (omega arith)) follows,
    λ all. subst (λ t. t) (sym (loaded_at k (place + k - 3) lt (omega arith))) (all (place + k - 3) (omega arith) (omega arith)),
  )

-- Masks.

not_not : (b : Bool) → not (not b) ≡ true → b ≡ true
not_not true e = refl
not_not false e = e

-- each lane before the first that is not 0 is 0
zero_before : (v : List ℕ) (k : ℕ) → k < prefix_len (λ x. not (not (eqb x 0))) v → get_or v k 0 ≡ 0
zero_before v k lt = eqb-true (get_or v k 0) 0 (not_not _ (prefix_len_passes (λ x. not (not (eqb x 0))) v k 0 lt))

abbrev differs : ℕ → ℕ → Bool
differs a b = not (eqb a b)

pub no_difference : (a : ℕ) → differs a 0 ≡ false → a ≡ 0
no_difference a e = eqb-true a 0 (not_not _ (ap not e))

abbrev pub differ_mask : ℕ → List ℕ → ℕ
differ_mask n v = passed_mask n differs v 0

module _ {n : ℕ} (v : List ℕ) (few : n ≤ 64) (long : length v ≡ n) where
  pub none_differs : differ_mask n v ≡ 0 → (k : ℕ) → k < n → get_or v k 0 ≡ 0
  none_differs none k lt = no_difference (get_or v k 0) (none_passes few differs v 0 long none k lt)

  pub all_same : ((k : ℕ) → k < n → get_or v k 0 ≡ 0) → differ_mask n v ≡ 0
  all_same each = passes_none few differs v 0 long (λ k lt. ap not (eq-eqb (get_or v k 0) 0 (each k lt)))

  pub first_differs : (r : ℕ) → (differ_mask n v ≡ 0 → ⊥) → r ≡ count_trailing_zeros 64 (differ_mask n v) → (r ≤ n) × ((k : ℕ) → k < r → get_or v k 0 ≡ 0)
  first_differs r some e =
      let mask = mask_is few differs v 0 long in
      let first = trailing_mask_l (λ x. not (eqb x 0)) 64 v (omega (arith, long)) (omega (arith, mask)) in
      let at : r ≡ prefix_len (λ x. not (not (eqb x 0))) v = rw mask at e ∙ first in
      (omega (arith, at, prefix_len-le-length (λ x. not (not (eqb x 0))) v, long), λ k lt. zero_before v k (omega (arith, at)))

  -- the first lane that differs is not 0
  pub differs_first : (r : ℕ) → (differ_mask n v ≡ 0 → ⊥) → r ≡ count_trailing_zeros 64 (differ_mask n v) → (r < n) × (get_or v r 0 ≡ 0 → ⊥)
  differs_first r some e =
      let mask = mask_is few differs v 0 long in
      let first = trailing_mask_l (λ x. not (eqb x 0)) 64 v (omega (arith, long)) (omega (arith, mask)) in
      let at : r ≡ prefix_len (λ x. not (not (eqb x 0))) v = rw mask at e ∙ first in
      let each = first_differs r some e in
      let less : r < n = elim (cases_lt r n) [ inl lt ↦ lt | inr ge ↦ absurd (some (all_same (λ k lt. each.1 k (omega arith)))) ] in (
        less,
        λ zero.
            let stops : not (not (eqb (get_or v r 0) 0)) ≡ false = ap (λ k. not (not (eqb (get_or v k 0) 0))) at ∙ prefix_len_stops (λ x. not (not (eqb x 0))) v 0 (omega (arith, at, long)) in
            true≢false (sym (ap (λ t. not (not t)) (eq-eqb (get_or v r 0) 0 zero)) ∙ stops),
      )

abbrev at_most : ℕ → ℕ → ℕ
at_most a b = cond (leb a b) 255 0

-- the mask of the lanes that reach a number
abbrev pub reach_mask : ℕ → ℕ → List ℕ → ℕ
reach_mask n y v = mask_l (map (top 7) (zip2 at_most (replicate n y) v)) % 2 ^ 64

module _ {n : ℕ} (y : ℕ) (v : List ℕ) (few : n ≤ 64) (long : length v ≡ n) where
  abbrev reaches : ℕ → ℕ → Bool
  reaches a b = leb b a

  turned : reach_mask n y v ≡ passed_mask n reaches v y
  turned = ap (λ zs. mask_l (map (top 7) zs) % 2 ^ 64) (zip2_splat_left at_most y n v long ∙ sym (zip2_splat (λ a b. at_most b a) v n y long))

  pub reach_mask_is : reach_mask n y v ≡ mask_l (map (λ x. leb y x) v)
  reach_mask_is = turned ∙ mask_is few reaches v y long

  pub reach_most : reach_mask n y v < 2 ^ n
  reach_most = rw turned (passed_most few reaches v y long)

  pub reach_bits : (k : ℕ) → k < n → bit_at (reach_mask n y v) k ≡ cond (leb y (get_or v k 0)) 1 0
  reach_bits k lt = rw turned (passed_bits few reaches v y long k lt)

  pub none_reach : reach_mask n y v ≡ 0 → (k : ℕ) → k < n → get_or v k 0 < y
  none_reach none k lt = leb-false y (get_or v k 0) (none_passes few reaches v y long (sym turned ∙ none) k lt)

  pub reach_none : ((k : ℕ) → k < n → get_or v k 0 < y) → reach_mask n y v ≡ 0
  reach_none low = turned ∙ passes_none few reaches v y long (λ k lt. lt-leb y (get_or v k 0) (low k lt))

-- Several vectors in one test: no lane of one is greater than that of the combination.

module _ {n : ℕ} (p q : List ℕ) (lp : length p ≡ n) (lq : length q ≡ n) (k : ℕ) (lt : k < n) where
  either_le : (get_or p k 0 ≤ get_or (zip2 bit_or p q) k 0) × (get_or q k 0 ≤ get_or (zip2 bit_or p q) k 0)
  either_le =
      let either = lane bit_or p q lp lq k lt in
      (omega (arith, either, le_or_l (get_or p k 0) (get_or q k 0)), omega (arith, either, le_or_r (get_or p k 0) (get_or q k 0)))

module _ {n : ℕ} (p q : List ℕ) (few : n ≤ 64) (lp : length p ≡ n) (lq : length q ≡ n) where
  pub both_zero : differ_mask n (zip2 bit_or p q) ≡ 0 → (k : ℕ) → k < n → (get_or p k 0 ≡ 0) × (get_or q k 0 ≡ 0)
  both_zero none k lt =
      let zero = none_differs (zip2 bit_or p q) few (wide bit_or p q lp lq) none k lt in
      let le = either_le p q lp lq k lt in
      (omega (arith, le.0), omega (arith, le.1))

  both_low : reach_mask n 0x80 (zip2 bit_or p q) ≡ 0 → (k : ℕ) → k < n → (get_or p k 0 < 0x80) × (get_or q k 0 < 0x80)
  both_low none k lt =
      let low = none_reach 0x80 (zip2 bit_or p q) few (wide bit_or p q lp lq) none k lt in
      let le = either_le p q lp lq k lt in
      (omega (arith, le.0), omega (arith, le.1))

  low_both : ((k : ℕ) → k < n → (get_or p k 0 < 0x80) × (get_or q k 0 < 0x80)) → reach_mask n 0x80 (zip2 bit_or p q) ≡ 0
  low_both low = reach_none 0x80 (zip2 bit_or p q) few (wide bit_or p q lp lq)
      (λ k lt. let or = or_lt 7 (get_or p k 0) (get_or q k 0) (low k lt).0 (low k lt).1 in omega (arith, lane bit_or p q lp lq k lt, or))

  pub zero_both : ((k : ℕ) → k < n → (get_or p k 0 ≡ 0) × (get_or q k 0 ≡ 0)) → differ_mask n (zip2 bit_or p q) ≡ 0
  zero_both zero = all_same (zip2 bit_or p q) few (wide bit_or p q lp lq) (λ k lt. lane bit_or p q lp lq k lt ∙ ap₂ bit_or (zero k lt).0 (zero k lt).1)

pub all_zero : {n : ℕ} (p q r s : List ℕ) → n ≤ 64 → length p ≡ n → length q ≡ n → length r ≡ n → length s ≡ n → differ_mask n (zip2 bit_or (zip2 bit_or p q) (zip2 bit_or r s)) ≡ 0
    → (k : ℕ) → k < n → (get_or p k 0 ≡ 0) × (get_or q k 0 ≡ 0) × (get_or r k 0 ≡ 0) × (get_or s k 0 ≡ 0)
all_zero p q r s few lp lq lr ls none k lt =
    let both = both_zero (zip2 bit_or p q) (zip2 bit_or r s) few (wide bit_or p q lp lq) (wide bit_or r s lr ls) none k lt in
    let front = either_le p q lp lq k lt in
    let back = either_le r s lr ls k lt in
    (omega (arith, both.0, front.0), omega (arith, both.0, front.1), omega (arith, both.1, back.0), omega (arith, both.1, back.1))

-- bytes by two loads
pub loads_low : (n : ℕ) (bytes : List ℕ) (place : ℕ) → n ≤ 64 → place + (n + n) ≤ length bytes → reach_mask n 0x80 (zip2 bit_or (chunk place n bytes) (chunk (place + n) n bytes)) ≡ 0
    → (k : ℕ) → k < n + n → get_or bytes (place + k) 0 < 0x80
loads_low n bytes place few within none k lt =
    let low = both_low (chunk place n bytes) (chunk (place + n) n bytes) few (length-chunk place n bytes (omega arith)) (length-chunk (place + n) n bytes (omega arith)) none in
    elim (cases_lt k n) [
      | inl a ↦ rw (get_or-chunk place n bytes k 0 a) at (low k a).0
      | inr a ↦ (let at : place + n + (k - n) ≡ place + k = omega arith in rw (get_or-chunk (place + n) n bytes (k - n) 0 (omega arith), at) at (low (k - n) (omega arith)).1)
    ]

pub low_loads : (n : ℕ) (bytes : List ℕ) (place : ℕ) → n ≤ 64 → place + (n + n) ≤ length bytes → ((k : ℕ) → k < n + n → get_or bytes (place + k) 0 < 0x80)
    → reach_mask n 0x80 (zip2 bit_or (chunk place n bytes) (chunk (place + n) n bytes)) ≡ 0
low_loads n bytes place few within low =
    low_both (chunk place n bytes) (chunk (place + n) n bytes) few (length-chunk place n bytes (omega arith)) (length-chunk (place + n) n bytes (omega arith)) (λ k lt.
    let at : place + n + k ≡ place + (n + k) = omega arith in
    (rw (get_or-chunk place n bytes k 0 lt) (low k (omega arith)), rw (get_or-chunk (place + n) n bytes k 0 lt, at) (low (n + k) (omega arith))))

-- Bytes that may follow, one part after another.

pub follow_on : (xs : List ℕ) (i j m : ℕ) → AllMayFollow xs i j → AllMayFollow xs j m → AllMayFollow xs i m
follow_on xs i j m p q k least most = elim (cases_lt (k + 3) j) [ inl lt ↦ p k least lt | inr ge ↦ q k ge most ]

pub follow_lanes : (xs : List ℕ) (i n : ℕ) → ((k : ℕ) → k < n → AllMayFollow xs (i + k) (i + k + 1)) → AllMayFollow xs i (i + n)
follow_lanes xs i n each k least most = each (k + 3 - i) (omega arith) k (omega arith) (omega arith)

-- a block of ASCII may follow
pub ascii_block : (xs : List ℕ) (i : ℕ) → ((k : ℕ) → k < 64 → get_or xs (i + k) 0 < 0x80) → AreAscii xs i (i + 64)
ascii_block xs i block k ge lt = let at : i + (k - i) ≡ k = omega arith in rw at at (block (k - i) (omega arith))

-- the ASCII after a block may follow
pub ascii_on : (xs : List ℕ) (i j m : ℕ) → AreAscii xs i j → AreAscii xs j m → AreAscii xs i m
ascii_on xs i j m p q k least most = elim (cases_lt k j) [ inl lt ↦ p k least lt | inr ge ↦ q k ge most ]

-- ASCII may follow if no code has to continue
pub ascii_follows : (xs : List ℕ) (i n : ℕ) → ((k : ℕ) → k + 3 ≡ i → (get_or xs k 0 < 0xF0) × (get_or xs (k + 1) 0 < 0xE0) × (get_or xs (k + 2) 0 < 0xC0))
    → AreAscii xs i n → 3 ≤ i → AllMayFollow xs i n
ascii_follows xs i n closed at start k least most =
    let before = closed (i - 3) (omega arith) in
    let first : get_or xs (i - 3) 0 < 0xF0 = before.0 in
    let ends : (j : ℕ) → i ≤ j + 1 → j < n → get_or xs j 0 < 0xC0
    = λ j ge lt. elim (cases_lt j i) [ inr more ↦ (let g = at j more lt in omega arith) | inl less ↦ (let e : i - 3 + 2 ≡ j = omega arith in rw e at before.2) ] in
    let second : (j : ℕ) → i ≤ j + 2 → j < n → get_or xs j 0 < 0xE0
    = λ j ge lt. elim (cases_lt (j + 1) i) [ inr more ↦ (let g = ends j more lt in omega arith) | inl less ↦ (let e : i - 3 + 1 ≡ j = omega arith in rw e at before.1) ] in
    let third : get_or xs k 0 < 0xF0
    = elim (cases_lt (k + 2) i) [ inr more ↦ (let g = second k more (omega arith) in omega arith) | inl less ↦ (let e : i - 3 ≡ k = omega arith in rw e at first) ] in
    let two = second (k + 1) (omega arith) (omega arith) in
    let one = ends (k + 2) (omega arith) (omega arith) in
    let here = at (k + 3) least most in
    record {
      early = λ _ _. record { first = λ _ high. absurd (omega arith); second = λ high. absurd (omega arith) };
      third = λ high. absurd (omega arith);
      fourth = λ high. absurd (omega arith);
    }
