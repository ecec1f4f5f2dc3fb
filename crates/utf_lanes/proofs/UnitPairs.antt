-- Units that pair with the one before them: the lanes of their validation, and that they are codes.
use Rattle.std.proofs.Common.{◌≡◌, ℕ, zero, suc, ◌+◌, ◌-◌, ◌*◌, ◌/◌, ◌<◌, ◌≤◌, Bool, true, false, cond, eqb, ◌∷◌, [], List, length, get_or, bit_and, bit_or, bit_xor, refl, sym, ap, ap₂, ◌∙◌, ◌%◌, inl, inr, arith, lit<, w16, Fits, eqb-true}
use Rattle.std.proofs.lemmas.Bool.{cases_lt}
use Rattle.std.proofs.lemmas.Grind.{common_steps}
use Rattle.std.proofs.lemmas.Nat.{and_le_r}
use Rattle.std.proofs.lemmas.Simd.{get_or-chunk, below_from_Fits, chunk-fits, get_or_narrower}
use lib.Lanes.{zip2, chunk, digits_l, number_l}
use Rattle.utf_base.specs.Units.{is_leading_surrogate, is_trailing_surrogate}
use Rattle.utf_lanes.specs.BytePairs.{unit_of, units_of, unit_number, high_byte, low_byte, high_place}
use Rattle.utf_lanes.specs.Lanes.{AreLanes, ones_where}
use Rattle.utf_lanes.specs.UnitBlocks.{AllPaired, AreJudged, BlockIsJudged, JudgesPairs, ZerosPair}
use Rattle.utf_lanes.proofs.LaneLemmas.{IsVector, lane_fits, wide, lane, differ_mask, all_zero, zero_both}
use Rattle.utf_lanes.proofs.PairTables.{at_each}

-- Units by their bytes.

pub unit_at : (high : Bool) (bytes : List ℕ) (k : ℕ) → 2 * k + 1 < length bytes → get_or (units_of high bytes) k 0 ≡ unit_of high (get_or bytes (2 * k) 0) (get_or bytes (2 * k + 1) 0)
unit_at high [] k lt = absurd (omega arith)
unit_at high (a ∷ []) k lt = absurd (omega arith)
unit_at high (a ∷ b ∷ bytes) zero lt = refl
unit_at high (a ∷ b ∷ bytes) (suc k) lt =
    let first : 2 * suc k ≡ suc (suc (2 * k)) = omega arith in
    let second : suc (suc (2 * k)) + 1 ≡ suc (suc (2 * k + 1)) = omega arith in
    rw (first, second) (unit_at high bytes k (omega arith))

-- a high byte's upper six bits
upper : (h : ℕ) → h < 256 → bit_and h 0xFC ≡ h / 4 * 4
upper h lt = eqb-true _ _ (at_each (λ n. eqb (bit_and n 0xFC) (n / 4 * 4)) 256 refl h lt)

pub leads : (h l : ℕ) → h < 256 → l < 256 → eqb (bit_and h 0xFC) 0xD8 ≡ is_leading_surrogate (h * 256 + l)
leads h l H L = rw (upper h H) (grind (arith, common_steps))

pub trails : (h l : ℕ) → h < 256 → l < 256 → eqb (bit_and h 0xFC) 0xDC ≡ is_trailing_surrogate (h * 256 + l)
trails h l H L = rw (upper h H) (grind (arith, common_steps))

-- two tests that agree
agree : (s t : Bool) → bit_xor (cond t 255 0) (cond s 255 0) ≡ 0 → s ≡ t
agree true true e = refl
agree false false e = refl
agree true false e = cc
agree false true e = cc

none_left : (s t : Bool) → s ≡ t → bit_xor (cond t 255 0) (cond s 255 0) ≡ 0
none_left true true e = refl
none_left false false e = refl
none_left true false e = cc
none_left false true e = cc

pub place_below : (h : Bool) → high_place h < 2
place_below true = lit< tt
place_below false = lit< tt

-- The lanes of eight units in one vector, each after the unit in another.

unit_leads : (h : Bool) (v : List ℕ) → IsVector 16 v → (k : ℕ) → k < 8 → eqb (bit_and (high_byte h v k) 0xFC) 0xD8 ≡ is_leading_surrogate (unit_number h v k)
unit_leads true v fits k lt = let at : 2 * k + 0 ≡ 2 * k = omega arith in rw at (leads (get_or v (2 * k) 0) (get_or v (2 * k + 1) 0) (lane_fits v (2 * k) fits (omega arith)) (lane_fits v (2 * k + 1) fits (omega arith)))
unit_leads false v fits k lt = leads (get_or v (2 * k + 1) 0) (get_or v (2 * k) 0) (lane_fits v (2 * k + 1) fits (omega arith)) (lane_fits v (2 * k) fits (omega arith))

unit_trails : (h : Bool) (v : List ℕ) → IsVector 16 v → (k : ℕ) → k < 8 → eqb (bit_and (high_byte h v k) 0xFC) 0xDC ≡ is_trailing_surrogate (unit_number h v k)
unit_trails true v fits k lt = let at : 2 * k + 0 ≡ 2 * k = omega arith in rw at (trails (get_or v (2 * k) 0) (get_or v (2 * k + 1) 0) (lane_fits v (2 * k) fits (omega arith)) (lane_fits v (2 * k + 1) fits (omega arith)))
unit_trails false v fits k lt = trails (get_or v (2 * k + 1) 0) (get_or v (2 * k) 0) (lane_fits v (2 * k + 1) fits (omega arith)) (lane_fits v (2 * k) fits (omega arith))

module _ (high : Bool) (before here bits : List ℕ) (b : IsVector 16 before) (h : IsVector 16 here) (long : length bits ≡ 16) (upper_six : (k : ℕ) → k < 8 → high_byte high bits k ≡ 0xFC)
    (none : (k : ℕ) → k < 8 → low_byte high bits k ≡ 0) where
  masked : (v : List ℕ) → length v ≡ 16 → (k : ℕ) → k < 8 → high_byte high (zip2 bit_and v bits) k ≡ bit_and (high_byte high v k) 0xFC
  masked v wide_v k lt =
      let below = place_below high in
      lane bit_and v bits wide_v long (2 * k + high_place high) (omega arith) ∙ ap (bit_and (high_byte high v k)) (upper_six k lt)

  module _ {xs ys : List ℕ} (x : AreLanes 16 xs (ones_where 255 (zip2 bit_and here bits) 0xDC)) (y : AreLanes 16 ys (ones_where 255 (zip2 bit_and before bits) 0xD8)) where
    lane_leaves : (k : ℕ) → k < 8
        → high_byte high (zip2 bit_xor xs ys) k ≡ bit_xor (cond (is_trailing_surrogate (unit_number high here k)) 255 0) (cond (is_leading_surrogate (unit_number high before k)) 255 0)
    lane_leaves k lt =
        let below = place_below high in
        let i = 2 * k + high_place high in
        let inside : i < 16 = omega arith in
        rw (
          lane bit_xor xs ys x.wide y.wide i inside,
          x.each i inside,
          y.each i inside,
          masked here h.0 k lt,
          masked before b.0 k lt,
          unit_trails high here h k lt,
          unit_leads high before b k lt,
        ) refl

    low_lanes : (k : ℕ) → k < 8 → low_byte high (zip2 bit_xor xs ys) k ≡ 0
    low_lanes k lt =
        let i = 2 * k + (1 - high_place high) in
        let inside : i < 16 = omega arith in
        let nothing : (v : List ℕ) → length v ≡ 16 → get_or (zip2 bit_and v bits) i 0 ≡ 0
        = λ v wide_v. let most = and_le_r (get_or v i 0) (get_or bits i 0) in omega (arith, lane bit_and v bits wide_v long i inside, most, none k lt) in
        rw (lane bit_xor xs ys x.wide y.wide i inside, x.each i inside, y.each i inside, nothing here h.0, nothing before b.0) refl

    pub lanes_judged : JudgesPairs high before here (zip2 bit_xor xs ys)
    lanes_judged = record {
      wide = wide bit_xor xs ys x.wide y.wide;
      lanes = λ k lt. (λ zero. agree _ _ (sym (lane_leaves k lt) ∙ zero), λ pair. lane_leaves k lt ∙ none_left _ _ pair);
      others = low_lanes;
    }

-- The vectors have the units from an offset on, and those from the one before it on.
pub judged_from : {high : Bool} {before here v : List ℕ} (us : List ℕ) (place : ℕ) → 1 ≤ place → JudgesPairs high before here v
    → ((k : ℕ) → k < 8 → unit_number high before k ≡ get_or us (place - 1 + k) 0) → ((k : ℕ) → k < 8 → unit_number high here k ≡ get_or us (place + k) 0) → AreJudged high us place v
judged_from us place start judged b h = record {
  wide = judged.wide;
  lanes = λ k lt. (
    λ zero m least most.
        let at : place - 1 + k ≡ m = omega arith in
        let next : place + k ≡ m + 1 = omega arith in
        ap is_leading_surrogate (sym (b k lt ∙ ap (λ i. get_or us i 0) at)) ∙ (judged.lanes k lt).0 zero ∙ ap is_trailing_surrogate (h k lt ∙ ap (λ i. get_or us i 0) next),
    λ pair.
        let at : place - 1 + k ≡ place + k - 1 = omega arith in
        let next : place + k ≡ place + k - 1 + 1 = omega arith in
        (judged.lanes k lt).1
        (ap is_leading_surrogate (b k lt ∙ ap (λ i. get_or us i 0) at) ∙ pair (place + k - 1) (omega arith) (omega arith) ∙ ap is_trailing_surrogate (sym (h k lt ∙ ap (λ i. get_or us i 0) next))),
  );
  others = judged.others;
}

-- the units were loaded from bytes
pub bytes_loaded : (high : Bool) (bytes : List ℕ) (n place : ℕ) → n ≡ 2 * place → n + 16 ≤ length bytes → (k : ℕ) → k < 8 → unit_number high (chunk n 16 bytes) k ≡ get_or (units_of high bytes) (place + k) 0
bytes_loaded high bytes n place at within k lt =
    let first : n + 2 * k ≡ 2 * (place + k) = omega arith in
    let second : n + (2 * k + 1) ≡ 2 * (place + k) + 1 = omega arith in
    ap₂ (unit_of high) (get_or-chunk n 16 bytes (2 * k) 0 (omega arith) ∙ ap (λ i. get_or bytes i 0) first) (get_or-chunk n 16 bytes (2 * k + 1) 0 (omega arith) ∙ ap (λ i. get_or bytes i 0) second)
    ∙ sym (unit_at high bytes (place + k) (omega arith))

-- the units were loaded from a slice of units, whose low bytes come first
pub units_loaded : (us : List ℕ) (n place : ℕ) → ((k : ℕ) → Fits w16 (get_or us k 0)) → n ≡ place → n + 8 ≤ length us → (k : ℕ) → k < 8
    → unit_number false (digits_l 256 16 (number_l 65536 (chunk n 8 us))) k ≡ get_or us (place + k) 0
units_loaded us n place fits at within k lt =
    let v = chunk n 8 us in
    let each = below_from_Fits w16 v (chunk-fits w16 n 8 us fits) in
    let low : 2 * k + 0 ≡ 2 * k = omega arith in
    let first = get_or_narrower 65536 2 256 16 v k 0 refl each (lit< tt) (omega arith) in
    let second = get_or_narrower 65536 2 256 16 v k 1 refl each (lit< tt) (omega arith) in
    let below = (fits (n + k)).fits in
    let here : get_or v k 0 ≡ get_or us (n + k) 0 = get_or-chunk n 8 us k 0 lt in
    let whole : get_or us (n + k) 0 / 256 % 256 * 256 + get_or us (n + k) 0 % 256 ≡ get_or us (n + k) 0 = omega arith in
    let unit : get_or us (n + k) 0 ≡ get_or us (place + k) 0 = ap (λ m. get_or us (m + k) 0) at in
    let one : get_or (digits_l 256 16 (number_l 65536 v)) (2 * k) 0 ≡ get_or us (n + k) 0 % 256 = ap (λ i. get_or (digits_l 256 16 (number_l 65536 v)) i 0) (sym low) ∙ first ∙ ap (λ m. m / 1 % 256) here ∙ omega arith in
    let two : get_or (digits_l 256 16 (number_l 65536 v)) (2 * k + 1) 0 ≡ get_or us (n + k) 0 / 256 % 256 = second ∙ ap (λ m. m / 256 % 256) here in
    ap₂ (λ a b. b * 256 + a) one two ∙ whole ∙ unit

-- Units that pair, one part after another.

pub pair_on : (us : List ℕ) (i j m : ℕ) → AllPaired us i j → AllPaired us j m → AllPaired us i m
pair_on us i j m p q k least most = elim (cases_lt (k + 1) j) [ inl lt ↦ p k least lt | inr ge ↦ q k ge most ]

pub pair_lanes : (us : List ℕ) (i n : ℕ) → ((k : ℕ) → k < n → AllPaired us (i + k) (i + k + 1)) → AllPaired us i (i + n)
pair_lanes us i n each k least most = each (k + 1 - i) (omega arith) k (omega arith) (omega arith)

-- no unit fails to pair before the first lane that is not 0
pub pair_before : (high : Bool) (us v : List ℕ) (i r : ℕ) → r ≤ 16 → ((k : ℕ) → k < r → get_or v k 0 ≡ 0)
    → ZerosPair us i (high_byte high v) → AllPaired us i (i + r / 2)
pair_before high us v i r most none each = pair_lanes us i (r / 2) (λ k lt. let below = place_below high in (each k (omega arith)).0 (none (2 * k + high_place high) (omega arith)))

-- all units pair before the first lane that is not 0
pub pair_first : (high : Bool) (us v : List ℕ) (i r n : ℕ) → n ≤ 8 → (get_or v r 0 ≡ 0 → ⊥) → ZerosPair us i (high_byte high v) → ((k : ℕ) → k < 8 → low_byte high v k ≡ 0) → AllPaired us i (i + n) → n ≤ r / 2
pair_first high us v i r n few some each none pairs = elim (cases_lt (r / 2) n) [
  | inr ge ↦ ge
  | inl lt ↦
      let k = r / 2 in
      let below = place_below high in
      elim (cases_lt (r % 2) (high_place high)) [
        | inl less ↦ (let at : 2 * k + (1 - high_place high) ≡ r = omega arith in absurd (some (rw at at (none k (omega arith)))))
        | inr more ↦ elim (cases_lt (high_place high) (r % 2)) [
          | inl less ↦ (let at : 2 * k + (1 - high_place high) ≡ r = omega arith in absurd (some (rw at at (none k (omega arith)))))
          | inr same ↦ (let at : 2 * k + high_place high ≡ r = omega arith in absurd (some (rw at at ((each k (omega arith)).1 (λ j least most. pairs j (omega arith) (omega arith))))))
        ]
      ]
]

-- If the units pair, all lanes are 0.
pairs_zero : {high : Bool} {us v : List ℕ} {i : ℕ} → AreJudged high us i v → AllPaired us i (i + 8) → (k : ℕ) → k < 16 → get_or v k 0 ≡ 0
pairs_zero {high} {us} {v} {i} judged pairs k lt = elim (cases_lt 0 (get_or v k 0)) [
  | inr none ↦ omega arith
  | inl some ↦ (let least : 8 ≤ k / 2 = pair_first high us v i k 8 (omega arith) (λ zero. omega arith) judged.lanes judged.others pairs in absurd (omega arith))
]

-- Four vectors in one test.
module _ (high : Bool) (us : List ℕ) (i : ℕ) {v w x y : List ℕ} (block : BlockIsJudged high us i v w x y) where
  pub block_pairs : differ_mask 16 (zip2 bit_or (zip2 bit_or v w) (zip2 bit_or x y)) ≡ 0 → AllPaired us i (i + 32)
  block_pairs none =
      let zero = all_zero v w x y (lit< tt) block.first.wide block.second.wide block.third.wide block.fourth.wide none in
      let one = pair_before high us v i 16 (omega arith) (λ k lt. (zero k lt).0) block.first.lanes in
      let two = pair_before high us w (i + 8) 16 (omega arith) (λ k lt. (zero k lt).1) block.second.lanes in
      let three = pair_before high us x (i + 16) 16 (omega arith) (λ k lt. (zero k lt).2) block.third.lanes in
      let four = pair_before high us y (i + 24) 16 (omega arith) (λ k lt. (zero k lt).3) block.fourth.lanes in
      let at : i + 8 + 8 ≡ i + 16 = omega arith in
      let end : i + 16 + 8 ≡ i + 24 = omega arith in
      let last : i + 24 + 8 ≡ i + 32 = omega arith in
      pair_on us i (i + 24) (i + 32) (pair_on us i (i + 16) (i + 24) (pair_on us i (i + 8) (i + 16) one (rw at at two)) (rw end at three)) (rw last at four)

  pub pairs_block : AllPaired us i (i + 32) → differ_mask 16 (zip2 bit_or (zip2 bit_or v w) (zip2 bit_or x y)) ≡ 0
  pairs_block pairs =
      let part : (j : ℕ) → i ≤ j → j + 8 ≤ i + 32 → AllPaired us j (j + 8) = λ j from to m least most. pairs m (omega arith) (omega arith) in
      let front = wide bit_or v w block.first.wide block.second.wide in
      let back = wide bit_or x y block.third.wide block.fourth.wide in
      zero_both (zip2 bit_or v w) (zip2 bit_or x y) (lit< tt) front back (λ k lt. (
        lane bit_or v w block.first.wide block.second.wide k lt ∙ ap₂ bit_or (pairs_zero block.first (part i (omega arith) (omega arith)) k lt) (pairs_zero block.second (part (i + 8) (omega arith) (omega arith)) k lt),
        lane bit_or x y block.third.wide block.fourth.wide k lt ∙ ap₂ bit_or (pairs_zero block.third (part (i + 16) (omega arith) (omega arith)) k lt) (pairs_zero block.fourth (part (i + 24) (omega arith) (omega arith)) k lt),
      ))
