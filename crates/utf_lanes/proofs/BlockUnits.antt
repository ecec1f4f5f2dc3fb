-- The units of a block: those of its lanes, in order.
use Rattle.std.proofs.Common.{◌≡◌, ℕ, zero, suc, ◌+◌, ◌-◌, ◌*◌, ◌/◌, ◌%◌, ◌<◌, ◌≤◌, Bool, true, false, cond, leb, ltb, ◌&&◌, List, [], ◌∷◌, ◌++◌, length, get_or, bit_and, refl, sym, ap, ap₂, ◌∙◌, arith, lit<, ltb-true, ltb-false}
use Rattle.std.proofs.lemmas.Grind.{common_steps}
use Rattle.std.proofs.lemmas.List.{ext_get_or, get_or_append_left, get_or-append_right, take_all}
use Rattle.std.proofs.lemmas.Nat.{and_mask}
use Rattle.std.proofs.lemmas.Simd.{get_or-chunk, length-chunk}
use Rattle.std.specs.Int.{bit_at}
use lib.Lanes.{chunk}
use Rattle.utf_lanes.specs.Lanes.{AreBits, AreLanes, ArePairs, lane_of_two, lane_of_three, lane_of_four}
use Rattle.utf_lanes.specs.Utf8ToUtf16.{AreLoaded, concat_range, block_bytes, ends_unit, low_half, high_half, unit_low, unit_high, unit_low_at, unit_high_at, halves, halves_at, utf16_bytes_at, pair_at}
use Rattle.utf_lanes.proofs.Joined.{joined_same, joined_none, joined_add, joined_moved}
use Rattle.utf_lanes.proofs.LaneLemmas.{reach_mask, none_reach}
use Rattle.utf_lanes.proofs.PassedLanes.{chosen, chosen_len, chosen_at}

-- one fact at each number below 8
pub below_8 : (P : ℕ → Type 0) → P 0 → P 1 → P 2 → P 3 → P 4 → P 5 → P 6 → P 7 → (k : ℕ) → k < 8 → P k
below_8 P a b c d e f g h zero lt = a
below_8 P a b c d e f g h (suc zero) lt = b
below_8 P a b c d e f g h (suc (suc zero)) lt = c
below_8 P a b c d e f g h (suc (suc (suc zero))) lt = d
below_8 P a b c d e f g h (suc (suc (suc (suc zero)))) lt = e
below_8 P a b c d e f g h (suc (suc (suc (suc (suc zero))))) lt = f
below_8 P a b c d e f g h (suc (suc (suc (suc (suc (suc zero)))))) lt = g
below_8 P a b c d e f g h (suc (suc (suc (suc (suc (suc (suc zero))))))) lt = h
below_8 P a b c d e f g h (suc (suc (suc (suc (suc (suc (suc (suc k)))))))) lt = absurd (omega arith)

-- Bytes of two vectors, side by side.
module _ (xs ys : List ℕ) (p : length xs ≡ 16) (q : length ys ≡ 16) where
  abbrev pub first_pairs : List ℕ
  first_pairs =
      get_or (xs ++ ys) 0 0 ∷ get_or (xs ++ ys) 16 0 ∷ get_or (xs ++ ys) 1 0 ∷ get_or (xs ++ ys) 17 0 ∷ get_or (xs ++ ys) 2 0 ∷ get_or (xs ++ ys) 18 0 ∷ get_or (xs ++ ys) 3 0 ∷ get_or (xs ++ ys) 19 0
      ∷ get_or (xs ++ ys) 4 0 ∷ get_or (xs ++ ys) 20 0 ∷ get_or (xs ++ ys) 5 0 ∷ get_or (xs ++ ys) 21 0 ∷ get_or (xs ++ ys) 6 0 ∷ get_or (xs ++ ys) 22 0 ∷ get_or (xs ++ ys) 7 0 ∷ get_or (xs ++ ys) 23 0 ∷ []

  abbrev pub last_pairs : List ℕ
  last_pairs =
      get_or (xs ++ ys) 8 0 ∷ get_or (xs ++ ys) 24 0 ∷ get_or (xs ++ ys) 9 0 ∷ get_or (xs ++ ys) 25 0 ∷ get_or (xs ++ ys) 10 0 ∷ get_or (xs ++ ys) 26 0 ∷ get_or (xs ++ ys) 11 0 ∷ get_or (xs ++ ys) 27 0
      ∷ get_or (xs ++ ys) 12 0 ∷ get_or (xs ++ ys) 28 0 ∷ get_or (xs ++ ys) 13 0 ∷ get_or (xs ++ ys) 29 0 ∷ get_or (xs ++ ys) 14 0 ∷ get_or (xs ++ ys) 30 0 ∷ get_or (xs ++ ys) 15 0 ∷ get_or (xs ++ ys) 31 0 ∷ []

  both : (k j : ℕ) → k < 16 → 16 + k ≡ j → get_or (xs ++ ys) k 0 ∷ get_or (xs ++ ys) j 0 ∷ [] ≡ get_or xs k 0 ∷ get_or ys k 0 ∷ []
  both k j lt at =
      let back : j - 16 ≡ k = omega arith in
      ap₂ (λ x y. x ∷ y ∷ []) (get_or_append_left xs ys 0 k (omega (arith, p))) (get_or-append_right xs ys 16 j 0 p (omega arith) ∙ ap (λ n. get_or ys n 0) back)

  pub first_pairs_at : ArePairs first_pairs (λ k. get_or xs k 0 ∷ get_or ys k 0 ∷ [])
  first_pairs_at =
      below_8 (λ k. get_or first_pairs (2 * k) 0 ∷ get_or first_pairs (2 * k + 1) 0 ∷ [] ≡ get_or xs k 0 ∷ get_or ys k 0 ∷ [])
      (both 0 16 (lit< tt) refl) (both 1 17 (lit< tt) refl) (both 2 18 (lit< tt) refl) (both 3 19 (lit< tt) refl)
      (both 4 20 (lit< tt) refl) (both 5 21 (lit< tt) refl) (both 6 22 (lit< tt) refl) (both 7 23 (lit< tt) refl)

  pub last_pairs_at : ArePairs last_pairs (λ k. get_or xs (8 + k) 0 ∷ get_or ys (8 + k) 0 ∷ [])
  last_pairs_at =
      below_8 (λ k. get_or last_pairs (2 * k) 0 ∷ get_or last_pairs (2 * k + 1) 0 ∷ [] ≡ get_or xs (8 + k) 0 ∷ get_or ys (8 + k) 0 ∷ [])
      (both 8 24 (lit< tt) refl) (both 9 25 (lit< tt) refl) (both 10 26 (lit< tt) refl) (both 11 27 (lit< tt) refl)
      (both 12 28 (lit< tt) refl) (both 13 29 (lit< tt) refl) (both 14 30 (lit< tt) refl) (both 15 31 (lit< tt) refl)

-- Bits of both halves of a mask.

pub low_bit : (m k : ℕ) → k < 8 → bit_at (bit_and m 255) k ≡ bit_at m k
low_bit m k lt = rw (and_mask m 8) (below_8 (λ i. bit_at (m % 256) i ≡ bit_at m i) (omega arith) (omega arith) (omega arith) (omega arith) (omega arith) (omega arith) (omega arith) (omega arith) k lt)

pub high_bit : (m k : ℕ) → k < 8 → bit_at (m / 256) k ≡ bit_at m (8 + k)
high_bit m = below_8 (λ i. bit_at (m / 256) i ≡ bit_at m (8 + i)) (omega arith) (omega arith) (omega arith) (omega arith) (omega arith) (omega arith) (omega arith) (omega arith)

kept_pair : (m i : ℕ) (v pair : List ℕ) (g : Bool) → bit_at m i ≡ cond g 1 0 → get_or v (2 * i) 0 ∷ get_or v (2 * i + 1) 0 ∷ [] ≡ pair → pair_at m v i ≡ cond g pair []
kept_pair m i v pair true bit e = rw bit e
kept_pair m i v pair false bit e = rw bit refl

-- The lanes of one block.
module _ (high_first : Bool) (xs : List ℕ) (place s : ℕ) (start : 3 ≤ place) (few : s < 16) (mask : ℕ)
    (bits : AreBits 16 mask (λ k. ends_unit (get_or xs (place - 1 + k) 0) (get_or xs (place + k) 0) && leb s k)) {low high : List ℕ}
    (lows : AreLanes 16 low (unit_low_at xs place)) (highs : AreLanes 16 high (unit_high_at xs place)) (front back : List ℕ)
    (fronts : ArePairs front (halves_at high_first low high)) (backs : ArePairs back (λ k. halves_at high_first low high (8 + k))) where
  abbrev lane_given : ℕ → List ℕ
  lane_given k = cond (ends_unit (get_or xs (place - 1 + k) 0) (get_or xs (place + k) 0) && leb s k) (halves high_first (get_or low k 0) (get_or high k 0)) []

  front_pair : (k : ℕ) → k < 8 → pair_at (bit_and mask 255) front k ≡ lane_given k
  front_pair k lt = kept_pair (bit_and mask 255) k front _ (ends_unit (get_or xs (place - 1 + k) 0) (get_or xs (place + k) 0) && leb s k) (low_bit mask k lt ∙ bits k (omega arith)) (fronts k lt)

  back_pair : (k : ℕ) → k < 8 → pair_at (mask / 256) back k ≡ lane_given (8 + k)
  back_pair k lt =
      kept_pair (mask / 256) k back _ (ends_unit (get_or xs (place - 1 + (8 + k)) 0) (get_or xs (place + (8 + k)) 0) && leb s (8 + k)) (high_bit mask k lt ∙ bits (8 + k) (omega arith)) (backs k lt)

  skips : (g : Bool) (k : ℕ) → k < s → cond {A = List ℕ} (g && leb s k) (halves high_first (get_or low k 0) (get_or high k 0)) [] ≡ []
  skips true k lt = grind (arith, common_steps)
  skips false k lt = refl

  keeps : (g : Bool) (k : ℕ) → s ≤ k → cond {A = List ℕ} (g && leb s k) (halves high_first (get_or low k 0) (get_or high k 0)) [] ≡ cond g (halves high_first (get_or low k 0) (get_or high k 0)) []
  keeps true k ge = grind (arith, common_steps)
  keeps false k ge = refl

  lane_is : (k : ℕ) → s ≤ k → k < 16 → lane_given k ≡ utf16_bytes_at high_first xs (place - 3 + k)
  unfolding utf16_bytes_at
  lane_is k ge lt =
      let b : place - 3 + k + 1 ≡ place - 2 + k = omega arith in
      let c : place - 3 + k + 2 ≡ place - 1 + k = omega arith in
      let d : place - 3 + k + 3 ≡ place + k = omega arith in
      rw (b, c, d) (keeps (ends_unit (get_or xs (place - 1 + k) 0) (get_or xs (place + k) 0)) k ge ∙ ap₂ (λ x y. cond (ends_unit (get_or xs (place - 1 + k) 0) (get_or xs (place + k) 0)) (halves high_first x y) []) (lows.each k lt) (highs.each k lt))

  pub block_given : concat_range (pair_at (bit_and mask 255) front) 0 8 ++ concat_range (pair_at (mask / 256) back) 0 8 ≡ block_bytes high_first xs place s
  block_given =
      let first = joined_same (pair_at (bit_and mask 255) front) lane_given 0 8 (λ i ge lt. front_pair i lt) in
      let second = joined_moved (pair_at (mask / 256) back) lane_given 0 8 8 (λ i lt. let at : 0 + i ≡ i = omega arith in rw at (back_pair i lt)) in
      let all : concat_range lane_given 0 8 ++ concat_range lane_given 8 8 ≡ concat_range lane_given 0 16 = sym (joined_add lane_given 0 8 8) in
      let sum : s + (16 - s) ≡ 16 = omega arith in
      let at : 0 + s ≡ s = omega arith in
      let split : concat_range lane_given 0 16 ≡ concat_range lane_given 0 s ++ concat_range lane_given s (16 - s)
      = ap (concat_range lane_given 0) (sym sum) ∙ joined_add lane_given 0 s (16 - s) ∙ ap (λ p. concat_range lane_given 0 s ++ concat_range lane_given p (16 - s)) at in
      let none : concat_range lane_given 0 s ≡ [] = joined_none lane_given 0 s (λ i ge lt. skips (ends_unit (get_or xs (place - 1 + i) 0) (get_or xs (place + i) 0)) i (omega arith)) in
      let rest : concat_range lane_given s (16 - s) ≡ concat_range (utf16_bytes_at high_first xs) (place - 3 + s) (16 - s)
      = joined_moved lane_given (utf16_bytes_at high_first xs) s (place - 3 + s) (16 - s)
      (λ i lt. let there : place - 3 + (s + i) ≡ place - 3 + s + i = omega arith in lane_is (s + i) (omega arith) (omega arith) ∙ ap (utf16_bytes_at high_first xs) there) in
      ap₂ (λ x y. x ++ y) first second ∙ all ∙ split ∙ ap₂ (λ x y. x ++ y) none rest

-- The lanes if no byte begins a code of four.

module _ (third second : List ℕ) (p : length third ≡ 16) (q : length second ≡ 16) where
  abbrev greater : List ℕ
  greater = chosen ltb second third third second

  abbrev longest_mask : ℕ
  longest_mask = reach_mask 16 0xF0 greater

  greater_low : longest_mask ≡ 0 → (k : ℕ) → k < 16 → get_or greater k 0 < 0xF0
  greater_low none k lt = none_reach 0xF0 greater (lit< tt) (chosen_len ltb second third third second q p p q) none k lt

  both_low : (a b : ℕ) (t : Bool) → ltb b a ≡ t → cond t a b < 0xF0 → (a < 0xF0) × (b < 0xF0)
  both_low a b true e h = let below = ltb-true b a e in (h, omega arith)
  both_low a b false e h = let above = ltb-false b a e in (omega arith, h)

  short_here : longest_mask ≡ 0 → (k : ℕ) → k < 16 → (get_or third k 0 < 0xF0) × (get_or second k 0 < 0xF0)
  short_here none k lt =
      let low : cond (ltb (get_or second k 0) (get_or third k 0)) (get_or third k 0) (get_or second k 0) < 0xF0
      = rw (chosen_at ltb second third third second q p p q k lt) at (greater_low none k lt) in
      both_low (get_or third k 0) (get_or second k 0) _ refl low

  short_low : (b c d : ℕ) → b < 0xF0 → low_half c d ≡ unit_low b c d
  short_low b c d lt = grind (arith, common_steps)

  short_high : (a b c d : ℕ) → a < 0xF0 → b < 0xF0 → high_half b c d ≡ unit_high a b c d
  short_high a b c d la lb = grind (arith, common_steps)

  pub short_lows : longest_mask ≡ 0 → (first here : List ℕ) → {low : List ℕ} → AreLanes 16 low (lane_of_two low_half first here) → AreLanes 16 low (lane_of_three unit_low second first here)
  short_lows none first here lows = record {
    wide = lows.wide;
    each = λ k lt. lows.each k lt ∙ short_low (get_or second k 0) (get_or first k 0) (get_or here k 0) (short_here none k lt).1;
  }

  pub short_highs : longest_mask ≡ 0 → (first here : List ℕ) → {high : List ℕ} → AreLanes 16 high (lane_of_three high_half second first here) → AreLanes 16 high (lane_of_four unit_high third second first here)
  short_highs none first here highs = record {
    wide = highs.wide;
    each = λ k lt.
        highs.each k lt ∙ short_high (get_or third k 0) (get_or second k 0) (get_or first k 0) (get_or here k 0) (short_here none k lt).0 (short_here none k lt).1;
  }

-- Lanes that were loaded, and the bytes in them.

module _ {third second first here xs : List ℕ} {place : ℕ} (loaded : AreLoaded third second first here xs place) where
  third_at : (k : ℕ) → k < 16 → get_or third k 0 ≡ get_or xs (place - 3 + k) 0
  third_at k lt = ap (λ v. get_or v k 0) loaded.third ∙ get_or-chunk (place - 3) 16 xs k 0 lt

  second_at : (k : ℕ) → k < 16 → get_or second k 0 ≡ get_or xs (place - 2 + k) 0
  second_at k lt = ap (λ v. get_or v k 0) loaded.second ∙ get_or-chunk (place - 2) 16 xs k 0 lt

  first_at : (k : ℕ) → k < 16 → get_or first k 0 ≡ get_or xs (place - 1 + k) 0
  first_at k lt = ap (λ v. get_or v k 0) loaded.first ∙ get_or-chunk (place - 1) 16 xs k 0 lt

  here_at : (k : ℕ) → k < 16 → get_or here k 0 ≡ get_or xs (place + k) 0
  here_at k lt = ap (λ v. get_or v k 0) loaded.here ∙ get_or-chunk place 16 xs k 0 lt

  pub loaded_bits : (mask s : ℕ) → AreBits 16 mask (λ k. ends_unit (get_or first k 0) (get_or here k 0) && leb s k)
      → AreBits 16 mask (λ k. ends_unit (get_or xs (place - 1 + k) 0) (get_or xs (place + k) 0) && leb s k)
  loaded_bits mask s bits k lt = rw (first_at k lt, here_at k lt) at (bits k lt)

  pub loaded_lows : {low : List ℕ} → AreLanes 16 low (lane_of_three unit_low second first here) → AreLanes 16 low (unit_low_at xs place)
  loaded_lows lows = record { wide = lows.wide; each = λ k lt. rw (second_at k lt, first_at k lt, here_at k lt) at (lows.each k lt) }

  pub loaded_highs : {high : List ℕ} → AreLanes 16 high (lane_of_four unit_high third second first here) → AreLanes 16 high (unit_high_at xs place)
  loaded_highs highs = record { wide = highs.wide; each = λ k lt. rw (third_at k lt, second_at k lt, first_at k lt, here_at k lt) at (highs.each k lt) }

-- The vectors before sixteen bytes that NULs precede equal the ones that would be loaded there.

front_same : (v xs : List ℕ) (p : ℕ) → length v ≡ 16 → p + 16 ≤ length xs → ((k : ℕ) → k < 16 → get_or v k 0 ≡ get_or xs (p + k) 0) → v ≡ chunk p 16 xs
front_same v xs p wide within lanes =
    ext_get_or 0 v (chunk p 16 xs) (wide ∙ sym (length-chunk p 16 xs within)) (λ k lt. let below : k < 16 = omega (arith, wide) in lanes k below ∙ sym (get_or-chunk p 16 xs k 0 below))

pub front_loaded : (third second first here : List ℕ) → length third ≡ 16 → length second ≡ 16 → length first ≡ 16 → length here ≡ 16
    → ((k : ℕ) → k < 16 → get_or first k 0 ≡ get_or (0 ∷ 0 ∷ 0 ∷ here) (k + 2) 0) → ((k : ℕ) → k < 16 → get_or second k 0 ≡ get_or (0 ∷ 0 ∷ 0 ∷ here) (k + 1) 0)
    → ((k : ℕ) → k < 16 → get_or third k 0 ≡ get_or (0 ∷ 0 ∷ 0 ∷ here) k 0) → AreLoaded third second first here (0 ∷ 0 ∷ 0 ∷ here) 3
front_loaded third second first here p q r s f g h =
    let xs = 0 ∷ 0 ∷ 0 ∷ here in
    record {
      start = omega arith;
      within = omega (arith, s);
      third = front_same third xs 0 p (omega (arith, s)) (λ k lt. h k lt ∙ ap (λ n. get_or xs n 0) (omega arith));
      second = front_same second xs 1 q (omega (arith, s)) (λ k lt. g k lt ∙ ap (λ n. get_or xs n 0) (omega arith));
      first = front_same first xs 2 r (omega (arith, s)) (λ k lt. f k lt ∙ ap (λ n. get_or xs n 0) (omega arith));
      here = sym (take_all 16 here (omega (arith, s)));
    }
