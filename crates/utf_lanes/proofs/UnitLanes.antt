-- The lanes of a block of text, and the units that they give.
use Rattle.std.proofs.Common.{◌≡◌, ℕ, ◌+◌, ◌-◌, ◌*◌, ◌/◌, ◌%◌, ◌^◌, ◌<◌, Bool, true, false, cond, leb, ltb, ◌&&◌, List, length, get_or, replicate, min, bit_and, refl, ap, ◌∙◌, arith, lit<, lit≤, leb-true, leb-false}
use Rattle.std.proofs.lemmas.Nat.Bits.{bit_at_and, ones_shl, bit_at_mask_inside, bit_at_mask_below}
use Rattle.std.proofs.lemmas.Nat.{and_le_l, and_mask}
use Rattle.std.proofs.lemmas.Simd.{get_or-replicate}
use Rattle.std.proofs.lemmas.Grind.{common_steps}
use Rattle.std.specs.Int.{bit_at}
use lib.Lanes.{zip2}
use Rattle.utf_lanes.specs.Lanes.{AreBits, AreLanes, lane_of_two, lane_of_three, lane_of_four}
use Rattle.utf_lanes.specs.Utf8ToUtf16.{ends_unit, low_half, high_half, unit_low, unit_high, leading_low, leading_high, trailing_high, continued_byte}
use Rattle.utf_lanes.proofs.LaneLemmas.{IsVector, wide, wide_with, lane, lane_with, excess, excess_len, excess_at}
use Rattle.utf_lanes.proofs.PassedLanes.{chosen, chosen_len, chosen_at, passed_mask, passed_most, passed_bits}

-- The lanes that give a unit.

greater_below : (c d : ℕ) (s t u : Bool) → ltb (c - 0x20) d ≡ s → ltb d 0xC0 ≡ t → ltb c 0xE0 ≡ u → ltb (cond s d (c - 0x20)) 0xC0 ≡ (t && u)
greater_below c d true t u e f g = grind (arith, common_steps)
greater_below c d false t u e f g = grind (arith, common_steps)

abbrev later : List ℕ → List ℕ → List ℕ
later before here = chosen ltb (excess 16 before 0x20) here here (excess 16 before 0x20)

abbrev giving_mask : List ℕ → List ℕ → ℕ
giving_mask before here = passed_mask 16 ltb (later before here) 0xC0

module _ (before here : List ℕ) (p : IsVector 16 before) (q : IsVector 16 here) where
  less_len : length (excess 16 before 0x20) ≡ 16
  less_len = excess_len before 0x20 p (lit< tt)

  later_len : length (later before here) ≡ 16
  later_len = chosen_len ltb (excess 16 before 0x20) here here (excess 16 before 0x20) less_len q.0 q.0 less_len

  lane_gives : (k : ℕ) → k < 16 → ltb (get_or (later before here) k 0) 0xC0 ≡ ends_unit (get_or before k 0) (get_or here k 0)
  lane_gives k lt =
      rw (chosen_at ltb (excess 16 before 0x20) here here (excess 16 before 0x20) less_len q.0 q.0 less_len k lt, excess_at before 0x20 p (lit< tt) k lt)
      (greater_below (get_or before k 0) (get_or here k 0) _ _ _ refl refl refl)

  mask_bit : (k : ℕ) → k < 16 → bit_at (giving_mask before here) k ≡ cond (ends_unit (get_or before k 0) (get_or here k 0)) 1 0
  mask_bit k lt = passed_bits (lit≤ tt) ltb (later before here) 0xC0 later_len k lt ∙ ap (λ (b : Bool). cond {A = ℕ} b 1 0) (lane_gives k lt)

  pub giving_most : (s : ℕ) → bit_and (giving_mask before here) ((2 ^ 64 - 1) * 2 ^ s % 2 ^ 64) < 65536
  giving_most s =
      let most : giving_mask before here < 65536 = passed_most (lit≤ tt) ltb (later before here) 0xC0 later_len in
      omega (arith, and_le_l (giving_mask before here) ((2 ^ 64 - 1) * 2 ^ s % 2 ^ 64))

  pub giving_bits : (s : ℕ) → s < 16 → AreBits 16 (bit_and (giving_mask before here) ((2 ^ 64 - 1) * 2 ^ s % 2 ^ 64)) (λ k. ends_unit (get_or before k 0) (get_or here k 0) && leb s k)
  giving_bits s few k lt =
      rw (bit_at_and (giving_mask before here) ((2 ^ 64 - 1) * 2 ^ s % 2 ^ 64) k, ones_shl 64 s (omega arith), mask_bit k lt)
      (both (ends_unit (get_or before k 0) (get_or here k 0)) (leb s k) refl)
    where
      both : (g t : Bool) → leb s k ≡ t → min (cond g 1 0) (bit_at (2 ^ 64 - 2 ^ s) k) ≡ cond {A = ℕ} (g && t) 1 0
      both true true e = rw (bit_at_mask_inside s 64 k (leb-true s k e) (omega arith)) refl
      both false true e = rw (bit_at_mask_inside s 64 k (leb-true s k e) (omega arith)) refl
      both true false e = rw (bit_at_mask_below s 64 k (leb-false s k e)) refl
      both false false e = rw (bit_at_mask_below s 64 k (leb-false s k e)) refl

-- Halves of units.

abbrev pub added : ℕ → ℕ → ℕ
added a b = (a + b) % 2 ^ 8

abbrev pub up : ℕ → ℕ → ℕ
up a b = a * 2 ^ b % 2 ^ 8

abbrev pub down : ℕ → ℕ → ℕ
down a b = a / 2 ^ b

abbrev continues : List ℕ → List ℕ → List ℕ
continues first here = chosen ltb here (replicate 16 0x80) (replicate 16 0) first

abbrev pub lows : List ℕ → List ℕ → List ℕ
lows first here = zip2 added (zip2 bit_and here (replicate 16 0x7F)) (zip2 up (continues first here) (replicate 16 6))

abbrev pub highs : List ℕ → List ℕ → List ℕ → List ℕ
highs second first here = zip2 added (zip2 bit_and (zip2 down (continues first here) (replicate 16 2)) (replicate 16 15)) (zip2 up (excess 16 second 0xE0) (replicate 16 4))

module _ (first here : List ℕ) (q : IsVector 16 first) (r : IsVector 16 here) where
  continues_len : length (continues first here) ≡ 16
  continues_len = chosen_len ltb here (replicate 16 0x80) (replicate 16 0) first r.0 refl refl q.0

  continues_at : (k : ℕ) → k < 16 → get_or (continues first here) k 0 ≡ continued_byte (get_or first k 0) (get_or here k 0)
  continues_at k lt =
      rw (chosen_at ltb here (replicate 16 0x80) (replicate 16 0) first r.0 refl refl q.0 k lt, get_or-replicate {A = ℕ} 16 k 0x80 0 lt, get_or-replicate {A = ℕ} 16 k 0 0 lt) refl

  pub lows_len : length (lows first here) ≡ 16
  lows_len = wide added _ _ (wide_with bit_and here 0x7F r.0) (wide_with up (continues first here) 6 continues_len)

  pub lows_at : (k : ℕ) → k < 16 → get_or (lows first here) k 0 ≡ low_half (get_or first k 0) (get_or here k 0)
  lows_at k lt =
      rw (
        lane added (zip2 bit_and here (replicate 16 0x7F)) (zip2 up (continues first here) (replicate 16 6)) (wide_with bit_and here 0x7F r.0) (wide_with up (continues first here) 6 continues_len) k lt,
        lane_with bit_and here 0x7F r.0 k lt,
        lane_with up (continues first here) 6 continues_len k lt,
        continues_at k lt,
        and_mask (get_or here k 0) 7,
      ) refl

  module _ (second : List ℕ) (p : IsVector 16 second) where
    upper_len : length (zip2 bit_and (zip2 down (continues first here) (replicate 16 2)) (replicate 16 15)) ≡ 16
    upper_len = wide_with bit_and _ 15 (wide_with down (continues first here) 2 continues_len)

    third_len : length (zip2 up (excess 16 second 0xE0) (replicate 16 4)) ≡ 16
    third_len = wide_with up (excess 16 second 0xE0) 4 (excess_len second 0xE0 p (lit< tt))

    pub highs_len : length (highs second first here) ≡ 16
    highs_len = wide added _ _ upper_len third_len

    pub highs_at : (k : ℕ) → k < 16 → get_or (highs second first here) k 0 ≡ high_half (get_or second k 0) (get_or first k 0) (get_or here k 0)
    highs_at k lt =
        rw (
          lane added (zip2 bit_and (zip2 down (continues first here) (replicate 16 2)) (replicate 16 15)) (zip2 up (excess 16 second 0xE0) (replicate 16 4)) upper_len third_len k lt,
          lane_with bit_and (zip2 down (continues first here) (replicate 16 2)) 15 (wide_with down (continues first here) 2 continues_len) k lt,
          lane_with down (continues first here) 2 continues_len k lt,
          lane_with up (excess 16 second 0xE0) 4 (excess_len second 0xE0 p (lit< tt)) k lt,
          continues_at k lt,
          excess_at second 0xE0 p (lit< tt) k lt,
          and_mask (continued_byte (get_or first k 0) (get_or here k 0) / 4) 4,
        ) refl

-- Leading and trailing surrogates.

abbrev leading_lows : List ℕ → List ℕ → List ℕ
leading_lows first here = zip2 added (zip2 added (zip2 up (zip2 bit_and first (replicate 16 0x3F)) (replicate 16 2)) (zip2 down (zip2 bit_and here (replicate 16 0x3F)) (replicate 16 4))) (replicate 16 0xC0)

abbrev carried : List ℕ → List ℕ → List ℕ
carried first here = chosen ltb (leading_lows first here) (replicate 16 0xC0) (replicate 16 0xD8) (replicate 16 0xD7)

abbrev leading_highs : List ℕ → List ℕ → List ℕ → List ℕ
leading_highs second first here = zip2 added (zip2 bit_and second (replicate 16 7)) (carried first here)

abbrev trailing_highs : List ℕ → List ℕ
trailing_highs first = zip2 added (zip2 bit_and (zip2 down first (replicate 16 2)) (replicate 16 3)) (replicate 16 0xDC)

sum_is : (c d : ℕ) → added (added (up (c % 64) 2) (down (d % 64) 4)) 0xC0 ≡ leading_low c d
sum_is c d = omega arith

high_is : (b w : ℕ) → added (b % 8) (cond (ltb w 0xC0) 0xD8 0xD7) ≡ b % 8 + cond (ltb w 0xC0) 0xD8 0xD7
high_is b w = either (ltb w 0xC0)
  where
    either : (t : Bool) → added (b % 8) (cond t 0xD8 0xD7) ≡ b % 8 + cond t 0xD8 0xD7
    either true = omega arith
    either false = omega arith

trailing_is : (c : ℕ) → added (c / 4 % 4) 0xDC ≡ trailing_high c
trailing_is c = omega arith

module _ (first here : List ℕ) (q : length first ≡ 16) (r : length here ≡ 16) where
  bits_len : length (zip2 up (zip2 bit_and first (replicate 16 0x3F)) (replicate 16 2)) ≡ 16
  bits_len = wide_with up _ 2 (wide_with bit_and first 0x3F q)

  more_len : length (zip2 down (zip2 bit_and here (replicate 16 0x3F)) (replicate 16 4)) ≡ 16
  more_len = wide_with down _ 4 (wide_with bit_and here 0x3F r)

  pub leading_lows_len : length (leading_lows first here) ≡ 16
  leading_lows_len = wide_with added _ 0xC0 (wide added _ _ bits_len more_len)

  pub leading_lows_at : (k : ℕ) → k < 16 → get_or (leading_lows first here) k 0 ≡ leading_low (get_or first k 0) (get_or here k 0)
  leading_lows_at k lt =
      rw (
        lane_with added (zip2 added (zip2 up (zip2 bit_and first (replicate 16 0x3F)) (replicate 16 2)) (zip2 down (zip2 bit_and here (replicate 16 0x3F)) (replicate 16 4))) 0xC0 (wide added _ _ bits_len more_len) k lt,
        lane added (zip2 up (zip2 bit_and first (replicate 16 0x3F)) (replicate 16 2)) (zip2 down (zip2 bit_and here (replicate 16 0x3F)) (replicate 16 4)) bits_len more_len k lt,
        lane_with up (zip2 bit_and first (replicate 16 0x3F)) 2 (wide_with bit_and first 0x3F q) k lt,
        lane_with down (zip2 bit_and here (replicate 16 0x3F)) 4 (wide_with bit_and here 0x3F r) k lt,
        lane_with bit_and first 0x3F q k lt,
        lane_with bit_and here 0x3F r k lt,
        and_mask (get_or first k 0) 6,
        and_mask (get_or here k 0) 6,
      )
      (sum_is (get_or first k 0) (get_or here k 0))

  carried_len : length (carried first here) ≡ 16
  carried_len = chosen_len ltb (leading_lows first here) (replicate 16 0xC0) (replicate 16 0xD8) (replicate 16 0xD7) leading_lows_len refl refl refl

  pub leading_highs_len : (second : List ℕ) → length second ≡ 16 → length (leading_highs second first here) ≡ 16
  leading_highs_len second p = wide added _ _ (wide_with bit_and second 7 p) carried_len

  pub leading_highs_at : (second : List ℕ) → length second ≡ 16 → (k : ℕ) → k < 16
      → get_or (leading_highs second first here) k 0 ≡ leading_high (get_or second k 0) (get_or first k 0) (get_or here k 0)
  leading_highs_at second p k lt =
      rw (
        lane added (zip2 bit_and second (replicate 16 7)) (carried first here) (wide_with bit_and second 7 p) carried_len k lt,
        lane_with bit_and second 7 p k lt,
        chosen_at ltb (leading_lows first here) (replicate 16 0xC0) (replicate 16 0xD8) (replicate 16 0xD7) leading_lows_len refl refl refl k lt,
        leading_lows_at k lt,
        get_or-replicate {A = ℕ} 16 k 0xC0 0 lt,
        get_or-replicate {A = ℕ} 16 k 0xD8 0 lt,
        get_or-replicate {A = ℕ} 16 k 0xD7 0 lt,
        and_mask (get_or second k 0) 3,
      )
      (high_is (get_or second k 0) (leading_low (get_or first k 0) (get_or here k 0)))

pub trailing_len : (first : List ℕ) → length first ≡ 16 → length (trailing_highs first) ≡ 16
trailing_len first q = wide_with added _ 0xDC (wide_with bit_and _ 3 (wide_with down first 2 q))

pub trailing_at : (first : List ℕ) → length first ≡ 16 → (k : ℕ) → k < 16 → get_or (trailing_highs first) k 0 ≡ trailing_high (get_or first k 0)
trailing_at first q k lt =
    rw (
      lane_with added (zip2 bit_and (zip2 down first (replicate 16 2)) (replicate 16 3)) 0xDC (wide_with bit_and _ 3 (wide_with down first 2 q)) k lt,
      lane_with bit_and (zip2 down first (replicate 16 2)) 3 (wide_with down first 2 q) k lt,
      lane_with down first 2 q k lt,
      and_mask (get_or first k 0 / 4) 2,
    )
    (trailing_is (get_or first k 0))

-- Lanes if some units may be surrogates.
module _ (third second first here : List ℕ) (t : length third ≡ 16) (u : length second ≡ 16) {low high leading_l leading_h trailing : List ℕ}
    (l : AreLanes 16 low (lane_of_two low_half first here)) (h : AreLanes 16 high (lane_of_three high_half second first here)) (ll : AreLanes 16 leading_l (lane_of_two leading_low first here))
    (lh : AreLanes 16 leading_h (lane_of_three leading_high second first here)) (tr : AreLanes 16 trailing (λ k. trailing_high (get_or first k 0))) where
  abbrev chosen_lows : List ℕ
  chosen_lows = chosen ltb second (replicate 16 0xF0) low leading_l

  abbrev shorter : List ℕ
  shorter = chosen ltb third (replicate 16 0xF0) high trailing

  abbrev chosen_highs : List ℕ
  chosen_highs = chosen ltb second (replicate 16 0xF0) shorter leading_h

  shorter_len : length shorter ≡ 16
  shorter_len = chosen_len ltb third (replicate 16 0xF0) high trailing t refl h.wide tr.wide

  pub chosen_lows_are : AreLanes 16 chosen_lows (lane_of_three unit_low second first here)
  chosen_lows_are = record {
    wide = chosen_len ltb second (replicate 16 0xF0) low leading_l u refl l.wide ll.wide;
    each = λ k lt.
        rw (chosen_at ltb second (replicate 16 0xF0) low leading_l u refl l.wide ll.wide k lt, get_or-replicate {A = ℕ} 16 k 0xF0 0 lt, l.each k lt, ll.each k lt) refl;
  }

  pub chosen_highs_are : AreLanes 16 chosen_highs (lane_of_four unit_high third second first here)
  chosen_highs_are = record {
    wide = chosen_len ltb second (replicate 16 0xF0) shorter leading_h u refl shorter_len lh.wide;
    each = λ k lt.
        rw (
          chosen_at ltb second (replicate 16 0xF0) shorter leading_h u refl shorter_len lh.wide k lt,
          chosen_at ltb third (replicate 16 0xF0) high trailing t refl h.wide tr.wide k lt,
          get_or-replicate {A = ℕ} 16 k 0xF0 0 lt,
          h.each k lt,
          lh.each k lt,
          tr.each k lt,
        ) refl;
  }
