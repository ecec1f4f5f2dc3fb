-- The lanes of units, and the bytes of UTF-8 that they give.
use Rattle.std.proofs.Common.{◌≡◌, ℕ, ◌+◌, ◌*◌, ◌/◌, ◌%◌, ◌<◌, ◌≤◌, true, false, not, cond, eqb, ltb, List, length, get_or, replicate, bit_and, bit_or, refl, sym, ap, ap₂, ◌∙◌, arith, ◌-◌, ◌++◌, inl, inr}
use Rattle.std.proofs.lemmas.Bool.{cases_lt}
use Rattle.std.proofs.lemmas.Grind.{common_steps}
use Rattle.std.proofs.lemmas.List.{get_or-take, get_or_append_left, get_or-append_right}
use Rattle.std.proofs.lemmas.Nat.{and_mask, le_or_l, le_or_r}
use Rattle.std.proofs.lemmas.Simd.{get_or-replicate, get_or-chunk, length-chunk, length-replicate}
use lib.Lanes.{zip2, chunk}
use Rattle.utf_base.specs.Units.{is_leading_surrogate, is_surrogate}
use Rattle.utf_lanes.specs.Lanes.{AreLanes}
use Rattle.utf_lanes.specs.BytePairs.{unit_number}
use Rattle.utf_lanes.specs.UnitCodes.{lane_unit, lane_after, first_byte, middle_byte, last_byte, lead_byte, second_byte, third_byte, first_in_text, middle_in_text, last_in_text}
use Rattle.utf_lanes.proofs.UnitLanes.{added, up, down}
use Rattle.utf_lanes.proofs.WideShuffles.{picked, picked_at}
use Rattle.utf_lanes.proofs.LaneLemmas.{IsVector, lane_fits, wide, wide_with, lane, lane_with, no_difference}
use Rattle.utf_lanes.proofs.PassedLanes.{where_passed, where_passed_len, where_passed_at, passed_mask, none_passes}

-- Tests of all lanes, and of each lane.

ascii_unit : (l h either : ℕ) → h ≤ either → l / 128 ≤ either → either ≡ 0 → h * 256 + l < 0x80
ascii_unit l h either a b e = omega arith

pub all_ascii : {n : ℕ} (few : n ≤ 64) (low high : List ℕ) → length low ≡ n → length high ≡ n → passed_mask n (λ a b. not (eqb a b)) (zip2 bit_or high (zip2 down low (replicate n 7))) 0 ≡ 0
    → (k : ℕ) → k < n → lane_unit low high k < 0x80
all_ascii {n} few low high p q none k lt =
    let both = zip2 bit_or high (zip2 down low (replicate n 7)) in
    let zero = no_difference (get_or both k 0) (none_passes few (λ a b. not (eqb a b)) both 0 (wide bit_or high _ q (wide_with down low 7 p)) none k lt) in
    let at = lane bit_or high (zip2 down low (replicate n 7)) q (wide_with down low 7 p) k lt in
    let shifted : get_or (zip2 down low (replicate n 7)) k 0 ≡ get_or low k 0 / 128 = lane_with down low 7 p k lt in
    let or_zero : bit_or (get_or high k 0) (get_or low k 0 / 128) ≡ 0 = ap (bit_or (get_or high k 0)) (sym shifted) ∙ sym at ∙ zero in
    ascii_unit (get_or low k 0) (get_or high k 0) _ (le_or_l (get_or high k 0) (get_or low k 0 / 128)) (le_or_r (get_or high k 0) (get_or low k 0 / 128)) or_zero

pub all_short : {n : ℕ} (few : n ≤ 64) (high : List ℕ) → length high ≡ n → passed_mask n (λ a b. not (eqb a b)) (zip2 down high (replicate n 3)) 0 ≡ 0 → (k : ℕ) → k < n → get_or high k 0 < 8
all_short {n} few high q none k lt =
    let eighths = zip2 down high (replicate n 3) in
    let zero = no_difference (get_or eighths k 0) (none_passes few (λ a b. not (eqb a b)) eighths 0 (wide_with down high 3 q) none k lt) in
    let at = lane_with down high 3 q k lt in
    omega arith

pub none_equal : {n : ℕ} (few : n ≤ 64) (high : List ℕ) → length high ≡ n → passed_mask n eqb (zip2 down high (replicate n 3)) 0x1B ≡ 0 → (k : ℕ) → k < n → eqb (get_or high k 0 / 8) 0x1B ≡ false
none_equal {n} few high q none k lt = rw (lane_with down high 3 q k lt) at (none_passes few eqb (zip2 down high (replicate n 3)) 0x1B (wide_with down high 3 q) none k lt)

-- The bytes of one unit by its halves.

first_is : (h : ℕ) → h < 256 → cond (ltb h 8) 0 (added (h / 16) 0xE0) ≡ first_byte (h * 256)
first_is h H = grind (arith, common_steps)

abbrev middle_bits : ℕ → ℕ → ℕ
middle_bits h l = added (up (h % 16) 2) (l / 64)

abbrev middle_of : ℕ → ℕ → ℕ
middle_of h l = cond (ltb h 8) (cond (ltb (middle_bits h l) 2) 0 (added (middle_bits h l) 0xC0)) (added (middle_bits h l) 0x80)

middle_is : (h l : ℕ) → h < 256 → l < 256 → middle_of h l ≡ middle_byte (h * 256 + l)
middle_is h l H L = grind (arith, common_steps)

pub last_is : (h l m : ℕ) → h < 256 → l < 256 → m ≡ middle_byte (h * 256 + l) → cond (ltb m 1) l (added (l % 64) 0x80) ≡ last_byte (h * 256 + l)
last_is h l m H L e = grind (arith, common_steps)

lead_is : (h l : ℕ) → h < 256 → l < 256 → added (h % 4) (cond (ltb l 0xC0) 0xF0 0xF1) ≡ lead_byte (h * 256 + l)
lead_is h l H L = grind (arith, common_steps)

second_is : (l : ℕ) → l < 256 → added (added (l / 4) 16 % 64) 0x80 ≡ second_byte l
second_is l L = omega arith

second_by_low : (h l : ℕ) → second_byte l ≡ second_byte (h * 256 + l)
second_by_low h l = omega arith

third_is : (p h l : ℕ) → h < 256 → l < 256 → added (added (up (p % 4) 4) (added (up (h % 4) 2) (l / 64))) 0x80 ≡ third_byte p (h * 256 + l)
third_is p h l H L = omega arith

pub surrogate_is : (h l : ℕ) → l < 256 → eqb (h / 8) 0x1B ≡ is_surrogate (h * 256 + l)
surrogate_is h l L = grind (arith, common_steps)

pub leading_is : (h l : ℕ) → l < 256 → eqb (h / 4) 0x36 ≡ is_leading_surrogate (h * 256 + l)
leading_is h l L = grind (arith, common_steps)

surrogate_by_high : (h : ℕ) → eqb (h / 8) 0x1B ≡ is_surrogate (h * 256)
surrogate_by_high h = grind (arith, common_steps)

first_by_high : (h l : ℕ) → l < 256 → first_byte (h * 256) ≡ first_byte (h * 256 + l)
first_by_high h l L = grind (arith, common_steps)

text_first_by_high : (h l : ℕ) → l < 256 → first_in_text (h * 256) ≡ first_in_text (h * 256 + l)
text_first_by_high h l L = rw (← surrogate_by_high h, ← surrogate_is h l L, first_by_high h l L) refl

-- Lanes of units that are characters.

module _ {n : ℕ} (high : List ℕ) (q : IsVector n high) where
  abbrev longs : List ℕ
  longs = zip2 added (zip2 down high (replicate n 4)) (replicate n 0xE0)

  abbrev pub firsts : List ℕ
  firsts = where_passed n ltb high 8 (replicate n 0) longs

  longs_len : length longs ≡ n
  longs_len = wide_with added _ 0xE0 (wide_with down high 4 q.0)

  firsts_at : (k : ℕ) → k < n → get_or firsts k 0 ≡ first_byte (get_or high k 0 * 256)
  firsts_at k lt =
      rw (
        where_passed_at n ltb high 8 (replicate n 0) longs q.0 (length-replicate n 0) longs_len k lt,
        get_or-replicate {A = ℕ} n k 0 0 lt,
        lane_with added (zip2 down high (replicate n 4)) 0xE0 (wide_with down high 4 q.0) k lt,
        lane_with down high 4 q.0 k lt,
      )
      (first_is (get_or high k 0) (lane_fits high k q lt))

  pub firsts_are : AreLanes n firsts (λ k. first_byte (get_or high k 0 * 256))
  firsts_are = record { wide = where_passed_len n ltb high 8 (replicate n 0) longs q.0 (length-replicate n 0) longs_len; each = firsts_at }

module _ {n : ℕ} (low high : List ℕ) (p : IsVector n low) (q : IsVector n high) where
  abbrev bits : List ℕ
  bits = zip2 added (zip2 up (zip2 bit_and high (replicate n 15)) (replicate n 2)) (zip2 down low (replicate n 6))

  abbrev leads : List ℕ
  leads = where_passed n ltb bits 2 (replicate n 0) (zip2 added bits (replicate n 0xC0))

  abbrev pub middles : List ℕ
  middles = where_passed n ltb high 8 leads (zip2 added bits (replicate n 0x80))

  upper_len : length (zip2 up (zip2 bit_and high (replicate n 15)) (replicate n 2)) ≡ n
  upper_len = wide_with up _ 2 (wide_with bit_and high 15 q.0)

  bits_len : length bits ≡ n
  bits_len = wide added _ _ upper_len (wide_with down low 6 p.0)

  leads_len : length leads ≡ n
  leads_len = where_passed_len n ltb bits 2 (replicate n 0) (zip2 added bits (replicate n 0xC0)) bits_len (length-replicate n 0) (wide_with added bits 0xC0 bits_len)

  bits_at : (k : ℕ) → k < n → get_or bits k 0 ≡ middle_bits (get_or high k 0) (get_or low k 0)
  bits_at k lt =
      rw (
        lane added (zip2 up (zip2 bit_and high (replicate n 15)) (replicate n 2)) (zip2 down low (replicate n 6)) upper_len (wide_with down low 6 p.0) k lt,
        lane_with up (zip2 bit_and high (replicate n 15)) 2 (wide_with bit_and high 15 q.0) k lt,
        lane_with bit_and high 15 q.0 k lt,
        lane_with down low 6 p.0 k lt,
        and_mask (get_or high k 0) 4,
      ) refl

  middles_at : (k : ℕ) → k < n → get_or middles k 0 ≡ middle_byte (lane_unit low high k)
  middles_at k lt =
      rw (
        where_passed_at n ltb high 8 leads (zip2 added bits (replicate n 0x80)) q.0 leads_len (wide_with added bits 0x80 bits_len) k lt,
        where_passed_at n ltb bits 2 (replicate n 0) (zip2 added bits (replicate n 0xC0)) bits_len (length-replicate n 0) (wide_with added bits 0xC0 bits_len) k lt,
        get_or-replicate {A = ℕ} n k 0 0 lt,
        lane_with added bits 0xC0 bits_len k lt,
        lane_with added bits 0x80 bits_len k lt,
        bits_at k lt,
      )
      (middle_is (get_or high k 0) (get_or low k 0) (lane_fits high k q lt) (lane_fits low k p lt))

  pub middles_are : AreLanes n middles (λ k. middle_byte (lane_unit low high k))
  middles_are = record { wide = where_passed_len n ltb high 8 leads (zip2 added bits (replicate n 0x80)) q.0 leads_len (wide_with added bits 0x80 bits_len); each = middles_at }

  -- The last bytes, by the bytes before them.
  module _ {middle : List ℕ} (m : AreLanes n middle (λ k. middle_byte (lane_unit low high k))) where
    abbrev rests : List ℕ
    rests = zip2 added (zip2 bit_and low (replicate n 0x3F)) (replicate n 0x80)

    abbrev pub lasts : List ℕ
    lasts = where_passed n ltb middle 1 low rests

    rests_len : length rests ≡ n
    rests_len = wide_with added _ 0x80 (wide_with bit_and low 0x3F p.0)

    lasts_at : (k : ℕ) → k < n → get_or lasts k 0 ≡ last_byte (lane_unit low high k)
    lasts_at k lt =
        rw (
          where_passed_at n ltb middle 1 low rests m.wide p.0 rests_len k lt,
          lane_with added (zip2 bit_and low (replicate n 0x3F)) 0x80 (wide_with bit_and low 0x3F p.0) k lt,
          lane_with bit_and low 0x3F p.0 k lt,
          and_mask (get_or low k 0) 6,
        )
        (last_is (get_or high k 0) (get_or low k 0) (get_or middle k 0) (lane_fits high k q lt) (lane_fits low k p lt) (m.each k lt))

    pub lasts_are : AreLanes n lasts (λ k. last_byte (lane_unit low high k))
    lasts_are = record { wide = where_passed_len n ltb middle 1 low rests m.wide p.0 rests_len; each = lasts_at }

-- Lanes of leading and of trailing surrogates.
module _ {n : ℕ} (low : List ℕ) (p : IsVector n low) where
  abbrev carries : List ℕ
  carries = where_passed n ltb low 0xC0 (replicate n 0xF0) (replicate n 0xF1)

  abbrev sums : List ℕ
  sums = zip2 added (zip2 down low (replicate n 2)) (replicate n 16)

  abbrev second_lanes : List ℕ
  second_lanes = zip2 added (zip2 bit_and sums (replicate n 0x3F)) (replicate n 0x80)

  carries_len : length carries ≡ n
  carries_len = where_passed_len n ltb low 0xC0 (replicate n 0xF0) (replicate n 0xF1) p.0 (length-replicate n 0xF0) (length-replicate n 0xF1)

  sums_len : length sums ≡ n
  sums_len = wide_with added _ 16 (wide_with down low 2 p.0)

  second_lanes_at : (k : ℕ) → k < n → get_or second_lanes k 0 ≡ second_byte (get_or low k 0)
  second_lanes_at k lt =
      rw (
        lane_with added (zip2 bit_and sums (replicate n 0x3F)) 0x80 (wide_with bit_and sums 0x3F sums_len) k lt,
        lane_with bit_and sums 0x3F sums_len k lt,
        lane_with added (zip2 down low (replicate n 2)) 16 (wide_with down low 2 p.0) k lt,
        lane_with down low 2 p.0 k lt,
        and_mask (added (get_or low k 0 / 4) 16) 6,
      )
      (second_is (get_or low k 0) (lane_fits low k p lt))

  pub second_lanes_are : AreLanes n second_lanes (λ k. second_byte (get_or low k 0))
  second_lanes_are = record { wide = wide_with added _ 0x80 (wide_with bit_and sums 0x3F sums_len); each = second_lanes_at }

  module _ (high : List ℕ) (q : IsVector n high) where
    abbrev lead_lanes : List ℕ
    lead_lanes = zip2 added (zip2 bit_and high (replicate n 3)) carries

    lead_lanes_at : (k : ℕ) → k < n → get_or lead_lanes k 0 ≡ lead_byte (lane_unit low high k)
    lead_lanes_at k lt =
        rw (
          lane added (zip2 bit_and high (replicate n 3)) carries (wide_with bit_and high 3 q.0) carries_len k lt,
          lane_with bit_and high 3 q.0 k lt,
          where_passed_at n ltb low 0xC0 (replicate n 0xF0) (replicate n 0xF1) p.0 (length-replicate n 0xF0) (length-replicate n 0xF1) k lt,
          get_or-replicate {A = ℕ} n k 0xF0 0 lt,
          get_or-replicate {A = ℕ} n k 0xF1 0 lt,
          and_mask (get_or high k 0) 2,
        )
        (lead_is (get_or high k 0) (get_or low k 0) (lane_fits high k q lt) (lane_fits low k p lt))

    pub lead_lanes_are : AreLanes n lead_lanes (λ k. lead_byte (lane_unit low high k))
    lead_lanes_are = record { wide = wide added _ _ (wide_with bit_and high 3 q.0) carries_len; each = lead_lanes_at }

    module _ (before : List ℕ) (r : IsVector n before) where
      abbrev twos : List ℕ
      twos = zip2 up (zip2 bit_and before (replicate n 3)) (replicate n 4)

      abbrev fours : List ℕ
      fours = zip2 added (zip2 up (zip2 bit_and high (replicate n 3)) (replicate n 2)) (zip2 down low (replicate n 6))

      abbrev third_lanes : List ℕ
      third_lanes = zip2 added (zip2 added twos fours) (replicate n 0x80)

      twos_len : length twos ≡ n
      twos_len = wide_with up _ 4 (wide_with bit_and before 3 r.0)

      three_len : length (zip2 up (zip2 bit_and high (replicate n 3)) (replicate n 2)) ≡ n
      three_len = wide_with up _ 2 (wide_with bit_and high 3 q.0)

      fours_len : length fours ≡ n
      fours_len = wide added _ _ three_len (wide_with down low 6 p.0)

      third_lanes_at : (k : ℕ) → k < n → get_or third_lanes k 0 ≡ third_byte (get_or before k 0) (lane_unit low high k)
      third_lanes_at k lt =
          rw (
            lane_with added (zip2 added twos fours) 0x80 (wide added twos fours twos_len fours_len) k lt,
            lane added twos fours twos_len fours_len k lt,
            lane_with up (zip2 bit_and before (replicate n 3)) 4 (wide_with bit_and before 3 r.0) k lt,
            lane_with bit_and before 3 r.0 k lt,
            lane added (zip2 up (zip2 bit_and high (replicate n 3)) (replicate n 2)) (zip2 down low (replicate n 6)) three_len (wide_with down low 6 p.0) k lt,
            lane_with up (zip2 bit_and high (replicate n 3)) 2 (wide_with bit_and high 3 q.0) k lt,
            lane_with bit_and high 3 q.0 k lt,
            lane_with down low 6 p.0 k lt,
            and_mask (get_or before k 0) 2,
            and_mask (get_or high k 0) 2,
          )
          (third_is (get_or before k 0) (get_or high k 0) (get_or low k 0) (lane_fits high k q lt) (lane_fits low k p lt))

      pub third_lanes_are : AreLanes n third_lanes (lane_after third_byte before low high)
      third_lanes_are = record { wide = wide_with added _ 0x80 (wide added twos fours twos_len fours_len); each = third_lanes_at }

-- Lanes if some units may be surrogates.

module _ {n : ℕ} (high : List ℕ) (q : IsVector n high) where
  abbrev eighths : List ℕ
  eighths = zip2 down high (replicate n 3)

  abbrev fourths : List ℕ
  fourths = zip2 down high (replicate n 2)

  eighths_len : length eighths ≡ n
  eighths_len = wide_with down high 3 q.0

  fourths_len : length fourths ≡ n
  fourths_len = wide_with down high 2 q.0

  pub text_firsts_are : {first : List ℕ} → AreLanes n first (λ k. first_byte (get_or high k 0 * 256))
      → AreLanes n (where_passed n eqb eighths 0x1B (replicate n 0) first) (λ k. first_in_text (get_or high k 0 * 256))
  text_firsts_are {first} f = record {
    wide = where_passed_len n eqb eighths 0x1B (replicate n 0) first eighths_len (length-replicate n 0) f.wide;
    each = λ k lt.
        rw (
          where_passed_at n eqb eighths 0x1B (replicate n 0) first eighths_len (length-replicate n 0) f.wide k lt,
          lane_with down high 3 q.0 k lt,
          surrogate_by_high (get_or high k 0),
          get_or-replicate {A = ℕ} n k 0 0 lt,
          f.each k lt,
        ) refl;
  }

  module _ (low : List ℕ) (p : IsVector n low) where
    eighth : (k : ℕ) → k < n → eqb (get_or eighths k 0) 0x1B ≡ is_surrogate (lane_unit low high k)
    eighth k lt = rw (lane_with down high 3 q.0 k lt) (surrogate_is (get_or high k 0) (get_or low k 0) (lane_fits low k p lt))

    fourth : (k : ℕ) → k < n → eqb (get_or fourths k 0) 0x36 ≡ is_leading_surrogate (lane_unit low high k)
    fourth k lt = rw (lane_with down high 2 q.0 k lt) (leading_is (get_or high k 0) (get_or low k 0) (lane_fits low k p lt))

    pub text_lasts_are : {second last : List ℕ} → AreLanes n second (λ k. second_byte (get_or low k 0)) → AreLanes n last (λ k. last_byte (lane_unit low high k))
        → AreLanes n (where_passed n eqb fourths 0x36 second last) (λ k. last_in_text (lane_unit low high k))
    text_lasts_are {second} {last} s l = record {
      wide = where_passed_len n eqb fourths 0x36 second last fourths_len s.wide l.wide;
      each = λ k lt.
          rw (
            where_passed_at n eqb fourths 0x36 second last fourths_len s.wide l.wide k lt,
            fourth k lt,
            s.each k lt,
            l.each k lt,
            second_by_low (get_or high k 0) (get_or low k 0),
          ) refl;
    }

    module _ (before : List ℕ) {middle lead third : List ℕ} (m : AreLanes n middle (λ k. middle_byte (lane_unit low high k))) (d : AreLanes n lead (λ k. lead_byte (lane_unit low high k)))
        (t : AreLanes n third (lane_after third_byte before low high)) where
      abbrev paired : List ℕ
      paired = where_passed n eqb eighths 0x1B third middle

      paired_len : length paired ≡ n
      paired_len = where_passed_len n eqb eighths 0x1B third middle eighths_len t.wide m.wide

      pub text_middles_are : AreLanes n (where_passed n eqb fourths 0x36 lead paired) (lane_after middle_in_text before low high)
      text_middles_are = record {
        wide = where_passed_len n eqb fourths 0x36 lead paired fourths_len d.wide paired_len;
        each = λ k lt.
            rw (
              where_passed_at n eqb fourths 0x36 lead paired fourths_len d.wide paired_len k lt,
              where_passed_at n eqb eighths 0x1B third middle eighths_len t.wide m.wide k lt,
              eighth k lt,
              fourth k lt,
              d.each k lt,
              t.each k lt,
              m.each k lt,
            ) refl;
      }

-- The first bytes by the whole units.

pub firsts_of_units : {n : ℕ} (low high first : List ℕ) → ((k : ℕ) → k < n → get_or low k 0 < 256) → AreLanes n first (λ k. first_byte (get_or high k 0 * 256)) → AreLanes n first (λ k. first_byte (lane_unit low high k))
firsts_of_units low high first fits f = record { wide = f.wide; each = λ k lt. f.each k lt ∙ first_by_high (get_or high k 0) (get_or low k 0) (fits k lt) }

pub text_firsts_of_units : {n : ℕ} (low high first : List ℕ) → ((k : ℕ) → k < n → get_or low k 0 < 256) → AreLanes n first (λ k. first_in_text (get_or high k 0 * 256)) → AreLanes n first (λ k. first_in_text (lane_unit low high k))
text_firsts_of_units low high first fits f = record { wide = f.wide; each = λ k lt. f.each k lt ∙ text_first_by_high (get_or high k 0) (get_or low k 0) (fits k lt) }

-- Shuffles.

module _ (xs : List ℕ) (enough : 32 ≤ length xs) where
  abbrev both : List ℕ
  both = chunk 0 16 xs ++ chunk 16 16 xs

  both_at : (j : ℕ) → j < 32 → get_or both j 0 ≡ get_or xs j 0
  both_at j lt =
      elim (cases_lt j 16) [
        | inl low ↦ get_or_append_left (chunk 0 16 xs) (chunk 16 16 xs) 0 j (omega (arith, length-chunk 0 16 xs (omega arith))) ∙ get_or-take 16 xs j 0 low
        | inr high ↦ (let at : 16 + (j - 16) ≡ j = omega arith in
            get_or-append_right (chunk 0 16 xs) (chunk 16 16 xs) 16 j 0 (length-chunk 0 16 xs (omega arith)) high ∙ get_or-chunk 16 16 xs (j - 16) 0 (omega arith) ∙ ap (λ n. get_or xs n 0) at)
      ]

  abbrev evens : List ℕ
  evens = picked both (λ i. 2 * i) 16

  abbrev odds : List ℕ
  odds = picked both (λ i. 2 * i + 1) 16

  evens_at : (k : ℕ) → k < 16 → get_or evens k 0 ≡ get_or xs (2 * k) 0
  evens_at k lt = picked_at both (λ i. 2 * i) 16 k lt ∙ both_at (2 * k) (omega arith)

  odds_at : (k : ℕ) → k < 16 → get_or odds k 0 ≡ get_or xs (2 * k + 1) 0
  odds_at k lt = picked_at both (λ i. 2 * i + 1) 16 k lt ∙ both_at (2 * k + 1) (omega arith)

  pub high_first_units : (k : ℕ) → k < 16 → lane_unit odds evens k ≡ unit_number true xs k
  high_first_units k lt = ap₂ (λ a b. a * 256 + b) (evens_at k lt) (odds_at k lt)

  pub low_first_units : (k : ℕ) → k < 16 → lane_unit evens odds k ≡ unit_number false xs k
  low_first_units k lt = ap₂ (λ a b. a * 256 + b) (odds_at k lt) (evens_at k lt)
