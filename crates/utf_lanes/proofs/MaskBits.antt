-- The bits of words that are shifted and joined, and where a piece ends by them.
use Rattle.std.proofs.Common.{◌≡◌, ◌↔◌, add-one, ℕ, ◌+◌, ◌-◌, ◌*◌, ◌/◌, ◌%◌, ◌^◌, ◌<◌, ◌≤◌, min, max, bit_and, bit_or, refl, sym, ap, ap₂, ◌∙◌, inl, inr, arith, lit<, lit≤, eq-zero-or-pos, w64, subst}
use Rattle.std.proofs.lemmas.Bool.{cases_lt, cases_eq}
use Rattle.std.proofs.lemmas.Nat.{shr-shr, shr_split, pow_pos, and_le_l, and_le_r, or_lt}
use Rattle.std.proofs.lemmas.Nat.Bits.{bit_at_and, bit_at_or, bit_at_not, bit_at-lt, bit_at_cat_low, bit_at_cat_high, bit_at_above, bit_at_ones_above, ones_shr, bit_at-pow_same, bit_at-pow_other, bit_at-trailing_zeros, same_from_bits_below}
use Rattle.std.specs.Int.{bit_at, bit_not, trailing_zeros}
use lib.Count.{count_trailing_zeros}
use native.Mathlib.Nat.{pow-suc}

pub mod_bit : (x w k : ℕ) → k < w → bit_at (x % 2 ^ w) k ≡ bit_at x k
mod_bit x w k lt = sym (bit_at_cat_low (x / 2 ^ w) w (x % 2 ^ w) k lt) ∙ ap (λ y. bit_at y k) (shr_split x w)

bit_zero : (k : ℕ) → bit_at 0 k ≡ 0
bit_zero k = bit_at_above 0 0 k (lit< tt) (omega arith)

-- `m << j`
pub shl_bit : (m j k : ℕ) → j ≤ k → k < 64 → bit_at (m * 2 ^ j % 2 ^ 64) k ≡ bit_at m (k - j)
shl_bit m j k le lt =
    let e : m * 2 ^ j + 0 ≡ m * 2 ^ j = omega arith in
    mod_bit (m * 2 ^ j) 64 k lt ∙ ap (λ y. bit_at y k) (sym e) ∙ bit_at_cat_high m j 0 k (pow_pos j) le

pub shl_low : (m j k : ℕ) → k < j → k < 64 → bit_at (m * 2 ^ j % 2 ^ 64) k ≡ 0
shl_low m j k less lt =
    let e : m * 2 ^ j + 0 ≡ m * 2 ^ j = omega arith in
    mod_bit (m * 2 ^ j) 64 k lt ∙ ap (λ y. bit_at y k) (sym e) ∙ bit_at_cat_low m j 0 k less ∙ bit_zero k

pub shifted : (m j k : ℕ) → k < 64 → bit_at (m * 2 ^ j % 2 ^ 64) k ≡ 1 → (j ≤ k) × (bit_at m (k - j) ≡ 1)
shifted m j k lt one = elim (cases_lt k j) [
  | inl less ↦ (let z = shl_low m j k less lt in absurd (omega arith))
  | inr le ↦ (le, sym (shl_bit m j k le lt) ∙ one)
]

pub shifted_back : (m j k p : ℕ) → p + j ≡ k → k < 64 → bit_at m p ≡ 1 → bit_at (m * 2 ^ j % 2 ^ 64) k ≡ 1
shifted_back m j k p e lt one = let at : k - j ≡ p = omega arith in shl_bit m j k (omega arith) lt ∙ ap (bit_at m) at ∙ one

-- a bit that is not 1 is 0
pub unset : (m k : ℕ) → (bit_at m k ≡ 1 → ⊥) → bit_at m k ≡ 0
unset m k h = let lt = bit_at-lt m k in elim (cases_eq (bit_at m k) 1) [ inl e ↦ absurd (h e) | inr other ↦ omega arith ]

-- `m >> j`
pub shr_bit : (m j k : ℕ) → bit_at (m / 2 ^ j) k ≡ bit_at m (k + j)
shr_bit m j k = let e : j + k ≡ k + j = omega arith in ap (λ x. x % 2) (shr-shr m j k) ∙ ap (bit_at m) e

-- The words that are made of five masks.
module _ (b c o t f : ℕ) where
  abbrev pub long : ℕ
  long = bit_and b t

  abbrev pub third : ℕ
  third = bit_and long (c / 2 ^ 1)

  abbrev pub fours : ℕ
  fours = bit_and third f

  abbrev pub whole_fours : ℕ
  whole_fours = bit_and fours (c / 2 ^ 2)

  abbrev pub whole_long : ℕ
  whole_long = bit_or (bit_and third (bit_not w64 f)) whole_fours

  abbrev pub whole : ℕ
  whole = bit_or (bit_and b (bit_not w64 t)) whole_long

  abbrev pub covered : ℕ
  covered = bit_or (bit_or (bit_or whole (whole * 2 ^ 1 % 2 ^ 64)) (whole_long * 2 ^ 2 % 2 ^ 64)) (whole_fours * 2 ^ 3 % 2 ^ 64)

  abbrev pub open_end : ℕ
  open_end = bit_or (bit_or (bit_and (bit_and o (bit_not w64 (c * 2 ^ 1 % 2 ^ 64))) (1 * 2 ^ 63 % 2 ^ 64)) (bit_and t (1 * 2 ^ 62 % 2 ^ 64))) (bit_and f (1 * 2 ^ 61 % 2 ^ 64))

  abbrev pub end : ℕ
  end = trailing_zeros w64 open_end

  abbrev pub wrong : ℕ
  wrong = bit_and (bit_and o (bit_not w64 covered)) ((2 ^ 64 - 1) / 2 ^ (64 - end))

  module _ (k : ℕ) (lt : k < 64) (T : t < 2 ^ 64) (F : f < 2 ^ 64) where
    pub fours_bit : bit_at whole_fours k ≡ min (min (min (min (bit_at b k) (bit_at t k)) (bit_at c (k + 1))) (bit_at f k)) (bit_at c (k + 2))
    fours_bit = rw (bit_at_and fours (c / 2 ^ 2) k, bit_at_and third f k, bit_at_and long (c / 2 ^ 1) k, bit_at_and b t k, shr_bit c 1 k, shr_bit c 2 k) refl

    pub third_bit : bit_at third k ≡ min (min (bit_at b k) (bit_at t k)) (bit_at c (k + 1))
    third_bit = rw (bit_at_and long (c / 2 ^ 1) k, bit_at_and b t k, shr_bit c 1 k) refl

    pub long_bit : bit_at whole_long k ≡ max (min (bit_at third k) (1 - bit_at f k)) (bit_at whole_fours k)
    long_bit = bit_at_or (bit_and third (bit_not w64 f)) whole_fours k ∙ ap (λ x. max x (bit_at whole_fours k)) (bit_at_and third (bit_not w64 f) k ∙ ap (min (bit_at third k)) (bit_at_not w64 f k F lt))

    pub whole_bit : bit_at whole k ≡ max (min (bit_at b k) (1 - bit_at t k)) (bit_at whole_long k)
    whole_bit = bit_at_or (bit_and b (bit_not w64 t)) whole_long k ∙ ap (λ x. max x (bit_at whole_long k)) (bit_at_and b (bit_not w64 t) k ∙ ap (min (bit_at b k)) (bit_at_not w64 t k T lt))

  pub covered_bit : (k : ℕ) → bit_at covered k ≡ max (max (max (bit_at whole k) (bit_at (whole * 2 ^ 1 % 2 ^ 64) k)) (bit_at (whole_long * 2 ^ 2 % 2 ^ 64) k)) (bit_at (whole_fours * 2 ^ 3 % 2 ^ 64) k)
  covered_bit k =
      bit_at_or (bit_or (bit_or whole (whole * 2 ^ 1 % 2 ^ 64)) (whole_long * 2 ^ 2 % 2 ^ 64)) (whole_fours * 2 ^ 3 % 2 ^ 64) k
      ∙ ap (λ x. max x (bit_at (whole_fours * 2 ^ 3 % 2 ^ 64) k)) (bit_at_or (bit_or whole (whole * 2 ^ 1 % 2 ^ 64)) (whole_long * 2 ^ 2 % 2 ^ 64) k
      ∙ ap (λ x. max x (bit_at (whole_long * 2 ^ 2 % 2 ^ 64) k)) (bit_at_or whole (whole * 2 ^ 1 % 2 ^ 64) k))

  pub open_bit : (k : ℕ) → k < 64 → bit_at open_end k ≡ max (max (min (min (bit_at o k) (1 - bit_at (c * 2 ^ 1 % 2 ^ 64) k)) (bit_at (2 ^ 63) k)) (min (bit_at t k) (bit_at (2 ^ 62) k))) (min (bit_at f k) (bit_at (2 ^ 61) k))
  open_bit k lt =
      bit_at_or (bit_or (bit_and (bit_and o (bit_not w64 (c * 2 ^ 1 % 2 ^ 64))) (2 ^ 63)) (bit_and t (2 ^ 62))) (bit_and f (2 ^ 61)) k
      ∙ ap₂ max (bit_at_or (bit_and (bit_and o (bit_not w64 (c * 2 ^ 1 % 2 ^ 64))) (2 ^ 63)) (bit_and t (2 ^ 62)) k
      ∙ ap₂ max (bit_at_and (bit_and o (bit_not w64 (c * 2 ^ 1 % 2 ^ 64))) (2 ^ 63) k
      ∙ ap (λ x. min x (bit_at (2 ^ 63) k)) (bit_at_and o (bit_not w64 (c * 2 ^ 1 % 2 ^ 64)) k ∙ ap (min (bit_at o k)) (bit_at_not w64 (c * 2 ^ 1 % 2 ^ 64) k (omega arith) lt))) (bit_at_and t (2 ^ 62) k)) (bit_at_and f (2 ^ 61) k)

  -- at `end` a piece ends: it is 64, or the byte there begins a code that reaches out
  pub record IsEnd (n : ℕ) : Type 0 where
    pub least : 61 ≤ n
    pub most : n ≤ 64
    pub last : n ≡ 63 → (bit_at o 63 ≡ 1) × (bit_at c 62 ≡ 0)
    pub second : n ≡ 62 → bit_at t 62 ≡ 1
    pub first : n ≡ 61 → bit_at f 61 ≡ 1
    pub no_last : 63 < n → bit_at o 63 ≡ 1 → bit_at c 62 ≡ 1
    pub no_second : 62 < n → bit_at t 62 ≡ 0
    pub no_first : 61 < n → bit_at f 61 ≡ 0

  open_low : (k : ℕ) → k < 61 → bit_at open_end k ≡ 0
  open_low k lt =
      let at = open_bit k (omega arith) in
      let p = bit_at-pow_other 63 k (λ e. omega arith) in
      let q = bit_at-pow_other 62 k (λ e. omega arith) in
      let r = bit_at-pow_other 61 k (λ e. omega arith) in
      let h : bit_at open_end k < 2 = bit_at-lt open_end k in
      omega (arith, at, p, q, r)

  open_61 : bit_at open_end 61 ≡ bit_at f 61
  open_61 = omega (arith, open_bit 61 (lit< tt), bit_at-pow_other 63 61 (λ e. omega arith), bit_at-pow_other 62 61 (λ e. omega arith), bit_at-pow_same 61, bit_at-lt f 61, bit_at-lt open_end 61)

  open_62 : bit_at open_end 62 ≡ bit_at t 62
  open_62 = omega (arith, open_bit 62 (lit< tt), bit_at-pow_other 63 62 (λ e. omega arith), bit_at-pow_other 61 62 (λ e. omega arith), bit_at-pow_same 62, bit_at-lt t 62, bit_at-lt open_end 62)

  open_63 : bit_at open_end 63 ≡ min (bit_at o 63) (1 - bit_at c 62)
  open_63 = omega (arith, open_bit 63 (lit< tt), shl_bit c 1 63 (omega arith) (lit< tt), bit_at-pow_other 62 63 (λ e. omega arith), bit_at-pow_other 61 63 (λ e. omega arith), bit_at-pow_same 63, bit_at-lt o 63, bit_at-lt c 62)

  by_end : (n : ℕ) → n < 64 → bit_at open_end n ≡ 1 → ((i : ℕ) → i < n → bit_at open_end i ≡ 0) → IsEnd n
  by_end n lt one none =
      let at : (k : ℕ) → n ≡ k → bit_at open_end k ≡ 1 = λ k e. subst (λ j. bit_at open_end j ≡ 1) e one in
      let enough : 61 ≤ n = elim (cases_lt n 61) [ inl low ↦ (let z = open_low n low in absurd (omega arith)) | inr ge ↦ ge ] in
      let low_o = bit_at-lt o 63 in
      let low_c = bit_at-lt c 62 in
      record {
        least = enough;
        most = omega arith;
        last = λ e. let h = at 63 e in (omega (arith, open_63), omega (arith, open_63));
        second = λ e. let h = at 62 e in omega (arith, open_62);
        first = λ e. let h = at 61 e in omega (arith, open_61);
        no_last = λ more _. absurd (omega arith);
        no_second = λ more. let h = none 62 more in omega (arith, open_62);
        no_first = λ more. let h = none 61 more in omega (arith, open_61);
      }

  none_open : open_end ≡ 0 → IsEnd 64
  none_open z =
      let none : (k : ℕ) → bit_at open_end k ≡ 0 = λ k. ap (λ x. bit_at x k) z ∙ bit_zero k in
      let low_o = bit_at-lt o 63 in
      let low_c = bit_at-lt c 62 in
      record {
        least = lit≤ tt;
        most = omega arith;
        last = λ e. absurd (omega arith);
        second = λ e. absurd (omega arith);
        first = λ e. absurd (omega arith);
        no_last = λ _ e. omega (arith, none 63, open_63);
        no_second = λ _. omega (arith, none 62, open_62);
        no_first = λ _. omega (arith, none 61, open_61);
      }

  all_zeros : count_trailing_zeros 64 0 ≡ 64
  unfolding count_trailing_zeros
  all_zeros = refl

  pub end_is : open_end < 2 ^ 64 → IsEnd end
  end_is fits = elim (eq-zero-or-pos open_end) [
    | inl z ↦ (let e : end ≡ 64 = ap (count_trailing_zeros 64) z ∙ all_zeros in subst IsEnd (sym e) (none_open z))
    | inr some ↦ (let h = bit_at-trailing_zeros w64 open_end some fits in by_end end h.0 h.1 h.2)
  ]

  open_fits : t < 2 ^ 64 → f < 2 ^ 64 → open_end < 2 ^ 64
  open_fits T F =
      let x = bit_and (bit_and o (bit_not w64 (c * 2 ^ 1 % 2 ^ 64))) (2 ^ 63) in
      let y = bit_and t (2 ^ 62) in
      let z = bit_and f (2 ^ 61) in
      let lx : x < 2 ^ 64 = omega (arith, and_le_r (bit_and o (bit_not w64 (c * 2 ^ 1 % 2 ^ 64))) (2 ^ 63)) in
      let ly : y < 2 ^ 64 = omega (arith, and_le_r t (2 ^ 62)) in
      let lz : z < 2 ^ 64 = omega (arith, and_le_r f (2 ^ 61)) in
      or_lt 64 (bit_or x y) z (or_lt 64 x y lx ly) lz

  pub end_within : t < 2 ^ 64 → f < 2 ^ 64 → IsEnd end
  end_within T F = end_is (open_fits T F)

  covered_fits : b < 2 ^ 64 → covered < 2 ^ 64
  covered_fits B =
      let w4 : whole_fours < 2 ^ 64 = omega (arith, and_le_l fours (c / 2 ^ 2), and_le_l third f, and_le_l long (c / 2 ^ 1), and_le_l b t) in
      let w3 : whole_long < 2 ^ 64 = or_lt 64 (bit_and third (bit_not w64 f)) whole_fours (omega (arith, and_le_l third (bit_not w64 f), and_le_l long (c / 2 ^ 1), and_le_l b t)) w4 in
      let w2 : whole < 2 ^ 64 = or_lt 64 (bit_and b (bit_not w64 t)) whole_long (omega (arith, and_le_l b (bit_not w64 t))) w3 in
      let s1 : whole * 2 ^ 1 % 2 ^ 64 < 2 ^ 64 = omega arith in
      let s2 : whole_long * 2 ^ 2 % 2 ^ 64 < 2 ^ 64 = omega arith in
      let s3 : whole_fours * 2 ^ 3 % 2 ^ 64 < 2 ^ 64 = omega arith in
      let two : bit_or whole (whole * 2 ^ 1 % 2 ^ 64) < 2 ^ 64 = or_lt 64 whole (whole * 2 ^ 1 % 2 ^ 64) w2 s1 in
      let three : bit_or (bit_or whole (whole * 2 ^ 1 % 2 ^ 64)) (whole_long * 2 ^ 2 % 2 ^ 64) < 2 ^ 64 = or_lt 64 (bit_or whole (whole * 2 ^ 1 % 2 ^ 64)) (whole_long * 2 ^ 2 % 2 ^ 64) two s2 in
      or_lt 64 (bit_or (bit_or whole (whole * 2 ^ 1 % 2 ^ 64)) (whole_long * 2 ^ 2 % 2 ^ 64)) (whole_fours * 2 ^ 3 % 2 ^ 64) three s3

  pub wrong_bit : (k : ℕ) → k < 64 → b < 2 ^ 64 → end ≤ 64 → bit_at wrong k ≡ min (min (bit_at o k) (1 - bit_at covered k)) (bit_at (2 ^ end - 1) k)
  wrong_bit k lt B le =
      let back : 64 - (64 - end) ≡ end = omega arith in
      let mask : (2 ^ 64 - 1) / 2 ^ (64 - end) ≡ 2 ^ end - 1 = ones_shr 64 (64 - end) (omega arith) ∙ ap (λ n. 2 ^ n - 1) back in
      bit_at_and (bit_and o (bit_not w64 covered)) ((2 ^ 64 - 1) / 2 ^ (64 - end)) k
      ∙ ap₂ min (bit_at_and o (bit_not w64 covered) k ∙ ap (min (bit_at o k)) (bit_at_not w64 covered k (covered_fits B) lt)) (ap (λ m. bit_at m k) mask)

  abbrev pub later : ℕ
  later = bit_and wrong (bit_or (long * 2 ^ 1 % 2 ^ 64) (fours * 2 ^ 2 % 2 ^ 64))

  pub later_bit : (k : ℕ) → bit_at later k ≡ min (bit_at wrong k) (max (bit_at (long * 2 ^ 1 % 2 ^ 64) k) (bit_at (fours * 2 ^ 2 % 2 ^ 64) k))
  later_bit k = bit_at_and wrong (bit_or (long * 2 ^ 1 % 2 ^ 64) (fours * 2 ^ 2 % 2 ^ 64)) k ∙ ap (min (bit_at wrong k)) (bit_at_or (long * 2 ^ 1 % 2 ^ 64) (fours * 2 ^ 2 % 2 ^ 64) k)

  pub long_at : (k : ℕ) → bit_at long k ≡ min (bit_at b k) (bit_at t k)
  long_at k = bit_at_and b t k

  pub fours_at : (k : ℕ) → bit_at fours k ≡ min (bit_at third k) (bit_at f k)
  fours_at k = bit_at_and third f k

  abbrev go_on : ℕ
  go_on = bit_and (bit_and c (bit_or (c / 2 ^ 1) (bit_not w64 t))) (bit_or (c / 2 ^ 2) (bit_not w64 f))

  abbrev pub broken : ℕ
  broken = bit_not w64 go_on

  pub broken_bit : (k : ℕ) → k < 64 → c < 2 ^ 64 → t < 2 ^ 64 → f < 2 ^ 64
      → bit_at broken k ≡ 1 - min (min (bit_at c k) (max (bit_at c (k + 1)) (1 - bit_at t k))) (max (bit_at c (k + 2)) (1 - bit_at f k))
  broken_bit k lt C T F =
      let fits : go_on < 2 ^ 64 = omega (arith, and_le_l (bit_and c (bit_or (c / 2 ^ 1) (bit_not w64 t))) (bit_or (c / 2 ^ 2) (bit_not w64 f)), and_le_l c (bit_or (c / 2 ^ 1) (bit_not w64 t))) in
      bit_at_not w64 go_on k fits lt ∙ ap (λ x. 1 - x)
      (bit_at_and (bit_and c (bit_or (c / 2 ^ 1) (bit_not w64 t))) (bit_or (c / 2 ^ 2) (bit_not w64 f)) k
      ∙ ap₂ min (bit_at_and c (bit_or (c / 2 ^ 1) (bit_not w64 t)) k ∙ ap (min (bit_at c k)) (bit_at_or (c / 2 ^ 1) (bit_not w64 t) k ∙ ap₂ max (shr_bit c 1 k) (bit_at_not w64 t k T lt)))
      (bit_at_or (c / 2 ^ 2) (bit_not w64 f) k ∙ ap₂ max (shr_bit c 2 k) (bit_at_not w64 f k F lt)))

-- Without its lowest bit a word has those after it.

module _ (n : ℕ) (some : 0 < n) (fits : n < 2 ^ 64) where
  abbrev lowest : ℕ
  lowest = trailing_zeros w64 n

  abbrev low_end : ℕ
  low_end = lowest + 1

  low_part : n % 2 ^ low_end ≡ 2 ^ lowest
  low_part =
      let h = bit_at-trailing_zeros w64 n some fits in
      let small : n % 2 ^ low_end < 2 ^ low_end = mod_lt n (2 ^ low_end) (pow_pos low_end) in
      let one : 2 ^ lowest < 2 ^ low_end = pow_less lowest in
      same_from_bits_below low_end (n % 2 ^ low_end) (2 ^ lowest) small one (λ i lt. mod_bit n low_end i lt ∙ elim (cases_eq i lowest) [
        | inl e ↦ ap (bit_at n) e ∙ h.1 ∙ sym (ap (bit_at (2 ^ lowest)) e ∙ bit_at-pow_same lowest)
        | inr other ↦ h.2 i (omega arith) ∙ sym (bit_at-pow_other lowest i other)
      ])
    where
      mod_lt : (n m : ℕ) → 0 < m → n % m < m
      mod_lt n m pos = grind arith

      pow_less : (k : ℕ) → 2 ^ k < 2 ^ (k + 1)
      pow_less k = omega (arith, pow_pos k, pow-suc 2 k, ap (λ j. 2 ^ j) (add-one k))

  after_lowest : (i : ℕ) → lowest < i → bit_at (n - 1) i ≡ bit_at n i
  after_lowest i more =
      let split = shr_split n low_end in
      let pos = pow_pos lowest in
      let low = low_part in
      let high = n / 2 ^ low_end in
      let whole : n ≡ high * 2 ^ low_end + 2 ^ lowest = omega arith in
      let less : n - 1 ≡ high * 2 ^ low_end + (2 ^ lowest - 1) = omega arith in
      let twice : 2 ^ low_end ≡ 2 ^ lowest * 2 = ap (λ j. 2 ^ j) (add-one lowest) ∙ pow-suc 2 lowest in
      ap (λ m. bit_at m i) less ∙ bit_at_cat_high high low_end (2 ^ lowest - 1) i (omega arith) (omega arith)
      ∙ sym (ap (λ m. bit_at m i) whole ∙ bit_at_cat_high high low_end (2 ^ lowest) i (omega arith) (omega arith))

  at_lowest : bit_at (n - 1) lowest ≡ 0
  at_lowest =
      let split = shr_split n low_end in
      let pos = pow_pos lowest in
      let low = low_part in
      let high = n / 2 ^ low_end in
      let less : n - 1 ≡ high * 2 ^ low_end + (2 ^ lowest - 1) = omega arith in
      ap (λ m. bit_at m lowest) less ∙ bit_at_cat_low high low_end (2 ^ lowest - 1) lowest (omega arith) ∙ bit_at_ones_above lowest lowest (omega arith)

  pub cleared : (i : ℕ) → bit_at (bit_and n (n - 1)) i ≡ 1 ↔ (bit_at n i ≡ 1) × (lowest < i)
  cleared i =
      let both = bit_at_and n (n - 1) i in
      let h = bit_at-trailing_zeros w64 n some fits in
      let s0 = bit_at-lt n i in
      let s1 = bit_at-lt (n - 1) i in (
        λ one.
            let set : bit_at n i ≡ 1 = omega arith in
            let other : bit_at (n - 1) i ≡ 1 = omega arith in (
              set,
              elim (cases_lt lowest i) [
                | inl lt ↦ lt
                | inr ge ↦ elim (cases_eq lowest i) [
                  | inl e ↦ (let z = subst (λ j. bit_at (n - 1) j ≡ 0) e at_lowest in absurd (omega arith))
                  | inr apart ↦ (let z = h.2 i (omega arith) in absurd (omega arith))
                ]
              ],
            ),
        λ p. (let same = after_lowest i p.1 in let set = p.0 in omega arith),
      )
