-- Units of which lone surrogates are replaced: the lanes, and why they are text.
use Rattle.std.proofs.Common.{◌≡◌, ℕ, zero, suc, ◌+◌, ◌*◌, ◌/◌, ◌<◌, ◌≤◌, Bool, true, false, not, cond, eqb, ltb, List, [], ◌∷◌, ◌++◌, length, get_or, map, replicate, count_ones, bit_and, bit_or, bit_xor, arith, refl, lit<, lit≤, sym, ap, ap₂, ◌∙◌, inl, inr}
use Rattle.std.proofs.lemmas.Bool.{cases_lt, lt-ltb, le-ltb}
use Rattle.std.proofs.lemmas.Nat.{and_mask}
use Rattle.std.proofs.lemmas.Simd.{get_or-replicate, length-replicate}
use Rattle.std.proofs.lemmas.List.{get_or_append_left}
use lib.Lanes.{mask_l, zip2}
use Rattle.std.specs.Prelude.{◌&&◌, ◌||◌}
use Rattle.utf_lanes.specs.Lanes.{AreLanes}
use Rattle.std.proofs.lemmas.Simd.{ones-mask_l_cons}
use Rattle.utf_base.specs.Units.{is_leading_surrogate, is_trailing_surrogate}
use Rattle.utf_lanes.specs.UnitCodes.{AreText, lane_unit}
use Rattle.utf_lanes.specs.UnitMending.{MendsUnits, count_from, holds_before, is_lone, is_unpaired, mended_unit}
use Rattle.utf_lanes.specs.declared.unit_mending.MendedUnits.{MendedUnits}
use Rattle.utf_lanes.proofs.JudgedUnits.{trailing_is}
use Rattle.utf_lanes.proofs.PassedLanes.{mask_is, passed_mask, where_passed, where_passed_len, where_passed_at}
use Rattle.utf_lanes.proofs.UnitSlots.{leading_is}
use Rattle.utf_lanes.proofs.UnitBytes.{not_both, not_true}
use Rattle.utf_lanes.proofs.LaneLemmas.{IsVector, lane_fits, lane, wide}

-- All lanes but the last.

abbrev all_but_last : List ℕ
all_but_last = replicate 31 255 ++ (0 ∷ [])

pub kept_len : (v : List ℕ) → IsVector 32 v → length (zip2 bit_and v all_but_last) ≡ 32
kept_len v fits = wide bit_and v all_but_last fits.0 refl

pub kept_at : (v : List ℕ) → IsVector 32 v → (k : ℕ) → k < 31 → get_or (zip2 bit_and v all_but_last) k 0 ≡ get_or v k 0
kept_at v fits k lt =
    let mask : get_or all_but_last k 0 ≡ 255 = get_or_append_left (replicate 31 255) (0 ∷ []) 0 k lt ∙ get_or-replicate 31 k 255 0 lt in
    let byte = lane_fits v k fits (omega arith) in
    lane bit_and v all_but_last fits.0 refl k (omega arith) ∙ ap (bit_and (get_or v k 0)) mask ∙ and_mask (get_or v k 0) 8 ∙ omega arith

pub last_none : (v : List ℕ) → IsVector 32 v → get_or (zip2 bit_and v all_but_last) 31 0 ≡ 0
last_none v fits = lane bit_and v all_but_last fits.0 refl 31 (lit< tt) ∙ and_mask (get_or v 31 0) 0 ∙ omega arith

-- Lone surrogates, by the lanes of which each is 255 or 0.

abbrev ones : Bool → ℕ
ones b = cond b 255 0

-- two steps of the code for one unit: whether it leads, trails, the next trails, and the one before leads
combined : (l t n b : Bool) → bit_or (bit_and (bit_xor (ones l) (ones n)) (ones l)) (bit_and (bit_xor (ones b) (ones t)) (ones t)) ≡ ones ((l && not n) || (t && not b))
combined true true true true = refl
combined true true true false = refl
combined true true false true = refl
combined true true false false = refl
combined true false true true = refl
combined true false true false = refl
combined true false false true = refl
combined true false false false = refl
combined false true true true = refl
combined false true true false = refl
combined false true false true = refl
combined false true false false = refl
combined false false true true = refl
combined false false true false = refl
combined false false false true = refl
combined false false false false = refl

-- the last unit
combined_last : (l t b : Bool) (x : ℕ) → bit_or (bit_and x 0) (bit_and (bit_xor (ones b) (ones t)) (ones t)) ≡ ones ((l && (false && not t)) || (t && not b))
combined_last l t b x = and_none x l t b
  where
    by_cases : (l t b : Bool) → bit_or 0 (bit_and (bit_xor (ones b) (ones t)) (ones t)) ≡ ones ((l && (false && not t)) || (t && not b))
    by_cases true true true = refl
    by_cases true true false = refl
    by_cases true false true = refl
    by_cases true false false = refl
    by_cases false true true = refl
    by_cases false true false = refl
    by_cases false false true = refl
    by_cases false false false = refl

    and_none : (x : ℕ) (l t b : Bool) → bit_or (bit_and x 0) (bit_and (bit_xor (ones b) (ones t)) (ones t)) ≡ ones ((l && (false && not t)) || (t && not b))
    and_none x l t b = let none : bit_and x 0 ≡ 0 = and_mask x 0 ∙ omega arith in rw none (by_cases l t b)

module _ (leads trails : ℕ → Bool) (leading trailing later unpaired earlier : List ℕ) (L : length leading ≡ 32) (T : length trailing ≡ 32) (B : length later ≡ 32) (E : length earlier ≡ 32)
    (lead : (k : ℕ) → k < 31 → get_or leading k 0 ≡ ones (leads k)) (none : get_or leading 31 0 ≡ 0) (trail : (k : ℕ) → k < 32 → get_or trailing k 0 ≡ ones (trails k))
    (moved : (k : ℕ) → k + 1 < 32 → get_or later (k + 1) 0 ≡ get_or leading k 0) (first : get_or later 0 0 ≡ get_or leading 31 0)
    (is : unpaired ≡ zip2 bit_xor later trailing) (back : (k : ℕ) → k < 31 → get_or earlier k 0 ≡ get_or unpaired (k + 1) 0) where
  unpaired_len : length unpaired ≡ 32
  unpaired_len = ap length is ∙ wide bit_xor later trailing B T

  later_at : (k : ℕ) → k < 32 → get_or later k 0 ≡ ones (holds_before leads k)
  later_at zero lt = first ∙ none
  later_at (suc k) lt = let at : k + 1 ≡ suc k = omega arith in rw at at (moved k (omega arith)) ∙ lead k (omega arith)

  unpaired_at : (k : ℕ) → k < 32 → get_or unpaired k 0 ≡ bit_xor (ones (holds_before leads k)) (ones (trails k))
  unpaired_at k lt = ap (λ v. get_or v k 0) is ∙ lane bit_xor later trailing B T k lt ∙ ap₂ bit_xor (later_at k lt) (trail k lt)

  next_at : (k : ℕ) → k < 31 → get_or earlier k 0 ≡ bit_xor (ones (leads k)) (ones (trails (k + 1)))
  next_at k lt = let at : k + 1 ≡ suc k = omega arith in back k lt ∙ unpaired_at (k + 1) (omega arith) ∙ rw at refl

  lone_at : (k : ℕ) → k < 32
      → bit_or (bit_and (get_or earlier k 0) (get_or leading k 0)) (bit_and (get_or unpaired k 0) (get_or trailing k 0)) ≡ ones (is_unpaired 32 leads trails k)
  lone_at k lt = elim (cases_lt k 31) [
    | inl less ↦ (
        let inside : ltb (k + 1) 32 ≡ true = lt-ltb (k + 1) 32 (omega arith) in
        rw (next_at k less, lead k less, unpaired_at k lt, trail k lt, inside) (combined (leads k) (trails k) (trails (k + 1)) (holds_before leads k)))
    | inr more ↦ (
        let at : k ≡ 31 = omega arith in
        rw at (rw (none, unpaired_at 31 (lit< tt), trail 31 (lit< tt)) (last (get_or earlier 31 0))))
  ]
    where
      either : (x : ℕ) (l t n b : Bool) → bit_or (bit_and x 0) (bit_and (bit_xor (ones b) (ones t)) (ones t)) ≡ ones ((l && (false && not n)) || (t && not b))
      either x l t n b = combined_last l t b x

      last : (x : ℕ) → bit_or (bit_and x 0) (bit_and (bit_xor (ones (holds_before leads 31)) (ones (trails 31))) (ones (trails 31))) ≡ ones (is_unpaired 32 leads trails 31)
      last x = either x (leads 31) (trails 31) (trails 32) (holds_before leads 31)

  pub lone_is : AreLanes 32 (zip2 bit_or (zip2 bit_and earlier leading) (zip2 bit_and unpaired trailing)) (λ k. ones (is_unpaired 32 leads trails k))
  lone_is =
      let p = wide bit_and earlier leading E L in
      let q = wide bit_and unpaired trailing unpaired_len T in
      record {
        wide = wide bit_or (zip2 bit_and earlier leading) (zip2 bit_and unpaired trailing) p q;
        each = λ k lt.
            lane bit_or (zip2 bit_and earlier leading) (zip2 bit_and unpaired trailing) p q k lt
            ∙ ap₂ bit_or (lane bit_and earlier leading E L k lt) (lane bit_and unpaired trailing unpaired_len T k lt) ∙ lone_at k lt;
      }

-- How many of some lanes are 255.

told : (b : Bool) → not (eqb (ones b) 0) ≡ b
told true = refl
told false = refl

-- the lanes that are not 0 are counted
ones_counted : (holds : ℕ → Bool) (v : List ℕ) (p : ℕ) → ((k : ℕ) → k < length v → get_or v k 0 ≡ ones (holds (p + k))) → count_ones (mask_l (map (λ x. not (eqb x 0)) v)) ≡ count_from holds p (length v)
unfolding count_from lib.Count.ones
ones_counted holds [] p each = refl
ones_counted holds (x ∷ v) p each =
    let z : p + 0 ≡ p = omega arith in
    let first : x ≡ ones (holds p) = rw z at (each 0 (omega arith)) in
    ones-mask_l_cons (not (eqb x 0)) (map (λ y. not (eqb y 0)) v)
    ∙ ap₂ (λ a b. cond {A = ℕ} a 1 0 + b) (ap (λ y. not (eqb y 0)) first ∙ told (holds p))
    (ones_counted holds v (suc p) (λ k lt. let s : p + suc k ≡ suc p + k = omega arith in rw s at (each (suc k) (omega arith))))

-- the last of them is none
count_less : (holds : ℕ → Bool) (p n : ℕ) → holds (p + n) ≡ false → count_from holds p (suc n) ≡ count_from holds p n
unfolding count_from
count_less holds p zero none = let z : p + 0 ≡ p = omega arith in let e : holds p ≡ false = rw z at none in rw e refl
count_less holds p (suc n) none =
    let s : p + suc n ≡ suc p + n = omega arith in
    ap (λ m. cond {A = ℕ} (holds p) 1 0 + m) (count_less holds (suc p) n (rw s at none))

-- Mended units, by the lanes of the original ones.

module _ (u : ℕ → ℕ) (v : ℕ → ℕ) (made : (k : ℕ) → k < 32 → v k ≡ mended_unit 32 u k) where
  abbrev lone : ℕ → Bool
  lone = is_lone 32 u

  v_lone : (k : ℕ) → k < 32 → lone k ≡ true → v k ≡ 0xFFFD
  v_lone k lt e = made k lt ∙ rw e refl

  v_kept : (k : ℕ) → k < 32 → lone k ≡ false → v k ≡ u k
  v_kept k lt e = made k lt ∙ rw e refl

  -- a unit that is a surrogate after mending was none that is alone
  kept_where : (test : ℕ → Bool) → test 0xFFFD ≡ false → (k : ℕ) → k < 32 → test (v k) ≡ true → lone k ≡ false
  kept_where test other k lt surrogate = not_true (lone k) (λ e. let f : test 0xFFFD ≡ true = rw (v_lone k lt e) at surrogate in absurd cc)

  next_trails : (l t n inside b : Bool) → (l && (inside && not n)) || (t && not b) ≡ false → l ≡ true → inside ≡ true → n ≡ true
  next_trails true t true true b e p q = refl
  next_trails true t false true b e p q = absurd cc
  next_trails true t n false b e p q = absurd cc
  next_trails false t n inside b e p q = absurd cc

  one_before : (l t n inside b : Bool) → (l && (inside && not n)) || (t && not b) ≡ false → t ≡ true → l ≡ false → b ≡ true
  one_before false true n inside true e p q = refl
  one_before false true n inside false e p q = absurd cc
  one_before false false n inside b e p q = absurd cc
  one_before true t n inside b e p q = absurd cc

  none_alone : (l t n inside b : Bool) → t ≡ false → l ≡ true → n ≡ true → (l && (inside && not n)) || (t && not b) ≡ false
  none_alone true false true true b p q r = refl
  none_alone true false true false b p q r = refl
  none_alone true false false inside b p q r = absurd cc
  none_alone true true n inside b p q r = absurd cc
  none_alone false t n inside b p q r = absurd cc

  -- the trailing one after a leading one is not alone
  not_alone : (l t n inside b : Bool) → l ≡ false → b ≡ true → (l && (inside && not n)) || (t && not b) ≡ false
  not_alone false true n inside true p q = refl
  not_alone false false n inside true p q = refl
  not_alone false t n inside false p q = absurd cc
  not_alone true t n inside b p q = absurd cc

  abbrev leads : ℕ → Bool
  leads k = is_leading_surrogate (u k)

  abbrev trails : ℕ → Bool
  trails k = is_trailing_surrogate (u k)

  -- a leading surrogate before the last is followed by a trailing one
  after_leading : (k : ℕ) → k + 1 < 32 → is_leading_surrogate (v k) ≡ true → is_trailing_surrogate (v (k + 1)) ≡ true
  after_leading k lt surrogate =
      let kept = kept_where is_leading_surrogate refl k (omega arith) surrogate in
      let lead : leads k ≡ true = rw (v_kept k (omega arith) kept) at surrogate in
      let inside : ltb (k + 1) 32 ≡ true = lt-ltb (k + 1) 32 lt in
      let trail : trails (k + 1) ≡ true = next_trails (leads k) (trails k) (trails (k + 1)) (ltb (k + 1) 32) (holds_before leads k) kept lead inside in
      let none : leads (k + 1) ≡ false = not_true (leads (k + 1)) (λ l. not_both (u (k + 1)) l trail) in
      let before : holds_before leads (k + 1) ≡ true = let s : k + 1 ≡ suc k = omega arith in rw s lead in
      let alone : lone (k + 1) ≡ false = not_alone (leads (k + 1)) (trails (k + 1)) (trails (k + 1 + 1)) (ltb (k + 1 + 1) 32) (holds_before leads (k + 1)) none before in
      rw (v_kept (k + 1) lt alone) trail

  before_trailing : (k : ℕ) → k + 1 < 32 → is_trailing_surrogate (v (k + 1)) ≡ true → is_leading_surrogate (v k) ≡ true
  before_trailing k lt surrogate =
      let kept = kept_where is_trailing_surrogate refl (k + 1) lt surrogate in
      let trail : trails (k + 1) ≡ true = rw (v_kept (k + 1) lt kept) at surrogate in
      let none : leads (k + 1) ≡ false = not_true (leads (k + 1)) (λ l. not_both (u (k + 1)) l trail) in
      let before : holds_before leads (k + 1) ≡ true
      = one_before (leads (k + 1)) (trails (k + 1)) (trails (k + 1 + 1)) (ltb (k + 1 + 1) 32) (holds_before leads (k + 1)) kept trail none in
      let lead : leads k ≡ true = let s : k + 1 ≡ suc k = omega arith in rw s at before in
      let other : trails k ≡ false = not_true (trails k) (λ t. not_both (u k) lead t) in
      let alone : lone k ≡ false = none_alone (leads k) (trails k) (trails (k + 1)) (ltb (k + 1) 32) (holds_before leads k) other lead trail in
      rw (v_kept k (omega arith) alone) lead

  none_first : is_trailing_surrogate (v 0) ≡ false
  none_first = not_true (is_trailing_surrogate (v 0)) (λ surrogate.
      let kept = kept_where is_trailing_surrogate refl 0 (lit< tt) surrogate in
      let trail : trails 0 ≡ true = rw (v_kept 0 (lit< tt) kept) at surrogate in
      let none : leads 0 ≡ false = not_true (leads 0) (λ l. not_both (u 0) l trail) in
      let before : false ≡ true = one_before (leads 0) (trails 0) (trails 1) true false kept trail none in
      absurd cc)

  -- the last of all, if it leads
  pub last_is_not_lone : leads 31 ≡ true → lone 31 ≡ false
  last_is_not_lone lead =
      let other : trails 31 ≡ false = not_true (trails 31) (λ t. not_both (u 31) lead t) in
      last_alone (leads 31) (trails 31) (trails 32) (holds_before leads 31) other
    where
      last_alone : (l t n b : Bool) → t ≡ false → (l && (false && not n)) || (t && not b) ≡ false
      last_alone true false n b e = refl
      last_alone false false n b e = refl
      last_alone l true n b e = absurd cc

  pub last_kept : leads 31 ≡ true → v 31 ≡ u 31
  last_kept lead = v_kept 31 (lit< tt) (last_is_not_lone lead)

  pub text_of_all : leads 31 ≡ false → AreText v 32
  text_of_all none = record {
    first = λ some. none_first;
    leading = λ k lt surrogate. elim (cases_lt (k + 1) 32) [
      | inl less ↦ (less, after_leading k less surrogate)
      | inr last ↦ (
          let at : k ≡ 31 = omega arith in
          let kept = kept_where is_leading_surrogate refl k lt surrogate in
          let lead : leads 31 ≡ true = rw at at (rw (v_kept k lt kept) at surrogate) in
          absurd cc)
    ];
    trailing = λ k lt surrogate. before_trailing k lt surrogate;
  }

  pub text_of_others : leads 31 ≡ true → AreText v 31
  text_of_others lead = record {
    first = λ some. none_first;
    leading = λ k lt surrogate. elim (cases_lt (k + 1) 31) [
      | inl less ↦ (less, after_leading k (omega arith) surrogate)
      | inr last ↦ (
          let at : k + 1 ≡ 31 = omega arith in
          let trail : is_trailing_surrogate (v 31) ≡ true = rw at at (after_leading k (omega arith) surrogate) in
          let also : is_leading_surrogate (v 31) ≡ true = rw (last_kept lead) lead in
          absurd (not_both (v 31) also trail))
    ];
    trailing = λ k lt surrogate. before_trailing k (omega arith) surrogate;
  }

-- By the lanes of both halves.

unpaired_same : (f g h i : ℕ → Bool) (k : ℕ) → k < 32 → ((j : ℕ) → j < 32 → f j ≡ h j) → ((j : ℕ) → j < 32 → g j ≡ i j) → is_unpaired 32 f g k ≡ is_unpaired 32 h i k
unpaired_same f g h i k lt p q = elim (cases_lt (k + 1) 32) [
  | inl less ↦ rw (p k lt, q k lt, q (k + 1) less, before k lt) refl
  | inr more ↦ (let out : ltb (k + 1) 32 ≡ false = le-ltb (k + 1) 32 more in rw (p k lt, q k lt, before k lt, out) (never (h k) (g (k + 1)) (i (k + 1)) (i k && not (holds_before h k))))
]
  where
    before : (k : ℕ) → k < 32 → holds_before f k ≡ holds_before h k
    before zero lt = refl
    before (suc k) lt = p k (omega arith)

    never : (a b c d : Bool) → (a && (false && not b)) || d ≡ (a && (false && not c)) || d
    never true b c d = refl
    never false b c d = refl

module _ (low high lone : List ℕ) (p : IsVector 32 low) (q : IsVector 32 high)
    (is : AreLanes 32 lone (λ k. ones (is_unpaired 32 (λ i. eqb (get_or high i 0 / 4) 0x36) (λ i. eqb (get_or high i 0 / 4) 0x37) k))) where
  abbrev unit : ℕ → ℕ
  unit = lane_unit low high

  lone_told : (k : ℕ) → k < 32 → get_or lone k 0 ≡ ones (is_lone 32 unit k)
  lone_told k lt =
      is.each k lt
      ∙ ap ones (unpaired_same _ _ _ _ k lt (λ j less. leading_is (get_or high j 0) (get_or low j 0) (lane_fits low j p less)) (λ j less. trailing_is (get_or high j 0) (get_or low j 0) (lane_fits low j p less)))

  differs_told : (k : ℕ) → k < 32 → not (eqb (get_or lone k 0) 0) ≡ is_lone 32 unit k
  differs_told k lt = ap (λ x. not (eqb x 0)) (lone_told k lt) ∙ told (is_lone 32 unit k)

  abbrev chosen_from : ℕ → List ℕ → List ℕ
  chosen_from byte v = where_passed 32 (λ a b. not (eqb a b)) lone 0 (replicate 32 byte) v

  chosen_wide : (byte : ℕ) (v : List ℕ) → IsVector 32 v → length (chosen_from byte v) ≡ 32
  chosen_wide byte v r = where_passed_len 32 (λ a b. not (eqb a b)) lone 0 (replicate 32 byte) v is.wide (length-replicate 32 byte) r.0

  chosen_is : (byte : ℕ) (v : List ℕ) → IsVector 32 v → (k : ℕ) → k < 32 → get_or (chosen_from byte v) k 0 ≡ cond (is_lone 32 unit k) byte (get_or v k 0)
  chosen_is byte v r k lt =
      where_passed_at 32 (λ a b. not (eqb a b)) lone 0 (replicate 32 byte) v is.wide (length-replicate 32 byte) r.0 k lt
      ∙ ap₂ (λ b x. cond b x (get_or v k 0)) (differs_told k lt) (get_or-replicate 32 k byte 0 lt)

  chosen_fits : (byte : ℕ) → byte < 256 → (v : List ℕ) → IsVector 32 v → (k : ℕ) → k < 32 → get_or (chosen_from byte v) k 0 < 256
  chosen_fits byte below v r k lt = rw (chosen_is byte v r k lt) (either (is_lone 32 unit k))
    where
      either : (b : Bool) → cond b byte (get_or v k 0) < 256
      either true = below
      either false = lane_fits v k r lt

  made_at : (k : ℕ) → k < 32 → lane_unit (chosen_from 0xFD low) (chosen_from 0xFF high) k ≡ mended_unit 32 unit k
  made_at k lt = ap₂ (λ l h. h * 256 + l) (chosen_is 0xFD low p k lt) (chosen_is 0xFF high q k lt) ∙ either (is_lone 32 unit k)
    where
      either : (b : Bool) → cond b 0xFF (get_or high k 0) * 256 + cond b 0xFD (get_or low k 0) ≡ cond b 0xFFFD (unit k)
      either true = refl
      either false = refl

  counted : count_ones (passed_mask 32 (λ a b. not (eqb a b)) lone 0) ≡ count_from (is_lone 32 unit) 0 32
  counted =
      ap count_ones (mask_is (lit≤ tt) (λ a b. not (eqb a b)) lone 0 is.wide) ∙ ones_counted (is_lone 32 unit) lone 0 (λ k lt. let z : 0 + k ≡ k = omega arith in rw z (lone_told k (omega (arith, is.wide))))
      ∙ ap (count_from (is_lone 32 unit) 0) is.wide

  module _ (len : ℕ) (least : 31 ≤ len) (most : len ≤ 32) (last : len + 1 ≡ 32 → eqb (get_or high 31 0 / 4) 0x36 ≡ true) (all : len ≡ 32 → eqb (get_or high 31 0 / 4) 0x36 ≡ false) where
    leads_last : is_leading_surrogate (unit 31) ≡ eqb (get_or high 31 0 / 4) 0x36
    leads_last = sym (leading_is (get_or high 31 0) (get_or low 31 0) (lane_fits low 31 p (lit< tt)))

    abbrev made : MendedUnits
    made = record { low = chosen_from 0xFD low; high = chosen_from 0xFF high; len = len; replaced = count_ones (passed_mask 32 (λ a b. not (eqb a b)) lone 0) }

    abbrev made_unit : ℕ → ℕ
    made_unit = lane_unit made.low made.high

    whole : len ≡ 32 → MendsUnits low high made
    whole e = record {
      text = record {
        low_len = chosen_wide 0xFD low p;
        high_len = chosen_wide 0xFF high q;
        low_fits = chosen_fits 0xFD (lit< tt) low p;
        high_fits = chosen_fits 0xFF (lit< tt) high q;
        least = least;
        most = most;
        text = rw e (text_of_all unit made_unit made_at (leads_last ∙ all e));
        last = λ short. absurd (omega arith);
      };
      units = made_at;
      count = rw e counted;
    }

    short : len ≡ 31 → MendsUnits low high made
    short e =
        let lead : is_leading_surrogate (unit 31) ≡ true = leads_last ∙ last (omega arith) in
        record {
          text = record {
            low_len = chosen_wide 0xFD low p;
            high_len = chosen_wide 0xFF high q;
            low_fits = chosen_fits 0xFD (lit< tt) low p;
            high_fits = chosen_fits 0xFF (lit< tt) high q;
            least = least;
            most = most;
            text = rw e (text_of_others unit made_unit made_at lead);
            last = λ _. rw (e, last_kept unit made_unit made_at lead) lead;
          };
          units = made_at;
          count = rw e (counted ∙ count_less (is_lone 32 unit) 0 31 (last_is_not_lone unit made_unit made_at lead));
        }

    pub mends : MendsUnits low high made
    mends = elim (cases_lt len 32) [ inl less ↦ short (omega arith) | inr more ↦ whole (omega arith) ]
