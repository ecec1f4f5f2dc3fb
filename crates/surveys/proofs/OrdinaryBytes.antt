-- Ordinary bytes add nothing to the counts of 00, of other controls and of units.
use Rattle.std.proofs.Common.{◌≡◌, ℕ, zero, suc, ◌+◌, ◌-◌, ◌*◌, ◌<◌, ◌≤◌, Bool, true, false, not, ◌||◌, leb, ltb, bit_xor, bit_or, List, [], ◌∷◌, ◌++◌, Some, None, count_by, length, take, drop, get_or, refl, sym, ap, ◌∙◌, arith, append_assoc, inl, inr, ltb-true, zero-add, true≢false, length-take, length-drop}
use Rattle.std.proofs.lemmas.Bool.{and_parts, cases_lt}
use Rattle.std.proofs.lemmas.Bool.Decides.{nat_tests}
use Rattle.utf_base.specs.Units.{is_leading_surrogate, is_trailing_surrogate}
use Rattle.utf_lanes.proofs.PairTables.{at_each}
use Rattle.utf_lanes.specs.AsciiTexts.{AreAscii}
use Rattle.utf_lanes.specs.BytePairs.{unit_of, units_of}
use Rattle.surveys.specs.declared.unit_counts.UnitCounts.{UnitCounts}
use Rattle.surveys.specs.declared.unit_counts.UnitParts.{UnitParts}
use Rattle.surveys.specs.SurveyOrdinary.{AreAll, AreOrdinary, is_after_ordinary, is_odd_ordinary, is_ordinary, is_ordinary_ascii, is_uncontrolled}
use Rattle.surveys.specs.SurveyUnits.{is_plain, is_stray, is_unpaired, unpaired_after, units_from, units_with}
use Rattle.std.proofs.lemmas.List.{get_or-drop, get_or-take, take-append-drop}
use Rattle.surveys.proofs.ClassCounts.{counted_cons}
use Rattle.surveys.proofs.FedUnits.{last_at}
use Rattle.surveys.proofs.UncontrolledBytes.{AllUncontrolled}

-- What is ordinary.

shown : ℕ → Bool
shown b = ltb (bit_xor b 0x17) 0x1A || (leb 0xF8 (bit_or b 0x20) || is_ordinary b)

pub ordinary_shown : (b least most : ℕ) → b < 256 → least ≤ bit_xor b 0x17 → bit_or b 0x20 ≤ most → 0x1A ≤ least → most < 0xF8 → is_ordinary b ≡ true
unfolding shown is_ordinary
ordinary_shown b least most fits low high l m =
    third (ltb (bit_xor b 0x17) 0x1A) (leb 0xF8 (bit_or b 0x20)) (is_ordinary b) (at_each shown 256 refl b fits) (grind (arith, nat_tests)) (grind (arith, nat_tests))
  where
    third : (p q r : Bool) → (p || (q || r)) ≡ true → p ≡ false → q ≡ false → r ≡ true
    third p q r e f g = rw (f, g) at e

shown_ascii : ℕ → Bool
shown_ascii b = ltb (bit_xor b 0x97) 0x9A || is_ordinary_ascii b

pub ordinary_ascii_shown : (b least : ℕ) → b < 256 → least ≤ bit_xor b 0x97 → 0x9A ≤ least → is_ordinary_ascii b ≡ true
unfolding shown_ascii is_ordinary
ordinary_ascii_shown b least fits low l = second (ltb (bit_xor b 0x97) 0x9A) (is_ordinary_ascii b) (at_each shown_ascii 256 refl b fits) (grind (arith, nat_tests))
  where
    second : (p q : Bool) → (p || q) ≡ true → p ≡ false → q ≡ true
    second p q e f = rw f at e

-- ordinary ASCII is ordinary, and ASCII
pub ascii_ordinary : (xs : List ℕ) (i j : ℕ) → AreAll is_ordinary_ascii xs i j → AreAll is_ordinary xs i j
ascii_ordinary xs i j all k ge lt = let b = get_or xs k 0 in (and_parts (is_ordinary b) (ltb b 0x80) (all k ge lt)).0

pub ordinary_ascii : (xs : List ℕ) (i j : ℕ) → AreAll is_ordinary_ascii xs i j → AreAscii xs i j
ordinary_ascii xs i j all k ge lt = let b = get_or xs k 0 in ltb-true b 0x80 (and_parts (is_ordinary b) (ltb b 0x80) (all k ge lt)).1

-- What an ordinary byte is not.
pub record IsOrdinary (b : ℕ) : Type 0 where
  pub least : 7 ≤ b
  pub most : b < 0xFF
  pub no_control : 14 ≤ b → 32 ≤ b
  pub no_surrogate : 0xD8 ≤ b → 0xE0 ≤ b

pub ordinary : (b : ℕ) → is_ordinary b ≡ true → IsOrdinary b
unfolding is_ordinary
ordinary b e = record { least = grind (arith, nat_tests); most = grind (arith, nat_tests); no_control = λ h. grind (arith, nat_tests); no_surrogate = λ h. grind (arith, nat_tests) }

-- all bytes of a list are ordinary
abbrev pub All : List ℕ → Type 0
All xs = AreOrdinary xs 0 (length xs)

all_rest : (x : ℕ) (xs : List ℕ) → All (x ∷ xs) → All xs
all_rest x xs all k ge lt = all (suc k) (omega arith) (omega arith)

first_is : (x : ℕ) (xs : List ℕ) → All (x ∷ xs) → IsOrdinary x
first_is x xs all = ordinary x (all 0 (omega arith) (omega arith))

no_control : (b : ℕ) → IsOrdinary b → is_uncontrolled b ≡ true
unfolding is_uncontrolled
no_control b o =
    let least = o.least in
    let most = o.most in
    elim (cases_lt b 14) [
      | inl few ↦ grind (arith, nat_tests)
      | inr more ↦ (let past = o.no_control more in grind (arith, nat_tests))
    ]

pub ordinary_uncontrolled : (xs : List ℕ) → All xs → AllUncontrolled xs
ordinary_uncontrolled xs all k ge lt = no_control (get_or xs k 0) (ordinary (get_or xs k 0) (all k ge lt))

-- Units of ordinary bytes.

-- A unit that no count takes, if the one before begins no pair.
record IsQuiet (u : ℕ) : Type 0 where
  plain : is_plain u ≡ false
  stray : is_stray u ≡ false
  leading : is_leading_surrogate u ≡ false
  trailing : is_trailing_surrogate u ≡ false

quiet_of : (high low : ℕ) → IsOrdinary high → IsOrdinary low → IsQuiet (high * 256 + low)
unfolding is_plain is_stray
quiet_of high low h l =
    let a = h.least in
    let b = h.most in
    let c = l.least in
    let d = l.most in
    let past = h.no_surrogate in
    record {
      plain = grind (arith, nat_tests);
      stray = grind (arith, nat_tests);
      leading = elim (cases_lt high 0xD8) [ inl less ↦ grind (arith, nat_tests) | inr more ↦ (let p = past more in grind (arith, nat_tests)) ];
      trailing = elim (cases_lt high 0xD8) [ inl less ↦ grind (arith, nat_tests) | inr more ↦ (let p = past more in grind (arith, nat_tests)) ];
    }

quiet : (high_first : Bool) (a b : ℕ) → IsOrdinary a → IsOrdinary b → IsQuiet (unit_of high_first a b)
quiet true a b x y = quiet_of a b x y
quiet false a b x y = quiet_of b a y x

-- after units that begin no pair the same units are unpaired
same_after : (u v : ℕ) (us : List ℕ) → is_leading_surrogate u ≡ false → is_leading_surrogate v ≡ false → unpaired_after u us ≡ unpaired_after v us
unfolding unpaired_after is_unpaired
same_after u v [] p q = refl
same_after u v (x ∷ us) p q = rw (p, q) refl

none_unpaired : (before u : ℕ) (us : List ℕ) → is_leading_surrogate before ≡ false → IsQuiet u → unpaired_after before (u ∷ us) ≡ unpaired_after before us
unfolding unpaired_after is_unpaired
none_unpaired before u us p q = rw (p, q.trailing) (zero-add (unpaired_after u us) ∙ same_after u before us q.leading p)

one_quiet : (c : UnitCounts) (before u : ℕ) (us : List ℕ) → is_leading_surrogate before ≡ false → IsQuiet u → units_from c before (u ∷ us) ≡ units_from c before us
unfolding units_from
one_quiet c before u us p q =
    let plain : count_by is_plain (u ∷ us) ≡ count_by is_plain us = counted_cons is_plain u us ∙ rw q.plain (zero-add (count_by is_plain us)) in
    let stray : count_by is_stray (u ∷ us) ≡ count_by is_stray us = counted_cons is_stray u us ∙ rw q.stray (zero-add (count_by is_stray us)) in
    rw (plain, stray, none_unpaired before u us p q) refl

-- pairs of ordinary bytes before others
pairs_quiet : (high_first : Bool) (c : UnitCounts) (before n : ℕ) (xs rest : List ℕ) → length xs ≡ 2 * n → All xs → is_leading_surrogate before ≡ false
    → units_from c before (units_of high_first (xs ++ rest)) ≡ units_from c before (units_of high_first rest)
pairs_quiet high_first c before zero [] rest e all p = refl
pairs_quiet high_first c before zero (a ∷ xs) rest e all p = absurd (omega arith)
pairs_quiet high_first c before (suc n) [] rest e all p = absurd (omega arith)
pairs_quiet high_first c before (suc n) (a ∷ []) rest e all p = absurd (omega arith)
pairs_quiet high_first c before (suc n) (a ∷ b ∷ xs) rest e all p =
    let more = all_rest a (b ∷ xs) all in
    one_quiet c before (unit_of high_first a b) (units_of high_first (xs ++ rest)) p (quiet high_first a b (first_is a (b ∷ xs) all) (first_is b xs more))
    ∙ pairs_quiet high_first c before n xs rest (omega arith) (all_rest b xs more) p

-- Ordinary bytes after others.

calm : (s : UnitParts) → is_after_ordinary s ≡ true → is_leading_surrogate s.before ≡ false
unfolding is_after_ordinary
calm s e = by_test (is_leading_surrogate s.before) refl
  where
    by_test : (b : Bool) → is_leading_surrogate s.before ≡ b → is_leading_surrogate s.before ≡ false
    by_test false h = h
    by_test true h = absurd (true≢false (sym (rw h at e)))

odd_is : (s : UnitParts) (a : ℕ) → is_after_ordinary s ≡ true → s.odd ≡ Some a → is_ordinary a ≡ true
unfolding is_after_ordinary
odd_is s a e some = let odd = (and_parts (not (is_leading_surrogate s.before)) (is_odd_ordinary s.odd) e).1 in rw some at odd

pub skips : (high_first : Bool) (s : UnitParts) (n : ℕ) (xs later : List ℕ) → length xs ≡ 2 * n → All xs → is_after_ordinary s ≡ true → s.odd ≡ None
    → units_with high_first s later ≡ units_with high_first s (xs ++ later)
unfolding units_with
skips high_first s n xs later even all after none = rw none (sym (pairs_quiet high_first s.counts s.before n xs later even all (calm s after)))

-- the last byte is that of a unit which goes on
pub skips-odd : (high_first : Bool) (s t : UnitParts) (a n : ℕ) (xs later : List ℕ) → length xs ≡ 2 * n → 0 < n → All xs → is_after_ordinary s ≡ true → s.odd ≡ Some a
    → t.odd ≡ Some (get_or xs (length xs - 1) 0) → t.counts ≡ s.counts → t.before ≡ s.before → units_with high_first t later ≡ units_with high_first s (xs ++ later)
unfolding units_with
skips-odd high_first s t a n xs later even some all after odd odd' counts before =
    let m = length xs - 1 in
    let z = get_or xs m 0 in
    let front = a ∷ take m xs in
    let last : drop m xs ≡ z ∷ [] = last_at xs m (omega arith) in
    let whole : xs ++ later ≡ take m xs ++ (z ∷ later)
    = ap (λ y. y ++ later) (sym (take-append-drop m xs) ∙ ap (λ y. take m xs ++ y) last) ∙ append_assoc (take m xs) (z ∷ []) later in
    let width : length front ≡ 2 * n = omega (arith, length-take m xs) in
    let first : (k : ℕ) → 0 ≤ k → k < length front → is_ordinary (get_or front k 0) ≡ true = front_all m (omega arith) (odd_is s a after odd) in
    rw (odd, odd', counts, before) (sym (ap (λ y. units_from s.counts s.before (units_of high_first (a ∷ y))) whole ∙ pairs_quiet high_first s.counts s.before n front (z ∷ later) width first (calm s after)))
  where
    front_all : (m : ℕ) → m ≤ length xs → is_ordinary a ≡ true → (k : ℕ) → 0 ≤ k → k < length (a ∷ take m xs) → is_ordinary (get_or (a ∷ take m xs) k 0) ≡ true
    front_all m le first zero ge lt = first
    front_all m le first (suc k) ge lt =
        let inside : k < m = omega (arith, length-take m xs) in
        rw (get_or-take m xs k 0 inside) (all k (omega arith) (omega arith))

pub ordinary_drop : (i : ℕ) (xs : List ℕ) → All xs → All (drop i xs)
ordinary_drop i xs all k ge lt = rw (get_or-drop i xs k 0) (all (i + k) (omega arith) (omega (arith, length-drop i xs)))

-- the bytes of a class after others
pub all_on : (p : ℕ → Bool) (xs : List ℕ) (i j n : ℕ) → AreAll p xs i j → AreAll p (take n (drop j xs)) 0 (length (take n (drop j xs))) → j + n ≤ length xs → AreAll p xs i (j + n)
all_on p xs i j n before block within k ge lt = elim (cases_lt k j) [
  | inl less ↦ before k ge less
  | inr more ↦ (let at : j + (k - j) ≡ k = omega arith in
      let width : length (take n (drop j xs)) ≡ n = omega (arith, length-take n (drop j xs), length-drop j xs) in
      rw (get_or-take n (drop j xs) (k - j) 0 (omega arith), get_or-drop j xs (k - j) 0, at) at (block (k - j) (omega arith) (omega arith)))
]
