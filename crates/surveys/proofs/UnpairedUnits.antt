-- Unpaired units of bytes, by the high byte of each.
use Rattle.std.proofs.Common.{◌≡◌, ℕ, zero, suc, ◌+◌, ◌-◌, ◌*◌, ◌/◌, ◌%◌, ◌<◌, ◌≤◌, Bool, true, false, ◌&&◌, leb, ltb, List, [], ◌∷◌, ◌++◌, count_by, length, get_or, drop, refl, sym, ap, ap₂, ◌∙◌, arith, add_assoc, None, inl, inr, zero-add}
use Rattle.std.proofs.lemmas.Bool.{cases_lt}
use Rattle.std.proofs.lemmas.Bool.Decides.{nat_tests}
use Rattle.utf_base.specs.Units.{is_leading_surrogate, is_trailing_surrogate}
use Rattle.utf_lanes.specs.BytePairs.{high_place, unit_of, units_of}
use Rattle.surveys.specs.declared.unit_counts.UnitCounts.{UnitCounts}
use Rattle.surveys.specs.declared.unit_counts.UnitParts.{UnitParts}
use Rattle.surveys.specs.SurveyCounts.{number, wrapped}
use Rattle.surveys.specs.SurveyUnits.{AddsUnpaired, FeedsUnits, SeesUnit, are_highs_unpaired, is_plain, is_stray, is_unpaired, unpaired_after, unpaired_highs, units_from, units_with}
use Rattle.surveys.proofs.Counting.{wrapped-add}
use Rattle.surveys.proofs.FedRare.{none_on}
use Rattle.surveys.proofs.FedUnits.{units_joined}
use Rattle.surveys.proofs.UncontrolledBytes.{AllUncontrolled, front_is, no_plain, no_stray, rest_is}

leading_is : (h l : ℕ) → l < 256 → is_leading_surrogate (h * 256 + l) ≡ (leb 0xD8 h && ltb h 0xDC)
leading_is h l lt = elim (cases_lt h 0xD8) [
  | inl low ↦ grind (arith, nat_tests)
  | inr more ↦ elim (cases_lt h 0xDC) [ inl inside ↦ grind (arith, nat_tests) | inr past ↦ grind (arith, nat_tests) ]
]

trailing_is : (h l : ℕ) → l < 256 → is_trailing_surrogate (h * 256 + l) ≡ (leb 0xDC h && ltb h 0xE0)
trailing_is h l lt = elim (cases_lt h 0xDC) [
  | inl low ↦ grind (arith, nat_tests)
  | inr more ↦ elim (cases_lt h 0xE0) [ inl inside ↦ grind (arith, nat_tests) | inr past ↦ grind (arith, nat_tests) ]
]

highs_are : (a x c y : ℕ) → x < 256 → y < 256 → is_unpaired (a * 256 + x) (c * 256 + y) ≡ are_highs_unpaired a c
unfolding is_unpaired are_highs_unpaired
highs_are a x c y lt lt' = rw (leading_is a x lt, trailing_is c y lt') refl

below : (x : ℕ) (xs : List ℕ) → AllUncontrolled (x ∷ xs) → x < 256
below x xs all = let most = (front_is x xs all).most in omega arith

-- high bytes first
adds_first : (n a b : ℕ) (ys : List ℕ) → length ys ≡ 2 * n → b < 256 → AllUncontrolled ys
    → AddsUnpaired (a * 256 + b) (units_of true ys) (unpaired_highs (a ∷ b ∷ ys)) (get_or (a ∷ b ∷ ys) (2 * n) 0 * 256 + get_or (a ∷ b ∷ ys) (2 * n + 1) 0)
unfolding unpaired_after unpaired_highs
adds_first zero a b [] e fits all later = sym (zero-add (unpaired_after (a * 256 + b) later))
adds_first zero a b (c ∷ ys) e fits all later = absurd (omega arith)
adds_first (suc n) a b [] e fits all later = absurd (omega arith)
adds_first (suc n) a b (c ∷ []) e fits all later = absurd (omega arith)
adds_first (suc n) a b (c ∷ d ∷ ys) e fits all later =
    let more = rest_is c (d ∷ ys) all in
    let two : 2 * suc n ≡ suc (suc (2 * n)) = omega arith in
    let three : 2 * suc n + 1 ≡ suc (suc (2 * n + 1)) = omega arith in
    let z = get_or (c ∷ d ∷ ys) (2 * n) 0 * 256 + get_or (c ∷ d ∷ ys) (2 * n + 1) 0 in
    let rest = adds_first n c d ys (omega arith) (below d ys more) (rest_is d ys more) later in
    rw (three, two, highs_are a b c d fits (below d ys more))
    (ap (λ m. number (are_highs_unpaired a c) + m) rest ∙ sym (add_assoc (number (are_highs_unpaired a c)) (unpaired_highs (c ∷ d ∷ ys)) (unpaired_after z later)))

-- high bytes second
adds_second : (n a b : ℕ) (ys : List ℕ) → length ys ≡ 2 * n → a < 256 → AllUncontrolled ys
    → AddsUnpaired (b * 256 + a) (units_of false ys) (unpaired_highs (b ∷ ys)) (get_or (a ∷ b ∷ ys) (2 * n + 1) 0 * 256 + get_or (a ∷ b ∷ ys) (2 * n) 0)
unfolding unpaired_after unpaired_highs
adds_second zero a b [] e fits all later = sym (zero-add (unpaired_after (b * 256 + a) later))
adds_second zero a b (c ∷ ys) e fits all later = absurd (omega arith)
adds_second (suc n) a b [] e fits all later = absurd (omega arith)
adds_second (suc n) a b (c ∷ []) e fits all later = absurd (omega arith)
adds_second (suc n) a b (c ∷ d ∷ ys) e fits all later =
    let more = rest_is c (d ∷ ys) all in
    let two : 2 * suc n ≡ suc (suc (2 * n)) = omega arith in
    let three : 2 * suc n + 1 ≡ suc (suc (2 * n + 1)) = omega arith in
    let z = get_or (c ∷ d ∷ ys) (2 * n + 1) 0 * 256 + get_or (c ∷ d ∷ ys) (2 * n) 0 in
    let rest = adds_second n c d ys (omega arith) (below c (d ∷ ys) all) (rest_is d ys more) later in
    rw (three, two, highs_are b a d c fits (below c (d ∷ ys) all))
    (ap (λ m. number (are_highs_unpaired b d) + m) rest ∙ sym (add_assoc (number (are_highs_unpaired b d)) (unpaired_highs (d ∷ ys)) (unpaired_after z later)))

pub adds_highs : (high_first : Bool) (n a b : ℕ) (ys : List ℕ) → length ys ≡ 2 * n → AllUncontrolled (a ∷ b ∷ ys)
    → AddsUnpaired (unit_of high_first a b) (units_of high_first ys) (unpaired_highs (drop (high_place high_first) (a ∷ b ∷ ys))) (unit_of high_first (get_or (a ∷ b ∷ ys) (2 * n) 0) (get_or (a ∷ b ∷ ys) (2 * n + 1) 0))
adds_highs true n a b ys e all = let more = rest_is a (b ∷ ys) all in adds_first n a b ys e (below b ys more) (rest_is b ys more)
adds_highs false n a b ys e all = adds_second n a b ys e (below a (b ∷ ys) all) (rest_is b ys (rest_is a (b ∷ ys) all))

-- the counts with those of units of which only unpaired ones are counted
pub units_from-unpaired : (c d : UnitCounts) (before last n : ℕ) (us later : List ℕ) → count_by is_plain us ≡ 0 → count_by is_stray us ≡ 0 → d.plain ≡ c.plain → d.stray ≡ c.stray
    → d.unpaired ≡ wrapped (c.unpaired + n) → AddsUnpaired before us n last → units_from d last later ≡ units_from c before (us ++ later)
unfolding units_from
units_from-unpaired c d before last n us later no_plain no_stray plain stray unpaired adds =
    rw (plain, stray, unpaired, none_on is_plain us later no_plain, none_on is_stray us later no_stray, adds later) (simp (wrapped-add, add_assoc))

pub fed_unpaired : (high_first : Bool) (s m t : UnitParts) (part : List ℕ) (n : ℕ) → s.odd ≡ None → t.odd ≡ None → 2 ≤ length part → length part % 2 ≡ 0 → AllUncontrolled part
    → n ≡ unpaired_highs (drop (high_place high_first) part) → SeesUnit s (unit_of high_first (get_or part 0 0) (get_or part 1 0)) m → m.before ≡ unit_of high_first (get_or part 0 0) (get_or part 1 0)
    → t.counts.plain ≡ m.counts.plain → t.counts.stray ≡ m.counts.stray → t.counts.unpaired ≡ wrapped (m.counts.unpaired + n)
    → t.before ≡ unit_of high_first (get_or part (length part - 2) 0) (get_or part (length part - 1) 0) → FeedsUnits high_first s part t
unfolding units_with
fed_unpaired high_first s m t [] n none none' some even all e sees before plain stray unpaired last later = absurd (omega arith)
fed_unpaired high_first s m t (a ∷ []) n none none' some even all e sees before plain stray unpaired last later = absurd (omega arith)
fed_unpaired high_first s m t (a ∷ b ∷ ys) n none none' some even all e sees before plain stray unpaired last later =
    let k = length ys / 2 in
    let twice : length ys ≡ 2 * k = omega arith in
    let one_before : length (a ∷ b ∷ ys) - 2 ≡ 2 * k = omega arith in
    let one : length (a ∷ b ∷ ys) - 1 ≡ 2 * k + 1 = omega arith in
    let us = units_of high_first ys in
    let z = unit_of high_first (get_or (a ∷ b ∷ ys) (2 * k) 0) (get_or (a ∷ b ∷ ys) (2 * k + 1) 0) in
    let to : t.before ≡ z = last ∙ ap₂ (λ i j. unit_of high_first (get_or (a ∷ b ∷ ys) i 0) (get_or (a ∷ b ∷ ys) j 0)) one_before one in
    let rest = rest_is b ys (rest_is a (b ∷ ys) all) in
    let counted : units_from t.counts z (units_of high_first later) ≡ units_from m.counts (unit_of high_first a b) (us ++ units_of high_first later)
    = units_from-unpaired m.counts t.counts (unit_of high_first a b) z (unpaired_highs (drop (high_place high_first) (a ∷ b ∷ ys))) us (units_of high_first later) (no_plain high_first ys rest) (no_stray high_first ys rest) plain
    stray (unpaired ∙ ap (λ i. wrapped (m.counts.unpaired + i)) e) (adds_highs high_first k a b ys twice all) in
    rw (none, none')
    (ap (λ u. units_from t.counts u (units_of high_first later)) to ∙ counted ∙ ap (λ u. units_from m.counts u (us ++ units_of high_first later)) (sym before) ∙ sees (us ++ units_of high_first later)
    ∙ ap (λ w. units_from s.counts s.before (unit_of high_first a b ∷ w)) (sym (units_joined high_first k ys later twice)))
