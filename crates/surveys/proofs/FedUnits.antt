-- Counts of units of input that comes in parts.
use Rattle.std.proofs.Common.{◌≡◌, ℕ, zero, suc, ◌+◌, ◌-◌, ◌*◌, ◌<◌, ◌≤◌, Bool, List, [], ◌∷◌, ◌++◌, Some, None, count_by, length, take, drop, get_or, refl, sym, ap, ◌∙◌, arith, add_assoc, add-zero, zero-add}
use Rattle.std.proofs.lemmas.Grind.{common_steps}
use Rattle.std.proofs.lemmas.List.{drop_all}
use Rattle.std.proofs.lemmas.List.Sums.{sum_by-append, sum_by-cons}
use Rattle.utf_lanes.specs.BytePairs.{unit_of, units_of}
use Rattle.surveys.specs.declared.unit_counts.UnitCounts.{UnitCounts}
use Rattle.surveys.specs.declared.unit_counts.UnitParts.{UnitParts}
use Rattle.surveys.specs.SurveyCounts.{number, wrapped}
use Rattle.surveys.specs.SurveyUnits.{AddsUnpaired, SeesUnit, SeesUnits, is_plain, is_stray, is_unpaired, unpaired_after, units_from, units_with}
use Rattle.surveys.proofs.ClassCounts.{counted_cons, number_few}
use Rattle.surveys.proofs.Counting.{wrapped-add}

-- the counts with one unit more
pub units_from-seen : (c d : UnitCounts) (before u : ℕ) (us : List ℕ) → d.plain ≡ wrapped (c.plain + number (is_plain u)) → d.stray ≡ wrapped (c.stray + number (is_stray u))
    → d.unpaired ≡ wrapped (c.unpaired + number (is_unpaired before u)) → units_from d u us ≡ units_from c before (u ∷ us)
unfolding units_from unpaired_after
units_from-seen c d before u us plain stray unpaired = rw (plain, stray, unpaired) (simp (wrapped-add, sum_by-cons, add_assoc))

pub units_with-pair : (high_first : Bool) (s t : UnitParts) (a b : ℕ) (rest : List ℕ) → s.odd ≡ None → t.odd ≡ None → SeesUnit s (unit_of high_first a b) t
    → units_with high_first t rest ≡ units_with high_first s (a ∷ b ∷ rest)
unfolding units_with
units_with-pair high_first s t a b rest none none' sees = rw (none, none') (sees (units_of high_first rest))

pub units_with-odd : (high_first : Bool) (s t : UnitParts) (a b : ℕ) (rest : List ℕ) → s.odd ≡ Some a → t.odd ≡ None → SeesUnit s (unit_of high_first a b) t
    → units_with high_first t rest ≡ units_with high_first s (b ∷ rest)
unfolding units_with
units_with-odd high_first s t a b rest some none sees = rw (some, none) (sees (units_of high_first rest))

-- a byte that is carried over is the first of what follows
pub units_with-held : (high_first : Bool) (s t : UnitParts) (b : ℕ) (later : List ℕ) → s.odd ≡ None → t.odd ≡ Some b → t.counts ≡ s.counts → t.before ≡ s.before
    → units_with high_first t later ≡ units_with high_first s (b ∷ later)
unfolding units_with
units_with-held high_first s t b later none some counts before = rw (none, some, counts, before) refl

-- the first elements from an offset on

pub one_at : (part : List ℕ) (i : ℕ) → i < length part → drop i part ≡ get_or part i 0 ∷ drop (i + 1) part
one_at part i lt = grind (arith, common_steps)

pub two_at : (part : List ℕ) (i : ℕ) → i + 2 ≤ length part → drop i part ≡ get_or part i 0 ∷ get_or part (i + 1) 0 ∷ drop (i + 2) part
two_at part i le =
    one_at part i (omega arith) ∙ ap (λ z. get_or part i 0 ∷ z) (one_at part (i + 1) (omega arith) ∙ ap (λ k. get_or part (i + 1) 0 ∷ drop k part) (omega arith))

pub last_at : (part : List ℕ) (i : ℕ) → i + 1 ≡ length part → drop i part ≡ get_or part i 0 ∷ []
last_at part i end = one_at part i (omega arith) ∙ ap (λ z. get_or part i 0 ∷ z) (drop_all (i + 1) part (omega arith))

pub rest_of : (part : List ℕ) → take (length part - 1) (drop 1 part) ≡ drop 1 part
rest_of part = grind (arith, common_steps)

-- the counts if no unit follows
pub units_from-none : (c d : UnitCounts) (before : ℕ) → d.plain ≡ wrapped c.plain → d.stray ≡ wrapped c.stray → d.unpaired ≡ wrapped c.unpaired → d ≡ units_from c before []
unfolding units_from unpaired_after
units_from-none c d before plain stray unpaired = simp add-zero (rw (← plain, ← stray, ← unpaired) refl)

-- Counts of a block.

-- the counts with those of some units more
pub units_from-all : (c d : UnitCounts) (before last n : ℕ) (us later : List ℕ) → d.plain ≡ wrapped (c.plain + count_by is_plain us) → d.stray ≡ wrapped (c.stray + count_by is_stray us)
    → d.unpaired ≡ wrapped (c.unpaired + n) → AddsUnpaired before us n last → units_from d last later ≡ units_from c before (us ++ later)
unfolding units_from
units_from-all c d before last n us later plain stray unpaired adds = rw (plain, stray, unpaired, adds later) (simp (wrapped-add, sum_by-append, add_assoc))

-- the units of an even number of bytes, followed by more
pub units_joined : (high_first : Bool) (n : ℕ) (xs rest : List ℕ) → length xs ≡ 2 * n → units_of high_first (xs ++ rest) ≡ units_of high_first xs ++ units_of high_first rest
units_joined high_first zero [] rest e = refl
units_joined high_first zero (a ∷ xs) rest e = absurd (omega arith)
units_joined high_first (suc n) [] rest e = absurd (omega arith)
units_joined high_first (suc n) (a ∷ []) rest e = absurd (omega arith)
units_joined high_first (suc n) (a ∷ b ∷ xs) rest e = ap (λ z. unit_of high_first a b ∷ z) (units_joined high_first n xs rest (omega arith))

pub units_with-block : (high_first : Bool) (s t : UnitParts) (n : ℕ) (xs rest : List ℕ) → s.odd ≡ None → t.odd ≡ None → length xs ≡ 2 * n → SeesUnits s (units_of high_first xs) t
    → units_with high_first t rest ≡ units_with high_first s (xs ++ rest)
unfolding units_with
units_with-block high_first s t n xs rest none none' even sees =
    rw (none, none') (sees (units_of high_first rest) ∙ sym (ap (units_from s.counts s.before) (units_joined high_first n xs rest even)))

-- What was counted in the first k of some units, which follow a given one; the others are counted alike.
pub record Counted (before : ℕ) (us : List ℕ) (k plain stray unpaired last : ℕ) : Type 0 where
  pub all_plain : plain + count_by is_plain (drop k us) ≡ count_by is_plain us
  pub all_stray : stray + count_by is_stray (drop k us) ≡ count_by is_stray us
  pub all_unpaired : (later : List ℕ) → unpaired + unpaired_after last (drop k us ++ later) ≡ unpaired_after before (us ++ later)
  pub few_plain : plain ≤ k
  pub few_stray : stray ≤ k
  pub few_unpaired : unpaired ≤ k

pub Counted-none : (before : ℕ) (us : List ℕ) → Counted before us 0 0 0 0 before
Counted-none before us =
    record { all_plain = zero-add _; all_stray = zero-add _; all_unpaired = λ later. zero-add _; few_plain = omega arith; few_stray = omega arith; few_unpaired = omega arith }

pub Counted-more : (before : ℕ) (us : List ℕ) (k plain stray unpaired last u a b c : ℕ) → k < length us → get_or us k 0 ≡ u → a ≡ number (is_plain u) → b ≡ number (is_stray u)
    → c ≡ number (is_unpaired last u) → Counted before us k plain stray unpaired last → Counted before us (k + 1) (plain + a) (stray + b) (unpaired + c) u
unfolding unpaired_after
Counted-more before us k plain stray unpaired last u a b c lt at p s n h =
    let rest = drop (k + 1) us in
    let here : drop k us ≡ u ∷ rest = one_at us k lt ∙ ap (λ x. x ∷ drop (k + 1) us) at in
    let plain_on = counted_cons is_plain u rest in
    let stray_on = counted_cons is_stray u rest in
    let all_plain = rw here at h.all_plain in
    let all_stray = rw here at h.all_stray in
    let few = number_few (is_plain u) in
    let few_stray = number_few (is_stray u) in
    let few_unpaired = number_few (is_unpaired last u) in
    let x = h.few_plain in
    let y = h.few_stray in
    let z = h.few_unpaired in
    record {
      all_plain = omega arith;
      all_stray = omega arith;
      all_unpaired = λ later. ap (λ m. unpaired + m + unpaired_after u (rest ++ later)) n ∙ add_assoc unpaired (number (is_unpaired last u)) (unpaired_after u (rest ++ later)) ∙ rw here at (h.all_unpaired later);
      few_plain = omega arith;
      few_stray = omega arith;
      few_unpaired = omega arith;
    }

pub Counted-ended : (before : ℕ) (us : List ℕ) (k plain stray unpaired last : ℕ) → length us ≤ k → Counted before us k plain stray unpaired last
    → (plain ≡ count_by is_plain us) × (stray ≡ count_by is_stray us) × AddsUnpaired before us unpaired last
Counted-ended before us k plain stray unpaired last le h =
    let none = drop_all k us le in
    (sym (add-zero plain) ∙ rw none at h.all_plain, sym (add-zero stray) ∙ rw none at h.all_stray, λ later. sym (rw none at (h.all_unpaired later)))
