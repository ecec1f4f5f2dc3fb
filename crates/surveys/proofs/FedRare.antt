-- Counts of 00, of other controls and of units, of input that comes in parts.
use Rattle.std.proofs.Common.{◌≡◌, ℕ, ◌+◌, Bool, false, true, List, ◌++◌, take, drop, count_by, refl, sym, ap, ◌∙◌, append_assoc, add_assoc, zero-add}
use Rattle.std.proofs.Math.Seq.{take-add}
use Rattle.std.proofs.lemmas.List.Sums.{sum_by-append}
use Rattle.surveys.specs.declared.rare_counts.RareCounts.{RareCounts}
use Rattle.surveys.specs.SurveyCounts.{wrapped}
use Rattle.surveys.specs.SurveyEnds.{is_control, is_nul}
use Rattle.surveys.specs.SurveyRare.{FeedsRare, rare_with}
use Rattle.surveys.specs.SurveyUnits.{FeedsUnits}
use Rattle.surveys.proofs.ClassCounts.{counted_append}
use Rattle.surveys.proofs.Counting.{wrapped-add}
use Rattle.surveys.proofs.UncontrolledBytes.{AllUncontrolled, no_controls, no_nuls}

-- a count of a part, added to the count so far
pub counted_on : (p : ℕ → Bool) (count new : ℕ) (part later : List ℕ) → new ≡ wrapped (count + count_by p part) → wrapped (new + count_by p later) ≡ wrapped (count + count_by p (part ++ later))
counted_on p count new part later e = rw e (simp (wrapped-add, sum_by-append, add_assoc))

pub saw : (s t : RareCounts) (part : List ℕ) → t.nul ≡ wrapped (s.nul + count_by is_nul part) → t.control ≡ wrapped (s.control + count_by is_control part)
    → FeedsUnits false s.utf16le part t.utf16le → FeedsUnits true s.utf16be part t.utf16be → FeedsRare s part t
unfolding rare_with
saw s t part nul control le be later = rw (counted_on is_nul s.nul t.nul part later nul, counted_on is_control s.control t.control part later control, le later, be later) refl

-- a part of which no byte is counted
pub none_on : (p : ℕ → Bool) (part later : List ℕ) → count_by p part ≡ 0 → count_by p (part ++ later) ≡ count_by p later
none_on p part later e = counted_append p part later ∙ rw e (zero-add (count_by p later))

pub passed : (s t : RareCounts) (part : List ℕ) → AllUncontrolled part → t.nul ≡ s.nul → t.control ≡ s.control → FeedsUnits false s.utf16le part t.utf16le → FeedsUnits true s.utf16be part t.utf16be → FeedsRare s part t
unfolding rare_with
passed s t part all nul control le be later =
    rw (nul, control, none_on is_nul part later (no_nuls part all), none_on is_control part later (no_controls part all), le later, be later) refl

-- a part after others
pub fed_on : (old s t : RareCounts) (part : List ℕ) (i n : ℕ) → FeedsRare old (take i part) s → FeedsRare s (take n (drop i part)) t → FeedsRare old (take (i + n) part) t
fed_on old s t part i n before here later =
    here later ∙ before (take n (drop i part) ++ later)
    ∙ ap (rare_with old) (sym (append_assoc (take i part) (take n (drop i part)) later) ∙ ap (λ z. z ++ later) (sym (take-add i n part)))
