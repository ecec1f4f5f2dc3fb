-- The counts that ordinary text adds nothing to.
use Rattle.std.specs.Prelude.{◌≡◌, ℕ, ◌+◌, false, true, List, ◌++◌, count_by}
use Rattle.surveys.specs.declared.rare_counts.RareCounts.{RareCounts}
use Rattle.surveys.specs.declared.unit_counts.UnitCounts.{UnitCounts}
use Rattle.surveys.specs.SurveyCounts.{wrapped}
use Rattle.surveys.specs.SurveyEnds.{is_control, is_nul}
use Rattle.surveys.specs.SurveyUnits.{units_with}

-- the counts of all input if some bytes follow, and then it ends
unfoldable pub rare_with : RareCounts → List ℕ → ℕ × ℕ × UnitCounts × UnitCounts
rare_with s later =
    (wrapped (s.nul + count_by is_nul later), wrapped (s.control + count_by is_control later), units_with false s.utf16le later, units_with true s.utf16be later)

-- the counts of all input are the same, whatever follows a part that was fed
abbrev pub FeedsRare : RareCounts → List ℕ → RareCounts → Type 0
FeedsRare old part new = (later : List ℕ) → rare_with new later ≡ rare_with old (part ++ later)
