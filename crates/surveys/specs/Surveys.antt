-- The survey of an input.
use Rattle.std.specs.Prelude.{◌≡◌, ℕ, ◌+◌, false, true, List, ◌++◌, count_by, length}
use Rattle.surveys.specs.declared.survey.Survey.{Survey}
use Rattle.surveys.specs.declared.survey.Surveyor.{Surveyor}
use Rattle.surveys.specs.declared.unit_counts.UnitParts.{UnitParts}
use Rattle.surveys.specs.declared.utf8_parts.Utf8Parts.{Utf8Parts}
use Rattle.surveys.specs.SurveyCounts.{counted, nothing, wrapped}
use Rattle.surveys.specs.SurveyEnds.{first_four, head_len, is_control, is_nul, tail_len}
use Rattle.surveys.specs.SurveyParts.{counts_with, last_of, three_zeros, zeros_after}
use Rattle.surveys.specs.SurveyUnits.{no_units, units_from, units_with}
use Rattle.utf_lanes.specs.BytePairs.{units_of}

-- The survey of some bytes. For bytes of UTF-8 each offset has a window, in which zeros stand for the bytes before the
-- first and after the last. Units of UTF-16 are pairs of bytes from the front on, in each of both orders.
unfoldable pub surveyed : List ℕ → Survey
surveyed bytes = record {
  len = wrapped (length bytes);
  front = first_four bytes;
  nul = wrapped (count_by is_nul bytes);
  control = wrapped (count_by is_control bytes);
  utf8 = counted nothing (three_zeros ++ (bytes ++ zeros_after));
  utf16le = units_from no_units 0 (units_of false bytes);
  utf16be = units_from no_units 0 (units_of true bytes);
  head = head_len (first_four bytes);
  tail = tail_len (last_of 3 (three_zeros ++ bytes));
}

-- The survey of all input if some bytes follow, and then it ends: by the counts so far, the first bytes, and what further windows and units
-- begin with.
unfoldable pub foreseen_by : (len nul control : ℕ) (front : List ℕ) → Utf8Parts → (le be : UnitParts) → List ℕ → Survey
foreseen_by len nul control front utf8 le be later = record {
  len = wrapped (len + length later);
  front = first_four (front ++ later);
  nul = wrapped (nul + count_by is_nul later);
  control = wrapped (control + count_by is_control later);
  utf8 = counts_with utf8 later;
  utf16le = units_with false le later;
  utf16be = units_with true be later;
  head = head_len (first_four (front ++ later));
  tail = tail_len (last_of 3 (utf8.held ++ later));
}

-- the survey of all input if some bytes follow what was fed so far, and then it ends
unfoldable pub foreseen : Surveyor → List ℕ → Survey
foreseen s later = foreseen_by s.len s.nul s.control s.front s.utf8 s.utf16le s.utf16be later

-- the survey of all input is the same, whatever follows a part that was fed
abbrev pub Surveys : Surveyor → List ℕ → Surveyor → Type 0
Surveys old part new = (later : List ℕ) → foreseen new later ≡ foreseen old (part ++ later)
