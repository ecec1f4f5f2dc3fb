-- What is kept of a survey that goes on later.
use Rattle.std.specs.Prelude.{ℕ, true, ◌&&◌, nat_le, ◌==◌, if◌then◌else◌, List, ◌++◌, take, Some, None, ◌≡◌}
use Rattle.surveys.specs.declared.states.SurveyorState.{SurveyorState}
use Rattle.surveys.specs.declared.states.UnitState.{UnitState}
use Rattle.surveys.specs.declared.survey.Survey.{Survey}
use Rattle.surveys.specs.declared.unit_counts.UnitParts.{UnitParts}
use Rattle.surveys.specs.Surveys.{foreseen_by}

-- the units so far
abbrev pub units_of_state : UnitState → UnitParts
units_of_state s = record { counts = s.counts; before = s.before; odd = if s.odd_count == 0 then None else Some s.odd }

-- The state is one that a surveyor leaves.
abbrev pub IsSurveyor : SurveyorState → Type 0
IsSurveyor s = nat_le s.front_count 4 && nat_le 3 s.held_count && nat_le s.held_count 16 ≡ true

-- the survey of all input if some bytes follow what was fed so far, and then it ends
abbrev pub foreseen_of_state : SurveyorState → List ℕ → Survey
foreseen_of_state s later =
    foreseen_by s.len s.nul s.control (take s.front_count s.front) (record { counts = s.utf8; held = take s.held_count s.held })
    (units_of_state s.utf16le) (units_of_state s.utf16be) later

-- the survey of all input is the same, whatever follows a part that was fed
abbrev pub SurveysOn : SurveyorState → List ℕ → SurveyorState → Type 0
SurveysOn old part new = (later : List ℕ) → foreseen_of_state new later ≡ foreseen_of_state old (part ++ later)
