-- The survey of input that comes in parts.
use Rattle.std.proofs.Common.{◌≡◌, ℕ, ◌+◌, Bool, false, true, List, [], ◌++◌, Option, None, Some, length, take, drop, count_by, refl, sym, ap, ◌∙◌, arith, append-nil, append_assoc, add_assoc, add-zero, zero-add, length-append}
use Rattle.std.proofs.Math.Seq.{take-add}
use Rattle.utf_lanes.specs.BytePairs.{units_of}
use Rattle.surveys.specs.declared.survey.Survey.{Survey}
use Rattle.surveys.specs.declared.survey.Surveyor.{Surveyor}
use Rattle.surveys.specs.declared.unit_counts.UnitParts.{UnitParts}
use Rattle.surveys.specs.SurveyCounts.{nothing, wrapped}
use Rattle.surveys.specs.SurveyEnds.{first_four, head_len, is_control, is_nul, tail_len}
use Rattle.surveys.specs.SurveyParts.{counts_with, last_of, three_zeros}
use Rattle.surveys.specs.Surveys.{Surveys, foreseen, foreseen_by, surveyed}
use Rattle.surveys.specs.SurveyUnits.{no_units, odd_byte, units_from, units_with}
use Rattle.surveys.proofs.Counting.{wrapped-add}
use Rattle.surveys.proofs.Fronts.{first_four-fed, last_of-last}

abbrev no_parts : UnitParts
no_parts = record { counts = no_units; before = 0; odd = None }

pub begun : (s : Surveyor) (later : List ℕ) → s.len ≡ 0 → s.front ≡ [] → s.nul ≡ 0 → s.control ≡ 0 → s.utf8 ≡ record { counts = nothing; held = three_zeros } → s.utf16le ≡ no_parts → s.utf16be ≡ no_parts
    → foreseen s later ≡ surveyed later
unfolding foreseen foreseen_by surveyed counts_with units_with
begun s later len front nul control utf8 le be = rw (len, front, nul, control, utf8, le, be) (simp zero-add)

len_on : (count new : ℕ) (part later : List ℕ) → new ≡ wrapped (count + length part) → wrapped (new + length later) ≡ wrapped (count + length (part ++ later))
len_on count new part later e = rw e (simp (wrapped-add, length-append, add_assoc))

-- What a call does with a part.
pub record Feeds (old : Surveyor) (part : List ℕ) (new : Surveyor) : Type 0 where
  pub len : new.len ≡ wrapped (old.len + length part)
  pub front : new.front ≡ take 4 (old.front ++ part)
  pub nul : (later : List ℕ) → wrapped (new.nul + count_by is_nul later) ≡ wrapped (old.nul + count_by is_nul (part ++ later))
  pub control : (later : List ℕ) → wrapped (new.control + count_by is_control later) ≡ wrapped (old.control + count_by is_control (part ++ later))
  pub utf8 : (later : List ℕ) → counts_with new.utf8 later ≡ counts_with old.utf8 (part ++ later)
  pub held : new.utf8.held ≡ last_of 16 (old.utf8.held ++ part)
  pub utf16le : (later : List ℕ) → units_with false new.utf16le later ≡ units_with false old.utf16le (part ++ later)
  pub utf16be : (later : List ℕ) → units_with true new.utf16be later ≡ units_with true old.utf16be (part ++ later)

last_on : (old new : Surveyor) (part later : List ℕ) → new.utf8.held ≡ last_of 16 (old.utf8.held ++ part) → last_of 3 (new.utf8.held ++ later) ≡ last_of 3 (old.utf8.held ++ (part ++ later))
last_on old new part later e =
    ap (λ z. last_of 3 (z ++ later)) e ∙ last_of-last 3 16 (old.utf8.held ++ part) later (omega arith) ∙ ap (last_of 3) (append_assoc old.utf8.held part later)

pub fed : (old new : Surveyor) (part : List ℕ) → Feeds old part new → Surveys old part new
unfolding foreseen foreseen_by
fed old new part feeds =
    λ later. let front : first_four (new.front ++ later) ≡ first_four (old.front ++ (part ++ later)) = ap (λ z. first_four (z ++ later)) feeds.front ∙ first_four-fed old.front part later in
    rw (
      len_on old.len new.len part later feeds.len,
      feeds.nul later,
      feeds.control later,
      front,
      feeds.utf8 later,
      feeds.utf16le later,
      feeds.utf16be later,
      last_on old new part later feeds.held,
    )
    refl

-- a part after others
pub surveyed_on : (old s t : Surveyor) (part : List ℕ) (i n : ℕ) → Surveys old (take i part) s → Surveys s (take n (drop i part)) t → Surveys old (take (i + n) part) t
surveyed_on old s t part i n before here later =
    here later ∙ before (take n (drop i part) ++ later)
    ∙ ap (foreseen old) (sym (append_assoc (take i part) (take n (drop i part)) later) ∙ ap (λ z. z ++ later) (sym (take-add i n part)))

no_unit_left : (high_first : Bool) (odd : Option ℕ) → units_of high_first (odd_byte odd ++ []) ≡ []
no_unit_left high_first None = refl
no_unit_left high_first (Some b) = refl

units_ended : (high_first : Bool) (s : UnitParts) → units_from s.counts s.before [] ≡ units_with high_first s []
unfolding units_with
units_ended high_first s = sym (ap (units_from s.counts s.before) (no_unit_left high_first s.odd))

-- What a survey of the input so far has.
pub record Tells (s : Surveyor) (r : Survey) : Type 0 where
  pub len : r.len ≡ wrapped s.len
  pub front : r.front ≡ first_four s.front
  pub nul : r.nul ≡ wrapped s.nul
  pub control : r.control ≡ wrapped s.control
  pub utf8 : r.utf8 ≡ counts_with s.utf8 []
  pub utf16le : r.utf16le ≡ units_from s.utf16le.counts s.utf16le.before []
  pub utf16be : r.utf16be ≡ units_from s.utf16be.counts s.utf16be.before []
  pub head : r.head ≡ head_len (first_four s.front)
  pub tail : r.tail ≡ tail_len (last_of 3 s.utf8.held)

pub told : (s : Surveyor) (r : Survey) → Tells s r → r ≡ foreseen s []
unfolding foreseen foreseen_by
told s r t =
    let front : s.front ++ [] ≡ s.front = append-nil s.front in
    let held : s.utf8.held ++ [] ≡ s.utf8.held = append-nil s.utf8.held in
    rw (
      front,
      held,
      add-zero s.len,
      add-zero s.nul,
      add-zero s.control,
      ← units_ended false s.utf16le,
      ← units_ended true s.utf16be,
    )
    (same t)
  where
    same : Tells s r
        → r
        ≡ record {
          len = wrapped s.len;
          front = first_four s.front;
          nul = wrapped s.nul;
          control = wrapped s.control;
          utf8 = counts_with s.utf8 [];
          utf16le = units_from s.utf16le.counts s.utf16le.before [];
          utf16be = units_from s.utf16be.counts s.utf16be.before [];
          head = head_len (first_four s.front);
          tail = tail_len (last_of 3 s.utf8.held);
        }
    same t = rw (← t.head, ← t.tail, ← t.len, ← t.front, ← t.nul, ← t.control, ← t.utf8, ← t.utf16le, ← t.utf16be) refl
