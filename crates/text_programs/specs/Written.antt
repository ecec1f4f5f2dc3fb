-- The output for some entries, a line for each.
use Rattle.std.specs.Prelude.{◌≡◌, ℕ, Bool, List, Option, Result, flat_map, count_by, is_err}
use Rattle.std.specs.Io.KnownBytes.{Appends}
use Rattle.utf_base.specs.declared.errors.Utf8ErrorKind.{Utf8ErrorKind}
use Rattle.encode_unicode.specs.Window.{Item}
use Rattle.text_programs.specs.Lines.{answer_line, step_line, is_fault_step}

-- known bytes grew by the lines of these entries, `faults` of which are error lines
pub record WritesLines {X : Type 0} (line : X → List ℕ) (wrong : X → Bool) (entries : List X) (old new : Option (List ℕ)) (faults : ℕ) : Type 0 where
  pub written : Appends old new (flat_map line entries)
  pub counted : faults ≡ count_by wrong entries

-- the lines of what a merger returns
abbrev pub merged_lines : List (Result ℕ Utf8ErrorKind) → List ℕ
merged_lines answers = flat_map answer_line answers

-- known bytes grew by the lines of a merger's results, `faults` of which are error lines
abbrev pub WritesMerged : List (Result ℕ Utf8ErrorKind) → Option (List ℕ) → Option (List ℕ) → ℕ → Type 0
WritesMerged answers old new faults = WritesLines answer_line is_err answers old new faults

-- the lines of what a walk returns
abbrev pub walk_lines : List (Option Item) → List ℕ
walk_lines steps = flat_map step_line steps

-- known bytes grew by the lines of a walk's results, `faults` of which are error lines
abbrev pub WritesWalk : List (Option Item) → Option (List ℕ) → Option (List ℕ) → ℕ → Type 0
WritesWalk steps old new faults = WritesLines step_line is_fault_step steps old new faults
