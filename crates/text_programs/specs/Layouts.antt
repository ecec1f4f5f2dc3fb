-- The layouts of runs over bytes that are written line by line, and their output.
use Rattle.std.specs.Prelude.{ℕ, Bool, List, map, flat_map, Option, Result, is_err}
use Rattle.utf_base.specs.declared.errors.Utf8ErrorKind.{Utf8ErrorKind}
use Rattle.utf_base.specs.Code.{utf8}
use Rattle.utf_base.specs.Kinds.{merger_kind}
use Rattle.utf_base.specs.Walk.{IsWalk, utf8_bytes}
use Rattle.encode_unicode.specs.Window.{Item}
use Rattle.text_runs.specs.declared.runs.items.End.{End}
use Rattle.text_runs.specs.Collected.{IsMergedRun}
use Rattle.text_runs.specs.Failures.{AppendsFront}
use Rattle.text_programs.specs.Lines.{item_line, answer_line, step_line, is_fault_step}
use Rattle.text_runs.specs.ForwardRuns.{is_fault, IsForwardRun}
use Rattle.text_runs.specs.Walks.{side}
use Rattle.text_programs.specs.Written.{WritesLines}

-- the entries of a run over bytes, the line of each, and whether that is an error line
pub record Layout (X : Type 0) : Type 1 where
  pub over : List ℕ → List X → Type 0
  pub line : X → List ℕ
  pub wrong : X → Bool

-- the pieces
abbrev pub forward_layout : Layout Item
forward_layout = record { over = IsForwardRun; line = item_line; wrong = is_fault }

-- the results of a merger
abbrev pub merged_layout : Layout (Result ℕ Utf8ErrorKind)
merged_layout = record { over = IsMergedRun utf8 merger_kind; line = answer_line; wrong = is_err }

-- the results to the letters of a word
abbrev pub walk_layout : List End → Layout (Option Item)
walk_layout word = record { over = λ xs answers. IsWalk utf8_bytes xs (map side word) answers; line = step_line; wrong = is_fault_step }

-- known bytes grew by the lines of the run over xs, `faults` of which are error lines
pub record WritesRun {X : Type 0} (layout : Layout X) (xs : List ℕ) (old new : Option (List ℕ)) (faults : ℕ) : Type 0 where
  pub entries : List X
  pub run : layout.over xs entries
  pub lines : WritesLines layout.line layout.wrong entries old new faults

-- known bytes grew by a front of the run's lines, as when a writer fails on the way
pub record WritesRunFront {X : Type 0} (layout : Layout X) (xs : List ℕ) (old new : Option (List ℕ)) : Type 0 where
  pub entries : List X
  pub run : layout.over xs entries
  pub written : AppendsFront old new (flat_map layout.line entries)

-- known bytes grew by the listing of the forward run over xs, with the number of its errors
abbrev pub WritesListing : List ℕ → Option (List ℕ) → Option (List ℕ) → ℕ → Type 0
WritesListing xs old new faults = WritesRun forward_layout xs old new faults

-- known bytes grew by a front of the listing of the forward run over xs
abbrev pub WritesListingFront : List ℕ → Option (List ℕ) → Option (List ℕ) → Type 0
WritesListingFront xs old new = WritesRunFront forward_layout xs old new
