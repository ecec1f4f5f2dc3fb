-- Whole runs that are collected.
use Rattle.std.specs.Prelude.{◌≡◌, ℕ, List, map, Option, Result, Ok}
use Rattle.utf_base.specs.Code.{utf16}
use Rattle.utf_base.specs.CutLaws.{IsJoined}
use Rattle.utf_base.specs.Units.{unit_fault_kind}
use Rattle.encode_unicode.specs.Window.{Placed, UnitItem}
use Rattle.text_runs.specs.Items.{IsRun, answers_of}

-- the items are the pieces of the units in order, the faults with their forward kinds
abbrev pub IsUnitRun : List ℕ → List UnitItem → Type 0
IsUnitRun xs items = IsRun utf16 unit_fault_kind xs items

-- the results are those of the run over the list: its pieces in order, each a scalar or the kind of the elements from
-- its offset on
pub record IsMergedRun {E : Type 0} (code : ℕ → List ℕ) (kind : List ℕ → Option E) (xs : List ℕ) (answers : List (Result ℕ E)) : Type 0 where
  pub items : List (Placed E)
  pub run : IsRun code kind xs items
  pub same : answers ≡ answers_of items

-- the results are all characters if and only if the list is the codes of some scalars, joined, and then they
-- are these scalars
pub record IsJoinedExactly {E : Type 0} (code : ℕ → List ℕ) (xs : List ℕ) (answers : List (Result ℕ E)) : Type 0 where
  pub joined : (scalars : List ℕ) → IsJoined code xs scalars → answers ≡ map Ok scalars
  pub only : (scalars : List ℕ) → answers ≡ map Ok scalars → IsJoined code xs scalars
