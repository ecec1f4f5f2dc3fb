-- The first bytes of a list, with all of their pieces, from which counts are made.
use Rattle.std.specs.Prelude.{◌≡◌, ℕ, ◌+◌, ◌≤◌, List, length, take}
use Rattle.std.specs.Str.{IsUtf8}
use Rattle.utf_base.specs.Code.{utf8}
use Rattle.utf_base.specs.Piece.{Inside}
use Rattle.encode_unicode.specs.Pieces.{pieces}
use Rattle.text_runs.specs.ForwardRuns.{faulty_item_count}
use Rattle.text_runs.specs.declared.runs.steps.Step.{Step}

-- no code covers the offset, and the bytes before it have `count` pieces
pub record IsCountedTo (xs : List ℕ) (place count : ℕ) : Type 0 where
  pub within : place ≤ length xs
  pub outside : ¬ (Inside utf8 xs place)
  pub counted : count ≡ length (pieces (take place xs))

-- the first bytes have these numbers of pieces and faults; the front of the step is text, and at most one piece
-- follows it
pub record IsPieceStep (xs : List ℕ) (step : Step) : Type 0 where
  pub all : IsCountedTo xs step.len step.pieces
  pub faults : step.faults ≡ faulty_item_count (pieces (take step.len xs))
  pub front : step.text ≤ step.len
  pub text : IsUtf8 (take step.text xs)
  pub most : step.pieces ≤ length (pieces (take step.text xs)) + 1
