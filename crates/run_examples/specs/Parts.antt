-- The greatest output of a part of some text.
use Rattle.std.specs.Prelude.{ℕ, ◌+◌, ◌≤◌, List, length}
use Rattle.cuts.specs.declared.Form.{Form}
use Rattle.cuts.specs.Recoded.{Continues}

-- a list grew by as much as any transcoding may write for the bytes xs, whatever follows them
abbrev pub GrowsByTheMost : Form → Form → List ℕ → List ℕ → List ℕ → Type 0
GrowsByTheMost from to xs old new = (other rest : List ℕ) → Continues from to xs other rest → length old + length other ≤ length new
