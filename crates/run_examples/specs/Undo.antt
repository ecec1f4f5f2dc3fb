-- A text with undo: what it is, and what it was before each edit.
use Rattle.std.specs.List.{splice}
use Rattle.std.specs.Prelude.{ℕ, ◌≤◌, List, [], ◌∷◌, length, ⊤}
use Rattle.cuts.specs.declared.buffers.changes.Change.{Change}
use Rattle.cuts.specs.Changes.{IsChange}

-- what callers see: the text, and the texts that undo restores, the newest first
pub record History : Type 0 where
  pub text : List ℕ
  pub pasts : List (List ℕ)

-- bytes that replace those from one offset up to another
pub record Replacement : Type 0 where
  pub start : ℕ
  pub end : ℕ
  pub bytes : List ℕ

-- the text after the replacement
abbrev pub replaced : List ℕ → Replacement → List ℕ
replaced text r = splice text r.start r.end r.bytes

-- the texts after a series of replacements, each made in the text before
abbrev pub texts : List ℕ → List Replacement → List (List ℕ)
texts text [] = []
texts text (r ∷ rs) = replaced text r ∷ texts (replaced text r) rs

-- each of them is in the text that it is made in
abbrev pub CanBeMade : List ℕ → List Replacement → Type 0
CanBeMade text [] = ⊤
CanBeMade text (r ∷ rs) = (r.start ≤ r.end) × (r.end ≤ length text) × CanBeMade (replaced text r) rs

-- a part of the text xs was replaced, which made ys, and this is the change of it
pub record IsSomeChange (xs ys : List ℕ) (c : Change) : Type 0 where
  pub start : ℕ
  pub end : ℕ
  pub change : IsChange xs ys start end c
