-- The pieces of some bytes that stay if a part of the bytes is replaced.
use Rattle.std.specs.List.{splice}
use Rattle.std.specs.Prelude.{◌≡◌, ℕ, ◌+◌, ◌-◌, ◌%◌, ◌≤◌, List, ◌++◌, length, drop}
use Rattle.recoding.specs.Boundaries.{IsBoundary, IsFirstFrom, IsLastTo}
use Rattle.recoding.specs.declared.form.Form.{Form}
use Rattle.recoding.specs.TextForms.{by_form}
use Rattle.text_stream.specs.declared.changes.ChangedRange.{ChangedRange}
use Rattle.text_stream.specs.declared.located.LocatedPiece.{LocatedPiece}
use Rattle.text_stream.specs.Located.{located, wrapped}

-- the first pieces of the bytes are the given ones, and then come those from the offset p on, which are the
-- pieces of the rest
abbrev pub BeginWith : Form → List ℕ → List LocatedPiece → ℕ → List ℕ → Type 0
BeginWith form bytes given p left = located form 0 bytes ≡ given ++ located form (wrapped p) left

-- if some bytes are replaced by others, each unit after them has its two bytes as before
abbrev pub KeepUnits : Form → ℕ → ℕ → Type 0
KeepUnits = by_form (λ form. ℕ → ℕ → Type 0) (λ gone come. Unit {0}) (λ high_first gone come. gone % 2 ≡ come % 2)

-- Whatever replaces the bytes from s up to e: the pieces before the offset a stay, and those from the offset b on
-- stay, moved with their bytes. For UTF-16 the latter is stated only if units keep their bytes.
pub record PiecesStay (form : Form) (xs : List ℕ) (s e a b : ℕ) : Type 0 where
  pub given : List LocatedPiece
  pub old : BeginWith form xs given a (drop a xs)
  pub front : (new : List ℕ) → BeginWith form (splice xs s e new) given a (drop a (splice xs s e new))
  pub rest : (new : List ℕ) → KeepUnits form (e - s) (length new) → (others : List LocatedPiece) × BeginWith form (splice xs s e new) others (s + length new + (b - e)) (drop b xs)

-- The range has the bytes from s up to e. It begins at the last offset up to s - 3 that no character covers, and ends
-- at the first from e + 3 on. Outside of it pieces stay.
pub record IsChangedRange (form : Form) (xs : List ℕ) (s e : ℕ) (range : ChangedRange) : Type 0 where
  pub before : range.start ≤ s
  pub after : e ≤ range.end
  pub start : IsLastTo (IsBoundary form xs) (length xs) (s - 3) range.start
  pub end : IsFirstFrom (IsBoundary form xs) (length xs) (e + 3) range.end
  pub stay : PiecesStay form xs s e range.start range.end
