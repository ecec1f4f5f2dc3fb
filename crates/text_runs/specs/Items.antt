-- Whole runs: items that are the pieces of a list's cut, in order. All of it is generic in the code.
use Rattle.std.specs.Prelude.{◌≡◌, ℕ, List, length, map, drop, All, Option, Some, Result, IfErr}
use Rattle.utf_base.specs.Piece.{IsCutBetween}
pub use Rattle.utf_base.specs.Walk.{Placed, piece_of}

-- an error is the kind of the elements from its offset on
abbrev pub HasKind : {E : Type 0} → (List ℕ → Option E) → List ℕ → Placed E → Type 0
HasKind kind xs x = IfErr x.1 (λ k. kind (drop x.0 xs) ≡ Some k)

-- the items are the pieces that begin from the offset i on and before j, in order, the faults with their
-- kinds
pub record IsRunBetween {E : Type 0} (code : ℕ → List ℕ) (kind : List ℕ → Option E) (xs : List ℕ) (i j : ℕ) (items : List (Placed E)) : Type 0 where
  pub cut : IsCutBetween code xs i j (map piece_of items)
  pub kinds : All (HasKind kind xs) items

-- the items are all pieces of the list
abbrev pub IsRun : {E : Type 0} → (ℕ → List ℕ) → (List ℕ → Option E) → List ℕ → List (Placed E) → Type 0
IsRun code kind xs items = IsRunBetween code kind xs 0 (length xs) items

-- the results of a run, without their offsets and lengths
abbrev pub answers_of : {E : Type 0} → List (Placed E) → List (Result ℕ E)
answers_of items = map (λ x. x.1) items
