-- The laws of walks, generic in the encoding. The functions of `laws` prove each for bytes and for units.
use Rattle.std.specs.Prelude.{◌≡◌, ◌≢◌, ℕ, ◌≤◌, List, take, Option, None, All, AllPairs, Contains, IsPermutation}
use Rattle.utf_base.specs.Piece.{Inside, Piece, IsPiece, IsCut}
use Rattle.utf_base.specs.Walk.{Encoding, Side, Placed, IsWalk, answered}

-- each word has a walk
abbrev pub WalkExists : {E : Type 0} → Encoding E → Type 0
WalkExists {E} e = (xs : List ℕ) (word : List Side) → (answers : List (Option (Placed E))) × IsWalk e xs word answers

-- each word has a walk over the lists of which `Fits` holds
abbrev pub WalkExistsOver : {E : Type 0} → (List ℕ → Type 0) → Encoding E → Type 0
WalkExistsOver {E} Fits e = (xs : List ℕ) → Fits xs → (word : List Side) → (answers : List (Option (Placed E))) × IsWalk e xs word answers

-- each word has at most one walk
abbrev pub WalkIsUnique : {E : Type 0} → Encoding E → Type 0
WalkIsUnique {E} e =
    (xs : List ℕ) (word : List Side) (answers others : List (Option (Placed E)))
    → IsWalk e xs word answers → IsWalk e xs word others → answers ≡ others

-- after each letter of the word, neither end of the window lies inside a code that is in the list
abbrev pub StaysOutside : {E : Type 0} → Encoding E → List ℕ → List Side → List (Option (Placed E)) → Type 0
StaysOutside e xs word answers =
    (n : ℕ) → (w : IsWalk e xs (take n word) (take n answers))
    × (w.front ≤ w.back) × (¬ Inside e.code xs w.front) × (¬ Inside e.code xs w.back)

-- on each walk, neither end of the window lies inside a code that is in the list
abbrev pub WalkStaysOutside : {E : Type 0} → Encoding E → Type 0
WalkStaysOutside {E} e =
    (xs : List ℕ) (word : List Side) (answers : List (Option (Placed E)))
    → IsWalk e xs word answers → StaysOutside e xs word answers

-- The results are pieces of the list, no two of them the same, and once there is none they are all: in the order of
-- their offsets they are the cut.
pub record GivesEachOnce {E : Type 0} (code : ℕ → List ℕ) (xs : List ℕ) (answers : List (Option (Placed E))) : Type 0 where
  pub pieces : All (IsPiece code xs) (answered answers)
  pub once : AllPairs (λ x y. x ≢ y) (answered answers)
  pub all : Contains answers None → (ps : List Piece) → IsCut code xs ps → IsPermutation (answered answers) ps

-- a walk gives each piece once
abbrev pub WalkGivesEachOnce : {E : Type 0} → Encoding E → Type 0
WalkGivesEachOnce {E} e =
    (xs : List ℕ) (word : List Side) (answers : List (Option (Placed E)))
    → IsWalk e xs word answers → GivesEachOnce e.code xs answers
