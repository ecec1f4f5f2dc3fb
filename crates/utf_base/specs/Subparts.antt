-- Maximal subparts, by which the Unicode standard and the WHATWG's decoder group faults: chapter 3 of the standard, D93a and
-- D93b. All of it is generic in the code.
use Rattle.std.specs.Prelude.{◌≡◌, ℕ, suc, zero, ◌+◌, ◌<◌, ◌≤◌, List, [], ◌∷◌, length, map, take, slice_range, Option, Some, None, All}
use Rattle.std.specs.List.{flat_map}
use Rattle.utf_base.specs.CutLaws.{Follow}
use Rattle.utf_base.specs.Piece.{Stands, Piece, IsCut, IsPieceAt}
use Rattle.utf_base.specs.Scalar.{IsScalar}
use Rattle.utf_base.specs.Shown.{shown}

-- D93a, an unconvertible offset: no code is at the offset p
pub record IsUnconvertible (code : ℕ → List ℕ) (xs : List ℕ) (p : ℕ) : Type 0 where
  pub within : p < length xs
  pub none : (s : ℕ) → ¬ Stands code xs p s

-- the elements are the front of a code, or all of it
pub record IsFrontOfCode (code : ℕ → List ℕ) (w : List ℕ) : Type 0 where
  pub char : ℕ
  pub scalar : IsScalar char
  pub within : length w ≤ length (code char)
  pub front : take (length w) (code char) ≡ w

-- D93b, a maximal subpart: the longest sequence at an unconvertible offset that is the front of a code, or one element
pub record IsMaximalSubpart (code : ℕ → List ℕ) (xs : List ℕ) (p m : ℕ) : Type 0 where
  pub offset : IsUnconvertible code xs p
  pub some : 0 < m
  pub within : p + m ≤ length xs
  pub front : 1 < m → IsFrontOfCode code (slice_range xs p (p + m))
  pub longest : (n : ℕ) → p + n ≤ length xs → IsFrontOfCode code (slice_range xs p (p + n)) → n ≤ m

-- a standing code, or a maximal subpart, which becomes one U+FFFD
abbrev pub IsPart : (ℕ → List ℕ) → List ℕ → ℕ → ℕ → Option ℕ → Type 0
IsPart code xs p n (Some s) = Stands code xs p s × (n ≡ length (code s))
IsPart code xs p n None = IsMaximalSubpart code xs p n

-- the list consists of such parts, one after another
pub record IsInParts (code : ℕ → List ℕ) (xs : List ℕ) (parts : List Piece) : Type 0 where
  pub each : All (λ x. IsPart code xs x.start x.len x.char) parts
  pub follow : Follow 0 parts (length xs)

-- ss are the scalars that the parts of xs show, in order: characters, and U+FFFD for each maximal subpart
abbrev pub ShowsParts : (ℕ → List ℕ) → List ℕ → List ℕ → Type 0
ShowsParts code xs ss = (parts : List Piece) × IsInParts code xs parts × (ss ≡ map shown parts)

-- n faults of one element each, from the offset p on
abbrev pub faults_from : ℕ → ℕ → List Piece
faults_from p zero = []
faults_from p (suc n) = record { start = p; len = 1; char = None } ∷ faults_from (p + 1) n

-- a character as one piece, and a maximal subpart as its single faults
abbrev pub pieces_of : ℕ → ℕ → Option ℕ → List Piece
pieces_of p n (Some s) = record { start = p; len = n; char = Some s } ∷ []
pieces_of p n None = faults_from p n

-- each element of a maximal subpart is a fault of the cut, if no code covers its front
abbrev pub SubpartsAreFaults : (ℕ → List ℕ) → Type 0
SubpartsAreFaults code =
    (xs : List ℕ) (p m q : ℕ) → IsPieceAt code xs p 1 None → IsMaximalSubpart code xs p m → p ≤ q → q < p + m → IsPieceAt code xs q 1 None

-- a list in parts has the cut that consists of the pieces of its parts
abbrev pub PartsBecomeTheCut : (ℕ → List ℕ) → Type 0
PartsBecomeTheCut code =
    (xs : List ℕ) (parts : List Piece) → IsInParts code xs parts → IsCut code xs (flat_map (λ x. pieces_of x.start x.len x.char) parts)
