-- The laws of codes and cuts. The functions of `laws` prove each for UTF-8 and UTF-16, except the law of ASCII, which
-- is only about UTF-8.
use Rattle.std.specs.Prelude.{◌≡◌, ℕ, ◌+◌, ◌<◌, ◌≤◌, List, [], ◌∷◌, length, All, Some, is_some, slice_index, true}
use Rattle.std.specs.List.{flat_map}
use Rattle.utf_base.specs.Scalar.{IsScalar}
use Rattle.utf_base.specs.Code.{utf8}
use Rattle.utf_base.specs.Ends.{EndsWith}
use Rattle.utf_base.specs.Piece.{Stands, Piece, IsPiece, IsCut, end_of}

-- two codes that are in one list are the same at one offset, or otherwise the first ends before the other
-- begins
abbrev pub CodesNeverOverlap : (ℕ → List ℕ) → Type 0
CodesNeverOverlap code =
    (xs : List ℕ) (p q s t : ℕ) → Stands code xs p s → Stands code xs q t
    → (p ≡ q → s ≡ t) × (p < q → p + length (code s) ≤ q)

-- two pieces of one list are the same at one offset, or otherwise the first ends before the other begins
abbrev pub PiecesNeverOverlap : (ℕ → List ℕ) → Type 0
PiecesNeverOverlap code =
    (xs : List ℕ) (x y : Piece) → IsPiece code xs x → IsPiece code xs y
    → (x.start ≡ y.start → x ≡ y) × (x.start < y.start → end_of x ≤ y.start)

-- at most one piece begins at an offset, and at most one ends there
abbrev pub OnePieceBegins : (ℕ → List ℕ) → Type 0
OnePieceBegins code = (xs : List ℕ) (x y : Piece) → IsPiece code xs x → IsPiece code xs y → x.start ≡ y.start → x ≡ y

abbrev pub OnePieceEnds : (ℕ → List ℕ) → Type 0
OnePieceEnds code = (xs : List ℕ) (x y : Piece) → IsPiece code xs x → IsPiece code xs y → end_of x ≡ end_of y → x ≡ y

-- at most one code ends a list
abbrev pub OneCodeEnds : (ℕ → List ℕ) → Type 0
OneCodeEnds code = (w : List ℕ) (s t n m : ℕ) → EndsWith code w s n → EndsWith code w t m → (s ≡ t) × (n ≡ m)

-- the first piece begins at i, each other at the end of the one before it, and the last ends at j
abbrev pub Follow : ℕ → List Piece → ℕ → Type 0
Follow i [] j = i ≡ j
Follow i (x ∷ ps) j = (x.start ≡ i) × Follow (end_of x) ps j

-- the pieces of a cut follow each other without gap or overlap
abbrev pub CutsFollow : (ℕ → List ℕ) → Type 0
CutsFollow code = (xs : List ℕ) (ps : List Piece) → IsCut code xs ps → Follow 0 ps (length xs)

-- each list has a cut
abbrev pub CutExists : (ℕ → List ℕ) → Type 0
CutExists code = (xs : List ℕ) → (ps : List Piece) × IsCut code xs ps

-- each list has at most one cut
abbrev pub CutIsUnique : (ℕ → List ℕ) → Type 0
CutIsUnique code = (xs : List ℕ) (ps qs : List Piece) → IsCut code xs ps → IsCut code xs qs → ps ≡ qs

-- a byte below 0x80 is a piece of its own, whatever surrounds it
abbrev pub AsciiStandsAlone : Type 0
AsciiStandsAlone =
    (xs : List ℕ) (p : ℕ) → p < length xs → slice_index xs p < 0x80
    → IsPiece utf8 xs (record { start = p; len = 1; char = Some (slice_index xs p) })

-- the list is the codes of these scalars, joined
abbrev pub IsJoined : (ℕ → List ℕ) → List ℕ → List ℕ → Type 0
IsJoined code xs scalars = All IsScalar scalars × (xs ≡ flat_map code scalars)

-- the pieces of the codes of some scalars: the first begins at i and each other at the end of the one before it
abbrev pub char_pieces : (ℕ → List ℕ) → ℕ → List ℕ → List Piece
char_pieces code i [] = []
char_pieces code i (s ∷ scalars) = record { start = i; len = length (code s); char = Some s } ∷ char_pieces code (i + length (code s)) scalars

-- each piece is a standing code
abbrev pub HaveNoFault : List Piece → Type 0
HaveNoFault ps = All (λ x. is_some x.char ≡ true) ps

-- a cut has no fault if and only if its list is the codes of some scalars, joined, and then they are its
-- pieces in order
pub record NoFaultInJoinedCodes (code : ℕ → List ℕ) : Type 0 where
  pub joined : (xs scalars : List ℕ) (ps : List Piece) → IsJoined code xs scalars → IsCut code xs ps → ps ≡ char_pieces code 0 scalars
  pub whole : (xs scalars : List ℕ) (ps : List Piece) → IsJoined code xs scalars → IsCut code xs ps → HaveNoFault ps
  pub only : (xs : List ℕ) (ps : List Piece) → IsCut code xs ps → HaveNoFault ps → (scalars : List ℕ) × IsJoined code xs scalars
