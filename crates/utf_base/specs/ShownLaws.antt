-- The laws of the scalars that a list shows, and of those that its front determines whatever follows. The laws of
-- pieces are generic in the code.
use Rattle.std.specs.Prelude.{◌≡◌, ◌≢◌, ℕ, ◌<◌, List, ◌∷◌, ◌++◌, length, drop, Some}
use Rattle.utf_base.specs.declared.errors.Utf8ErrorKind.TheVariants.{TooFewBytes}
use Rattle.utf_base.specs.declared.errors.units.Utf16SliceError.TheVariants.{EmptySlice, MissingSecond}
use Rattle.utf_base.specs.Kinds.{fault_kind}
use Rattle.utf_base.specs.Piece.{Stands, Piece, IsPiece}
use Rattle.utf_base.specs.Shown.{Shows, IsDecided}
use Rattle.utf_base.specs.Units.{slice_fault}

-- each list shows a list of scalars
abbrev pub ShowsSome : (ℕ → List ℕ) → Type 0
ShowsSome code = (xs : List ℕ) → (ss : List ℕ) × Shows code xs ss

-- each list shows only one list of scalars
abbrev pub ShowsOne : (ℕ → List ℕ) → Type 0
ShowsOne code = (xs ss ts : List ℕ) → Shows code xs ss → Shows code xs ts → ss ≡ ts

-- a code that begins a list is shown first, and then what the list after it shows
abbrev pub CodeShowsFirst : (ℕ → List ℕ) → Type 0
CodeShowsFirst code =
    (w : List ℕ) (s : ℕ) (later ss : List ℕ) → Stands code w 0 s
    → Shows code (drop (length (code s)) w ++ later) ss → Shows code (w ++ later) (s ∷ ss)

-- if no code begins it a fault of one element is shown first, and then what the list after that shows
abbrev pub FaultShowsFirst : (ℕ → List ℕ) → Type 0
FaultShowsFirst code =
    (w later ss : List ℕ) → 0 < length w → ((s : ℕ) → ¬ (Stands code (w ++ later) 0 s))
    → Shows code (drop 1 w ++ later) ss → Shows code (w ++ later) (0xFFFD ∷ ss)

-- if the front of a list is decided, its first piece is the same whatever follows
abbrev pub FirstPieceStays : (ℕ → List ℕ) → Type 0
FirstPieceStays code =
    (w later : List ℕ) (x : Piece) → 0 < length w → IsDecided code w → x.start ≡ 0 → IsPiece code w x → IsPiece code (w ++ later) x

-- the forward kind of bytes stays the same whatever follows, unless there are too few
abbrev pub KindStays : Type 0
KindStays = (w later : List ℕ) → fault_kind w ≢ Some TooFewBytes → fault_kind (w ++ later) ≡ fault_kind w

-- the fault of a slice of units stays the same, except for an empty slice and for a lone leading surrogate
abbrev pub UnitsFaultStays : Type 0
UnitsFaultStays = (w later : List ℕ) → slice_fault w ≢ Some EmptySlice → slice_fault w ≢ Some MissingSecond → slice_fault (w ++ later) ≡ slice_fault w
