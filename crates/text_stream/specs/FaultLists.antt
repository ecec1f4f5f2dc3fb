-- The faults of bytes and of units, many in one call, each with its offset.
use Rattle.std.specs.Prelude.{◌≡◌, ℕ, ◌+◌, ◌<◌, ◌≤◌, List, ◌∷◌, ◌++◌, Result, Some, drop, filter, is_err, length, map, min, take}
use Rattle.utf_base.specs.Kinds.{fault_kind}
use Rattle.utf_base.specs.declared.errors.Utf8ErrorKind.{Utf8ErrorKind}
use Rattle.encode_unicode.specs.Pieces.{pieces_by, unit_pieces}
use Rattle.encode_unicode.specs.Window.{Placed, UnitItem}
use Rattle.recoding.specs.declared.faults.FaultKind.{FaultKind}
use Rattle.text_stream.specs.declared.located.LocatedPiece.{LocatedPiece}
use Rattle.text_stream.specs.Located.{at_offset, told_as, wrapped}
use Rattle.text_runs.specs.ShardRuns.{moved}

-- the items of some units that are faults, with their offsets and kinds; of bytes they are `faults`
abbrev pub unit_faults : List ℕ → List UnitItem
unit_faults us = filter (λ x. is_err x.1) (unit_pieces us)

-- an item with the offset of its first element, if the list begins at another
abbrev pub fault_at : {E : Type 0} → (E → FaultKind) → ℕ → Placed E → LocatedPiece
fault_at kind offset x = at_offset (wrapped (offset + x.0)) (told_as kind (x.1, x.2))

-- a fault is the first of some elements
pub record BeginsWithFault {E : Type 0} (faults : List ℕ → List (Placed E)) (w : List ℕ) : Type 0 where
  pub first : Placed E
  pub rest : List (Placed E)
  pub all : faults w ≡ first ∷ rest
  pub place : first.0 ≡ 0

-- The faults of the list, as many as there is capacity for, were written from the front of the array on, in order,
-- each as what is made of it. The rest of the array is unchanged. The call read the list up to the next fault, or to
-- the end; the rest of the list has the other faults.
pub record FindsFaults {E P : Type 0} (made : Placed E → P) (faults : List ℕ → List (Placed E)) (xs : List ℕ) (old new : List P) (read wrote : ℕ) : Type 0 where
  pub count : wrote ≡ min (length old) (length (faults xs))
  pub front : take wrote new ≡ map made (take wrote (faults xs))
  pub rest : drop wrote new ≡ drop wrote old
  pub len : length new ≡ length old
  pub within : read ≤ length xs
  pub left : drop wrote (faults xs) ≡ map (moved read) (faults (drop read xs))
  pub stops : read < length xs → BeginsWithFault faults (drop read xs)

-- Within a call.

-- the faults of a list whose first element has an offset, by what a decoding returns
abbrev pub faults_from : {E : Type 0} → (List ℕ → Result (ℕ × ℕ) E) → ℕ → List ℕ → List (Placed E)
faults_from answer place w = filter (λ x. is_err x.1) (pieces_by answer (length w) place w)

-- A run that looks for faults from one offset on has come to another, and has written those before it to the front of the array.
pub record IsSoFar {E P : Type 0} (made : Placed E → P) (answer : List ℕ → Result (ℕ × ℕ) E) (xs : List ℕ) (start : ℕ) (old new : List P) (read wrote : ℕ) : Type 0 where
  pub found : List (Placed E)
  pub all : faults_from answer start (drop start xs) ≡ found ++ faults_from answer read (drop read xs)
  pub count : length found ≡ wrote
  pub front : take wrote new ≡ map made found
  pub rest : drop wrote new ≡ drop wrote old
  pub len : length new ≡ length old
  pub within : read ≤ length xs
  pub fits : wrote ≤ length old

-- a fault begins the bytes
abbrev pub BeginsFault : List ℕ → Type 0
BeginsFault w = (k : Utf8ErrorKind) × (fault_kind w ≡ Some k)
