-- Damaged bytes as text: what is invalid becomes a character, as U+FFFD, or nothing.
use Rattle.std.specs.Prelude.{◌≡◌, ℕ, ◌+◌, ◌*◌, ◌<◌, ◌≤◌, Bool, false, true, List, [], ◌∷◌, length, take, flat_map, get_or, if◌then◌else◌, Option, Some, None, All, is_none, sum_by}
use Rattle.utf_base.specs.Code.{utf8}
use Rattle.utf_base.specs.CutLaws.{Follow}
use Rattle.utf_base.specs.Piece.{IsPieceAt, Piece}
use Rattle.utf_base.specs.Subparts.{IsPart}
use Rattle.utf_lanes.specs.FaultMasks.{GoesOn}

-- at most one scalar, as a list
abbrev pub scalars_of : Option ℕ → List ℕ
scalars_of None = []
scalars_of (Some s) = s ∷ []

-- the scalar of a piece or part, or what the first byte of an invalid one becomes
abbrev pub shown_as : Option ℕ → Option ℕ → Option ℕ
shown_as (Some s) other = Some s
shown_as None other = other

-- the scalars that pieces or parts of the elements show, if `shown` says what an invalid one becomes
abbrev pub all_shown : (ℕ → Option ℕ) → List ℕ → List Piece → List ℕ
all_shown shown xs = flat_map (λ x. scalars_of (shown_as x.char (shown (get_or xs x.start 0))))

-- the code of the character, or nothing
abbrev pub shown_code : Option ℕ → List ℕ
shown_code c = flat_map utf8 (scalars_of c)

-- The elements begin with the code of the character, or nothing, which is at most three bytes. The fourth is its length.
pub record IsCodeShown (c : Option ℕ) (xs : List ℕ) : Type 0 where
  pub few : get_or xs 3 0 ≤ 3
  pub code : take (get_or xs 3 0) xs ≡ shown_code c

-- A character, or what is replaced together: a fault, or a maximal subpart.
abbrev pub IsMendedAt : Bool → List ℕ → ℕ → ℕ → Option ℕ → Type 0
IsMendedAt false = IsPieceAt utf8
IsMendedAt true = IsPart utf8

-- the number of invalid bytes: those of the pieces or parts that are no characters
abbrev pub invalid_bytes : List Piece → ℕ
invalid_bytes parts = sum_by (λ x. if is_none x.char then x.len else 0) parts

-- The bytes from one offset to another as text: their characters, and what each fault, or each maximal subpart,
-- becomes. The number of invalid bytes is given.
pub record Mends (subparts : Bool) (shown : ℕ → Option ℕ) (xs : List ℕ) (start end : ℕ) (made : List ℕ) (replaced : ℕ) : Type 0 where
  pub parts : List Piece
  pub each : All (λ x. IsMendedAt subparts xs x.start x.len x.char) parts
  pub follow : Follow start parts end
  pub text : made ≡ flat_map utf8 (all_shown shown xs parts)
  pub count : replaced ≡ invalid_bytes parts

-- The text of the first bytes is at the front of a list: three bytes for each byte at most.
pub record MendsFront (subparts : Bool) (shown : ℕ → Option ℕ) (xs made : List ℕ) (read len replaced : ℕ) : Type 0 where
  pub mends : Mends subparts shown xs 0 read (take len made) replaced
  pub within : read ≤ length xs
  pub fits : len ≤ length made
  pub short : len ≤ 3 * read
  pub few : replaced ≤ read

-- The byte at k is replaced together with the one before it.
abbrev pub IsJoined : Bool → List ℕ → ℕ → Type 0
IsJoined false xs k = ⊥
IsJoined true xs k = GoesOn xs k

-- What is replaced together begins at k.
pub record IsMark (subparts : Bool) (xs : List ℕ) (k : ℕ) : Type 0 where
  pub fault : IsPieceAt utf8 xs k 1 None
  pub first : IsJoined subparts xs k → ⊥

-- Of the bytes from k on, n are replaced together.
pub record AreJoined (subparts : Bool) (xs : List ℕ) (k n : ℕ) : Type 0 where
  pub some : 0 < n
  pub all : (i : ℕ) → k < i → i < k + n → IsJoined subparts xs i
  pub last : IsJoined subparts xs (k + n) → ⊥
