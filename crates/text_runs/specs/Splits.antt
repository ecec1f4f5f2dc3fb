-- The parts of some bytes between separators, and their lines, with their offsets.
use Rattle.std.specs.Prelude.{◌≡◌, ℕ, ◌+◌, ◌<◌, ◌≤◌, Bool, true, false, List, [], ◌∷◌, length, map, nat_eq, slice_range, Option, if◌then◌else◌}
use Rattle.std.specs.Iterator.{YieldsFirst, YieldsLast}
use Rattle.std.specs.Iterator.Runs.{AllItems, EachRunFrom}
use Rattle.std.specs.List.{All, join_with_byte, slice_split}
use Rattle.std.specs.Str.Lines.{strip_carriage_return}
use Rattle.text_runs.specs.PieceBoundaries.{IsBetween}

-- some bytes, and the offset of the first of them in the whole
pub record PlacedBytes : Type 0 where
  pub start : ℕ
  pub bytes : List ℕ

-- the parts of a list between the elements that are the separator, as `slice::split` of std has them
abbrev pub parts_by : ℕ → List ℕ → List (List ℕ)
parts_by separator xs = slice_split (λ x. nat_eq x separator) xs

-- parts with their offsets: the first begins at this one, and one element is between each two
abbrev pub placed_from : ℕ → List (List ℕ) → List PlacedBytes
placed_from place [] = []
placed_from place (part ∷ parts) = record { start = place; bytes = part } ∷ placed_from (place + length part + 1) parts

-- the parts of a list with their offsets
abbrev pub split_by : ℕ → List ℕ → List PlacedBytes
split_by separator xs = placed_from 0 (parts_by separator xs)

-- the remaining parts of some bytes whose first is at this offset; none once all were given
abbrev pub split_left : ℕ → List ℕ → ℕ → Bool → List PlacedBytes
split_left place xs separator true = []
split_left place xs separator false = placed_from place (parts_by separator xs)

-- The parts are those of the list: there is at least one, none has the separator in it, and joined by it they are
-- the list.
pub record IsSplit (separator : ℕ) (xs : List ℕ) (parts : List (List ℕ)) : Type 0 where
  pub some : 0 < length parts
  pub clean : All (All (λ x. nat_eq x separator ≡ false)) parts
  pub joined : join_with_byte separator parts ≡ xs

-- no other parts are the parts of the list
abbrev pub OneSplit : Type 0
OneSplit = (separator : ℕ) (xs : List ℕ) (parts : List (List ℕ)) → IsSplit separator xs parts → parts ≡ parts_by separator xs

-- the bytes are in the list at their offset, and no code covers either end
pub record LiesBetween (xs : List ℕ) (x : PlacedBytes) : Type 0 where
  pub within : x.start + length x.bytes ≤ length xs
  pub there : x.bytes ≡ slice_range xs x.start (x.start + length x.bytes)
  pub begins : IsBetween xs x.start
  pub ends : IsBetween xs (x.start + length x.bytes)

-- one call from the front, and one from the end: the state is the list of what is left
abbrev pub NextSpan : List PlacedBytes → Option PlacedBytes → List PlacedBytes → Type 0
NextSpan = YieldsFirst (λ left. left)

abbrev pub BackSpan : List PlacedBytes → Option PlacedBytes → List PlacedBytes → Type 0
BackSpan = YieldsLast (λ left. left)

-- each item of calls from s lies between offsets that no code covers
abbrev pub EachLies : (List PlacedBytes → Option PlacedBytes → List PlacedBytes → Type 0) → List ℕ → List PlacedBytes → Type 0
EachLies steps xs s = EachRunFrom steps s (λ p. AllItems p (LiesBetween xs))

-- a part that a line feed ends, as a line
abbrev pub ended_line : PlacedBytes → PlacedBytes
ended_line x = record { start = x.start; bytes = strip_carriage_return x.bytes }

-- the lines that parts between line feeds are, as std's `lines_of_parts` has them: no line feed ends the last part,
-- which is a line if it is not empty
abbrev pub lines_of : List PlacedBytes → List PlacedBytes
lines_of [] = []
lines_of (x ∷ []) = if nat_eq (length x.bytes) 0 then [] else x ∷ []
lines_of (x ∷ y ∷ parts) = ended_line x ∷ lines_of (y ∷ parts)

-- the lines of some bytes with their offsets
abbrev pub lines_by : List ℕ → List PlacedBytes
lines_by xs = lines_of (split_by 10 xs)

-- the remaining lines of some parts; `ended` says that a line feed ended the last of them too
abbrev pub lines_left : Bool → List PlacedBytes → List PlacedBytes
lines_left true parts = map ended_line parts
lines_left false parts = lines_of parts
