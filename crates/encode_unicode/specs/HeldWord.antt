-- The state of a merger: the elements that it buffers, in one word, and whether its source has ended.
use Rattle.std.specs.Prelude.{ℕ, ◌/◌, ◌%◌, Bool, nat_le, if◌then◌else◌, List, [], ◌∷◌, take}

pub record Kept : Type 0 where
  pub held : List ℕ
  pub ended : Bool

-- the number of buffered bytes: bits 24 to 31 of the word
abbrev pub count_of : ℕ → ℕ
count_of w = w / 0x100_0000

-- the buffered bytes: the next one in the lowest eight bits, the others above it
unfoldable pub held_bytes_of : ℕ → List ℕ
held_bytes_of w = take (count_of w) (w % 256 ∷ w / 256 % 256 ∷ w / 0x1_0000 % 256 ∷ [])

-- the buffered unit: if there is one, the word is 0x1_0000 plus the unit
unfoldable pub held_unit_of : ℕ → List ℕ
held_unit_of w = if nat_le 0x1_0000 w then w % 0x1_0000 ∷ [] else []
