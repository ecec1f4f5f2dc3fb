-- Units as pairs of bytes, and the bytes of each swapped.
use Rattle.std.specs.Prelude.{ℕ, ◌+◌, ◌-◌, ◌*◌, ◌/◌, ◌%◌, Bool, if◌then◌else◌, List, [], ◌∷◌, slice_index}

-- A unit and two bytes, of which the high one is the first or the second.
abbrev pub unit_of : Bool → ℕ → ℕ → ℕ
unit_of high_first a b = if high_first then a * 256 + b else b * 256 + a

abbrev pub bytes_of : Bool → ℕ → List ℕ
bytes_of high_first u = if high_first then u / 256 ∷ u % 256 ∷ [] else u % 256 ∷ u / 256 ∷ []

-- the units that pairs of bytes make; an odd last byte makes none
abbrev pub units_of : Bool → List ℕ → List ℕ
units_of high_first [] = []
units_of high_first (a ∷ []) = []
units_of high_first (a ∷ b ∷ bytes) = unit_of high_first a b ∷ units_of high_first bytes

-- the unit number k of some bytes
abbrev pub unit_number : Bool → List ℕ → ℕ → ℕ
unit_number high_first bytes k = unit_of high_first (slice_index bytes (2 * k)) (slice_index bytes (2 * k + 1))

-- the offset of a unit's high byte among its two
abbrev pub high_place : Bool → ℕ
high_place high_first = if high_first then 0 else 1

-- the high byte of the unit number k
abbrev pub high_byte : Bool → List ℕ → ℕ → ℕ
high_byte high_first bytes k = slice_index bytes (2 * k + high_place high_first)

-- the low byte of the unit number k
abbrev pub low_byte : Bool → List ℕ → ℕ → ℕ
low_byte high_first bytes k = slice_index bytes (2 * k + (1 - high_place high_first))

-- the bytes of each pair swapped; an odd last byte is left out
abbrev pub swapped : List ℕ → List ℕ
swapped [] = []
swapped (a ∷ []) = []
swapped (a ∷ b ∷ bytes) = b ∷ a ∷ swapped bytes

-- the bytes unchanged, or the bytes of each pair swapped
abbrev pub turned : Bool → List ℕ → List ℕ
turned swaps bytes = if swaps then swapped bytes else bytes
