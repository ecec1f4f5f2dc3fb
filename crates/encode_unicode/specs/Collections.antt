-- Characters of a source, whose codes are appended to a collection of elements.
use Rattle.std.specs.Prelude.{◌≡◌, ℕ, ◌+◌, ◌<◌, List, ◌++◌, length, take, Option}
use Rattle.std.specs.List.{flat_map}
use Rattle.encode_unicode.specs.Sources.{IsListed}

-- the old elements are followed by the codes of all items of the source s
abbrev pub AddsCodes : {S A B : Type 0} → (A → List B) → (S → Option A → S → Type 0) → S → List B → List B → Type 0
AddsCodes {S} {A} code steps s old new = (rest : S → List A) → IsListed steps rest → new ≡ old ++ flat_map code (rest s)

-- The old elements are followed by the codes of the first of these items, and of fewer than all: there was no
-- capacity for one more code.
pub record AddsFewer {A B : Type 0} (code : A → List B) (items : List A) (room : ℕ) (old new : List B) : Type 0 where
  pub count : ℕ
  pub fewer : count < length items
  pub added : new ≡ old ++ flat_map code (take count items)
  pub full : room < length (old ++ flat_map code (take (count + 1) items))

-- the codes of only the first items of the source s were appended, `room` being the capacity when the call
-- began
abbrev pub AddsFirstCodes : {S A B : Type 0} → (A → List B) → (S → Option A → S → Type 0) → S → ℕ → List B → List B → Type 0
AddsFirstCodes {S} {A} code steps s room old new = (rest : S → List A) → IsListed steps rest → AddsFewer code (rest s) room old new
