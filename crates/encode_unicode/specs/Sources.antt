-- The remaining items of a source, and the elements that a splitter of characters makes of it.
use Rattle.std.specs.Prelude.{◌≡◌, ℕ, ◌+◌, ◌*◌, ◌^◌, ◌-◌, List, ◌++◌, [], ◌∷◌, length, min, Option, IfSome, MatchOption, nat_lt, if◌then◌else◌, Some, None}
use Rattle.std.specs.Iterator.{Count, Yields, YieldsFirst, YieldsLast, UpTo, count_map}
use Rattle.std.specs.Iterator.SizeHint.{IsWithinCount}
use Rattle.std.specs.List.{flat_map, last_or}
use Rattle.utf_chars.specs.Taking.{BoundsLength}

-- `rest` is the list of items that each state still gives: a call takes the first of them, or returns `None` if
-- there is none, and then there is none afterwards
abbrev pub IsListed : {S A : Type 0} → (S → Option A → S → Type 0) → (S → List A) → Type 0
IsListed {S} {A} steps rest = (s : S) (r : Option A) (t : S) → steps s r t → YieldsFirst rest s r t

-- `rest` is the list of items that each state still gives to calls from the end: each takes the last of them
abbrev pub IsListedBack : {S A : Type 0} → (S → Option A → S → Type 0) → (S → List A) → Type 0
IsListedBack {S} {A} back rest = (s : S) (r : Option A) (t : S) → back s r t → YieldsLast rest s r t × (r ≡ last_or None (rest s))

-- P holds for whatever lists the states of a source still give
abbrev pub WhateverIsLeft : {S A : Type 0} → (S → Option A → S → Type 0) → ((S → List A) → Type 0) → Type 0
WhateverIsLeft {S} {A} steps P = (rest : S → List A) → IsListed steps rest → P rest

-- each clone of the source s still gives what s does
abbrev pub GivesTheSame : {S A : Type 0} → (S → S → Type 0) → (S → List A) → S → Type 0
GivesTheSame {S} is_clone rest s = (copy : S) → is_clone s copy → rest copy ≡ rest s

-- P holds if the source s gives nothing
abbrev pub WhereEmpty : {S A : Type 0} → (S → Option A → S → Type 0) → S → Type 0 → Type 0
WhereEmpty {S} {A} steps s P = (rest : S → List A) → IsListed steps rest → rest s ≡ [] → P

-- a splitter: the elements that are left of the begun code, and its source
pub record Splitting (S : Type 0) : Type 0 where
  pub begun : List ℕ
  pub source : S

-- a splitter that has begun no code
abbrev pub unbegun : {S : Type 0} → S → Splitting S
unbegun s = record { begun = []; source = s }

-- the rest of the begun code, and then the codes of what the source still gives
abbrev pub unsent : {S : Type 0} → (ℕ → List ℕ) → (S → List ℕ) → Splitting S → List ℕ
unsent code rest s = s.begun ++ flat_map code (rest s.source)

-- if each clone of the source still gives what the source does, the splitter t has the same unsent elements
-- as s
abbrev pub HasSameUnsent : {S : Type 0} → (ℕ → List ℕ) → (S → S → Type 0) → Splitting S → Splitting S → Type 0
HasSameUnsent {S} code is_clone s t = (rest : S → List ℕ) → GivesTheSame is_clone rest s.source → unsent code rest t ≡ unsent code rest s

-- the number of unsent elements is at most this, if a code has at most `most`
abbrev pub unsent_count : {S : Type 0} → ℕ → (S → Count) → Splitting S → Count
unsent_count most remaining s = count_map (λ n. length s.begun + most * n) (remaining s.source)

-- One call of `next`: it takes the first of the unsent elements, whatever list the source gives. `given` is what the
-- source gave to that call: an item if no code was begun. Its code follows the begun one, and the result is the first
-- element of both.
pub record SplitterNext {S : Type 0} (code : ℕ → List ℕ) (steps : S → Option ℕ → S → Type 0) (s : Splitting S) (r : Option ℕ) (t : Splitting S) : Type 0 where
  pub takes : (rest : S → List ℕ) → IsListed steps rest → YieldsFirst (unsent code rest) s r t
  pub given : List ℕ
  pub gave : MatchOption r ((given ≡ []) × steps s.source None t.source) (λ x. Yields steps s.source given t.source)
  pub sends : MatchOption r ((s.begun ≡ []) × (t.begun ≡ [])) (λ x. s.begun ++ flat_map code given ≡ x ∷ t.begun)

-- the bounds of a count, as a source's hint gives them
abbrev pub IsHintOf : Count → ℕ × Option ℕ → Type 0
IsHintOf c hint = IsWithinCount hint.0 c × IfSome hint.1 (UpTo c)

-- n if it is a `usize`
abbrev pub fitting_usize : ℕ → Option ℕ
fitting_usize n = if nat_lt n (2 ^ 64) then Some n else None

-- the hint of a splitter with h elements left of the begun code, whose codes have at most m elements
abbrev pub split_upper : ℕ → ℕ → Option ℕ → Option ℕ
split_upper m h None = None
split_upper m h (Some high) = fitting_usize (high * m + h)

abbrev pub split_hint : ℕ → ℕ → ℕ × Option ℕ → ℕ × Option ℕ
split_hint m h hint = (min (hint.0 + h) (2 ^ 64 - 1), split_upper m h hint.1)

-- the hint is derived from the source's, and bounds the unsent elements if that bounds the items that the
-- source gives
pub record SplitsHint {S : Type 0} (code : ℕ → List ℕ) (m : ℕ) (remaining : S → Count) (s : Splitting S) (hint : ℕ × Option ℕ) : Type 0 where
  pub of_source : ℕ × Option ℕ
  pub is_hint : IsHintOf (remaining s.source) of_source
  pub made : hint ≡ split_hint m (length s.begun) of_source
  pub bounds : (rest : S → List ℕ) → BoundsLength (rest s.source) of_source → BoundsLength (unsent code rest s) hint
