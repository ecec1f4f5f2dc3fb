-- The unread elements of a merger, and the effect of one call of it. A merger is seen as its buffered elements, its
-- source, and whether that has ended.
use Rattle.std.specs.Prelude.{◌≡◌, ℕ, ◌+◌, ◌/◌, ◌<◌, ◌≤◌, Bool, true, false, if◌then◌else◌, List, [], ◌∷◌, ◌++◌, length, map, option_map, slice_index, slice_index_or, Option, Some, None, Result, Ok, Err, MatchOption, IfNone, IfOk}
use Rattle.std.specs.Bool.{MatchBool}
use Rattle.std.specs.Iterator.{Count, Yields, YieldsFirst, YieldsThen, count_map, count_unless}
use Rattle.std.specs.Iterator.Runs.{Run}
use Rattle.std.specs.List.{filter_map}
use Rattle.std.specs.Result.{result_ok}
use Rattle.utf_base.specs.declared.errors.Utf8ErrorKind.{Utf8ErrorKind}
use Rattle.utf_base.specs.declared.errors.units.Utf16PairError.{Utf16PairError}
use Rattle.utf_base.specs.Code.{utf8, utf16}
use Rattle.utf_base.specs.Decoded.{decoded_pairs, unless_fault}
use Rattle.utf_base.specs.Kinds.{asked_by, is_continuation, merger_kind, value}
use Rattle.utf_base.specs.Scalar.{IsScalar}
use Rattle.utf_base.specs.Units.{unit_fault_kind}
use Rattle.utf_chars.specs.Taking.{BoundsLength}
use Rattle.encode_unicode.specs.Hints.{BoundsCut}
use Rattle.encode_unicode.specs.Pieces.{Gives, characters, pieces_by, unit_characters}
use Rattle.encode_unicode.specs.Sources.{GivesTheSame, IsListed, IsHintOf, split_hint, split_upper}

-- a merger: the elements that it has read and not returned a result for, in order, its source, and whether
-- that has returned `None`
pub record Merging (S : Type 0) : Type 0 where
  pub held : List ℕ
  pub source : S
  pub ended : Bool

-- a merger that has read nothing
abbrev pub unasked : {S : Type 0} → S → Merging S
unasked s = record { held = []; source = s; ended = false }

-- the remaining items of a source, which are none once it has ended
abbrev pub still : {S A : Type 0} → (S → List A) → S → Bool → List A
still rest s ended = if ended then [] else rest s

-- the unread elements: the buffered ones, and then what the source still gives
abbrev pub unread : {S : Type 0} → (S → List ℕ) → Merging S → List ℕ
unread rest m = m.held ++ still rest m.source m.ended

-- `rest` agrees that a source that has ended gives nothing more
abbrev pub IsSpent : {S A : Type 0} → (S → List A) → S → Bool → Type 0
IsSpent rest s ended = ended ≡ true → rest s ≡ []

-- no more items than there are unread elements
abbrev pub unread_count : {S : Type 0} → (S → Count) → Merging S → Count
unread_count remaining m = count_map (λ n. length m.held + n) (count_unless m.ended (remaining m.source))

-- a result takes the front of `old` and leaves `new`: the scalar whose code begins it, and exactly that code, or the
-- kind of the fault, and exactly one element; and nothing only if there is nothing
abbrev pub TakesFront : {E : Type 0} → (ℕ → List ℕ) → (List ℕ → Option E) → List ℕ → Option (Result ℕ E) → List ℕ → Type 0
TakesFront code kind old None new = (old ≡ []) × (new ≡ [])
TakesFront code kind old (Some (Ok s)) new = IsScalar s × (old ≡ code s ++ new)
TakesFront code kind old (Some (Err k)) new = (kind old ≡ Some k) × (old ≡ slice_index old 0 ∷ new)

-- calls of a source gave xs, from the state s with the end e to the state t with the end f; once it has ended it is
-- not called again
abbrev pub Gave : {S A : Type 0} → (S → Option A → S → Type 0) → S → Bool → List A → S → Bool → Type 0
Gave steps s e xs t f = MatchBool e ((xs ≡ []) × (t ≡ s) × (f ≡ true)) (MatchBool f (YieldsThen steps s xs None t) (Yields steps s xs t))

-- a call from s to t read `given` of the source, and these determine its result, whatever follows
pub record ReadsEnough {S E : Type 0} (code : ℕ → List ℕ) (kind : List ℕ → Option E) (steps : S → Option ℕ → S → Type 0) (s : Merging S) (r : Option (Result ℕ E)) (t : Merging S) : Type 0 where
  pub given : List ℕ
  pub gave : Gave steps s.source s.ended given t.source t.ended
  pub settles : (later : List ℕ) → (t.ended ≡ true → later ≡ []) → TakesFront code kind (s.held ++ (given ++ later)) r (t.held ++ later)

-- the bytes that a merger of bytes may buffer: at most three, all but the last of them continuation bytes
pub record IsHeldBytes (held : List ℕ) : Type 0 where
  pub few : length held ≤ 3
  pub continuing : (k : ℕ) → k + 1 < length held → is_continuation (slice_index held k) ≡ true

-- the units that a merger of units may buffer
pub record IsHeldUnits (held : List ℕ) : Type 0 where
  pub few : length held ≤ 1

-- one call of `next`, from s to t: the front of the unread list is taken, whatever list the source gives; nothing is
-- buffered after a character and after `None`; and a source that has ended stays as it is
pub record MergerNext {S E : Type 0} (code : ℕ → List ℕ) (kind : List ℕ → Option E) (Held : List ℕ → Type 0) (steps : S → Option ℕ → S → Type 0) (s : Merging S) (r : Option (Result ℕ E)) (t : Merging S) : Type 0 where
  pub takes : (rest : S → List ℕ) → IsListed steps rest → TakesFront code kind (unread rest s) r (unread rest t)
  pub reads : ReadsEnough code kind steps s r t
  pub held : Held t.held
  pub none_held : MatchOption r (t.held ≡ []) (λ x. IfOk x (λ _. t.held ≡ []))
  pub ends : IfNone r (t.ended ≡ true)
  pub stays : s.ended ≡ true → (t.ended ≡ true) × (t.source ≡ s.source)
  pub spent : (rest : S → List ℕ) → IsListed steps rest → IsSpent rest s.source s.ended → IsSpent rest t.source t.ended

-- one call of `next` of a merger of bytes, and of one of units, over the calls of its source
abbrev pub MergesBytes : {S : Type 0} → (S → Option ℕ → S → Type 0) → Merging S → Option (Result ℕ Utf8ErrorKind) → Merging S → Type 0
MergesBytes = MergerNext utf8 merger_kind IsHeldBytes

abbrev pub MergesUnits : {S : Type 0} → (S → Option ℕ → S → Type 0) → Merging S → Option (Result ℕ Utf16PairError) → Merging S → Type 0
MergesUnits = MergerNext utf16 unit_fault_kind IsHeldUnits

-- if each clone of the source still gives what the source does, the merger n has the same unread elements as
-- m
abbrev pub HasSameUnread : {S : Type 0} → (S → S → Type 0) → Merging S → Merging S → Type 0
HasSameUnread {S} is_clone m n = (rest : S → List ℕ) → GivesTheSame is_clone rest m.source → unread rest n ≡ unread rest m

-- if the merger buffers nothing, the source s still gives all that is unread
abbrev pub GivesAllUnread : {S : Type 0} → Merging S → S → Type 0
GivesAllUnread {S} m s = (rest : S → List ℕ) → IsSpent rest m.source m.ended → m.held ≡ [] → rest s ≡ unread rest m

-- the scalar whose code begins the bytes, with the code's length, otherwise the kind that a merger gives
unfoldable pub decoded_by_merger : List ℕ → Result (ℕ × ℕ) Utf8ErrorKind
decoded_by_merger w = unless_fault (merger_kind w) (value w, asked_by w)

-- the results of a merger for some bytes, one after another
unfoldable pub merged : List ℕ → List (Result ℕ Utf8ErrorKind)
merged xs = map (λ x. x.1) (pieces_by decoded_by_merger (length xs) 0 xs)

-- the results of a merger for some units, one after another
unfoldable pub merged_units : List ℕ → List (Result ℕ Utf16PairError)
merged_units xs = map (λ x. x.1) (pieces_by decoded_pairs (length xs) 0 xs)

-- the characters among a merger's results are those among the pieces of the same bytes, or units
abbrev pub MergedCharacters : Type 0
MergedCharacters = (xs : List ℕ) → filter_map (λ r. result_ok r) (merged xs) ≡ characters xs

abbrev pub MergedUnitCharacters : Type 0
MergedUnitCharacters = (xs : List ℕ) → filter_map (λ r. result_ok r) (merged_units xs) ≡ unit_characters xs

-- P holds if the items of the run q are the first elements of a list, and all of it if the run is whole
abbrev pub WhereFront : {S : Type 0} {steps : S → Option ℕ → S → Type 0} → Run steps → List ℕ → Type 0 → Type 0
WhereFront q xs P = q.len ≤ length xs → (q.whole ≡ true → q.len ≡ length xs) → ((k : ℕ) (d : ℕ) → k < q.len → option_map (λ y. y) (q.at k) ≡ Some (slice_index_or xs k d)) → P

-- p is a run of a merger, and q that of its source: p gives the results for a list whose first elements, or
-- all, are the items of q
abbrev pub IsMergerRun : {S T A : Type 0} {steps : S → Option A → S → Type 0} {source : T → Option ℕ → T → Type 0} → (List ℕ → List A) → Run steps → Run source → Type 0
IsMergerRun answers p q = (p.whole ≡ true → q.whole ≡ true) × (p.len ≤ q.len) × (p.whole ≡ true → p.items ≡ answers q.items)
    × ((xs : List ℕ) → WhereFront q xs (Gives p (answers xs)))

-- one call of `next` of the remaining elements, from s to t: the first of the unread list is taken, whatever list the
-- source gives
pub record RemainingNext {S : Type 0} (steps : S → Option ℕ → S → Type 0) (s : Merging S) (r : Option ℕ) (t : Merging S) : Type 0 where
  pub takes : (rest : S → List ℕ) → IsListed steps rest → YieldsFirst (unread rest) s r t
  pub ends : IfNone r (t.ended ≡ true)
  pub stays : s.ended ≡ true → (t.ended ≡ true) × (t.source ≡ s.source)
  pub spent : (rest : S → List ℕ) → IsListed steps rest → IsSpent rest s.source s.ended → IsSpent rest t.source t.ended

-- the source's hint, whose lower bound is 0 once the source has ended
abbrev pub hint_until : Bool → ℕ × Option ℕ → ℕ × Option ℕ
hint_until ended hint = (if ended then 0 else hint.0, hint.1)

-- the hint of a merger with h buffered elements, whose codes have at most m: an m-th of the lower bound, and h more
-- than the upper one, if that is a `usize`
abbrev pub merge_hint : ℕ → ℕ → ℕ × Option ℕ → ℕ × Option ℕ
merge_hint m h hint = (hint.0 / m, split_upper 1 h hint.1)

-- the hint is derived from the source's, and bounds the pieces of the unread elements if that bounds the items that
-- the source still gives; after `None` it is derived from the source's hint unchanged
pub record MergesHint {S : Type 0} (code : ℕ → List ℕ) (m : ℕ) (remaining : S → Count) (s : Merging S) (hint : ℕ × Option ℕ) : Type 0 where
  pub of_source : ℕ × Option ℕ
  pub is_hint : IsHintOf (remaining s.source) of_source
  pub made : hint ≡ merge_hint m (length s.held) (hint_until s.ended of_source)
  pub plain : (rest : S → List ℕ) → IsSpent rest s.source s.ended → BoundsLength (rest s.source) of_source → hint ≡ merge_hint m (length s.held) of_source
  pub bounds : (rest : S → List ℕ) → BoundsLength (rest s.source) of_source → BoundsCut code (unread rest s) hint

-- the hint of the remaining elements is the source's, with the number of buffered elements added to both
-- bounds
pub record RemainsHint {S : Type 0} (remaining : S → Count) (s : Merging S) (hint : ℕ × Option ℕ) : Type 0 where
  pub of_source : ℕ × Option ℕ
  pub is_hint : IsHintOf (remaining s.source) of_source
  pub made : hint ≡ split_hint 1 (length s.held) (hint_until s.ended of_source)
  pub plain : (rest : S → List ℕ) → IsSpent rest s.source s.ended → BoundsLength (rest s.source) of_source → hint ≡ split_hint 1 (length s.held) of_source
  pub bounds : (rest : S → List ℕ) → BoundsLength (rest s.source) of_source → BoundsLength (unread rest s) hint
