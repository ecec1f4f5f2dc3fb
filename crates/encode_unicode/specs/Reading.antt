-- The contracts of the private functions of the mergers. A source is seen as its state; besides it a merger keeps its
-- buffered elements, and whether the source has ended.
use Rattle.std.specs.Prelude.{◌≡◌, ℕ, ◌+◌, ◌≤◌, Bool, true, false, List, [], ◌∷◌, ◌++◌, length, Option, Some, None, Result, Ok, Err, IfOk, MatchOption, MatchResult}
use Rattle.std.specs.Iterator.{Count, IsFinite, size, count_unless}
use Rattle.utf_base.specs.declared.errors.Utf8ErrorKind.{Utf8ErrorKind}
use Rattle.utf_base.specs.declared.errors.units.Utf16PairError.{Utf16PairError}
use Rattle.utf_base.specs.Code.{utf8, utf16}
use Rattle.utf_base.specs.Kinds.{fault_kind, merger_kind, value}
use Rattle.utf_base.specs.Scalar.{IsScalar}
use Rattle.utf_base.specs.Units.{is_padded_units, unit_fault_kind, unit_value}
use Rattle.utf_chars.specs.Padded.{IsPadded}
use Rattle.encode_unicode.specs.HeldWord.{Kept}
use Rattle.encode_unicode.specs.Sources.{IsListed}
use Rattle.encode_unicode.specs.Mergers.{Gave, IsHeldBytes, IsSpent, TakesFront, still}

-- the elements xs were read, from the state s with the end e to the state t with the end f
pub record ReadsElements {S A : Type 0} (can_next : S → Type 0) (remaining : S → Count) (steps : S → Option A → S → Type 0) (s : S) (e : Bool) (xs : List A) (t : S) (f : Bool) : Type 0 where
  pub gives : (rest : S → List A) → IsListed steps rest → still rest s e ≡ xs ++ still rest t f
  pub gave : Gave steps s e xs t f
  pub can : f ≡ false → can_next t
  pub stays : e ≡ true → (f ≡ true) × (t ≡ s)
  pub spent : (rest : S → List A) → IsListed steps rest → IsSpent rest s e → IsSpent rest t f
  pub fewer : IsFinite (count_unless e (remaining s)) → IsFinite (count_unless f (remaining t)) × (length xs + size (count_unless f (remaining t)) ≤ size (count_unless e (remaining s)))

-- the element that a call gave, as a list
abbrev pub as_list : {A : Type 0} → Option A → List A
as_list None = []
as_list (Some x) = x ∷ []

-- a call that gave none has reached the end
abbrev pub ends : {A : Type 0} → Option A → Bool
ends None = true
ends (Some x) = false

-- the first of the unread elements was taken: a buffered one, or one of the source
pub record FirstOf {S : Type 0} (Held : List ℕ → Type 0) (can_next : S → Type 0) (remaining : S → Count) (steps : S → Option ℕ → S → Type 0)
    (old : List ℕ) (s : S) (e : Bool) (x : ℕ) (new : List ℕ) (t : S) (f : Bool) : Type 0 where
  pub more : List ℕ
  pub reads : ReadsElements can_next remaining steps s e more t f
  pub begins : old ++ more ≡ x ∷ new
  pub held : Held new

-- the first of the unread elements was taken, or there is none
abbrev pub TakesFirst : {S : Type 0} → (List ℕ → Type 0) → (S → Type 0) → (S → Count) → (S → Option ℕ → S → Type 0) → Kept → S → Option ℕ → Kept → S → Type 0
TakesFirst Held can_next remaining steps k s r l t =
    MatchOption r
    (ReadsElements can_next remaining steps s k.ended [] t l.ended × (k.held ≡ []) × (l.held ≡ []) × (l.ended ≡ true))
    (λ x. FirstOf Held can_next remaining steps k.held s k.ended x l.held t l.ended)

-- of elements that are followed by others, or by none if the source has ended, the result takes the front
abbrev pub SettlesAnswer : {E : Type 0} → (ℕ → List ℕ) → (List ℕ → Option E) → List ℕ → Bool → Result ℕ E → List ℕ → Type 0
SettlesAnswer code kind xs ended r held = (later : List ℕ) → (ended ≡ true → later ≡ []) → TakesFront code kind (xs ++ later) (Some r) (held ++ later)

-- the result for an element that was taken from a merger which still buffers `old`, and what it buffers then
pub record Answers {S E : Type 0} (code : ℕ → List ℕ) (kind : List ℕ → Option E) (can_next : S → Type 0) (remaining : S → Count) (steps : S → Option ℕ → S → Type 0)
    (first : ℕ) (old : List ℕ) (s : S) (e : Bool) (r : Result ℕ E) (new : List ℕ) (t : S) (f : Bool) : Type 0 where
  pub more : List ℕ
  pub reads : ReadsElements can_next remaining steps s e more t f
  pub settles : SettlesAnswer code kind (first ∷ old ++ more) f r new
  pub few : length new ≤ length old + length more
  pub clear : IfOk r (λ _. new ≡ [])

-- the scalar whose code the bytes are, or their fault
abbrev pub JudgesBytes : List ℕ → Result ℕ Utf8ErrorKind → Type 0
JudgesBytes bytes r = MatchResult r (λ s. IsScalar s × (bytes ≡ utf8 s)) (λ k. fault_kind bytes ≡ Some k)

-- the bytes of the code that the first begins, with zeros after them, and the result that the character is; or the
-- result that is an error. The source was at s when the first byte was taken from the merger, which buffered k then,
-- and it buffers l
pub record Completes {S : Type 0} (can_next : S → Type 0) (remaining : S → Count) (steps : S → Option ℕ → S → Type 0)
    (first : ℕ) (k : Kept) (s : S) (r : Result (List ℕ) Utf8ErrorKind) (l : Kept) (t : S) : Type 0 where
  pub answers : MatchResult r
      (λ bytes. IsPadded utf8 4 value bytes × Answers utf8 merger_kind can_next remaining steps first k.held s k.ended (Ok (value bytes)) l.held t l.ended)
      (λ kind. Answers utf8 merger_kind can_next remaining steps first k.held s k.ended (Err kind) l.held t l.ended)
  pub held : IsHeldBytes l.held

-- the result for a first byte after which nothing was buffered, if `before` have been read since
abbrev pub CompletesAfter : {S : Type 0} → (S → Type 0) → (S → Count) → (S → Option ℕ → S → Type 0) → ℕ → List ℕ → S → Result (List ℕ) Utf8ErrorKind → Kept → S → Type 0
CompletesAfter {S} can_next remaining steps first before u r l t =
    (s : S) → ReadsElements can_next remaining steps s false before u false → Completes can_next remaining steps first (record { held = []; ended = false }) s r l t

-- the second unit of the code of a first one, 0 if that has one unit, and the result that the character is; or the
-- result that is an error. Nothing was buffered
abbrev pub CompletesUnits : {S : Type 0} → (S → Type 0) → (S → Count) → (S → Option ℕ → S → Type 0) → ℕ → S → Result ℕ Utf16PairError → Kept → S → Type 0
CompletesUnits can_next remaining steps first s r l t =
    MatchResult r
    (λ second. (is_padded_units first second ≡ true) × Answers utf16 unit_fault_kind can_next remaining steps first [] s false (Ok (unit_value (first ∷ second ∷ []))) l.held t l.ended)
    (λ kind. Answers utf16 unit_fault_kind can_next remaining steps first [] s false (Err kind) l.held t l.ended)
