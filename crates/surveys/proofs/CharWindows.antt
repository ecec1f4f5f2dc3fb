-- The windows of a character of several bytes: only that of its first byte adds to the counts of bytes that may be UTF-8.
use Rattle.std.proofs.Common.{◌≡◌, ℕ, zero, suc, ◌+◌, ◌-◌, ◌<◌, ◌≤◌, Bool, true, false, not, ◌||◌, nat_lt, List, length, get_or, drop, take, Option, Some, None, inl, refl, sym, ap, ◌∙◌, arith, length-take}
use Rattle.std.proofs.lemmas.Grind.{common_steps}
use Rattle.std.proofs.lemmas.List.{get_or-drop, get_or-take, take-take}
use Rattle.utf_base.specs.Code.{utf8}
use Rattle.utf_base.specs.Decoded.{decoded, unless_fault}
use Rattle.utf_base.specs.Kinds.{asked_by, fault_kind, value}
use Rattle.utf_base.specs.Piece.{Stands}
use Rattle.utf_base.specs.Scalar.{IsScalar}
use Rattle.utf_base.specs.declared.errors.Utf8ErrorKind.{Utf8ErrorKind}
use Rattle.utf_base.proofs.DecodedLemmas.{decoded_code}
use Rattle.utf_base.proofs.FrontLemmas.{asked-0, code_where_no_fault}
use Rattle.utf_base.proofs.JoinedLengths.{some_utf8}
use Rattle.utf_base.proofs.Utf8Code.{utf8-continuation_byte}
use Rattle.surveys.specs.SurveyWindows.{covers, front_len, is_char, is_fault, is_surrogate, len_of, twice_len}
use Rattle.surveys.specs.SurveyCounts.{nothing, number, seen}

-- the code at the front of some bytes
front_is : (y : List ℕ) (s : ℕ) → Stands utf8 y 0 s → take (length (utf8 s)) y ≡ utf8 s
front_is y s h = let width : 0 + length (utf8 s) - 0 ≡ length (utf8 s) = omega arith in rw width at h.equal

-- its first byte
pub first_of : (y : List ℕ) (s : ℕ) → Stands utf8 y 0 s → get_or y 0 0 ≡ get_or (utf8 s) 0 0
first_of y s h = sym (get_or-take (length (utf8 s)) y 0 0 (some_utf8 s)) ∙ ap (λ z. get_or z 0 0) (front_is y s h)

pub stands_at_front : (y : List ℕ) (s : ℕ) → IsScalar s → length (utf8 s) ≤ length y → take (length (utf8 s)) y ≡ utf8 s → Stands utf8 y 0 s
stands_at_front y s scalar within e =
    let width : 0 + length (utf8 s) - 0 ≡ length (utf8 s) = omega arith in record { scalar = scalar; within = omega arith; equal = rw width e }

-- The character that begins some bytes.
record Begins (y : List ℕ) : Type 0 where
  char : ℕ
  stands : Stands utf8 y 0 char
  len : front_len y ≡ length (utf8 char)

begins : (y : List ℕ) → 0 < front_len y → Begins y
unfolding front_len decoded
begins y some = by_kind (fault_kind y) refl
  where
    by_kind : (k : Option Utf8ErrorKind) → fault_kind y ≡ k → Begins y
    by_kind None e = let found = code_where_no_fault y e in record { char = value y; stands = found.0; len = rw e found.1 }
    by_kind (Some k) e = let none : 0 < 0 = rw e at some in absurd (omega arith)

pub len_of_code : (y : List ℕ) (s : ℕ) → Stands utf8 y 0 s → front_len y ≡ length (utf8 s)
unfolding front_len
len_of_code y s stands = ap len_of (decoded_code y s stands)

-- its other bytes are continuation bytes
continues : (y : List ℕ) (k : ℕ) → 0 < k → k < front_len y → (0x80 ≤ get_or y k 0) × (get_or y k 0 < 0xC0)
continues y k some lt =
    let b = begins y (omega arith) in
    let len = b.len in
    let inside : k < length (utf8 b.char) = omega arith in
    let same : get_or y k 0 ≡ get_or (utf8 b.char) k 0 = sym (get_or-take (length (utf8 b.char)) y k 0 inside) ∙ ap (λ z. get_or z k 0) (front_is y b.char b.stands) in
    rw same (utf8-continuation_byte b.char k b.stands.scalar some inside)

-- no character begins with a continuation byte
none_begins : (y : List ℕ) → 0x80 ≤ get_or y 0 0 → get_or y 0 0 < 0xC0 → front_len y ≡ 0
unfolding front_len decoded
none_begins y high low = by_kind (fault_kind y) refl
  where
    by_kind : (k : Option Utf8ErrorKind) → fault_kind y ≡ k → len_of (unless_fault k (value y, asked_by y)) ≡ 0
    by_kind None e = asked-0 (get_or y 0 0) (inl (high, omega arith))
    by_kind (Some k) e = refl

-- more bytes after it change nothing
pub front_len-longer : (m : ℕ) (y : List ℕ) → 0 < front_len (take m y) → front_len y ≡ front_len (take m y)
front_len-longer m y some =
    let b = begins (take m y) some in
    let within = b.stands.within in
    let n = length (utf8 b.char) in
    let few : n ≤ m = omega (arith, length-take m y) in
    let stands = stands_at_front y b.char b.stands.scalar (omega (arith, length-take m y)) (sym (take-take n m y few) ∙ front_is (take m y) b.char b.stands) in
    len_of_code y b.char stands ∙ sym b.len

-- One of four tests passed.

second_of : (a c d : Bool) → not (a || true || c || d) ≡ false
second_of true c d = refl
second_of false c d = refl

third_of : (a b d : Bool) → not (a || b || true || d) ≡ false
third_of true b d = refl
third_of false true d = refl
third_of false false d = refl

fourth_of : (a b c : Bool) → not (a || b || c || true) ≡ false
fourth_of true b c = refl
fourth_of false true c = refl
fourth_of false false true = refl
fourth_of false false false = refl

is_fault-covered : (w : List ℕ) (k : ℕ) → 0 < k → k ≤ 3 → covers k w ≡ true → is_fault w ≡ false
unfolding is_fault
is_fault-covered w (suc zero) some few e = rw e (second_of (covers 0 w) (covers 2 w) (covers 3 w))
is_fault-covered w (suc (suc zero)) some few e = rw e (third_of (covers 0 w) (covers 1 w) (covers 3 w))
is_fault-covered w (suc (suc (suc zero))) some few e = rw e (fourth_of (covers 0 w) (covers 1 w) (covers 2 w))
is_fault-covered w zero some few e = absurd (omega arith)
is_fault-covered w (suc (suc (suc (suc k)))) some few e = absurd (omega arith)

is_surrogate-continuation : (w : List ℕ) → get_or w 3 0 < 0xC0 → is_surrogate w ≡ false
unfolding is_surrogate
is_surrogate-continuation w low = grind (arith, common_steps)

pub twice_len-continuation : (w : List ℕ) → get_or w 3 0 < 0xC0 → twice_len w ≡ 0
unfolding twice_len
twice_len-continuation w low = grind (arith, common_steps)

is_char-none : (w : List ℕ) → front_len (drop 3 w) ≡ 0 → is_char w ≡ false
unfolding is_char
is_char-none w none = rw none refl

-- a window whose fourth byte belongs to a character that began before it
pub seen_inside : (w : List ℕ) (k : ℕ) → 0 < k → k ≤ 3 → k < front_len (drop (3 - k) w) → seen w ≡ nothing
seen_inside w k some few lt =
    let continuation = continues (drop (3 - k) w) k some lt in
    let at : get_or (drop (3 - k) w) k 0 ≡ get_or w 3 0 = get_or-drop (3 - k) w k 0 ∙ ap (λ i. get_or w i 0) (omega arith) in
    let byte = rw at at continuation in
    let first : get_or (drop 3 w) 0 0 ≡ get_or w 3 0 = get_or-drop 3 w 0 0 in
    let none = none_begins (drop 3 w) (rw first byte.0) (rw first byte.1) in
    let covered : covers k w ≡ true = grind (arith, common_steps) in
    rw (is_fault-covered w k some few covered, is_char-none w none, is_surrogate-continuation w byte.1, twice_len-continuation w byte.1) refl

is_fault-char : (w : List ℕ) → 1 < front_len (drop 3 w) → is_fault w ≡ false
unfolding is_fault
is_fault-char w lt = let first : covers 0 w ≡ true = grind (arith, common_steps) in rw first refl

is_char-char : (w : List ℕ) → 1 < front_len (drop 3 w) → is_char w ≡ true
unfolding is_char
is_char-char w lt = grind (arith, common_steps)

-- a window at which a character of several bytes begins
pub seen_char : (w : List ℕ) → 1 < front_len (drop 3 w)
    → seen w
    ≡ record { chars = 1; faults = 0; third = 0; signs = 0; undefined = 0; surrogates = number (is_surrogate w); twice = number (nat_lt 0 (twice_len w)); twice_chars = twice_len w }
seen_char w lt = rw (is_fault-char w lt, is_char-char w lt) refl
