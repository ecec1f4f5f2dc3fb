-- The first character of a text, and the one character of a text, as functions of the text.
use Rattle.std.proofs.Common.{◌≡◌, ℕ, ◌+◌, ◌-◌, ◌<◌, List, [], ◌++◌, length, drop, ⊎_elim, take, Ok, Err, Result, eqb, true, false, refl, ap, sym, ◌∙◌, arith}
use Rattle.std.proofs.lemmas.Grind.{common_steps}
use Rattle.std.specs.Str.{IsCharBoundary, IsUtf8}
use Rattle.std.proofs.lemmas.List.{take-append-drop}
use Rattle.std.proofs.lemmas.Str.{IsUtf8-drop, IsCharBoundary-past_char, length-encode}
use Rattle.utf_base.specs.declared.errors.scalars.EmptyStrError.{EmptyStrError}
use Rattle.utf_base.specs.declared.errors.scalars.FromStrError.{FromStrError}
use Rattle.utf_base.specs.declared.errors.scalars.FromStrError.TheVariants.{MultipleCodepoints, Empty}
use Rattle.utf_base.specs.Scalar.{IsScalar}
use Rattle.utf_base.specs.Code.{utf8}
use Rattle.utf_base.specs.Front.{BeginsWith}
use Rattle.utf_base.specs.Kinds.{asked_by, value}
use Rattle.utf_base.specs.Piece.{Stands}
use Rattle.utf_base.proofs.FrontLemmas.{decodes_from_stands, code_where_no_fault, no_fault_where_code}
use Rattle.utf_base.proofs.Standing.{stands_alone}
use Rattle.utf_base.proofs.StdText.{utf8_is_std, text_begins}
use Rattle.utf_base.proofs.Utf8Code.{utf8_is_code}
use Rattle.utf_chars.specs.Chars.{BeginsText, IsFrontCode, IsOneCharText, first_of_text, parsed, Parses}

-- the results for a text that begins with a code
record TextTells (text : List ℕ) (s : ℕ) : Type 0 where
  some : eqb (length text) 0 ≡ false
  char : value text ≡ s
  len : asked_by text ≡ length (utf8 s)

text_tells : (text : List ℕ) (s : ℕ) → Stands utf8 text 0 s → TextTells text s
text_tells text s h =
    let none = no_fault_where_code text s h in
    let char : value text ≡ s = (decodes_from_stands text s h).1 in
    let some = utf8_is_code.some s h.scalar in
    let longer : 0 < length text = omega arith in
    record { some = grind (arith, common_steps); char = char; len = (code_where_no_fault text none).1 ∙ ap (λ x. length (utf8 x)) char }

pub answer_of_text : (text : List ℕ) (r : Result (ℕ × ℕ) EmptyStrError) → BeginsText text r → r ≡ first_of_text text
unfolding first_of_text
answer_of_text text (Ok (s, n)) h =
    let tells = text_tells text s h.0 in
    rw (tells.some, tells.char, tells.len, h.1) refl
answer_of_text text (Err e) h = rw h refl

pub answer_of_parse : (text : List ℕ) (r : Result ℕ FromStrError) → IsOneCharText text r → r ≡ parsed text
unfolding parsed
answer_of_parse text (Ok s) h =
    let tells = text_tells text s (alone text s h.0 h.1) in
    let whole : eqb (length text) (asked_by text) ≡ true = rw (tells.len, h.1) (same (length (utf8 s))) in
    rw (tells.some, whole, tells.char) refl
  where
    alone : (text : List ℕ) (s : ℕ) → IsScalar s → text ≡ utf8 s → Stands utf8 text 0 s
    alone text s h e = stands_alone utf8 text (s, h, e)

    same : (n : ℕ) → eqb n n ≡ true
    same n = grind (arith, common_steps)
answer_of_parse text (Err Empty) h = rw h refl
answer_of_parse text (Err MultipleCodepoints) h =
    let tells = text_tells text h.0 h.1 in
    let longer : eqb (length text) (asked_by text) ≡ false = grind (arith, common_steps) in
    rw (tells.some, longer) refl

pub parses : (text : List ℕ) (r : Result ℕ FromStrError) → IsOneCharText text r → Parses text r
parses text r h = record { char = h; known = answer_of_parse text r h }

-- the first character is the only one if it is as long as the text
pub whole_text : (text : List ℕ) (s n : ℕ) → BeginsWith utf8 text s n → n ≡ length text → IsOneCharText text (Ok s)
whole_text text s n h e =
    (h.0.scalar, whole text s n h e)
  where
    whole : (text : List ℕ) (s n : ℕ) → BeginsWith utf8 text s n → n ≡ length text → text ≡ utf8 s
    whole text s n h e = let equal = h.0.equal in let len = h.1 in grind (arith, common_steps)

-- the code of a scalar, as a text
pub text_of_code : (text : List ℕ) (s : ℕ) → IsScalar s → text ≡ utf8 s → (first_of_text text ≡ Ok (s, length text)) × (parsed text ≡ Ok s)
text_of_code text s h e = (
  sym (answer_of_text text (Ok (s, length text)) (stands_alone utf8 text (s, h, e), ap length e)),
  sym (answer_of_parse text (Ok s) (h, e)),
)

-- a text can be cut after a character, if it can be cut before it
pub boundary_after : (xs : List ℕ) (i s k : ℕ) → IsUtf8 xs → IsCharBoundary xs i → Stands utf8 xs i s → k ≡ i + length (utf8 s) → IsCharBoundary xs k
boundary_after xs i s k is_text front h e =
    let n : length (utf8 s) ≡ i + length (utf8 s) - i = omega arith in
    let code : take (length (utf8 s)) (drop i xs) ≡ utf8 s = ap (λ k. take k (drop i xs)) n ∙ h.equal in
    let split : drop i xs ≡ utf8 s ++ drop (length (utf8 s)) (drop i xs)
    = sym (take-append-drop (length (utf8 s)) (drop i xs)) ∙ ap (λ ys. ys ++ drop (length (utf8 s)) (drop i xs)) code in
    let seam = IsCharBoundary-past_char xs _ i s (omega arith) (IsUtf8-drop xs i is_text front) (split ∙ ap (λ ys. ys ++ drop (length (utf8 s)) (drop i xs)) (sym (utf8_is_std s))) in
    let len = sym (length-encode s) ∙ ap length (utf8_is_std s) in
    rw e (rw len at seam)

-- a code begins each text but the empty one, and its first byte determines the length
pub front_code : (text : List ℕ) (n : ℕ) → IsUtf8 text → 0 < length text → (0 < asked_by text → n ≡ asked_by text) → IsFrontCode text n
front_code text n is_text some by_first =
    ⊎_elim
    (λ (empty : text ≡ []). let none : length text ≡ 0 = ap length empty in absurd (omega arith))
    (λ (code : (s : ℕ) × Stands utf8 text 0 s).
    (code.0, (code.1, by_first (decodes_from_stands text code.0 code.1).0.asks ∙ (text_tells text code.0 code.1).len)))
    (text_begins text is_text)
