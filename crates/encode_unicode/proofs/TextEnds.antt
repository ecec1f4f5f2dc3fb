-- The code that ends a text, determined by its last bytes.
use Rattle.std.proofs.Common.{◌≡◌, ℕ, ◌+◌, ◌-◌, ◌<◌, ◌≤◌, ◌⊎◌, inl, inr, List, [], ◌∷◌, ◌++◌, length, get_or, true, refl, ap, sym, ◌∙◌, arith, ⊎_elim, length-append}
use Rattle.std.proofs.lemmas.Grind.{common_steps}
use Rattle.std.proofs.lemmas.List.{append-nil, append_assoc, drop_at, take_all, get_or-append_right}
use Rattle.std.specs.Char.{IsScalar as IsStdScalar}
use Rattle.std.proofs.Math.Utf8.{scalars}
use Rattle.std.specs.Prelude.{encode_utf8_all, Ok, Result}
use Rattle.std.specs.Str.{IsUtf8}
use Rattle.utf_base.specs.Code.{utf8}
use Rattle.utf_base.specs.Piece.{Stands}
use Rattle.utf_base.specs.Scalar.{IsScalar}
use Rattle.utf_base.proofs.StdText.{utf8_is_std, scalar_from_std}
use Rattle.utf_base.specs.Decoded.{decoded_bytes}
use Rattle.utf_base.specs.Kinds.{value}
use Rattle.utf_base.specs.declared.errors.Utf8ErrorKind.{Utf8ErrorKind}
use Rattle.utf_chars.proofs.OwnCodes.{own_array}
use Rattle.utf_chars.proofs.PaddedLemmas.{IsPadded_padded}
use Rattle.utf_chars.specs.Padded.{padded, IsPadded}
use Rattle.encode_unicode.specs.TextWindow.{IsLastCode}

-- a code ends the list
record EndsInCode (xs : List ℕ) : Type 0 where
  char : ℕ
  before : List ℕ
  scalar : IsScalar char
  split : xs ≡ before ++ utf8 char

codes_end : (cs : List ℕ) → scalars cs ≡ true → (encode_utf8_all cs ≡ []) ⊎ EndsInCode (encode_utf8_all cs)
codes_end [] all = inl refl
codes_end (s ∷ cs) all =
    let scalar : IsStdScalar s = grind (arith, common_steps) in
    let others : scalars cs ≡ true = grind (arith, common_steps) in
    inr
    (⊎_elim
    (λ (none : encode_utf8_all cs ≡ []).
    record {
      char = s;
      before = [];
      scalar = scalar_from_std s scalar;
      split = ap (λ code. code ++ encode_utf8_all cs) (utf8_is_std s) ∙ ap (λ ys. utf8 s ++ ys) none ∙ append-nil (utf8 s);
    })
    (λ (some : EndsInCode (encode_utf8_all cs)).
    record {
      char = some.char;
      before = utf8 s ++ some.before;
      scalar = some.scalar;
      split = ap (λ code. code ++ encode_utf8_all cs) (utf8_is_std s) ∙ ap (λ ys. utf8 s ++ ys) some.split ∙ sym (append_assoc (utf8 s) some.before (utf8 some.char));
    })
    (codes_end cs others))

text_ends : (text : List ℕ) → IsUtf8 text → 0 < length text → EndsInCode text
text_ends text is_text some =
    ⊎_elim
    (λ (none : encode_utf8_all is_text.0 ≡ []). let empty : length text ≡ 0 = ap length (sym is_text.1.1 ∙ none) in absurd (omega arith))
    (λ (ends : EndsInCode (encode_utf8_all is_text.0)). rw (← is_text.1.1) ends)
    (codes_end is_text.0 is_text.1.0)

-- a code is at the end of a list that ends with it
stands_last : (xs rest : List ℕ) (s : ℕ) → IsScalar s → xs ≡ rest ++ utf8 s → Stands utf8 xs (length rest) s
stands_last xs rest s scalar e =
    let span : length rest + length (utf8 s) - length rest ≡ length (utf8 s) = omega arith in
    record {
      scalar = scalar;
      within = rw e (omega (arith, length-append rest (utf8 s)));
      equal = rw (e, span, drop_at rest (utf8 s) _ refl) (take_all _ (utf8 s) (omega arith));
    }

-- What the last bytes of a code imply for its length.

tail-1 : (s : ℕ) → IsScalar s → get_or (utf8 s) (length (utf8 s) - 1) 0 < 0x80 → length (utf8 s) ≡ 1
unfolding utf8
tail-1 s h low = grind (arith, common_steps)

tail-some : (s : ℕ) → IsScalar s → 1 ≤ length (utf8 s)
unfolding utf8
tail-some s h = grind (arith, common_steps)

tail-2 : (s : ℕ) → IsScalar s → 0x80 ≤ get_or (utf8 s) (length (utf8 s) - 1) 0 → 2 ≤ length (utf8 s)
unfolding utf8
tail-2 s h high = grind (arith, common_steps)

tail-two : (s : ℕ) → IsScalar s → 2 ≤ length (utf8 s) → 0xC0 ≤ get_or (utf8 s) (length (utf8 s) - 2) 0
    → (length (utf8 s) ≡ 2) × (get_or (utf8 s) (length (utf8 s) - 2) 0 < 0xE0)
unfolding utf8
tail-two s h some high = grind (arith, common_steps)

tail-3 : (s : ℕ) → IsScalar s → 2 ≤ length (utf8 s) → get_or (utf8 s) (length (utf8 s) - 2) 0 < 0xC0 → 3 ≤ length (utf8 s)
unfolding utf8
tail-3 s h some low = grind (arith, common_steps)

tail-three : (s : ℕ) → IsScalar s → 3 ≤ length (utf8 s) → 0xE0 ≤ get_or (utf8 s) (length (utf8 s) - 3) 0
    → (length (utf8 s) ≡ 3) × (get_or (utf8 s) (length (utf8 s) - 3) 0 < 0xF0)
unfolding utf8
tail-three s h some high = grind (arith, common_steps)

tail-four : (s : ℕ) → IsScalar s → 3 ≤ length (utf8 s) → get_or (utf8 s) (length (utf8 s) - 3) 0 < 0xE0
    → (length (utf8 s) ≡ 4) × (0xF0 ≤ get_or (utf8 s) (length (utf8 s) - 4) 0) × (get_or (utf8 s) (length (utf8 s) - 4) 0 < 0xF8)
unfolding utf8
tail-four s h some low = grind (arith, common_steps)

-- What the last bytes of a text imply: the byte at k from its end is the one at k from the end of its last
-- code.

at_end : (xs : List ℕ) (h : EndsInCode xs) (k : ℕ) → 0 < k → k ≤ length (utf8 h.char) → get_or xs (length xs - k) 0 ≡ get_or (utf8 h.char) (length (utf8 h.char) - k) 0
at_end xs h k some le =
    let whole : length xs ≡ length h.before + length (utf8 h.char) = ap length h.split ∙ length-append h.before (utf8 h.char) in
    let place : length xs - k - length h.before ≡ length (utf8 h.char) - k = omega arith in
    ap (λ ys. get_or ys (length xs - k) 0) h.split
    ∙ get_or-append_right h.before (utf8 h.char) (length h.before) (length xs - k) 0 refl (omega arith)
    ∙ ap (λ i. get_or (utf8 h.char) i 0) place

as_long : (xs : List ℕ) (h : EndsInCode xs) → length (utf8 h.char) ≤ length xs
as_long xs h = let whole = ap length h.split ∙ length-append h.before (utf8 h.char) in omega arith

-- the last n bytes, followed by zeros, are the last code if its length is n
is_last : (xs code : List ℕ) (h : EndsInCode xs) (n : ℕ) → length (utf8 h.char) ≡ n → code ≡ padded 4 (utf8 h.char) → IsLastCode xs code n
is_last xs code h n len e =
    let whole : length xs ≡ length h.before + length (utf8 h.char) = ap length h.split ∙ length-append h.before (utf8 h.char) in
    let place : length xs - n ≡ length h.before = omega arith in
    record { char = h.char; ends = (rw place (stands_last xs h.before h.char h.scalar h.split), sym len); padded = e }

pad-1 : (code : List ℕ) → length code ≡ 1 → get_or code 0 0 ∷ 0 ∷ 0 ∷ 0 ∷ [] ≡ padded 4 code
unfolding padded
pad-1 code len = grind (arith, common_steps)

pad-2 : (code : List ℕ) → length code ≡ 2 → get_or code 0 0 ∷ get_or code 1 0 ∷ 0 ∷ 0 ∷ [] ≡ padded 4 code
unfolding padded
pad-2 code len = grind (arith, common_steps)

pad-3 : (code : List ℕ) → length code ≡ 3 → get_or code 0 0 ∷ get_or code 1 0 ∷ get_or code 2 0 ∷ 0 ∷ [] ≡ padded 4 code
unfolding padded
pad-3 code len = grind (arith, common_steps)

pad-4 : (code : List ℕ) → length code ≡ 4 → get_or code 0 0 ∷ get_or code 1 0 ∷ get_or code 2 0 ∷ get_or code 3 0 ∷ [] ≡ padded 4 code
unfolding padded
pad-4 code len = grind (arith, common_steps)

-- What the last bytes of a text imply for the code that ends it.

pub last_one : (xs : List ℕ) → IsUtf8 xs → 0 < length xs → get_or xs (length xs - 1) 0 < 0x80 → IsLastCode xs (get_or xs (length xs - 1) 0 ∷ 0 ∷ 0 ∷ 0 ∷ []) 1
last_one xs is_text some low =
    let h = text_ends xs is_text some in
    let a = at_end xs h 1 (omega arith) (tail-some h.char h.scalar) in
    let len = tail-1 h.char h.scalar (omega arith) in
    is_last xs _ h 1 len (ap (λ x. x ∷ 0 ∷ 0 ∷ 0 ∷ []) (a ∙ ap (λ n. get_or (utf8 h.char) (n - 1) 0) len) ∙ pad-1 (utf8 h.char) len)

-- if the last byte is above 0x7F, it and the one before it belong to one code
record EndsInTwo (xs : List ℕ) : Type 0 where
  code : EndsInCode xs
  long : 2 ≤ length (utf8 code.char)
  last : get_or xs (length xs - 1) 0 ≡ get_or (utf8 code.char) (length (utf8 code.char) - 1) 0
  before : get_or xs (length xs - 2) 0 ≡ get_or (utf8 code.char) (length (utf8 code.char) - 2) 0

ends_in_two : (xs : List ℕ) → IsUtf8 xs → 0 < length xs → 0x80 ≤ get_or xs (length xs - 1) 0 → EndsInTwo xs
ends_in_two xs is_text some high =
    let h = text_ends xs is_text some in
    let last = at_end xs h 1 (omega arith) (tail-some h.char h.scalar) in
    let long = tail-2 h.char h.scalar (omega arith) in
    record { code = h; long = long; last = last; before = at_end xs h 2 (omega arith) long }

pub two_there : (xs : List ℕ) → IsUtf8 xs → 0 < length xs → 0x80 ≤ get_or xs (length xs - 1) 0 → 2 ≤ length xs
two_there xs is_text some high = let t = ends_in_two xs is_text some high in let all = as_long xs t.code in omega arith

pub last_two : (xs : List ℕ) → IsUtf8 xs → 0 < length xs → 0x80 ≤ get_or xs (length xs - 1) 0 → 0xC0 ≤ get_or xs (length xs - 2) 0
    → (get_or xs (length xs - 2) 0 < 0xE0) × IsLastCode xs (get_or xs (length xs - 2) 0 ∷ get_or xs (length xs - 1) 0 ∷ 0 ∷ 0 ∷ []) 2
last_two xs is_text some high first =
    let t = ends_in_two xs is_text some high in
    let both = tail-two t.code.char t.code.scalar t.long (omega arith) in
    let len = both.0 in
    let last : get_or xs (length xs - 1) 0 ≡ get_or (utf8 t.code.char) 1 0 = t.last ∙ ap (λ n. get_or (utf8 t.code.char) (n - 1) 0) len in
    let before : get_or xs (length xs - 2) 0 ≡ get_or (utf8 t.code.char) 0 0 = t.before ∙ ap (λ n. get_or (utf8 t.code.char) (n - 2) 0) len in
    (omega arith, is_last xs _ t.code 2 len (rw (last, before) (pad-2 (utf8 t.code.char) len)))

-- if the second last byte is a continuation byte, the one before it belongs to the code too
record EndsInThree (xs : List ℕ) : Type 0 where
  two : EndsInTwo xs
  long : 3 ≤ length (utf8 two.code.char)
  third : get_or xs (length xs - 3) 0 ≡ get_or (utf8 two.code.char) (length (utf8 two.code.char) - 3) 0

ends_in_three : (xs : List ℕ) → IsUtf8 xs → 0 < length xs → 0x80 ≤ get_or xs (length xs - 1) 0 → get_or xs (length xs - 2) 0 < 0xC0 → EndsInThree xs
ends_in_three xs is_text some high low =
    let t = ends_in_two xs is_text some high in
    let long = tail-3 t.code.char t.code.scalar t.long (omega arith) in
    record { two = t; long = long; third = at_end xs t.code 3 (omega arith) long }

pub three_there : (xs : List ℕ) → IsUtf8 xs → 0 < length xs → 0x80 ≤ get_or xs (length xs - 1) 0 → get_or xs (length xs - 2) 0 < 0xC0 → 3 ≤ length xs
three_there xs is_text some high low = let t = ends_in_three xs is_text some high low in let all = as_long xs t.two.code in omega arith

pub last_three : (xs : List ℕ) → IsUtf8 xs → 0 < length xs → 0x80 ≤ get_or xs (length xs - 1) 0 → get_or xs (length xs - 2) 0 < 0xC0 → 0xE0 ≤ get_or xs (length xs - 3) 0
    → (get_or xs (length xs - 3) 0 < 0xF0) × IsLastCode xs (get_or xs (length xs - 3) 0 ∷ get_or xs (length xs - 2) 0 ∷ get_or xs (length xs - 1) 0 ∷ 0 ∷ []) 3
last_three xs is_text some high low first =
    let t = ends_in_three xs is_text some high low in
    let h = t.two.code in
    let both = tail-three h.char h.scalar t.long (omega arith) in
    let len = both.0 in
    let last : get_or xs (length xs - 1) 0 ≡ get_or (utf8 h.char) 2 0 = t.two.last ∙ ap (λ n. get_or (utf8 h.char) (n - 1) 0) len in
    let middle : get_or xs (length xs - 2) 0 ≡ get_or (utf8 h.char) 1 0 = t.two.before ∙ ap (λ n. get_or (utf8 h.char) (n - 2) 0) len in
    let before : get_or xs (length xs - 3) 0 ≡ get_or (utf8 h.char) 0 0 = t.third ∙ ap (λ n. get_or (utf8 h.char) (n - 3) 0) len in
    (omega arith, is_last xs _ h 3 len (rw (last, middle, before) (pad-3 (utf8 h.char) len)))

-- if the third last byte is a continuation byte too, the code has four
pub record EndsInFour (xs : List ℕ) : Type 0 where
  pub there : 4 ≤ length xs
  pub low : 0xF0 ≤ get_or xs (length xs - 4) 0
  pub high : get_or xs (length xs - 4) 0 < 0xF8
  pub last : IsLastCode xs (get_or xs (length xs - 4) 0 ∷ get_or xs (length xs - 3) 0 ∷ get_or xs (length xs - 2) 0 ∷ get_or xs (length xs - 1) 0 ∷ []) 4

pub last_four : (xs : List ℕ) → IsUtf8 xs → 0 < length xs → 0x80 ≤ get_or xs (length xs - 1) 0 → get_or xs (length xs - 2) 0 < 0xC0 → get_or xs (length xs - 3) 0 < 0xE0
    → EndsInFour xs
last_four xs is_text some high low lower =
    let t = ends_in_three xs is_text some high low in
    let h = t.two.code in
    let facts = tail-four h.char h.scalar t.long (omega arith) in
    let len = facts.0 in
    let d = at_end xs h 4 (omega arith) (omega arith) in
    let long = as_long xs h in
    let last : get_or xs (length xs - 1) 0 ≡ get_or (utf8 h.char) 3 0 = t.two.last ∙ ap (λ n. get_or (utf8 h.char) (n - 1) 0) len in
    let third : get_or xs (length xs - 2) 0 ≡ get_or (utf8 h.char) 2 0 = t.two.before ∙ ap (λ n. get_or (utf8 h.char) (n - 2) 0) len in
    let second : get_or xs (length xs - 3) 0 ≡ get_or (utf8 h.char) 1 0 = t.third ∙ ap (λ n. get_or (utf8 h.char) (n - 3) 0) len in
    let before : get_or xs (length xs - 4) 0 ≡ get_or (utf8 h.char) 0 0 = d ∙ ap (λ n. get_or (utf8 h.char) (n - 4) 0) len in
    record {
      there = omega arith;
      low = omega arith;
      high = omega arith;
      last = is_last xs _ h 4 len (rw (last, third, second, before) (pad-4 (utf8 h.char) len));
    }

-- The array keeps a character, and reading it returns that character.

pub last_padded : (text code : List ℕ) (n : ℕ) → IsLastCode text code n → IsPadded utf8 4 value code
last_padded text code n last = IsPadded_padded code last.char last.ends.0.scalar last.padded

pub last_is_read : (text code : List ℕ) (t n : ℕ) (last : IsLastCode text code n) → decoded_bytes code ≡ Ok t → last.char ≡ t
last_is_read text code t n last known =
    let own = (own_array code last.char n last.ends.0.scalar last.padded last.ends.1).decodes_bytes in
    same (Ok last.char) t (sym own ∙ known) refl
  where
    same : {s : ℕ} (r : Result ℕ Utf8ErrorKind) (t : ℕ) → r ≡ Ok t → r ≡ Ok s → s ≡ t
    same r t e g = grind (arith, common_steps)
