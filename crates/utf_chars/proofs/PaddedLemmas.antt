-- The four bytes of a character.
use Rattle.std.proofs.Common.{◌+◌, ◌-◌, ◌*◌, ◌&&◌, true, lit<, ◌≡◌, ℕ, ◌-◌, ◌<◌, ◌≤◌, List, [], ◌∷◌, ◌++◌, length, get_or, take, sym, ap, ◌∙◌, refl, arith}
use Rattle.std.proofs.lemmas.Grind.{common_steps}
use Rattle.std.proofs.lemmas.Bool.{and_from}
use Rattle.std.proofs.lemmas.List.{take_at}
use Rattle.std.specs.Prelude.{replicate}
use Rattle.utf_base.specs.Scalar.{IsScalar}
use Rattle.utf_base.specs.Code.{utf8}
use Rattle.utf_base.specs.Front.{BeginsWith}
use Rattle.utf_base.specs.Kinds.{value, asked, payload, is_continuation}
use Rattle.utf_base.specs.Piece.{Stands}
use Rattle.utf_base.proofs.Standing.{stands_first}
use Rattle.utf_base.proofs.Utf8Code.{utf8-1}
use Rattle.utf_base.proofs.FrontLemmas.{decodes_from_stands, code_where_no_fault, no_fault_where_code, value-1, value-2, value-3, value-4, asked-1}
use Rattle.utf_chars.specs.Padded.{padded, IsPadded}

stands_padded : (xs : List ℕ) (s : ℕ) → IsScalar s → xs ≡ padded 4 (utf8 s) → Stands utf8 xs 0 s
unfolding padded
stands_padded xs s h e = stands_first utf8 xs (replicate (4 - length (utf8 s)) 0) s h e

-- the code of the value begins the bytes
pub stands_in_bytes : (bytes : List ℕ) → IsPadded utf8 4 value bytes → Stands utf8 bytes 0 (value bytes)
stands_in_bytes bytes h = stands_padded bytes (value bytes) h.scalar h.equal

-- the value of a code that zeros follow is its scalar
pub value_padded : (bytes : List ℕ) (s : ℕ) → IsScalar s → bytes ≡ padded 4 (utf8 s) → value bytes ≡ s
value_padded bytes s h e = (decodes_from_stands bytes s (stands_padded bytes s h e)).1

pub IsPadded_padded : (bytes : List ℕ) (s : ℕ) → IsScalar s → bytes ≡ padded 4 (utf8 s) → IsPadded utf8 4 value bytes
IsPadded_padded bytes s h e =
    let v = value_padded bytes s h e in
    record { scalar = rw v h; equal = rw v e }

-- the first bytes, as many as the code has, are the code
pub take_padded : (bytes : List ℕ) (s n : ℕ) → IsPadded utf8 4 value bytes → value bytes ≡ s → n ≡ length (utf8 s) → take n bytes ≡ utf8 s
unfolding padded
take_padded bytes s n h e l = rw (h.equal, e, l) (take_at (utf8 s) (replicate (4 - length (utf8 s)) 0) _ refl)

-- the number of bytes that a lead byte asks for, by the range in which it lies
pub asked_by_range : (b : ℕ) → 0 < asked b
    → (b < 0x80 → asked b ≡ 1) × (0x80 ≤ b → b < 0xE0 → asked b ≡ 2) × (0xE0 ≤ b → b < 0xF0 → asked b ≡ 3) × (0xF0 ≤ b → asked b ≡ 4)
unfolding asked
asked_by_range b h = grind (arith, common_steps)

-- the first byte asks for as many bytes as the code has
pub asked_by_first : (bytes : List ℕ) (s : ℕ) → IsPadded utf8 4 value bytes → value bytes ≡ s → (0 < asked (get_or bytes 0 0)) × (asked (get_or bytes 0 0) ≡ length (utf8 s))
asked_by_first bytes s h e =
    let st = stands_in_bytes bytes h in
    ((decodes_from_stands bytes (value bytes) st).0.asks, (code_where_no_fault bytes (no_fault_where_code bytes (value bytes) st)).1 ∙ ap (λ x. length (utf8 x)) e)

-- an ASCII code, then zeros
pub padded_ascii : (s : ℕ) → s < 0x80 → s ∷ 0 ∷ 0 ∷ 0 ∷ [] ≡ padded 4 (utf8 s)
unfolding padded
padded_ascii s h = rw (utf8-1 s h) refl

pub ruleset of_one_byte = (utf8-1)

-- the first byte shows whether the scalar is below 128
pub first_is_ascii : (bytes : List ℕ) (s : ℕ) → IsPadded utf8 4 value bytes → value bytes ≡ s → (get_or bytes 0 0 < 128 → s < 128) × (s < 128 → get_or bytes 0 0 < 128)
first_is_ascii bytes s h e = (
  λ low. let v = value-1 bytes (asked-1 (get_or bytes 0 0) low) in omega arith,
  λ low. let code = h.equal ∙ ap (λ x. padded 4 (utf8 x)) e ∙ sym (padded_ascii s low) in let first : get_or bytes 0 0 ≡ s = ap (λ xs. get_or xs 0 0) code in omega arith,
)

-- The payloads that make up the scalar, by the first byte.
pub record ByFirst (bytes : List ℕ) (s : ℕ) : Type 0 where
  pub one : get_or bytes 0 0 < 0x80 → get_or bytes 0 0 ≡ s
  pub low : 0x80 ≤ get_or bytes 0 0 → 0xC0 ≤ get_or bytes 0 0
  pub high : get_or bytes 0 0 < 0xF8
  pub two : 0x80 ≤ get_or bytes 0 0 → get_or bytes 0 0 < 0xE0 → (is_continuation (get_or bytes 1 0) ≡ true) × ((get_or bytes 0 0 - 0xC0) * 64 + payload bytes 1 ≡ s)
  pub three : 0xE0 ≤ get_or bytes 0 0 → get_or bytes 0 0 < 0xF0
      → ((is_continuation (get_or bytes 1 0) && is_continuation (get_or bytes 2 0)) ≡ true) × ((get_or bytes 0 0 - 0xE0) * 4096 + payload bytes 1 * 64 + payload bytes 2 ≡ s)
  pub four : 0xF0 ≤ get_or bytes 0 0
      → ((is_continuation (get_or bytes 1 0) && is_continuation (get_or bytes 2 0) && is_continuation (get_or bytes 3 0)) ≡ true)
      × ((get_or bytes 0 0 - 0xF0) * 262144 + payload bytes 1 * 4096 + payload bytes 2 * 64 + payload bytes 3 ≡ s)

asked_in_range : (b : ℕ) → 0 < asked b → (0x80 ≤ b → 0xC0 ≤ b) × (b < 0xF8)
unfolding asked
asked_in_range b h = grind (arith, common_steps)

continues : (b : ℕ) → (0x80 ≤ b) × (b < 0xC0) → is_continuation b ≡ true
continues b h = grind (arith, common_steps)

pub by_first : (bytes : List ℕ) (s : ℕ) → IsPadded utf8 4 value bytes → value bytes ≡ s → ByFirst bytes s
by_first bytes s h e =
    let d = (decodes_from_stands bytes (value bytes) (stands_in_bytes bytes h)).0 in
    let range = asked_by_range (get_or bytes 0 0) d.asks in
    let ends = asked_in_range (get_or bytes 0 0) d.asks in
    let follows : (n k : ℕ) → asked (get_or bytes 0 0) ≡ n → 0 < k → k < n → is_continuation (get_or bytes k 0) ≡ true
    = λ n k asks some lt. continues (get_or bytes k 0) (d.follow k some (rw asks lt)) in
    record {
      one = λ a. sym (value-1 bytes (range.0 a)) ∙ e;
      low = ends.0;
      high = ends.1;
      two = λ a b. let asks = range.1 a b in (follows 2 1 asks (lit< tt) (lit< tt), sym (value-2 bytes asks) ∙ e);
      three = λ a b.
          let asks = range.2 a b in
          (and_from _ _ (follows 3 1 asks (lit< tt) (lit< tt)) (follows 3 2 asks (lit< tt) (lit< tt)), sym (value-3 bytes asks) ∙ e);
      four = λ a.
          let asks = range.3 a in
          (and_from _ _ (and_from _ _ (follows 4 1 asks (lit< tt) (lit< tt)) (follows 4 2 asks (lit< tt) (lit< tt))) (follows 4 3 asks (lit< tt) (lit< tt)), sym (value-4 bytes asks) ∙ e);
    }

-- the bytes that a code takes at the front of a list, then zeros
pub front_padded : (w bytes : List ℕ) (s n : ℕ) → BeginsWith utf8 w s n → bytes ≡ take n w ++ replicate (4 - n) 0 → bytes ≡ padded 4 (utf8 s)
unfolding padded
front_padded w bytes s n h e = e ∙ rw (taken w s n h, h.1) refl
  where
    taken : (w : List ℕ) (s n : ℕ) → BeginsWith utf8 w s n → take n w ≡ utf8 s
    taken w s n h = let equal = h.0.equal in let len = h.1 in grind (arith, common_steps)

-- the code is what the array begins with
pub code_of_padded : (places : ℕ) (code xs : List ℕ) (n : ℕ) → xs ≡ padded places code → n ≡ length code → take n xs ≡ code
unfolding padded
code_of_padded places code xs n e l = rw (e, l) (take_at code (replicate (places - length code) 0) _ refl)

-- a code has four bytes if and only if its scalar is above 0xFFFF
pub four_bytes : (s : ℕ) → (length (utf8 s) ≡ 4 → 0x1_0000 ≤ s) × (0x1_0000 ≤ s → length (utf8 s) ≡ 4)
unfolding utf8
four_bytes s = grind (arith, common_steps)
