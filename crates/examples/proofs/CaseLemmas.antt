-- Bytes that are equal but for ASCII case have the same pieces, but for case.
use Rattle.std.proofs.Common.{◌≡◌, ℕ, ◌+◌, ◌<◌, ◌≤◌, List, length, map, get_or, Option, Some, None, refl, ⊎_elim, arith, ap, sym, ◌∙◌}
use Rattle.std.proofs.lemmas.Bool.{cases_lt}
use Rattle.std.proofs.lemmas.Grind.{common_steps}
use Rattle.std.proofs.lemmas.List.{ext_get_or, get_or-map, length-map}
use Rattle.std.proofs.lemmas.Str.Ascii.{lowercase_ascii, lowercase_is}
use Rattle.std.specs.Char.{to_ascii_lowercase}
use Rattle.std.specs.Prelude.{option_map, slice_range}
use Rattle.encode_unicode.specs.Code.{utf8}
use Rattle.encode_unicode.specs.CutLaws.{AsciiStandsAlone, CodesNeverOverlap}
use Rattle.encode_unicode.specs.Piece.{Covered, IsPieceAt, Stands}
use Rattle.encode_unicode.proofs.ForCallers.{same_char, utf8_is_code}
use Rattle.examples.specs.Cases.{ArePiecesAlike}

-- the two lists are equal but for case
abbrev pub AreAlike : List ℕ → List ℕ → Type 0
AreAlike xs ys = map to_ascii_lowercase xs ≡ map to_ascii_lowercase ys

-- outside of ASCII `to_ascii_lowercase` changes nothing
stays : (a : ℕ) → 128 ≤ a → to_ascii_lowercase a ≡ a
stays a h = (lowercase_is a).2 (omega arith)

below : (a b : ℕ) → a < 128 → to_ascii_lowercase a ≡ to_ascii_lowercase b → b < 128
below a b lt e =
    let lower = lowercase_ascii a lt in
    ⊎_elim (λ (h : b < 128). h) (λ (h : 128 ≤ b). let same = stays b h in let less : b < 128 = omega arith in less) (cases_lt b 128)

same_beyond : (a b : ℕ) → 128 ≤ a → to_ascii_lowercase a ≡ to_ascii_lowercase b → a ≡ b
same_beyond a b ge e =
    ⊎_elim
    (λ (h : b < 128). let less = below b a h (sym e) in let no : a ≡ b = omega arith in no)
    (λ (h : 128 ≤ b). sym (stays a ge) ∙ e ∙ stays b h)
    (cases_lt b 128)

same_length : (xs ys : List ℕ) → AreAlike xs ys → length xs ≡ length ys
same_length xs ys e = sym (length-map xs to_ascii_lowercase) ∙ ap length e ∙ length-map ys to_ascii_lowercase

at_place : (xs ys : List ℕ) → AreAlike xs ys → (k : ℕ) → k < length xs → to_ascii_lowercase (get_or xs k 0) ≡ to_ascii_lowercase (get_or ys k 0)
at_place xs ys e k lt =
    let len = same_length xs ys e in
    sym (get_or-map to_ascii_lowercase xs k 0 0 lt) ∙ ap (λ l. get_or l k 0) e ∙ get_or-map to_ascii_lowercase ys k 0 0 (omega arith)

at_range : (xs : List ℕ) (p n k : ℕ) → p + n ≤ length xs → k < n → get_or (slice_range xs p (p + n)) k 0 ≡ get_or xs (p + k) 0
at_range xs p n k le lt = grind (arith, common_steps)

range_length : (xs : List ℕ) (p n : ℕ) → p + n ≤ length xs → length (slice_range xs p (p + n)) ≡ n
range_length xs p n le = grind (arith, common_steps)

-- a character that is equal but for case is at the offset, and its encoded length is the same
record AlikeAt (ys : List ℕ) (p s : ℕ) : Type 0 where
  char : ℕ
  stands : Stands utf8 ys p char
  len : length (utf8 char) ≡ length (utf8 s)
  alike : to_ascii_lowercase char ≡ to_ascii_lowercase s

module _ (alone : AsciiStandsAlone) (apart : CodesNeverOverlap utf8) where
  -- no byte of a character outside of ASCII is ASCII
  all_beyond : (xs : List ℕ) (p s k : ℕ) → Stands utf8 xs p s → 128 ≤ get_or xs p 0 → k < length (utf8 s) → 128 ≤ get_or xs (p + k) 0
  all_beyond xs p s k h ge lt =
      ⊎_elim
      (λ (low : get_or xs (p + k) 0 < 128).
      let ascii = alone xs (p + k) (omega arith) low in
      ⊎_elim
      (λ (more : p < p + k). let over = (apart xs p (p + k) s (get_or xs (p + k) 0) h ascii.0).1 more in let no : 128 ≤ get_or xs (p + k) 0 = omega arith in no)
      (λ (here : p + k ≤ p). let same : p + k ≡ p = omega arith in let beyond : 128 ≤ get_or xs (p + k) 0 = rw same ge in beyond)
      (cases_lt p (p + k)))
      (λ (high : 128 ≤ get_or xs (p + k) 0). high)
      (cases_lt (get_or xs (p + k) 0) 128)

  same_range : (xs ys : List ℕ) → AreAlike xs ys → (p s : ℕ) → Stands utf8 xs p s → 128 ≤ get_or xs p 0
      → slice_range ys p (p + length (utf8 s)) ≡ slice_range xs p (p + length (utf8 s))
  same_range xs ys e p s h ge =
      let within = h.within in
      let len = same_length xs ys e in
      let n : ℕ = length (utf8 s) in
      let of_ys = range_length ys p n (omega arith) in
      let of_xs = range_length xs p n within in
      ext_get_or 0 (slice_range ys p (p + n)) (slice_range xs p (p + n)) (of_ys ∙ sym of_xs) (λ k lt.
      let few : k < n = omega arith in
      at_range ys p n k (omega arith) few ∙ sym (same_beyond (get_or xs (p + k) 0) (get_or ys (p + k) 0) (all_beyond xs p s k h ge few) (at_place xs ys e (p + k) (omega arith)))
      ∙ sym (at_range xs p n k within few))

  standing : (xs ys : List ℕ) → AreAlike xs ys → (p s : ℕ) → Stands utf8 xs p s → AlikeAt ys p s
  standing xs ys e p s h =
      let within = h.within in
      let some = utf8_is_code.some s h.scalar in
      let len = same_length xs ys e in
      let alike = at_place xs ys e p (omega arith) in
      ⊎_elim
      (λ (low : get_or xs p 0 < 128).
      let x = alone xs p (omega arith) low in
      let y = alone ys p (omega arith) (below (get_or xs p 0) (get_or ys p 0) low alike) in
      let same = same_char utf8 utf8_is_code xs p s (get_or xs p 0) h x.0 in
      let there : AlikeAt ys p s = record {
        char = get_or ys p 0;
        stands = y.0;
        len = sym y.1 ∙ x.1 ∙ ap (λ c. length (utf8 c)) (sym same);
        alike = sym alike ∙ ap to_ascii_lowercase (sym same);
      } in
      there)
      (λ (high : 128 ≤ get_or xs p 0).
      let there : AlikeAt ys p s = record {
        char = s;
        stands = record { scalar = h.scalar; within = omega arith; equal = same_range xs ys e p s h high ∙ h.equal };
        len = refl;
        alike = refl;
      } in
      there)
      (cases_lt (get_or xs p 0) 128)

  covered : (xs ys : List ℕ) → AreAlike xs ys → (p : ℕ) → Covered utf8 xs p → Covered utf8 ys p
  covered xs ys e p c =
      let there = standing xs ys e c.from c.char c.stands in
      let ends = c.ends in
      record { from = c.from; char = there.char; stands = there.stands; begins = c.begins; ends = omega arith }

  pub pieces_alike : (xs ys : List ℕ) → AreAlike xs ys → ArePiecesAlike xs ys
  pieces_alike xs ys e x h = by_char x.start x.len x.char h
    where
      by_char : (p n : ℕ) (o : Option ℕ) → IsPieceAt utf8 xs p n o → (c : Option ℕ) × IsPieceAt utf8 ys p n c × (option_map to_ascii_lowercase c ≡ option_map to_ascii_lowercase o)
      by_char p n (Some s) h =
          let there = standing xs ys e p s h.0 in
          (Some there.char, (there.stands, h.1 ∙ sym there.len), ap Some there.alike)
      by_char p n None h =
          let len = same_length xs ys e in
          (None, (omega arith, h.1, λ c. h.2 (covered ys xs (sym e) p c)), refl)
