-- In UTF-16 an even number of bytes is decided: only the last piece of some bytes may be an odd one.
use Rattle.std.proofs.Common.{◌≡◌, ℕ, zero, suc, ◌+◌, ◌-◌, ◌*◌, ◌%◌, ◌<◌, ◌≤◌, Bool, true, false, List, [], ◌∷◌, ◌++◌, length, drop, min, arith, refl, ap, sym, ◌∙◌, ⊎_elim, length-append, length-drop}
use Rattle.std.proofs.lemmas.Bool.{cases_lt}
use Rattle.recoding.specs.declared.form.Form.{Form}
use Rattle.recoding.specs.declared.form.Form.TheVariants.{Utf8, Utf16Le, Utf16Be}
use Rattle.recoding.specs.TextForms.{utf16_form}
use Rattle.utf_base.specs.Decoded.{decoded_pairs}
use Rattle.utf_lanes.specs.BytePairs.{units_of}
use Rattle.encode_unicode.specs.Window.{as_piece}
use Rattle.recoding.specs.declared.faults.FaultKind.TheVariants as kind
use Rattle.text_stream.specs.declared.located.LocatedPiece.{LocatedPiece}
use Rattle.text_stream.specs.Located.{at_offset, first_told, located, located_by, told_as, wrapped}
use Rattle.text_stream.specs.UndecidedEnds.{IsUndecidedEnd}
use Rattle.text_stream.proofs.FrontTold.{told_by_units}
use Rattle.text_stream.proofs.UndecidedLemmas.{total, total_located}
use Rattle.text_positions.specs.Positions.{element_len}

-- No piece but the last has an odd number of bytes.

no_pieces : (n : ℕ) (form : Form) (offset : ℕ) (w : List ℕ) → length w ≤ 0 → located_by n form offset w ≡ []
unfolding located_by
no_pieces zero form offset w le = refl
no_pieces (suc n) form offset [] le = refl
no_pieces (suc n) form offset (b ∷ w) le = absurd (omega arith)

module _ (high : Bool) where
  even_piece : (w : List ℕ) → (first_told (utf16_form high) w).1 < length w → (first_told (utf16_form high) w).1 % 2 ≡ 0
  even_piece w lt =
      let told = ap (λ x. x.1) (told_by_units high w) in
      let k = (told_as kind.Utf16 (as_piece (decoded_pairs (units_of high w)))).1 in
      let e : (first_told (utf16_form high) w).1 ≡ min (2 * k) (length w) = told in
      omega arith

  even_pieces : (n offset : ℕ) (w : List ℕ) (given rest : List LocatedPiece) → located_by n (utf16_form high) offset w ≡ given ++ rest → 0 < length rest → total given % 2 ≡ 0
  unfolding located_by
  even_pieces n offset w [] rest e some = refl
  even_pieces zero offset w (g ∷ given) rest e some = cc
  even_pieces (suc n) offset [] (g ∷ given) rest e some = cc
  even_pieces (suc n) offset (b ∷ w) (g ∷ given) rest e some =
      let x = first_told (utf16_form high) (b ∷ w) in
      let left = drop x.1 (b ∷ w) in
      let more : located_by n (utf16_form high) (wrapped (offset + x.1)) left ≡ given ++ rest = ap (drop 1) e in
      let first : at_offset offset x ≡ g = cc in
      let len : x.1 ≡ g.len = ap (λ (p : LocatedPiece). p.len) first in
      let others = even_pieces n (wrapped (offset + x.1)) left given rest more some in
      let size = length-drop x.1 (b ∷ w) in
      ⊎_elim
      (λ (lt : x.1 < length (b ∷ w)). let even = even_piece (b ∷ w) lt in omega arith)
      (λ (ge : length (b ∷ w) ≤ x.1).
      let none : [] ≡ given ++ rest = sym (no_pieces n (utf16_form high) (wrapped (offset + x.1)) left (omega arith)) ∙ more in
      let zero_len = ap length none in
      absurd (omega (arith, length-append given rest)))
      (cases_lt x.1 (length (b ∷ w)))

  pieces_even : (w one : List ℕ) (given rest : List LocatedPiece) → located (utf16_form high) 0 (w ++ one) ≡ given ++ rest → 0 < length rest → total given % 2 ≡ 0
  unfolding located
  pieces_even w one given rest e some = even_pieces (length (w ++ one)) 0 (w ++ one) given rest e some

  even_front : (bytes : List ℕ) (n : ℕ) → IsUndecidedEnd (utf16_form high) bytes n → (length bytes - n) % 2 ≡ 0
  even_front bytes n h =
      let form = utf16_form high in
      let (given, next, locates) = h.front 0 in
      let left = drop (length bytes - n) bytes in
      let within = h.within in
      let size = length-drop (length bytes - n) bytes in
      let one : List ℕ = 0 ∷ [] in
      let longer = locates.same one in
      let long = total_located form next (left ++ one) in
      let some : 0 < length (located form next (left ++ one))
      = ⊎_elim
      (λ (yes : 0 < length (located form next (left ++ one))). yes)
      (λ (no : length (located form next (left ++ one)) ≤ 0). absurd (omega (arith, no_total (located form next (left ++ one)) no, length-append left one)))
      (cases_lt 0 (length (located form next (left ++ one)))) in
      let even = pieces_even bytes one given (located form next (left ++ one)) longer some in
      let all = total_located form 0 (bytes ++ one) in
      let sum = ap total longer ∙ total_append given (located form next (left ++ one)) in
      omega (arith, length-append bytes one, length-append left one)
    where
      no_total : (ps : List LocatedPiece) → length ps ≤ 0 → total ps ≡ 0
      no_total [] le = refl
      no_total (p ∷ ps) le = absurd (omega arith)

      total_append : (ps qs : List LocatedPiece) → total (ps ++ qs) ≡ total ps + total qs
      total_append [] qs = omega arith
      total_append (p ∷ ps) qs = let rest = total_append ps qs in omega arith

-- What is decided of some bytes is whole elements.
pub whole_front : (form : Form) (bytes : List ℕ) (n : ℕ) → IsUndecidedEnd form bytes n → (length bytes - n) % element_len form ≡ 0
whole_front Utf8 bytes n h = omega arith
whole_front Utf16Le bytes n h = even_front false bytes n h
whole_front Utf16Be bytes n h = even_front true bytes n h
