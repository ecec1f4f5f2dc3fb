-- A run of a decoder from the end gives the list of its pieces in reverse order.
use Rattle.std.proofs.Common.{◌≡◌, ℕ, zero, suc, ◌+◌, ◌-◌, ◌<◌, ◌≤◌, List, [], ◌∷◌, false, true, Some, None, Ok, Err, Result, refl, ap, sym, ◌∙◌, arith, if◌then◌else◌, ⊎_elim}
use Rattle.std.proofs.lemmas.Bool.{cases_lt}
use Rattle.std.proofs.lemmas.Grind.{common_steps}
use Rattle.std.specs.Prelude.{◌==◌, nat_le, slice_range}
use Rattle.utf_base.specs.Back.{decoded_end, decoded_pairs_end, end_len, end_fault, last_bytes, unit_end}
use Rattle.utf_base.specs.Code.{utf8, utf16}
use Rattle.utf_base.specs.Kinds.{back_kind, value}
use Rattle.utf_base.specs.Units.{unit_back_kind}
use Rattle.encode_unicode.specs.BackPieces.{ending_at, pieces_back_by, pieces_back_left, unit_pieces_back_left}
use Rattle.encode_unicode.specs.Sources.{IsListed}
use Rattle.encode_unicode.specs.Window.{Window, Placed, as_piece, GivesNone, GivesBackOf, NextBackGives, NextBackGivesUnits}

-- each piece has an element

pub some_end_bytes : (w : List ℕ) → 1 ≤ (as_piece (decoded_end w)).1
unfolding decoded_end
some_end_bytes w = by_len (end_len w)
  where
    by_len : (n : ℕ) → 1 ≤ (as_piece (if n == 0 then Err (end_fault w) else Ok (value (last_bytes n w), n))).1
    by_len n = grind (arith, common_steps)

pub some_end_units : (w : List ℕ) → 1 ≤ (as_piece (decoded_pairs_end w)).1
unfolding decoded_pairs_end unit_end
some_end_units w = grind (arith, common_steps)

module _ {E : Type 0} (answer : List ℕ → Result (ℕ × ℕ) E) (some : (w : List ℕ) → 1 ≤ (as_piece (answer w)).1) (xs : List ℕ) where
  -- the number of elements of the last piece
  abbrev taken : ℕ → ℕ → ℕ
  taken i j = (as_piece (answer (slice_range xs i j))).1

  pub back_none : (n i j : ℕ) → j ≤ i → pieces_back_by answer n xs i j ≡ []
  unfolding pieces_back_by
  back_none zero i j le = refl
  back_none (suc n) i j le = let yes : nat_le j i ≡ true = grind (arith, common_steps) in rw yes refl

  pub back_more : (n i j : ℕ) → i < j → pieces_back_by answer (suc n) xs i j ≡ ending_at j (as_piece (answer (slice_range xs i j))) ∷ pieces_back_by answer n xs i (j - taken i j)
  unfolding pieces_back_by
  back_more n i j lt = let no : nat_le j i ≡ false = grind (arith, common_steps) in rw no refl

  -- the bound does not matter if it is no less than the number of elements
  back_enough : (n m i j : ℕ) → j ≤ i + n → j ≤ i + m → pieces_back_by answer n xs i j ≡ pieces_back_by answer m xs i j
  back_enough zero m i j a b = back_none zero i j (omega arith) ∙ sym (back_none m i j (omega arith))
  back_enough (suc n) zero i j a b = back_none (suc n) i j (omega arith) ∙ sym (back_none zero i j (omega arith))
  back_enough (suc n) (suc m) i j a b =
      ⊎_elim
      (λ (lt : i < j).
      let one = some (slice_range xs i j) in
      back_more n i j lt ∙ ap (λ rest. ending_at j (as_piece (answer (slice_range xs i j))) ∷ rest) (back_enough n m i (j - taken i j) (omega arith) (omega arith)) ∙ sym (back_more m i j lt))
      (λ (le : j ≤ i). back_none (suc n) i j le ∙ sym (back_none (suc m) i j le))
      (cases_lt i j)

  pub last_piece : (n i j : ℕ) (x : Placed E) → i < j → j ≡ i + n → x.0 + x.2 ≡ j → (x.1, x.2) ≡ as_piece (answer (slice_range xs i j))
      → pieces_back_by answer n xs i j ≡ x ∷ pieces_back_by answer ((j - x.2) - i) xs i (j - x.2)
  last_piece zero i j x lt enough e known = absurd (omega arith)
  last_piece (suc n) i j x lt enough e known =
      let one = some (slice_range xs i j) in
      let len : x.2 ≡ taken i j = ap (λ a. a.1) known in
      let place : j - x.2 ≡ x.0 = omega arith in
      back_more n i j lt ∙ ap (λ a. ending_at j a ∷ pieces_back_by answer n xs i (j - a.1)) (sym known)
      ∙ ap (λ p. (p, x.1, x.2) ∷ pieces_back_by answer n xs i (j - x.2)) place
      ∙ ap (λ rest. x ∷ rest) (back_enough n ((j - x.2) - i) i (j - x.2) (omega arith) (omega arith))

module _ {E : Type 0} (code : ℕ → List ℕ) (most : ℕ) (kind : ℕ → E) (answer : List ℕ → Result (ℕ × ℕ) E) (some : (w : List ℕ) → 1 ≤ (as_piece (answer w)).1) where
  abbrev left : Window → List (Placed E)
  left w = pieces_back_by answer (w.back - w.front) w.whole w.front w.back

  last_taken : (w v : Window) (x : Placed E) → GivesBackOf code most kind answer w x v → left w ≡ x ∷ left v
  last_taken w v x g =
      rw g.left (last_piece answer some w.whole (w.back - w.front) w.front w.back x g.some (omega (arith, g.some)) g.place g.known)

  none_left : (w v : Window) → GivesNone w v → left w ≡ []
  none_left w v g = back_none answer some w.whole (w.back - w.front) w.front w.back (omega (arith, g.none))

-- the remaining pieces of a decoder of bytes from the end, and of a decoder of units
pub decoder_listed_back : IsListed NextBackGives pieces_back_left
decoder_listed_back w None v h = let none = none_left utf8 4 back_kind decoded_end some_end_bytes w v h in (none, rw h.left none)
decoder_listed_back w (Some x) v h = last_taken utf8 4 back_kind decoded_end some_end_bytes w v x h

pub unit_decoder_listed_back : IsListed NextBackGivesUnits unit_pieces_back_left
unit_decoder_listed_back w None v h = let none = none_left utf16 2 unit_back_kind decoded_pairs_end some_end_units w v h in (none, rw h.left none)
unit_decoder_listed_back w (Some x) v h = last_taken utf16 2 unit_back_kind decoded_pairs_end some_end_units w v x h
