-- A merger returns the characters that a decoder gives of the same elements.
use Rattle.std.proofs.Common.{◌≡◌, ℕ, zero, suc, ◌+◌, List, [], ◌∷◌, length, map, drop, Option, Some, None, Result, Err, refl, ap, sym, ◌∙◌}
use Rattle.std.specs.List.{cons_option, filter_map}
use Rattle.std.specs.Result.{result_ok}
use Rattle.utf_base.specs.declared.errors.Utf8ErrorKind.{Utf8ErrorKind}
use Rattle.utf_base.specs.Decoded.{decoded, decoded_pairs}
use Rattle.utf_base.specs.Kinds.{fault_kind, merger_kind}
use Rattle.utf_base.proofs.DecodedLemmas.{answer_of_bytes}
use Rattle.utf_base.proofs.FrontLemmas.{code_where_no_fault}
use Rattle.utf_base.proofs.MergerLemmas.{merger_none_where_code}
use Rattle.encode_unicode.specs.Mergers.{MergedCharacters, MergedUnitCharacters, decoded_by_merger, merged, merged_units}
use Rattle.encode_unicode.specs.Pieces.{pieces_by}
use Rattle.encode_unicode.specs.Window.{as_piece}
use Rattle.encode_unicode.proofs.MergedLists.{fault_by_merger, same_code}
use Rattle.encode_unicode.proofs.PieceRuns.{whole_text}

-- the properties that two decodings share: the length of the first piece, and its character, if it is one
abbrev AreAlike : {E F : Type 0} → Result (ℕ × ℕ) E → Result (ℕ × ℕ) F → Type 0
AreAlike a b = ((as_piece a).1 ≡ (as_piece b).1) × (result_ok (as_piece a).0 ≡ result_ok (as_piece b).0)

module _ {E F : Type 0} (a : List ℕ → Result (ℕ × ℕ) E) (b : List ℕ → Result (ℕ × ℕ) F) (alike : (w : List ℕ) → AreAlike (a w) (b w)) where
  same_characters : (n i j : ℕ) (xs : List ℕ) → filter_map (λ x. result_ok x.1) (pieces_by a n i xs) ≡ filter_map (λ x. result_ok x.1) (pieces_by b n j xs)
  unfolding pieces_by
  same_characters zero i j xs = refl
  same_characters (suc n) i j [] = refl
  same_characters (suc n) i j (x ∷ xs) =
      let one = alike (x ∷ xs) in
      let rest = same_characters n (i + (as_piece (a (x ∷ xs))).1) (j + (as_piece (b (x ∷ xs))).1) (drop (as_piece (a (x ∷ xs))).1 (x ∷ xs)) in
      ap (λ o. cons_option o (filter_map (λ y. result_ok y.1) (pieces_by a n (i + (as_piece (a (x ∷ xs))).1) (drop (as_piece (a (x ∷ xs))).1 (x ∷ xs))))) one.1
      ∙ ap (cons_option (result_ok (as_piece (b (x ∷ xs))).0)) (rest ∙ ap (λ k. filter_map (λ y. result_ok y.1) (pieces_by b n (j + (as_piece (b (x ∷ xs))).1) (drop k (x ∷ xs)))) one.0)

filter_mapped : {A B C : Type 0} (h : B → Option C) (f : A → B) (xs : List A) → filter_map h (map f xs) ≡ filter_map (λ x. h (f x)) xs
filter_mapped h f [] = refl
filter_mapped h f (x ∷ xs) = ap (cons_option (h (f x))) (filter_mapped h f xs)

alike_bytes : (w : List ℕ) → AreAlike (decoded_by_merger w) (decoded w)
alike_bytes w = by_merger (merger_kind w) refl
  where
    by_fault : (j : Utf8ErrorKind) → merger_kind w ≡ Some j → (k : Option Utf8ErrorKind) → fault_kind w ≡ k → AreAlike (decoded_by_merger w) (decoded w)
    by_fault j broken None e = absurd (let none = merger_none_where_code w _ (code_where_no_fault w e).0 in cc)
    by_fault j broken (Some k) e = rw (fault_by_merger w j broken, ← answer_of_bytes w (Err k) e) (refl, refl)

    by_merger : (k : Option Utf8ErrorKind) → merger_kind w ≡ k → AreAlike (decoded_by_merger w) (decoded w)
    by_merger None e = rw (same_code w e) (refl, refl)
    by_merger (Some k) e = by_fault k e (fault_kind w) refl

pub merged_characters : MergedCharacters
unfolding merged
merged_characters xs =
    filter_mapped (λ r. result_ok r) (λ x. x.1) (pieces_by decoded_by_merger (length xs) 0 xs) ∙ same_characters decoded_by_merger decoded alike_bytes (length xs) 0 0 xs
    ∙ ap (λ ys. filter_map (λ x. result_ok x.1) (pieces_by decoded (length ys) 0 ys)) (sym (whole_text xs))

pub merged_unit_characters : MergedUnitCharacters
unfolding merged_units
merged_unit_characters xs =
    filter_mapped (λ r. result_ok r) (λ x. x.1) (pieces_by decoded_pairs (length xs) 0 xs)
    ∙ ap (λ ys. filter_map (λ x. result_ok x.1) (pieces_by decoded_pairs (length ys) 0 ys)) (sym (whole_text xs))
