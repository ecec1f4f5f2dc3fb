-- Pieces, and faults among them, of two parts with no code across their seam.
use Rattle.std.proofs.Common.{◌≡◌, ℕ, ◌+◌, ◌≤◌, List, [], ◌∷◌, ◌++◌, length, map, arith, refl, ap, ap₂, sym, ◌∙◌, Ok, Err, length-append}
use Rattle.std.proofs.lemmas.List.{length-map}
use Rattle.std.proofs.lemmas.List.Sums.{sum_by-cons, sum_by-append}
use Rattle.std.specs.Prelude.{Bool, count_by, cond, is_none}
use Rattle.utf_base.specs.Code.{utf8}
use Rattle.utf_base.specs.Piece.{Inside, Piece}
use Rattle.utf_base.proofs.CutChanges.{moved}
use Rattle.utf_base.proofs.Cuts.{count_of_cut, cut_unique}
use Rattle.utf_base.proofs.FrontLemmas.{utf8_finds}
use Rattle.utf_base.proofs.Utf8Code.{utf8_is_code, length_utf8}
use Rattle.encode_unicode.specs.Pieces.{pieces}
use Rattle.encode_unicode.specs.Window.{Item}
use Rattle.text_runs.specs.ForwardRuns.{is_fault, faulty_item_count}
use Rattle.text_runs.specs.Items.{piece_of}
use Rattle.text_runs.proofs.ForwardRuns.{pieces_are_the_run}
use Rattle.text_runs.proofs.JoinedPieces.{cut_joined}

-- Faults are determined by the pieces, without their kinds.
no_char : Piece → Bool
no_char x = is_none x.char

abbrev one_if : Bool → ℕ
one_if b = cond b 1 0

told : (x : Item) → is_fault x ≡ no_char (piece_of x)
unfolding no_char
told (p, Ok s, n) = refl
told (p, Err k, n) = refl

faults_told : (items : List Item) → faulty_item_count items ≡ count_by no_char (map piece_of items)
faults_told [] = refl
faults_told (x ∷ items) =
    sum_by-cons (λ y. one_if (is_fault y)) x items
    ∙ (ap₂ (λ m n. m + n) (ap one_if (told x)) (faults_told items)
    ∙ sym (sum_by-cons (λ y. one_if (no_char y)) (piece_of x) (map piece_of items)))

moved_told : (a b : ℕ) (x : Piece) → no_char (moved a b x) ≡ no_char x
unfolding no_char
moved_told a b x = refl

faults_moved : (a b : ℕ) (ps : List Piece) → count_by no_char (map (moved a b) ps) ≡ count_by no_char ps
faults_moved a b [] = refl
faults_moved a b (x ∷ ps) =
    sum_by-cons (λ y. one_if (no_char y)) (moved a b x) (map (moved a b) ps)
    ∙ (ap₂ (λ m n. m + n) (ap one_if (moved_told a b x)) (faults_moved a b ps)
    ∙ sym (sum_by-cons (λ y. one_if (no_char y)) x ps))

module _ (a b : List ℕ) (seam : Inside utf8 (a ++ b) (length a) → ⊥) where
  -- the pieces of the whole are those of its parts, except for their kinds
  pub pieces_joined : map piece_of (pieces (a ++ b)) ≡ map piece_of (pieces a) ++ map (moved 0 (length a)) (map piece_of (pieces b))
  pieces_joined =
      cut_unique utf8 utf8_is_code (a ++ b) 0 (length (a ++ b)) (map piece_of (pieces (a ++ b)))
      (map piece_of (pieces a) ++ map (moved 0 (length a)) (map piece_of (pieces b)))
      (pieces_are_the_run (a ++ b)).cut
      (cut_joined utf8 a b seam utf8_is_code (map piece_of (pieces a)) (map piece_of (pieces b)) (pieces_are_the_run a).cut (pieces_are_the_run b).cut)

  pub count_joined : length (pieces (a ++ b)) ≡ length (pieces a) + length (pieces b)
  count_joined =
      let moved_len = length-map (map piece_of (pieces b)) (moved 0 (length a)) in
      let joined = ap length pieces_joined ∙ length-append (map piece_of (pieces a)) (map (moved 0 (length a)) (map piece_of (pieces b))) in
      omega (arith, length-map (pieces (a ++ b)) piece_of, length-map (pieces a) piece_of, length-map (pieces b) piece_of)

  pub faults_joined : faulty_item_count (pieces (a ++ b)) ≡ faulty_item_count (pieces a) + faulty_item_count (pieces b)
  faults_joined =
      faults_told (pieces (a ++ b))
      ∙ (ap (count_by no_char) pieces_joined
      ∙ (sum_by-append (λ y. one_if (no_char y)) (map piece_of (pieces a)) (map (moved 0 (length a)) (map piece_of (pieces b)))
      ∙ ap₂ (λ m n. m + n) (sym (faults_told (pieces a))) (faults_moved 0 (length a) (map piece_of (pieces b)) ∙ sym (faults_told (pieces b)))))

-- There are no more pieces than bytes.
pub pieces_few : (xs : List ℕ) → length (pieces xs) ≤ length xs
pieces_few xs =
    let few = count_of_cut utf8 utf8_is_code utf8_finds 4 length_utf8 (omega arith) xs (map piece_of (pieces xs)) (pieces_are_the_run xs).cut in
    omega (arith, length-map (pieces xs) piece_of, few.0)
