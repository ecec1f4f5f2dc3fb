-- The number of pieces that begin before an offset, and the pieces on either side of a boundary.
use Rattle.std.proofs.Common.{◌≡◌, ℕ, ◌+◌, ◌-◌, ◌<◌, ◌≤◌, ◌⊎◌, List, ◌++◌, length, get_or, take, drop, map, arith, refl, ap, sym, ◌∙◌, subst, ⊎_elim, Some, None, Option, length-append}
use Rattle.std.proofs.lemmas.Bool.{cases_lt}
use Rattle.std.proofs.lemmas.List.Elements.{All-drop, All-take}
use Rattle.std.proofs.lemmas.List.{get_or-map, get_or_append_left, get_or-append_right, length-map, length-take-le, take-append-drop}
use Rattle.utf_base.specs.Code.{IsCode, utf8, utf16}
use Rattle.utf_base.specs.Kinds.{fault_kind}
use Rattle.utf_base.specs.Piece.{Inside, Piece, IsPieceAt, IsCut}
use Rattle.utf_base.specs.Scalar.{IsUnits}
use Rattle.utf_base.specs.Units.{unit_fault_kind}
use Rattle.utf_base.proofs.CutChanges.{moved}
use Rattle.utf_base.proofs.Cuts.{cut_unique}
use Rattle.utf_base.proofs.Standing.{not_inside}
use Rattle.utf_base.proofs.Utf16Code.{utf16_is_code}
use Rattle.utf_base.proofs.Utf8Code.{utf8_is_code}
use Rattle.encode_unicode.specs.Pieces.{pieces, unit_pieces}
use Rattle.text_runs.specs.Items.{IsRun, Placed, piece_of}
use Rattle.text_runs.specs.Tables.{IsSplitAt}
use Rattle.text_runs.proofs.ForwardRuns.{pieces_are_the_run, unit_pieces_are_the_run}
use Rattle.text_runs.proofs.JoinedPieces.{cut_joined}

-- no code covers the offset of a piece
pub begins_outside_of : (code : ℕ → List ℕ) → IsCode code → (xs : List ℕ) (p n : ℕ) (char : Option ℕ) → IsPieceAt code xs p n char → Inside code xs p → ⊥
begins_outside_of code c xs p n (Some s) h i = not_inside code c xs p s h.0 i
begins_outside_of code c xs p n None h i = h.2 (record { from = i.from; char = i.char; stands = i.stands; begins = omega (arith, i.begins); ends = i.ends })

pub begins_outside : (xs : List ℕ) (p n : ℕ) (char : Option ℕ) → IsPieceAt utf8 xs p n char → Inside utf8 xs p → ⊥
begins_outside = begins_outside_of utf8 utf8_is_code

-- The pieces of a front that ends at a boundary are the first ones, and the others begin from there on.
module _ {E : Type 0} (code : ℕ → List ℕ) (c : IsCode code) (kind : List ℕ → Option E) (xs : List ℕ) (b : ℕ) (le : b ≤ length xs) (out : Inside code xs b → ⊥) (items front rest : List (Placed E))
    (whole : IsRun code kind xs items) (before : IsRun code kind (take b xs) front) (following : IsRun code kind (drop b xs) rest) where
  abbrev ps : List Piece
  ps = map piece_of front

  abbrev qs : List Piece
  qs = map (moved 0 b) (map piece_of rest)

  first_pieces : map piece_of items ≡ ps ++ qs
  first_pieces =
      let joined : take b xs ++ drop b xs ≡ xs = take-append-drop b xs in
      let of_a : length (take b xs) ≡ b = length-take-le b xs le in
      let seam : Inside code (take b xs ++ drop b xs) (length (take b xs)) → ⊥ = λ i. out (subst (λ ys. Inside code ys b) joined (rw of_a at i)) in
      let cut : IsCut code xs (ps ++ qs) = subst (λ ys. IsCut code ys (ps ++ qs)) joined (rw of_a at (cut_joined code (take b xs) (drop b xs) seam c ps (map piece_of rest) before.cut following.cut)) in
      cut_unique code c xs 0 (length xs) (map piece_of items) (ps ++ qs) whole.cut cut

  pub count_is : length items ≡ length front + length rest
  count_is =
      omega (
        arith,
        ap length first_pieces,
        length-map items piece_of,
        length-map front piece_of,
        length-map rest piece_of,
        length-map (map piece_of rest) (moved 0 b),
        length-append ps qs,
      )

  piece_begins_at : (n : ℕ) (d : Placed E) → n < length items → (get_or (ps ++ qs) n (piece_of d)).start ≡ (get_or items n d).0
  piece_begins_at n d lt =
      ap (λ (y : Piece). y.start) (ap (λ zs. get_or zs n (piece_of d)) (sym first_pieces) ∙ get_or-map piece_of items n d (piece_of d) lt)

  begins_in_front : (n : ℕ) (d : Placed E) → n < length front → (get_or items n d).0 < b
  begins_in_front n d lt =
      let len : length ps ≡ length front = length-map front piece_of in
      let lt' : n < length ps = omega arith in
      let place = piece_begins_at n d (omega (arith, count_is)) in
      let first = ap (λ (y : Piece). y.start) (get_or_append_left ps qs (piece_of d) n lt') in
      let here = (before.cut.pieces n (piece_of d) lt').2 in
      omega (arith, length-take-le b xs le)

  begins_in_rest : (n : ℕ) (d : Placed E) → length front ≤ n → n < length items → b ≤ (get_or items n d).0
  begins_in_rest n d ge lt =
      let rs = map piece_of rest in
      let len : length ps ≡ length front = length-map front piece_of in
      let of_r : length rs ≡ length rest = length-map rest piece_of in
      let place = piece_begins_at n d lt in
      let past : length ps ≤ n = omega arith in
      let in_rest : n - length ps < length rs = omega (arith, count_is) in
      let later = ap (λ (y : Piece). y.start) (get_or-append_right ps (map (moved 0 b) rs) (length ps) n (piece_of d) refl past) in
      let at = ap (λ (y : Piece). y.start) (get_or-map (moved 0 b) rs (n - length ps) (piece_of d) (piece_of d) in_rest) in
      omega arith

  -- the offset of a piece of the front, and of one of the rest
  pub place_in_front : (n : ℕ) (d : Placed E) → n < length front → (get_or items n d).0 ≡ (get_or front n d).0
  place_in_front n d lt =
      let len : length ps ≡ length front = length-map front piece_of in
      let place = piece_begins_at n d (omega (arith, count_is)) in
      let first = ap (λ (y : Piece). y.start) (get_or_append_left ps qs (piece_of d) n (omega arith)) in
      let here = ap (λ (y : Piece). y.start) (get_or-map piece_of front n d (piece_of d) lt) in
      omega arith

  pub place_in_rest : (n : ℕ) (d : Placed E) → length front ≤ n → n < length items → (get_or items n d).0 ≡ b + (get_or rest (n - length front) d).0
  place_in_rest n d ge lt =
      let rs = map piece_of rest in
      let len : length ps ≡ length front = length-map front piece_of in
      let of_r : length rs ≡ length rest = length-map rest piece_of in
      let place = piece_begins_at n d lt in
      let in_rest : n - length ps < length rs = omega (arith, count_is) in
      let later = ap (λ (y : Piece). y.start) (get_or-append_right ps (map (moved 0 b) rs) (length ps) n (piece_of d) refl (omega arith)) in
      let at = ap (λ (y : Piece). y.start) (get_or-map (moved 0 b) rs (n - length ps) (piece_of d) (piece_of d) in_rest) in
      let same : n - length ps ≡ n - length front = omega arith in
      let here = ap (λ (y : Piece). y.start) (ap (λ k. get_or rs k (piece_of d)) same ∙ get_or-map piece_of rest (n - length front) d (piece_of d) (omega (arith, count_is))) in
      omega arith

  -- if m lies after all pieces that begin before this boundary, they are as many as begin before m
  pub split_at_boundary : (m : ℕ) → (m ≤ b) ⊎ (b ≡ length xs) → ((n : ℕ) → m ≤ n → n < b → (Inside code xs n → ⊥) → ⊥) → IsSplitAt items m (length front)
  split_at_boundary m far over = record {
    within = omega (arith, count_is);
    before = λ n d lo hi.
        let x = get_or items n d in
        let first : x.0 < b = begins_in_front n d hi in
        let lt : n < length (map piece_of items) = omega (arith, count_is, length-map items piece_of) in
        let is : get_or (map piece_of items) n (piece_of d) ≡ piece_of x = get_or-map piece_of items n d (piece_of d) (omega (arith, count_is)) in
        let piece : IsPieceAt code xs x.0 x.2 (piece_of x).char = rw is at ((whole.cut.pieces n (piece_of d) lt).0) in
        ⊎_elim (λ (lt : x.0 < m). lt) (λ (ge : m ≤ x.0). absurd (over x.0 ge first (begins_outside_of code c xs x.0 x.2 (piece_of x).char piece))) (cases_lt x.0 m);
    following = λ n d lo hi.
        let later : b ≤ (get_or items n d).0 = begins_in_rest n d lo hi in
        ⊎_elim
        (λ (le : m ≤ b). omega arith)
        (λ (end : b ≡ length xs).
        let x = get_or items n d in
        let lt : n < length (map piece_of items) = omega (arith, length-map items piece_of) in
        let is : (get_or (map piece_of items) n (piece_of d)).start ≡ x.0 = ap (λ (y : Piece). y.start) (get_or-map piece_of items n d (piece_of d) hi) in
        let within = (whole.cut.pieces n (piece_of d) lt).2 in
        absurd (omega arith))
        far;
  }

-- Pieces of bytes on either side of a boundary.
pub bytes_split : (xs : List ℕ) (b : ℕ) → b ≤ length xs → (Inside utf8 xs b → ⊥) → (m : ℕ) → (m ≤ b) ⊎ (b ≡ length xs) → ((n : ℕ) → m ≤ n → n < b → Inside utf8 xs n)
    → IsSplitAt (pieces xs) m (length (pieces (take b xs)))
bytes_split xs b le out m far over =
    split_at_boundary utf8 utf8_is_code fault_kind xs b le out (pieces xs) (pieces (take b xs)) (pieces (drop b xs)) (pieces_are_the_run xs) (pieces_are_the_run (take b xs)) (pieces_are_the_run (drop b xs)) m far
    (λ n lo hi none. none (over n lo hi))

pub bytes_counted : (xs : List ℕ) (b : ℕ) → b ≤ length xs → (Inside utf8 xs b → ⊥) → length (pieces xs) ≡ length (pieces (take b xs)) + length (pieces (drop b xs))
bytes_counted xs b le out =
    count_is utf8 utf8_is_code fault_kind xs b le out (pieces xs) (pieces (take b xs)) (pieces (drop b xs)) (pieces_are_the_run xs) (pieces_are_the_run (take b xs)) (pieces_are_the_run (drop b xs))

-- Pieces of units on either side of a boundary.
pub units_split : (xs : List ℕ) → IsUnits xs → (b : ℕ) → b ≤ length xs → (Inside utf16 xs b → ⊥) → (m : ℕ) → (m ≤ b) ⊎ (b ≡ length xs) → ((n : ℕ) → m ≤ n → n < b → (Inside utf16 xs n → ⊥) → ⊥)
    → IsSplitAt (unit_pieces xs) m (length (unit_pieces (take b xs)))
units_split xs units b le out =
    split_at_boundary utf16 utf16_is_code unit_fault_kind xs b le out (unit_pieces xs) (unit_pieces (take b xs)) (unit_pieces (drop b xs)) (unit_pieces_are_the_run xs units)
    (unit_pieces_are_the_run (take b xs) (All-take (λ u. u < 0x1_0000) b xs units)) (unit_pieces_are_the_run (drop b xs) (All-drop (λ u. u < 0x1_0000) b xs units))
