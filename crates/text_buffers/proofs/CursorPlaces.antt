-- Offsets between two pieces, from which a cursor steps to the next ones; and parts of a text that lie in one
-- chunk.
use Rattle.std.proofs.Common.{◌≡◌, ℕ, ◌+◌, ◌-◌, ◌<◌, ◌≤◌, List, [], ◌++◌, length, get_or, take, drop, map, arith, refl, ap, sym, subst, ◌∙◌, ⊎_elim, Some, None, Option, length-take, length-drop}
use Rattle.std.proofs.lemmas.Bool.{cases_lt}
use Rattle.std.proofs.lemmas.List.{append-nil, drop_all, get_or-map, length-map, take_all}
use Rattle.std.specs.List.{splice}
use Rattle.std.specs.Prelude.{Contains}
use Rattle.utf_base.specs.Code.{utf8}
use Rattle.utf_base.specs.Piece.{Inside, IsPiece, IsPieceAt}
use Rattle.utf_base.proofs.CutChanges.{piece_ends_outside}
use Rattle.utf_base.proofs.Cuts.{piece_some}
use Rattle.utf_base.proofs.Utf8Code.{utf8_is_code}
use Rattle.encode_unicode.specs.Pieces.{pieces}
use Rattle.encode_unicode.specs.Window.{Item}
use Rattle.text_runs.specs.Items.{piece_of}
use Rattle.text_runs.specs.PieceBoundaries.{IsBetween, IsLastBetween}
use Rattle.text_buffers.specs.TextLookups.{HasPlace}
use Rattle.text_buffers.proofs.ChunkLists.{take_up_to}
use Rattle.text_runs.proofs.ForwardRuns.{pieces_are_the_run}
use Rattle.text_runs.proofs.SplitNumbers.{begins_outside}

-- one of the pieces is a piece
contained_piece : (xs : List ℕ) (x : Item) → Contains (pieces xs) x → IsPiece utf8 xs (piece_of x)
contained_piece xs x w =
    let lt : w.0 < length (map piece_of (pieces xs)) = omega (arith, w.1, length-map (pieces xs) piece_of) in
    let read : get_or (map piece_of (pieces xs)) w.0 (piece_of x) ≡ piece_of x = get_or-map piece_of (pieces xs) w.0 x (piece_of x) w.1 ∙ ap piece_of w.2 in
    subst (IsPiece utf8 xs) read ((pieces_are_the_run xs).cut.pieces w.0 (piece_of x) lt).0

-- an offset inside a piece is inside a code
inside_piece : (xs : List ℕ) (i n p : ℕ) (char : Option ℕ) → IsPieceAt utf8 xs i n char → i < p → p < i + n → Inside utf8 xs p
inside_piece xs i n p (Some s) h lo hi = let len = h.1 in record { from = i; char = s; stands = h.0; begins = lo; ends = omega arith }
inside_piece xs i n p None h lo hi = let one = h.1 in absurd (omega arith)

module _ (xs : List ℕ) (x : Item) (w : Contains (pieces xs) x) where
  piece : IsPieceAt utf8 xs x.0 x.2 (piece_of x).char
  piece = contained_piece xs x w

  -- the piece that has the byte after such an offset begins there
  pub begins_at : (p : ℕ) → IsBetween xs p → HasPlace p x → x.0 ≡ p
  begins_at p between has =
      let lo = has.0 in
      let hi = has.1 in
      ⊎_elim (λ (before : x.0 < p). absurd (between.outside (inside_piece xs x.0 x.2 p (piece_of x).char piece before hi))) (λ (from : p ≤ x.0). omega arith) (cases_lt x.0 p)

  -- the piece that has the byte before such an offset ends there
  pub ends_at : (p : ℕ) → IsBetween xs p → 0 < p → HasPlace (p - 1) x → x.0 + x.2 ≡ p
  ends_at p between some has =
      let lo = has.0 in
      let hi = has.1 in
      ⊎_elim (λ (over : p < x.0 + x.2). absurd (between.outside (inside_piece xs x.0 x.2 p (piece_of x).char piece (omega arith) over))) (λ (fits : x.0 + x.2 ≤ p). omega arith)
      (cases_lt p (x.0 + x.2))

  pub begins_between : IsBetween xs x.0
  begins_between =
      let ends = piece_some utf8 utf8_is_code xs x.0 x.2 (piece_of x).char piece in
      record { within = omega (arith, ends.1); outside = begins_outside xs x.0 x.2 (piece_of x).char piece }

  pub ends_between_pieces : IsBetween xs (x.0 + x.2)
  ends_between_pieces =
      let ends = piece_some utf8 utf8_is_code xs x.0 x.2 (piece_of x).char piece in
      record { within = ends.1; outside = piece_ends_outside utf8 utf8_is_code xs x.0 x.2 (piece_of x).char piece }

  -- the offset where the piece begins that has the byte at an offset is the last one between two pieces that
  -- is not after it
  pub last_at_piece : (p : ℕ) → HasPlace p x → IsLastBetween xs p x.0
  last_at_piece p has =
      let hi = has.1 in
      record { between = begins_between; before = has.0; last = λ k lo le. inside_piece xs x.0 x.2 k (piece_of x).char piece lo (omega arith) }

-- the part that is written of a text, one part after another
pub next_part : (xs part : List ℕ) (i : ℕ) → i ≤ length xs → part ≡ take (length part) (drop i xs) → (i + length part ≤ length xs) × (take (i + length part) xs ≡ take i xs ++ part)
next_part xs part i le is =
    let len = ap length is ∙ length-take (length part) (drop i xs) in
    let fits : i + length part ≤ length xs = omega (arith, length-drop i xs) in
    let span : i + length part - i ≡ length part = omega arith in
    (fits, take_up_to xs i (i + length part) (omega arith) fits ∙ ap (λ ys. take i xs ++ ys) (ap (λ n. take n (drop i xs)) span ∙ sym is))

-- bytes that are appended
pub spliced_at_end : (xs new : List ℕ) (n : ℕ) → n ≡ length xs → splice xs n n new ≡ xs ++ new
spliced_at_end xs new n e =
    let front : take n xs ≡ xs = take_all n xs (omega arith) in
    let rest : drop n xs ≡ [] = drop_all n xs (omega arith) in
    rw (front, rest, append-nil new) refl
