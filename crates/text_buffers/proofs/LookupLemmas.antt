-- Pieces and lines of a text by number or offset, looked up in one of its chunks.
use Rattle.std.proofs.Common.{◌≡◌, ℕ, ◌+◌, ◌-◌, ◌<◌, ◌≤◌, ◌⊎◌, List, [], ◌∷◌, ◌++◌, length, get_or, take, drop, map, arith, refl, ap, sym, ◌∙◌, subst, ⊎_elim, inl, inr, Ok, Err, Result, Some, None, Option, length-append, length-drop}
use Rattle.std.proofs.lemmas.Bool.{cases_lt}
use Rattle.std.proofs.lemmas.List.{get_or-map, get_or_append_left, get_or-append_right, length-map, take-append-drop, take_all, take-take, take_rest, take_more, take_more_set, get_or-drop}
use Rattle.std.proofs.lemmas.Option.{slice_get-get_or, slice_get_within, get_or_from_slice_get}
use Rattle.std.specs.List.{concat}
use Rattle.std.specs.Prelude.{Contains, option_map, slice_get, slice_set}
use Rattle.utf_base.specs.declared.errors.Utf8ErrorKind.{Utf8ErrorKind}
use Rattle.utf_base.specs.Code.{utf8}
use Rattle.utf_base.specs.Kinds.{fault_kind}
use Rattle.utf_base.specs.Piece.{Inside, Piece, IsPieceAt, IsPiece, Stands}
use Rattle.utf_base.proofs.CutChanges.{moved}
use Rattle.utf_base.proofs.Cuts.{one_piece_begins, piece_some}
use Rattle.utf_base.proofs.FrontLemmas.{no_code_where_fault}
use Rattle.utf_base.proofs.KindLemmas.{four_bytes_decide}
use Rattle.utf_base.proofs.Rests.{stands_on}
use Rattle.utf_base.proofs.Utf8Code.{utf8_is_code}
use Rattle.encode_unicode.specs.Pieces.{pieces}
use Rattle.encode_unicode.specs.Window.{Item, IsFrontPiece}
use Rattle.text_runs.specs.Items.{piece_of, HasKind}
use Rattle.text_runs.specs.PieceBoundaries.{IsLastBetween}
use Rattle.text_buffers.specs.TextLookups.{HasPlace}
use Rattle.text_runs.proofs.JoinedCounts.{pieces_joined, count_joined}
use Rattle.text_runs.proofs.ForwardRuns.{pieces_are_the_run}
use Rattle.text_runs.proofs.SplitNumbers.{begins_outside}
use Rattle.text_buffers.proofs.NumberLemmas.{ChunkAt, chunk_whole, chunk_front_len, chunk_end_outside, chunk_front_outside, chunk_within, inside_chunk, inside_of_chunk}
use Rattle.text_runs.proofs.PieceRuns.{AtFront, at_front}
use Rattle.text_runs.proofs.RunLaws.{same_item}

-- The pieces of the whole that begin in a chunk are the pieces of the chunk.
module _ (chunks : List (List ℕ)) (k p : ℕ) (x : List ℕ) (at : ChunkAt chunks k p x) where
  -- the number of pieces before the chunk and up to its end
  pub count_with_chunk : length (pieces (concat (take k chunks))) + length (pieces x) ≤ length (pieces (concat chunks))
  count_with_chunk =
      let P = concat (take k chunks) in
      let Q = concat (drop (k + 1) chunks) in
      let front = count_joined P x (chunk_front_outside chunks k p x at) in
      let whole = count_joined (P ++ x) Q (chunk_end_outside chunks k p x at) in
      omega (arith, ap (λ ys. length (pieces ys)) (chunk_whole chunks k p x at))

  -- the n-th piece of the chunk has as many pieces of the whole before it as precede the chunk, and n more
  pub place_in_chunk : (n : ℕ) (d : Item) → n < length (pieces x) → (get_or (pieces (concat chunks)) (length (pieces (concat (take k chunks))) + n) d).0 ≡ p + (get_or (pieces x) n d).0
  place_in_chunk n d lt =
      let P = concat (take k chunks) in
      let Q = concat (drop (k + 1) chunks) in
      let ps = map piece_of (pieces P) in
      let xs = map piece_of (pieces x) in
      let m = length (pieces P) + n in
      let e = piece_of d in
      let of_ps : length ps ≡ length (pieces P) = length-map (pieces P) piece_of in
      let of_xs : length xs ≡ length (pieces x) = length-map (pieces x) piece_of in
      let of_moved : length (map (moved 0 (length P)) xs) ≡ length xs = length-map xs (moved 0 (length P)) in
      let whole : map piece_of (pieces (concat chunks)) ≡ map piece_of (pieces (P ++ x)) ++ map (moved 0 (length (P ++ x))) (map piece_of (pieces Q))
      = ap (λ ys. map piece_of (pieces ys)) (sym (chunk_whole chunks k p x at)) ∙ pieces_joined (P ++ x) Q (chunk_end_outside chunks k p x at) in
      let front : map piece_of (pieces (P ++ x)) ≡ ps ++ map (moved 0 (length P)) xs = pieces_joined P x (chunk_front_outside chunks k p x at) in
      let of_front : length (map piece_of (pieces (P ++ x))) ≡ length ps + length xs = ap length front ∙ (length-append ps (map (moved 0 (length P)) xs) ∙ ap (λ i. length ps + i) of_moved) in
      let back : m - length ps ≡ n = omega arith in
      let within : m < length (pieces (concat chunks)) = omega (arith, count_with_chunk) in
      let in_front : m < length (map piece_of (pieces (P ++ x))) = omega arith in
      let past : length ps ≤ m = omega arith in
      let n_in : n < length xs = omega arith in
      let of_whole : piece_of (get_or (pieces (concat chunks)) m d) ≡ get_or (map piece_of (pieces (concat chunks))) m e
      = sym (get_or-map piece_of (pieces (concat chunks)) m d e within) in
      let here : get_or (map piece_of (pieces (concat chunks))) m e ≡ get_or (ps ++ map (moved 0 (length P)) xs) m e
      = ap (λ ys. get_or ys m e) whole ∙ (get_or_append_left (map piece_of (pieces (P ++ x))) (map (moved 0 (length (P ++ x))) (map piece_of (pieces Q))) e m in_front ∙ ap (λ ys. get_or ys m e) front) in
      let there : get_or (ps ++ map (moved 0 (length P)) xs) m e ≡ get_or (map (moved 0 (length P)) xs) n e
      = get_or-append_right ps (map (moved 0 (length P)) xs) (length ps) m e refl past ∙ ap (λ i. get_or (map (moved 0 (length P)) xs) i e) back in
      let of_chunk : get_or (map (moved 0 (length P)) xs) n e ≡ moved 0 (length P) (get_or xs n e) = get_or-map (moved 0 (length P)) xs n e e n_in in
      let of_item : get_or xs n e ≡ piece_of (get_or (pieces x) n d) = get_or-map piece_of (pieces x) n d e lt in
      let places : (get_or (pieces (concat chunks)) m d).0 ≡ length P + ((get_or (pieces x) n d).0 - 0)
      = ap (λ (y : Piece). y.start) (of_whole ∙ (here ∙ (there ∙ (of_chunk ∙ ap (moved 0 (length P)) of_item)))) in
      omega (arith, chunk_front_len chunks k p x at)

  -- an offset found in the chunk has the number that is sought
  pub number_has_place : (number n place : ℕ) (y : Item) → n < length (pieces x) → number ≡ length (pieces (concat (take k chunks))) + n → slice_get (pieces x) n ≡ Some y → place ≡ p + y.0
      → Some place ≡ option_map (λ (z : Item). z.0) (slice_get (pieces (concat chunks)) number)
  number_has_place number n place y lt is e there =
      let within : number < length (pieces (concat chunks)) = omega (arith, count_with_chunk) in
      let here : get_or (pieces x) n y ≡ y = get_or_from_slice_get (pieces x) n y y e in
      let of_whole : (get_or (pieces (concat chunks)) number y).0 ≡ p + y.0 = ap (λ i. (get_or (pieces (concat chunks)) i y).0) is ∙ (place_in_chunk n y lt ∙ ap (λ (z : Item). p + z.0) here) in
      ap Some (there ∙ sym of_whole) ∙ sym (ap (option_map (λ (z : Item). z.0)) (slice_get-get_or (pieces (concat chunks)) number y within))

  pub number_is_found : (number n place : ℕ) → number ≡ length (pieces (concat (take k chunks))) + n → Some place ≡ option_map (λ (z : Item). z.0) (slice_get (pieces x) n)
      → Some (p + place) ≡ option_map (λ (z : Item). z.0) (slice_get (pieces (concat chunks)) number)
  number_is_found number n place is told = by_item (slice_get (pieces x) n) refl told
    where
      by_item : (o : Option Item) → slice_get (pieces x) n ≡ o → Some place ≡ option_map (λ (z : Item). z.0) o → Some (p + place) ≡ option_map (λ (z : Item). z.0) (slice_get (pieces (concat chunks)) number)
      by_item None e t = absurd cc
      by_item (Some y) e t =
          let at_y : place ≡ y.0 = cc in
          number_has_place number n (p + place) y (slice_get_within (pieces x) n y e) is e (omega arith)

  -- the last boundary of the chunk that is not after an offset is where the piece begins that has this offset
  pub boundary_in_chunk : (n q : ℕ) → IsLastBetween x n q → n < length x → (p + q < length (concat chunks)) × (Inside utf8 (concat chunks) (p + q) → ⊥)
  boundary_in_chunk n q last lt =
      let before = last.before in
      (omega (arith, chunk_within chunks k p x at), λ i. last.between.outside (inside_chunk chunks k p x at q (omega arith) i))

  pub has_place : (n q : ℕ) (y : Item) → IsLastBetween x n q → n < length x → y.0 ≡ p + q → AtFront utf8 fault_kind (concat chunks) (p + q) y.2 y.1 → HasPlace (p + n) y
  has_place n q y last lt place front =
      let before = last.before in
      let some = front.some in (
        omega arith,
        ⊎_elim
            (λ (over : p + n < y.0 + y.2). over)
            (λ (short : y.0 + y.2 ≤ p + n).
            let same : p + (q + y.2) ≡ p + q + y.2 = omega arith in
            absurd (front.outside (rw same at (inside_of_chunk chunks k p x at (q + y.2) (last.last (q + y.2) (omega arith) (omega arith))))))
            (cases_lt (p + n) (y.0 + y.2)),
      )

-- Four bytes at the front of a list, or all if there are fewer, decide the piece that begins it.
front_on : (w : List ℕ) (n : ℕ) → take 4 (take n w) ≡ take 4 w → fault_kind (take n w) ≡ fault_kind w
front_on w n e = sym (four_bytes_decide (take n w)) ∙ (ap fault_kind e ∙ four_bytes_decide w)

first_four : (w : List ℕ) (n : ℕ) → (4 ≤ n) ⊎ (length w ≤ n) → take 4 (take n w) ≡ take 4 w
first_four w n (inl long) = take-take 4 n w long
first_four w n (inr all) = ap (take 4) (take_all n w all)

pub front_decides : (w : List ℕ) (n : ℕ) (r : Result ℕ Utf8ErrorKind) (len : ℕ) → (4 ≤ n) ⊎ (length w ≤ n) → IsFrontPiece (take n w) r len → IsFrontPiece w r len
front_decides w n (Ok s) len far h = (subst (λ ys. Stands utf8 ys 0 s) (take-append-drop n w) (stands_on utf8 (take n w) (drop n w) s h.0), h.1)
front_decides w n (Err kind) len far h = (sym (front_on w n (first_four w n far)) ∙ h.0, h.1)

-- bytes that are collected one after another
pub front_more : (xs bytes : List ℕ) (at len byte : ℕ) → len < length bytes → take len bytes ≡ take len (drop at xs) → Some byte ≡ slice_get xs (at + len)
    → (take (len + 1) (slice_set bytes len byte) ≡ take (len + 1) (drop at xs)) × (at + (len + 1) ≤ length xs)
front_more xs bytes at len byte lt same read =
    let within : at + len < length xs = slice_get_within xs (at + len) byte (sym read) in
    let is : get_or (drop at xs) len byte ≡ byte = get_or-drop at xs len byte ∙ get_or_from_slice_get xs (at + len) byte byte (sym read) in (
      take_more_set bytes len byte lt
          ∙ (ap (λ ys. ys ++ byte ∷ []) same
          ∙ (ap (λ y. take len (drop at xs) ++ y ∷ []) (sym is)
          ∙ sym (take_more (drop at xs) len byte (omega (arith, length-drop at xs))))),
      omega arith,
    )

-- A piece at the front of the bytes from a boundary on is a piece of the whole.
pub front_is : (xs : List ℕ) (i : ℕ) (y : Item) → i < length xs → (Inside utf8 xs i → ⊥) → y.0 ≡ i → IsFrontPiece (drop i xs) y.1 y.2 → AtFront utf8 fault_kind xs i y.2 y.1
front_is xs i y lt out place h = at_front utf8 fault_kind utf8_is_code no_code_where_fault xs i y.2 y.1 lt out (rw (take_rest xs i) h)

-- there is only one piece at each offset
module _ (xs : List ℕ) (i : ℕ) (y : Item) (place : y.0 ≡ i) (front : AtFront utf8 fault_kind xs i y.2 y.1) where
  is_piece : IsPiece utf8 xs (piece_of y)
  is_piece = rw place front.piece

  has_kind : HasKind fault_kind xs y
  has_kind = rw place front.kind_is

  same_piece : (n : ℕ) (z : Item) → n < length (pieces xs) → z ≡ get_or (pieces xs) n z → z.0 ≡ i → y ≡ z
  same_piece n z lt is at =
      let run = pieces_are_the_run xs in
      let lt' : n < length (map piece_of (pieces xs)) = omega (arith, length-map (pieces xs) piece_of) in
      let read : get_or (map piece_of (pieces xs)) n (piece_of z) ≡ piece_of z = get_or-map piece_of (pieces xs) n z (piece_of z) lt ∙ ap piece_of (sym is) in
      let piece : IsPiece utf8 xs (piece_of z) = subst (IsPiece utf8 xs) read (run.cut.pieces n (piece_of z) lt').0 in
      let kind : HasKind fault_kind xs z = subst (HasKind fault_kind xs) (sym is) (run.kinds n z lt) in
      same_item fault_kind xs y z (one_piece_begins utf8 utf8_is_code xs (piece_of y) (piece_of z) is_piece piece (place ∙ sym at)) has_kind kind

  pub is_contained : Contains (pieces xs) y
  is_contained =
      let run = pieces_are_the_run xs in
      let within = (piece_some utf8 utf8_is_code xs y.0 y.2 _ is_piece).1 in
      let some = (piece_some utf8 utf8_is_code xs y.0 y.2 _ is_piece).0 in
      let found = run.cut.all (piece_of y) is_piece (omega arith) (omega arith) in
      let lt : found.0 < length (pieces xs) = omega (arith, found.1, length-map (pieces xs) piece_of) in
      let z = get_or (pieces xs) found.0 y in
      let read : get_or (pieces xs) found.0 z ≡ z = get_or_again (pieces xs) found.0 y lt in
      let at : z.0 ≡ y.0 = ap (λ (w : Piece). w.start) (sym (get_or-map piece_of (pieces xs) found.0 y (piece_of y) lt) ∙ found.2) in
      (found.0, lt, sym (same_piece found.0 z lt (sym read) (at ∙ place)))
    where
      get_or_again : (ys : List Item) (n : ℕ) (d : Item) → n < length ys → get_or ys n (get_or ys n d) ≡ get_or ys n d
      get_or_again ys n d lt = get_or_from_slice_get ys n (get_or ys n d) (get_or ys n d) (slice_get-get_or ys n d lt)

-- the piece at the offset that the number has is the piece with that number
pub number_has_piece : (xs : List ℕ) (number i : ℕ) (y : Item) → Some i ≡ option_map (λ (z : Item). z.0) (slice_get (pieces xs) number) → y.0 ≡ i
    → IsFrontPiece (drop i xs) y.1 y.2 → Some y ≡ slice_get (pieces xs) number
number_has_piece xs number i y told place h = by_item (slice_get (pieces xs) number) refl told
  where
    by_item : (o : Option Item) → slice_get (pieces xs) number ≡ o → Some i ≡ option_map (λ (z : Item). z.0) o → Some y ≡ slice_get (pieces xs) number
    by_item None e t = absurd cc
    by_item (Some z) e t =
        let at : i ≡ z.0 = cc in
        let lt : number < length (pieces xs) = slice_get_within (pieces xs) number z e in
        let is : get_or (pieces xs) number z ≡ z = get_or_from_slice_get (pieces xs) number z z e in
        let run = pieces_are_the_run xs in
        let lt' : number < length (map piece_of (pieces xs)) = omega (arith, length-map (pieces xs) piece_of) in
        let read : get_or (map piece_of (pieces xs)) number (piece_of z) ≡ piece_of z = get_or-map piece_of (pieces xs) number z (piece_of z) lt ∙ ap piece_of is in
        let piece : IsPieceAt utf8 xs z.0 z.2 (piece_of z).char = subst (IsPiece utf8 xs) read (run.cut.pieces number (piece_of z) lt').0 in
        let ends = piece_some utf8 utf8_is_code xs z.0 z.2 _ piece in
        let front = front_is xs i y (omega (arith, ends.0, ends.1)) (rw at (begins_outside xs z.0 z.2 _ piece)) place h in
        ap Some (same_piece xs i y place front number z lt (sym is) (sym at)) ∙ sym e
