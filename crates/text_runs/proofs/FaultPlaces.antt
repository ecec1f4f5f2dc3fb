-- The offsets of the faults of a text.
use Rattle.std.proofs.Common.{◌≡◌, ℕ, ◌+◌, ◌<◌, ◌≤◌, List, length, get_or, take, drop, arith, refl, ap, sym, ◌∙◌, true, Ok, Err, None}
use Rattle.std.proofs.lemmas.List.{get_or-map, length-map, take-append-drop}
use Rattle.std.proofs.lemmas.List.Sums.{sum_by-append, count_by_more_yes}
use Rattle.std.specs.Prelude.{cond}
use Rattle.utf_base.specs.Code.{utf8}
use Rattle.utf_base.specs.Piece.{Piece, IsPieceAt, IsPiece}
use Rattle.encode_unicode.specs.Pieces.{pieces}
use Rattle.encode_unicode.specs.Window.{Item}
use Rattle.text_runs.specs.ForwardRuns.{is_fault, faulty_item_count}
use Rattle.text_runs.specs.Items.{piece_of}
use Rattle.text_runs.proofs.ForwardRuns.{pieces_are_the_run}

-- a fault at an offset
abbrev pub fault_piece : ℕ → Piece
fault_piece p = record { start = p; len = 1; char = None }

abbrev pub IsFaultAt : List ℕ → ℕ → Type 0
IsFaultAt xs p = IsPieceAt utf8 xs p 1 None

-- a fault is determined by its offset
pub only_place : (xs : List ℕ) (z : Piece) → IsPiece utf8 xs z → z.char ≡ None → IsFaultAt xs z.start
only_place xs z h e = let g : IsPieceAt utf8 xs z.start z.len None = rw e at h in (g.0, refl, g.2)

-- If no item is a fault, there is none.
fault_item : (x : Item) → (piece_of x).char ≡ None → is_fault x ≡ true
fault_item (p, Ok s, n) e = absurd cc
fault_item (p, Err kind, n) e = refl

counted_front : (items : List Item) (n : ℕ) → faulty_item_count (take n items) ≤ faulty_item_count items
counted_front items n =
    omega (arith, ap faulty_item_count (take-append-drop n items), sum_by-append (λ y. cond (is_fault y) 1 0) (take n items) (drop n items))

pub no_faults : (xs : List ℕ) → faulty_item_count (pieces xs) ≡ 0 → (p : ℕ) → IsFaultAt xs p → ⊥
no_faults xs none p h =
    let run = pieces_are_the_run xs in
    let lt = h.0 in
    let found = run.cut.all (fault_piece p) h (omega arith) lt in
    let d : Item = (p, Ok 0, 1) in
    let within : found.0 < length (pieces xs) = omega (arith, found.1, length-map (pieces xs) piece_of) in
    let is : piece_of (get_or (pieces xs) found.0 d) ≡ fault_piece p = sym (get_or-map piece_of (pieces xs) found.0 d (fault_piece p) within) ∙ found.2 in
    let fault = fault_item (get_or (pieces xs) found.0 d) (ap (λ (w : Piece). w.char) is) in
    omega (arith, count_by_more_yes is_fault (pieces xs) found.0 d within fault, counted_front (pieces xs) (found.0 + 1))
