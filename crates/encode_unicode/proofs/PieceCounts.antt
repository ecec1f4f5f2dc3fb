-- The number of pieces that a decoder gives of some elements.
use Rattle.std.proofs.Common.{ℕ, zero, suc, ◌+◌, ◌*◌, ◌≤◌, List, [], ◌∷◌, length, drop, Result, arith, length-drop, mul-suc, ◌≡◌}
use Rattle.std.proofs.lemmas.Grind.{common_steps}
use Rattle.std.specs.Prelude.{slice_range}
use Rattle.utf_base.specs.Decoded.{decoded, decoded_pairs}
use Rattle.encode_unicode.specs.GivenBounds.{NoMoreGiven, NoLongerGiven}
use Rattle.encode_unicode.specs.Pieces.{pieces, unit_pieces, pieces_by}
use Rattle.encode_unicode.specs.Window.{as_piece}
use Rattle.encode_unicode.proofs.PieceRuns.{len_of_bytes, len_of_units}

-- if no piece is empty, and none longer than `most`
pieces_count : {E : Type 0} (answer : List ℕ → Result (ℕ × ℕ) E) (most : ℕ) → ((xs : List ℕ) → 1 ≤ (as_piece (answer xs)).1) → ((xs : List ℕ) → (as_piece (answer xs)).1 ≤ most)
    → (n place : ℕ) (xs : List ℕ) → length xs ≤ n → (length (pieces_by answer n place xs) ≤ length xs) × (length xs ≤ most * length (pieces_by answer n place xs))
unfolding pieces_by
pieces_count answer most some few zero place xs le = (omega arith, omega arith)
pieces_count answer most some few (suc n) place [] le = (omega arith, omega arith)
pieces_count answer most some few (suc n) place (x ∷ xs) le =
    let len : ℕ = (as_piece (answer (x ∷ xs))).1 in
    let one = some (x ∷ xs) in
    let all = few (x ∷ xs) in
    let left = length-drop len (x ∷ xs) in
    let rest = pieces_count answer most some few n (place + len) (drop len (x ∷ xs)) (omega arith) in
    let times = mul-suc most (length (pieces_by answer n (place + len) (drop len (x ∷ xs)))) in
    (omega arith, omega arith)

whole : (xs : List ℕ) → length (slice_range xs 0 (length xs)) ≡ length xs
whole xs = grind (arith, common_steps)

of_bytes : (xs : List ℕ) → (length (pieces xs) ≤ length xs) × (length xs ≤ 4 * length (pieces xs))
of_bytes xs =
    let all = whole xs in
    let count = pieces_count decoded 4 (λ ys. (len_of_bytes ys).0) (λ ys. (len_of_bytes ys).1) (length (slice_range xs 0 (length xs))) 0 (slice_range xs 0 (length xs)) (omega arith) in
    (omega arith, omega arith)

of_units : (xs : List ℕ) → (length (unit_pieces xs) ≤ length xs) × (length xs ≤ 2 * length (unit_pieces xs))
of_units xs =
    let all = whole xs in
    let count = pieces_count decoded_pairs 2 (λ ys. (len_of_units ys).0) (λ ys. (len_of_units ys).1) (length (slice_range xs 0 (length xs))) 0 (slice_range xs 0 (length xs)) (omega arith) in
    (omega arith, omega arith)

pub pieces_within : NoMoreGiven pieces
pieces_within xs = (of_bytes xs).0

pub pieces_short : NoLongerGiven pieces 4
pieces_short xs = (of_bytes xs).1

pub unit_pieces_within : NoMoreGiven unit_pieces
unit_pieces_within xs = (of_units xs).0

pub unit_pieces_short : NoLongerGiven unit_pieces 2
unit_pieces_short xs = (of_units xs).1
