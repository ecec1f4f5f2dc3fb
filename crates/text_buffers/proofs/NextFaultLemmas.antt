-- The first fault of a text from an offset on, in one of its chunks.
use Rattle.std.proofs.Common.{◌≡◌, ℕ, ◌+◌, ◌-◌, ◌<◌, ◌≤◌, List, ◌++◌, length, take, drop, arith, refl, subst, ⊎_elim, min, None, length-drop}
use Rattle.std.proofs.lemmas.Bool.{cases_lt}
use Rattle.std.proofs.lemmas.List.{length-take-le, take-append-drop}
use Rattle.std.specs.List.{concat}
use Rattle.utf_base.specs.Code.{utf8}
use Rattle.utf_base.specs.Piece.{Inside, Piece, IsPiece}
use Rattle.encode_unicode.specs.Pieces.{pieces}
use Rattle.text_runs.specs.ForwardRuns.{faulty_item_count}
use Rattle.text_runs.specs.PieceBoundaries.{IsFirstBetween}
use Rattle.text_buffers.specs.TextLookups.{IsNextFault, HasNoFaultFrom}
use Rattle.text_runs.specs.WellFormed.{IsFirstFault}
use Rattle.text_runs.proofs.FaultPlaces.{fault_piece, IsFaultAt, only_place, no_faults}
use Rattle.text_buffers.proofs.ChunkFaults.{fault_of_chunk, fault_in_chunk}
use Rattle.text_runs.proofs.JoinedPieces.{piece_from_rest, piece_of_rest}
use Rattle.text_runs.proofs.SplitNumbers.{begins_outside}
use Rattle.text_buffers.proofs.NumberLemmas.{ChunkAt}

pub none_counted : (xs : List ℕ) (i : ℕ) → faulty_item_count (pieces xs) ≡ 0 → HasNoFaultFrom xs i
none_counted xs i none z h e = absurd (no_faults xs none z.start (only_place xs z h e))

-- In one list, from a boundary on.
module _ (xs : List ℕ) (i from : ℕ) (first : IsFirstBetween xs (min (length xs) i) from) where
  from_within : from ≤ length xs
  from_within = first.between.within

  whole_is : take from xs ++ drop from xs ≡ xs
  whole_is = take-append-drop from xs

  of_front : length (take from xs) ≡ from
  of_front = length-take-le from xs from_within

  seam : Inside utf8 (take from xs ++ drop from xs) (length (take from xs)) → ⊥
  seam j = first.between.outside (subst (λ ys. Inside utf8 ys from) whole_is (rw of_front at j))

  -- a fault that is not before the offset i is not before the boundary
  fault_following : (p : ℕ) → i ≤ p → IsFaultAt xs p → from ≤ p
  fault_following p lo h =
      let lt = h.0 in
      ⊎_elim
      (λ (before : p < from). absurd (begins_outside xs p 1 None h (first.first p (omega arith) before)))
      (λ (le : from ≤ p). le)
      (cases_lt p from)

  rest_of_fault : (p : ℕ) → from ≤ p → IsFaultAt xs p → IsFaultAt (drop from xs) (p - from)
  rest_of_fault p le h =
      let place : length (take from xs) + (p - from) ≡ p = omega (arith, of_front) in
      piece_of_rest utf8 (take from xs) (drop from xs) seam (p - from) 1 None (rw (whole_is, place) h)

  fault_of_rest : (n : ℕ) → IsFaultAt (drop from xs) n → IsFaultAt xs (from + n)
  fault_of_rest n h = rw (whole_is, of_front) at (piece_from_rest utf8 (take from xs) (drop from xs) seam n 1 None h)

  pub next_from_boundary : (n : ℕ) → IsFirstFault utf8 (drop from xs) n → from + n < length xs → IsNextFault xs i (from + n)
  next_from_boundary n told lt =
      let some : n < length (drop from xs) = omega (arith, length-drop from xs) in
      let after = first.after in
      record {
        fault = fault_of_rest n (told.fault some);
        after = omega arith;
        first = λ z h e lo.
            let f = only_place xs z h e in
            let le = fault_following z.start lo f in
            let least = told.none (fault_piece (z.start - from)) (rest_of_fault z.start le f) refl in
            omega arith;
      }

  pub none_from_boundary : (n : ℕ) → IsFirstFault utf8 (drop from xs) n → from + n ≡ length xs → HasNoFaultFrom xs i
  none_from_boundary n told end z h e =
      let f = only_place xs z h e in
      let within = f.0 in
      ⊎_elim
      (λ (before : z.start < i). before)
      (λ (lo : i ≤ z.start).
      let le = fault_following z.start lo f in
      let least = told.none (fault_piece (z.start - from)) (rest_of_fault z.start le f) refl in
      absurd (omega arith))
      (cases_lt z.start i)

-- No fault of the bytes lies from the offset i on and before the offset p.
abbrev pub NoneBetween : List ℕ → ℕ → ℕ → Type 0
NoneBetween xs i p = (z : Piece) → IsPiece utf8 xs z → z.char ≡ None → i ≤ z.start → p ≤ z.start

pub none_at_all : (xs : List ℕ) (i p : ℕ) → NoneBetween xs i p → length xs ≤ p → HasNoFaultFrom xs i
none_at_all xs i p none le z h e =
    let within = (only_place xs z h e).0 in
    ⊎_elim (λ (before : z.start < i). before) (λ (lo : i ≤ z.start). let far = none z h e lo in absurd (omega arith)) (cases_lt z.start i)

module _ (chunks : List (List ℕ)) (k p : ℕ) (x : List ℕ) (at : ChunkAt chunks k p x) where
  -- the first fault of the chunk from the offset i on is that of the whole, if there is none before the chunk
  pub next_of_chunk : (i q : ℕ) → NoneBetween (concat chunks) i p → IsNextFault x (i - p) q → IsNextFault (concat chunks) i (p + q)
  next_of_chunk i q none next =
      let after = next.after in
      let within = next.fault.0 in
      record {
        fault = fault_of_chunk chunks k p x at q next.fault;
        after = omega arith;
        first = λ z h e lo.
            let from = none z h e lo in
            ⊎_elim
            (λ (here : z.start < p + length x).
            let least = next.first (fault_piece (z.start - p)) (fault_in_chunk chunks k p x at z.start from here (only_place (concat chunks) z h e)) refl (omega arith) in
            omega arith)
            (λ (past : p + length x ≤ z.start). omega arith)
            (cases_lt z.start (p + length x));
      }

  -- if the chunk has none, the next one is searched
  pub none_of_chunk : (i : ℕ) → NoneBetween (concat chunks) i p → HasNoFaultFrom x (i - p) → NoneBetween (concat chunks) i (p + length x)
  none_of_chunk i none here z h e lo =
      let from = none z h e lo in
      ⊎_elim
      (λ (in_chunk : z.start < p + length x).
      let before = here (fault_piece (z.start - p)) (fault_in_chunk chunks k p x at z.start from in_chunk (only_place (concat chunks) z h e)) refl in
      absurd (omega arith))
      (λ (past : p + length x ≤ z.start). past)
      (cases_lt z.start (p + length x))
