-- The last fault of a text before an offset, in one of its chunks.
use Rattle.std.proofs.Common.{◌≡◌, ℕ, ◌+◌, ◌-◌, ◌<◌, ◌≤◌, List, ◌++◌, length, take, drop, arith, refl, sym, subst, ap, ◌∙◌, ⊎_elim, min, get_or, None, Some, Option, length-append}
use Rattle.std.proofs.lemmas.Bool.{cases_lt}
use Rattle.std.proofs.lemmas.List.{length-take-le, take-append-drop}
use Rattle.std.specs.List.{concat}
use Rattle.std.specs.Prelude.{slice_range, MatchOption}
use Rattle.utf_base.specs.Code.{utf8}
use Rattle.utf_base.specs.Ends.{EndsWith, NoCodeEnds}
use Rattle.utf_base.specs.Piece.{Inside, Piece, IsPiece}
use Rattle.utf_base.proofs.Cuts.{back_char, back_fault}
use Rattle.utf_base.proofs.Standing.{outside_front}
use Rattle.utf_base.proofs.Utf8Code.{utf8_is_code}
use Rattle.encode_unicode.specs.Pieces.{pieces}
use Rattle.text_runs.specs.ForwardRuns.{faulty_item_count}
use Rattle.text_runs.specs.PieceBoundaries.{IsFirstBetween}
use Rattle.text_buffers.specs.TextLookups.{IsPreviousFault, HasNoFaultBefore}
use Rattle.text_buffers.specs.Chunks.{IsSpot}
use Rattle.text_buffers.proofs.ChunkLists.{concat-take-more}
use Rattle.text_runs.proofs.FaultPlaces.{fault_piece, IsFaultAt, only_place, no_faults}
use Rattle.text_buffers.proofs.ChunkFaults.{fault_of_chunk, fault_in_chunk}
use Rattle.text_runs.proofs.JoinedPieces.{piece_from_front, piece_of_front}
use Rattle.text_runs.proofs.SplitNumbers.{begins_outside}
use Rattle.text_buffers.proofs.NumberLemmas.{ChunkAt}

pub none_counted_before : (xs : List ℕ) (i : ℕ) → faulty_item_count (pieces xs) ≡ 0 → HasNoFaultBefore xs i
none_counted_before xs i none z h e = absurd (no_faults xs none z.start (only_place xs z h e))

-- No fault of the bytes is from the offset p on and before i.
abbrev pub NoneBack : List ℕ → ℕ → ℕ → Type 0
NoneBack xs i p = (z : Piece) → IsPiece utf8 xs z → z.char ≡ None → z.start < i → z.start < p

-- A backward search from the end of some bytes to a boundary, from which on there is no fault.
pub record SearchedBack (xs : List ℕ) (end : ℕ) : Type 0 where
  pub within : end ≤ length xs
  pub outside : Inside utf8 xs end → ⊥
  pub none : NoneBack xs (length xs) end

pub searched_more : (xs : List ℕ) (end s n : ℕ) → SearchedBack xs end → EndsWith utf8 (slice_range xs 0 end) s n → SearchedBack xs (end - n) × (n ≤ end) × (0 < n)
searched_more xs end s n f told =
    let code = back_char utf8 utf8_is_code xs 0 end s n (omega arith) f.within told in
    let within = f.within in
    let fits = code.2 in
    let len = code.1 in
    let some = utf8_is_code.some s code.0.0.scalar in (
      record {
        within = omega arith;
        outside = code.3;
        none = λ z h e lt.
            let far = f.none z h e lt in
            ⊎_elim
            (λ (before : z.start < end - n). before)
            (λ (over : end - n ≤ z.start).
            absurd ((only_place xs z h e).2 (record { from = end - n; char = s; stands = code.0.0; begins = over; ends = omega arith })))
            (cases_lt z.start (end - n));
      },
      omega arith,
      omega arith,
    )

pub searched_fault : (xs : List ℕ) (end : ℕ) → SearchedBack xs end → 0 < end → NoCodeEnds utf8 (slice_range xs 0 end) → IsPreviousFault xs (length xs) (end - 1)
searched_fault xs end f some none =
    let within = f.within in
    record {
      fault = (back_fault utf8 xs 0 end (outside_front utf8 xs) f.outside some f.within none).0;
      before = omega arith;
      last = λ z h e lt. let far = f.none z h e lt in omega arith;
    }

-- In one list, up to a boundary.
module _ (xs : List ℕ) (i end : ℕ) (first : IsFirstBetween xs (min (length xs) i) end) where
  whole_is : take end xs ++ drop end xs ≡ xs
  whole_is = take-append-drop end xs

  of_front : length (take end xs) ≡ end
  of_front = length-take-le end xs first.between.within

  seam : Inside utf8 (take end xs ++ drop end xs) (length (take end xs)) → ⊥
  seam j = first.between.outside (subst (λ ys. Inside utf8 ys end) whole_is (rw of_front at j))

  -- a fault before the boundary is before the offset i
  fault_before_place : (p : ℕ) → p < end → IsFaultAt xs p → p < i
  fault_before_place p lt h =
      let within = h.0 in
      ⊎_elim
      (λ (before : p < i). before)
      (λ (over : i ≤ p). absurd (begins_outside xs p 1 None h (first.first p (omega arith) lt)))
      (cases_lt p i)

  before_boundary : (p : ℕ) → p < i → p < length xs → p < end
  before_boundary p lt within = let after = first.after in omega arith

  front_of_fault : (p : ℕ) → p < end → IsFaultAt xs p → IsFaultAt (take end xs) p
  front_of_fault p lt h = piece_of_front utf8 (take end xs) (drop end xs) seam p 1 None (rw of_front lt) (rw whole_is h)

  fault_of_front : (p : ℕ) → IsFaultAt (take end xs) p → IsFaultAt xs p
  fault_of_front p h = rw whole_is at (piece_from_front utf8 (take end xs) (drop end xs) seam p 1 None h.0 h)

  pub previous_to_boundary : (p : ℕ) → IsPreviousFault (take end xs) (length (take end xs)) p → IsPreviousFault xs i p
  previous_to_boundary p told =
      let fault = fault_of_front p told.fault in
      let before = told.before in
      record {
        fault = fault;
        before = fault_before_place p (omega (arith, of_front)) fault;
        last = λ z h e lt.
            let f = only_place xs z h e in
            let near = before_boundary z.start lt f.0 in
            told.last (fault_piece z.start) (front_of_fault z.start near f) refl (omega (arith, of_front));
      }

  pub none_to_boundary : HasNoFaultBefore (take end xs) (length (take end xs)) → HasNoFaultBefore xs i
  none_to_boundary told z h e =
      let f = only_place xs z h e in
      ⊎_elim
      (λ (lt : z.start < i).
      let near = before_boundary z.start lt f.0 in
      let far = told (fault_piece z.start) (front_of_fault z.start near f) refl in
      absurd (omega (arith, of_front)))
      (λ (le : i ≤ z.start). le)
      (cases_lt z.start i)

  pub previous_told : (r : Option ℕ) → MatchOption r (HasNoFaultBefore (take end xs) (length (take end xs))) (IsPreviousFault (take end xs) (length (take end xs)))
      → MatchOption r (HasNoFaultBefore xs i) (IsPreviousFault xs i)
  previous_told None told = none_to_boundary told
  previous_told (Some p) told = previous_to_boundary p told

-- the chunk before a spot
pub spot_before : (chunks : List (List ℕ)) (k p : ℕ) (x : List ℕ) → IsSpot chunks k p → 0 < k → x ≡ get_or chunks (k - 1) x → (length x ≤ p) × IsSpot chunks (k - 1) (p - length x)
spot_before chunks k p x spot some is =
    let within = spot.within in
    let begins = spot.begins in
    let lt : k - 1 < length chunks = omega arith in
    let on : k - 1 + 1 ≡ k = omega arith in
    let more : concat (take k chunks) ≡ concat (take (k - 1) chunks) ++ x = ap (λ i. concat (take i chunks)) (sym on) ∙ concat-take-more chunks (k - 1) x lt is in
    let len = ap length more ∙ length-append (concat (take (k - 1) chunks)) x in
    (omega arith, record { within = omega arith; begins = omega arith })

pub none_back_at_all : (xs : List ℕ) (i p : ℕ) → NoneBack xs i p → p ≡ 0 → HasNoFaultBefore xs i
none_back_at_all xs i p none start z h e =
    ⊎_elim (λ (lt : z.start < i). let far = none z h e lt in absurd (omega arith)) (λ (le : i ≤ z.start). le) (cases_lt z.start i)

module _ (chunks : List (List ℕ)) (k p : ℕ) (x : List ℕ) (at : ChunkAt chunks k p x) where
  -- the last fault of the chunk before the offset i is that of the whole, if there is none after the chunk
  pub previous_of_chunk : (i q : ℕ) → NoneBack (concat chunks) i (p + length x) → IsPreviousFault x (i - p) q → IsPreviousFault (concat chunks) i (p + q)
  previous_of_chunk i q none told =
      let before = told.before in
      record {
        fault = fault_of_chunk chunks k p x at q told.fault;
        before = omega arith;
        last = λ z h e lt.
            let near = none z h e lt in
            ⊎_elim
            (λ (earlier : z.start < p). omega arith)
            (λ (here : p ≤ z.start).
            let le = told.last (fault_piece (z.start - p)) (fault_in_chunk chunks k p x at z.start here near (only_place (concat chunks) z h e)) refl (omega arith) in
            omega arith)
            (cases_lt z.start p);
      }

  -- if the chunk has none, the one before it is searched
  pub none_back_of_chunk : (i : ℕ) → NoneBack (concat chunks) i (p + length x) → HasNoFaultBefore x (i - p) → NoneBack (concat chunks) i p
  none_back_of_chunk i none told z h e lt =
      let near = none z h e lt in
      ⊎_elim
      (λ (earlier : z.start < p). earlier)
      (λ (here : p ≤ z.start).
      let far = told (fault_piece (z.start - p)) (fault_in_chunk chunks k p x at z.start here near (only_place (concat chunks) z h e)) refl in
      absurd (omega arith))
      (cases_lt z.start p)
