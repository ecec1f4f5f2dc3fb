-- The faults of a chunk are faults of the text.
use Rattle.std.proofs.Common.{◌≡◌, ℕ, ◌+◌, ◌-◌, ◌<◌, ◌≤◌, List, ◌++◌, length, take, drop, arith, None, length-append}
use Rattle.std.specs.List.{concat}
use Rattle.utf_base.specs.Code.{utf8}
use Rattle.text_runs.proofs.JoinedPieces.{piece_from_front, piece_of_front, piece_from_rest, piece_of_rest}
use Rattle.text_buffers.proofs.NumberLemmas.{ChunkAt, chunk_whole, chunk_front_len, chunk_end_len, chunk_end_outside, chunk_front_outside}
use Rattle.text_runs.proofs.FaultPlaces.{IsFaultAt}

module _ (chunks : List (List ℕ)) (k p : ℕ) (x : List ℕ) (at : ChunkAt chunks k p x) where
  pub fault_of_chunk : (n : ℕ) → IsFaultAt x n → IsFaultAt (concat chunks) (p + n)
  fault_of_chunk n h =
      let P = concat (take k chunks) in
      let Q = concat (drop (k + 1) chunks) in
      let lt = h.0 in
      let front = piece_from_rest utf8 P x (chunk_front_outside chunks k p x at) n 1 None h in
      rw (chunk_whole chunks k p x at, chunk_front_len chunks k p x at) at
      (piece_from_front utf8 (P ++ x) Q (chunk_end_outside chunks k p x at) (length P + n) 1 None (omega (arith, length-append P x)) front)

  pub fault_in_chunk : (q : ℕ) → p ≤ q → q < p + length x → IsFaultAt (concat chunks) q → IsFaultAt x (q - p)
  fault_in_chunk q lo hi h =
      let P = concat (take k chunks) in
      let Q = concat (drop (k + 1) chunks) in
      let place : length P + (q - p) ≡ q = omega (arith, chunk_front_len chunks k p x at) in
      let front = piece_of_front utf8 (P ++ x) Q (chunk_end_outside chunks k p x at) q 1 None (omega (arith, chunk_end_len chunks k p x at)) (rw (chunk_whole chunks k p x at) h) in
      piece_of_rest utf8 P x (chunk_front_outside chunks k p x at) (q - p) 1 None (rw place front)
