-- The number of pieces that begin before an offset, counted by chunks.
use Rattle.std.proofs.Common.{◌≡◌, ℕ, ◌+◌, ◌-◌, ◌<◌, ◌≤◌, ◌⊎◌, List, [], ◌++◌, length, get_or, take, drop, arith, refl, ap, sym, ◌∙◌, subst, ⊎_elim, inl, inr, min, append_assoc, length-drop, length-append}
use Rattle.std.proofs.lemmas.Bool.{cases_lt}
use Rattle.std.proofs.lemmas.List.{take-append-drop, take_all, take_at, drop_all, drop-append-le, take-append-le}
use Rattle.std.proofs.lemmas.List.Folds.{concat-append}
use Rattle.std.proofs.Math.Seq.{take-append-add, drop-append-add}
use Rattle.std.specs.List.{concat}
use Rattle.utf_base.specs.Code.{utf8}
use Rattle.utf_base.specs.Piece.{Inside}
use Rattle.encode_unicode.specs.Pieces.{pieces}
use Rattle.text_buffers.specs.Chunks.{EndOutside, IsSpot}
use Rattle.text_runs.specs.PieceBoundaries.{IsFirstBetween}
use Rattle.text_runs.specs.Tables.{IsSplitAt}
use Rattle.text_buffers.proofs.ChunkLists.{concat-take-more, next_spot}
use Rattle.text_runs.proofs.JoinedCounts.{count_joined}
use Rattle.text_runs.proofs.JoinedPieces.{inside_front, inside_rest, inside_before, inside_following}
use Rattle.text_runs.proofs.SplitNumbers.{bytes_split}

-- A chunk of the whole.
pub record ChunkAt (chunks : List (List ℕ)) (k p : ℕ) (x : List ℕ) : Type 0 where
  pub ends : EndOutside chunks
  pub spot : IsSpot chunks k p
  pub lt : k < length chunks
  pub is : x ≡ get_or chunks k x

module _ (chunks : List (List ℕ)) (k p : ℕ) (x : List ℕ) (at : ChunkAt chunks k p x) where
  pub chunk_whole : (concat (take k chunks) ++ x) ++ concat (drop (k + 1) chunks) ≡ concat chunks
  chunk_whole =
      ap (λ ys. ys ++ concat (drop (k + 1) chunks)) (sym (concat-take-more chunks k x at.lt at.is))
      ∙ (sym (concat-append (take (k + 1) chunks) (drop (k + 1) chunks)) ∙ ap concat (take-append-drop (k + 1) chunks))

  pub chunk_front_len : length (concat (take k chunks)) ≡ p
  chunk_front_len = sym at.spot.begins

  pub chunk_end_len : length (concat (take k chunks) ++ x) ≡ p + length x
  chunk_end_len = omega (arith, length-append (concat (take k chunks)) x, chunk_front_len)

  pub chunk_end_outside : Inside utf8 ((concat (take k chunks) ++ x) ++ concat (drop (k + 1) chunks)) (length (concat (take k chunks) ++ x)) → ⊥
  chunk_end_outside i = at.ends.outside (k + 1) (rw (concat-take-more chunks k x at.lt at.is) (rw chunk_whole at i))

  pub chunk_front_outside : Inside utf8 (concat (take k chunks) ++ x) (length (concat (take k chunks))) → ⊥
  chunk_front_outside i =
      at.ends.outside k (rw chunk_whole at (inside_front utf8 (concat (take k chunks) ++ x) (concat (drop (k + 1) chunks)) (length (concat (take k chunks))) i))

  -- a code covers an offset of the chunk if one covers it in the whole
  pub inside_chunk : (n : ℕ) → n ≤ length x → Inside utf8 (concat chunks) (p + n) → Inside utf8 x n
  inside_chunk n le i =
      let j = inside_before utf8 (concat (take k chunks) ++ x) (concat (drop (k + 1) chunks)) chunk_end_outside (p + n) (omega (arith, chunk_end_len)) (rw chunk_whole i) in
      inside_following utf8 (concat (take k chunks)) x chunk_front_outside n (rw chunk_front_len j)

  pub inside_of_chunk : (n : ℕ) → Inside utf8 x n → Inside utf8 (concat chunks) (p + n)
  inside_of_chunk n i =
      rw (chunk_front_len, chunk_whole) at
      (inside_front utf8 (concat (take k chunks) ++ x) (concat (drop (k + 1) chunks)) (length (concat (take k chunks)) + n) (inside_rest utf8 (concat (take k chunks)) x n i))

  pub chunk_within : p + length x ≤ length (concat chunks)
  chunk_within = omega (arith, ap length chunk_whole, length-append (concat (take k chunks) ++ x) (concat (drop (k + 1) chunks)), chunk_end_len)

  pub take_to_chunk : (n : ℕ) → n ≤ length x → take (p + n) (concat chunks) ≡ concat (take k chunks) ++ take n x
  take_to_chunk n le =
      let front : take (p + n) (concat (take k chunks) ++ x) ≡ concat (take k chunks) ++ take n x
      = ap (λ m. take (m + n) (concat (take k chunks) ++ x)) (sym chunk_front_len) ∙ take-append-add (concat (take k chunks)) x n in
      ap (take (p + n)) (sym chunk_whole) ∙ (take-append-le (p + n) (concat (take k chunks) ++ x) (concat (drop (k + 1) chunks)) (omega (arith, chunk_end_len)) ∙ front)

  -- the number of pieces that begin before an offset m of the chunk, or, in the last chunk, also of an offset
  -- after it
  number_in_chunk : (m at n : ℕ) → p ≤ m → at ≡ min (m - p) (length x) → (m < p + length x) ⊎ (p + length x ≡ length (concat chunks)) → IsFirstBetween x at n
      → IsSplitAt (pieces (concat chunks)) m (length (pieces (concat (take k chunks))) + length (pieces (take n x)))
  number_in_chunk m at n lo near last first =
      let within : n ≤ length x = first.between.within in
      let after : at ≤ n = first.after in
      let b = p + n in
      let le : b ≤ length (concat chunks) = omega (arith, chunk_within) in
      let out : Inside utf8 (concat chunks) b → ⊥ = λ i. first.between.outside (inside_chunk n within i) in
      let P = concat (take k chunks) in
      let parts : (P ++ take n x) ++ drop n x ≡ P ++ x = append_assoc P (take n x) (drop n x) ∙ ap (λ ys. P ++ ys) (take-append-drop n x) in
      let seam : Inside utf8 (P ++ take n x) (length P) → ⊥
      = λ i. chunk_front_outside (subst (λ ys. Inside utf8 ys (length P)) parts (inside_front utf8 (P ++ take n x) (drop n x) (length P) i)) in
      let count : length (pieces (take b (concat chunks))) ≡ length (pieces P) + length (pieces (take n x))
      = ap (λ ys. length (pieces ys)) (take_to_chunk n within) ∙ count_joined P (take n x) seam in
      let far : (m ≤ b) ⊎ (b ≡ length (concat chunks)) =
      ⊎_elim
      (λ (lt : m - p < length x). inl (omega arith))
      (λ (ge : length x ≤ m - p). ⊎_elim (λ (lt : m < p + length x). inl (omega arith)) (λ (end : p + length x ≡ length (concat chunks)). inr (omega arith)) last)
      (cases_lt (m - p) (length x)) in
      let over : (q : ℕ) → m ≤ q → q < b → Inside utf8 (concat chunks) q = λ q ge lt.
      let place : p + (q - p) ≡ q = omega arith in
      rw place at (inside_of_chunk (q - p) (first.first (q - p) (omega arith) (omega arith))) in
      rw count at (bytes_split (concat chunks) b le out m far over)

  -- the chunk has the byte at m, or is the last
  pub chunk_last : (m : ℕ) → (k + 1 < length chunks → m < length (concat (take (k + 1) chunks))) → (m < p + length x) ⊎ (p + length x ≡ length (concat chunks))
  chunk_last m has =
      let end = (next_spot chunks k p x at.spot at.lt at.is).begins in
      ⊎_elim
      (λ (some : k + 1 < length chunks). let below = has some in inl (omega arith))
      (λ (none : length chunks ≤ k + 1). inr (omega (arith, ap (λ cs. length (concat cs)) (take_all (k + 1) chunks none))))
      (cases_lt (k + 1) (length chunks))

  pub number_found : (m n : ℕ) → p ≤ m → (k + 1 < length chunks → m < length (concat (take (k + 1) chunks))) → IsFirstBetween x (min (length x) (m - p)) n
      → IsSplitAt (pieces (concat chunks)) m (length (pieces (concat (take k chunks))) + length (pieces (take n x)))
  number_found m n lo has first = number_in_chunk m (min (length x) (m - p)) n lo (omega arith) (chunk_last m has) first

  -- the rest of the chunk begins the rest of the whole
  pub rest_of_chunk : (m : ℕ) → p ≤ m → drop (min (length x) (m - p)) x ≡ take (length (drop (min (length x) (m - p)) x)) (drop m (concat chunks))
  rest_of_chunk m lo =
      let P = concat (take k chunks) in
      let Q = concat (drop (k + 1) chunks) in
      let j = min (length x) (m - p) in
      ⊎_elim
      (λ (past : p + length x < m).
      let none : drop j x ≡ [] = drop_all j x (omega arith) in
      rw none refl)
      (λ (within : m ≤ p + length x).
      let place : m ≡ length P + j = omega (arith, chunk_front_len) in
      let whole : concat chunks ≡ P ++ (x ++ Q) = sym chunk_whole ∙ append_assoc P x Q in
      let left : drop m (concat chunks) ≡ drop j x ++ Q
      = ap (λ n. drop n (concat chunks)) place ∙ (ap (drop (length P + j)) whole ∙ (drop-append-add P (x ++ Q) j ∙ drop-append-le j x Q (omega arith))) in
      sym (ap (take (length (drop j x))) left ∙ take_at (drop j x) Q (length (drop j x)) refl))
      (cases_lt (p + length x) m)

  pub some_of_chunk : (m : ℕ) → p ≤ m → (k + 1 < length chunks → m < length (concat (take (k + 1) chunks))) → m < length (concat chunks) → 0 < length (drop (min (length x) (m - p)) x)
  some_of_chunk m lo has lt =
      let len = length-drop (min (length x) (m - p)) x in
      ⊎_elim (λ (here : m < p + length x). omega arith) (λ (end : p + length x ≡ length (concat chunks)). omega arith) (chunk_last m has)

-- if no byte is at the offset, all pieces begin before it
pub all_found : (chunks : List (List ℕ)) (m : ℕ) → EndOutside chunks → length (concat chunks) ≤ m → IsSplitAt (pieces (concat chunks)) m (length (pieces (concat chunks)))
all_found chunks m ends end =
    let xs = concat chunks in
    let all : take (length chunks) chunks ≡ chunks = take_all (length chunks) chunks (omega arith) in
    let out : Inside utf8 xs (length xs) → ⊥ = λ i. ends.outside (length chunks) (rw all i) in
    rw (take_all (length xs) xs (omega arith)) at (bytes_split xs (length xs) (omega arith) out m (inr refl) (λ n lo hi. absurd (omega arith)))
