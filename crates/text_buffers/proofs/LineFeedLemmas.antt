-- The line feeds of a text, counted by chunks.
use Rattle.std.proofs.Common.{◌≡◌, ℕ, zero, suc, ◌+◌, ◌-◌, ◌<◌, ◌≤◌, ◌⊎◌, List, ◌++◌, length, get_or, take, drop, arith, refl, ap, sym, ◌∙◌, ⊎_elim, inl, inr, min, length-append}
use Rattle.std.proofs.lemmas.Bool.{cases_lt}
use Rattle.std.proofs.lemmas.List.{get_or_append_left, get_or-append-add, take_all, take-append-drop}
use Rattle.std.proofs.lemmas.List.Sums.{sum_by-append}
use Rattle.std.specs.List.{concat}
use Rattle.std.specs.Prelude.{cond, nat_eq}
use Rattle.text_runs.specs.ShardRuns.{line_feed_count}
use Rattle.text_buffers.specs.TextLookups.{IsLineStart}
use Rattle.text_buffers.proofs.NumberLemmas.{ChunkAt, chunk_whole, chunk_front_len, chunk_within, chunk_last, take_to_chunk}

pub feeds_append : (a b : List ℕ) → line_feed_count (a ++ b) ≡ line_feed_count a + line_feed_count b
feeds_append a b = sum_by-append (λ x. cond (nat_eq x 10) 1 0) a b

-- a front has no more line feeds than the whole
pub feeds_of_front : (xs : List ℕ) (n : ℕ) → line_feed_count (take n xs) ≤ line_feed_count xs
feeds_of_front xs n = omega (arith, ap line_feed_count (take-append-drop n xs), feeds_append (take n xs) (drop n xs))

-- if there are line feeds, there is a byte
pub some_feeds : (xs : List ℕ) (line p : ℕ) → line_feed_count (take p xs) ≡ line + 1 → 0 < p
some_feeds xs line zero e = let none : line_feed_count (take 0 xs) ≡ 0 = refl in absurd (omega arith)
some_feeds xs line (suc p) e = omega arith

module _ (chunks : List (List ℕ)) (k p : ℕ) (x : List ℕ) (at : ChunkAt chunks k p x) where
  feeds_to_chunk : (n : ℕ) → n ≤ length x → line_feed_count (take (p + n) (concat chunks)) ≡ line_feed_count (concat (take k chunks)) + line_feed_count (take n x)
  feeds_to_chunk n le = ap line_feed_count (take_to_chunk chunks k p x at n le) ∙ feeds_append (concat (take k chunks)) (take n x)

  -- the line feeds before an offset are those before its chunk, and those of the chunk
  pub feeds_found : (m : ℕ) → p ≤ m → (k + 1 < length chunks → m < length (concat (take (k + 1) chunks)))
      → line_feed_count (take m (concat chunks)) ≡ line_feed_count (concat (take k chunks)) + line_feed_count (take (min (length x) (m - p)) x)
  feeds_found m lo has =
      let j = min (length x) (m - p) in
      let same : take m (concat chunks) ≡ take (p + j) (concat chunks) =
      ⊎_elim
      (λ (within : m ≤ p + length x). let place : m ≡ p + j = omega arith in ap (λ i. take i (concat chunks)) place)
      (λ (past : p + length x < m).
      ⊎_elim
      (λ (here : m < p + length x). absurd (omega arith))
      (λ (end : p + length x ≡ length (concat chunks)). take_all m (concat chunks) (omega arith) ∙ sym (take_all (p + j) (concat chunks) (omega arith)))
      (chunk_last chunks k p x at m has))
      (cases_le m (p + length x)) in
      ap line_feed_count same ∙ feeds_to_chunk j (omega arith)
    where
      cases_le : (a b : ℕ) → (a ≤ b) ⊎ (b < a)
      cases_le a b = ⊎_elim (λ (lt : b < a). inr lt) (λ (le : a ≤ b). inl le) (cases_lt b a)

  pub feeds_before_chunk : line_feed_count (concat (take k chunks)) + line_feed_count x ≤ line_feed_count (concat chunks)
  feeds_before_chunk =
      let all : take (length x) x ≡ x = take_all (length x) x (omega arith) in
      omega (arith, feeds_to_chunk (length x) (omega arith), ap line_feed_count all, feeds_of_front (concat chunks) (p + length x))

  -- a line that begins in the chunk
  pub line_in_chunk : (line before n place : ℕ) → IsLineStart x (line - 1 - before + 1) n → before ≡ line_feed_count (concat (take k chunks)) → before ≤ line - 1 → 0 < line → place ≡ p + n
      → IsLineStart (concat chunks) line place
  line_in_chunk line before n place start is le some there =
      let P = concat (take k chunks) in
      let Q = concat (drop (k + 1) chunks) in
      let within = start.within in
      let above : 0 < n = some_feeds x (line - 1 - before) n start.number in
      let of_front = chunk_front_len chunks k p x at in
      let last : n - 1 < length x = omega arith in
      let here : length P + (n - 1) < length (P ++ x) = omega (arith, length-append P x) in
      let spot : place - 1 ≡ length P + (n - 1) = omega arith in
      let byte : get_or (concat chunks) (place - 1) 0 ≡ get_or x (n - 1) 0
      = ap (λ i. get_or (concat chunks) i 0) spot
      ∙ (ap (λ ys. get_or ys (length P + (n - 1)) 0) (sym (chunk_whole chunks k p x at))
      ∙ (get_or_append_left (P ++ x) Q 0 (length P + (n - 1)) here ∙ get_or-append-add P x (n - 1) 0)) in
      record {
        within = omega (arith, chunk_within chunks k p x at);
        number = omega (arith, ap (λ i. line_feed_count (take i (concat chunks))) there, feeds_to_chunk n within, start.number);
        begins = λ lt. byte ∙ start.begins above;
      }
