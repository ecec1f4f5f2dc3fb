-- The sums of rows after chunks were replaced by others.
use Rattle.std.proofs.Common.{◌≡◌, ℕ, ◌+◌, ◌*◌, ◌-◌, ◌^◌, ◌<◌, ◌≤◌, List, ◌++◌, length, get_or, take, drop, arith, ap, ap₂, sym, ◌∙◌, subst, ⊎_elim, append_assoc, length-append, length-drop, length-set}
use Rattle.std.proofs.lemmas.Bool.{cases_lt}
use Rattle.std.proofs.lemmas.List.{drop-append-le, drop-drop, drop-take, length-take-le, take_at}
use Rattle.std.proofs.lemmas.List.Edits.{length-between}
use Rattle.std.proofs.lemmas.List.Folds.{concat-append}
use Rattle.std.proofs.Math.ListN.{set}
use Rattle.std.proofs.Math.Seq.{take-append-add, drop-append-add, get_or-set_same, get_or-set_other}
use Rattle.std.specs.List.{concat, splice}
use Rattle.std.specs.Prelude.{slice_range}
use Rattle.utf_base.specs.Code.{utf8}
use Rattle.utf_base.specs.Piece.{Inside}
use Rattle.text_buffers.specs.declared.buffers.counts.Counts.{Counts}
use Rattle.text_buffers.specs.declared.buffers.edits.Edit.{Edit}
use Rattle.text_buffers.specs.declared.buffers.sums.Exchange.{Exchange}
use Rattle.text_buffers.specs.ChunkEdits.{Surrounds}
use Rattle.text_buffers.specs.Chunks.{EndOutside}
use Rattle.text_buffers.specs.CountedChunks.{AreCounted}
use Rattle.text_buffers.specs.Counts.{counts_of, exchange_of, AreAmong, IsSmall}
use Rattle.text_buffers.specs.RowEdits.{WereExchanged}
use Rattle.text_buffers.specs.Rows.{AreSums, AreSumsBut}
use Rattle.text_buffers.proofs.ChunkEditLemmas.{ChunksEdited, edit_held}
use Rattle.text_buffers.proofs.ChunkLists.{take_up_to, EndOutside-seam}
use Rattle.text_buffers.proofs.CountLemmas.{Seams, counts_exchanged, counts_part, counts_small}
use Rattle.text_buffers.proofs.RowLemmas.{ends_between, no_counts, part_len, same_span, sums_taken}
use Rattle.text_buffers.proofs.WindowEdits.{length-splice}

-- no code covers the ends of chunks in the middle
pub seams_of : (p m q : List (List ℕ)) → EndOutside (p ++ (m ++ q)) → Seams (concat p) (concat m) (concat q)
seams_of p m q ends =
    let other : EndOutside ((p ++ m) ++ q) = subst EndOutside (sym (append_assoc p m q)) ends in
    let front : concat (p ++ m) ≡ concat p ++ concat m = concat-append p m in
    let rest : concat (m ++ q) ≡ concat m ++ concat q = concat-append m q in
    let whole : concat p ++ (concat m ++ concat q) ≡ concat (p ++ m) ++ concat q = sym (append_assoc (concat p) (concat m) (concat q)) ∙ ap (λ ys. ys ++ concat q) (sym front) in
    let len : length (concat (p ++ m)) ≡ length (concat p) + length (concat m) = ap length front ∙ length-append (concat p) (concat m) in
    record {
      begins = λ i. EndOutside-seam p (m ++ q) ends (rw rest i);
      ends = λ i. EndOutside-seam (p ++ m) q other (rw len (subst (λ ys. Inside utf8 ys (length (concat p) + length (concat m))) whole i));
    }

-- A row in which some chunks were replaced by as many others.
module _ {X : Type 0} (xs made : List X) (i j : ℕ) (lo : i ≤ j) (hi : j ≤ length xs) (many : length made ≡ j - i) where
  spliced_from : (a : ℕ) → a ≤ i → drop a (splice xs i j made) ≡ slice_range xs a i ++ (made ++ drop j xs)
  spliced_from a le =
      let front : length (take i xs) ≡ i = length-take-le i xs (omega arith) in
      let at : a + (i - a) ≡ i = omega arith in
      let first : drop a (take i xs) ≡ slice_range xs a i = ap (λ n. drop a (take n xs)) (sym at) ∙ drop-take a (i - a) xs in
      drop-append-le a (take i xs) (made ++ drop j xs) (omega arith) ∙ ap (λ ys. ys ++ (made ++ drop j xs)) first

  row_spliced : (a b : ℕ) → a ≤ i → j ≤ b → b ≤ length xs → slice_range (splice xs i j made) a b ≡ slice_range xs a i ++ (made ++ slice_range xs j b)
  row_spliced a b le ge within =
      let of_front : length (slice_range xs a i) ≡ i - a = length-between xs a i (omega arith) in
      let span : b - a ≡ length (slice_range xs a i) + (length made + (b - j)) = omega arith in
      ap (take (b - a)) (spliced_from a le)
      ∙ (ap (λ n. take n (slice_range xs a i ++ (made ++ drop j xs))) span
      ∙ (take-append-add (slice_range xs a i) (made ++ drop j xs) (length made + (b - j))
      ∙ ap (λ ys. slice_range xs a i ++ ys) (take-append-add made (drop j xs) (b - j))))

  row_parted : (a b : ℕ) → a ≤ i → j ≤ b → b ≤ length xs → slice_range xs a b ≡ slice_range xs a i ++ (slice_range xs i j ++ slice_range xs j b)
  row_parted a b le ge within = part_of a i b le (omega arith) within ∙ ap (λ ys. slice_range xs a i ++ ys) (part_of i j b lo ge within)
    where
      part_of : (k m n : ℕ) → k ≤ m → m ≤ n → n ≤ length xs → slice_range xs k n ≡ slice_range xs k m ++ slice_range xs m n
      part_of k m n first last fits =
          let ys = drop k xs in
          let up = take_up_to ys (m - k) (n - k) (omega arith) (omega (arith, length-drop k xs)) in
          let place : k + (m - k) ≡ m = omega arith in
          let span : n - k - (m - k) ≡ n - m = omega arith in
          let rest : slice_range ys (m - k) (n - k) ≡ slice_range xs m n
          = ap (λ p. take p (drop (m - k) ys)) span ∙ ap (take (n - m)) (drop-drop (m - k) k xs ∙ ap (λ p. drop p xs) place) in
          up ∙ ap (λ zs. take (m - k) ys ++ zs) rest

  rows_after : (a b : ℕ) → j ≤ a → slice_range (splice xs i j made) a b ≡ slice_range xs a b
  rows_after a b ge =
      let front : length (take i xs) ≡ i = length-take-le i xs (omega arith) in
      let at : a ≡ length (take i xs) + (length made + (a - j)) = omega arith in
      let place : j + (a - j) ≡ a = omega arith in
      let rest : drop a (splice xs i j made) ≡ drop a xs
      = ap (λ n. drop n (splice xs i j made)) at
      ∙ (drop-append-add (take i xs) (made ++ drop j xs) (length made + (a - j))
      ∙ (drop-append-add made (drop j xs) (a - j)
      ∙ (drop-drop (a - j) j xs ∙ ap (λ n. drop n xs) place))) in
      ap (take (b - a)) rest

-- The sum of a row is the previous one, less the old chunks, plus the new ones.
pub record RowExchanged (chunks : List (List ℕ)) (a b : ℕ) (gone come sum : Counts) : Type 0 where
  pub is : counts_of (concat (slice_range chunks a b)) ≡ exchange_of sum gone come
  pub part : AreAmong gone sum
  pub small : IsSmall (exchange_of sum gone come)

module _ {chunks : List (List ℕ)} {sums : List Counts} {e : Exchange} (x : WereExchanged chunks sums e) where
  row_exchanged : (a b : ℕ) (sum : Counts) → e.count ≡ e.last - e.first → a ≤ e.first → e.last ≤ b → b ≤ length x.old → sum ≡ counts_of (concat (slice_range x.old a b)) → RowExchanged chunks a b e.gone e.come sum
  row_exchanged a b sum same le ge within was =
      let many : length x.made ≡ e.last - e.first = sym x.many ∙ same in
      let P = slice_range x.old a e.first in
      let M = slice_range x.old e.first e.last in
      let Q = slice_range x.old e.last b in
      let before : slice_range x.old a b ≡ P ++ (M ++ Q) = row_parted x.old x.made e.first e.last x.ordered x.within many a b le ge within in
      let now : slice_range chunks a b ≡ P ++ (x.made ++ Q) = ap (λ cs. slice_range cs a b) x.exchanged ∙ row_spliced x.old x.made e.first e.last x.ordered x.within many a b le ge within in
      let seams : Seams (concat P) (concat M) (concat Q) = seams_of P M Q (subst EndOutside before (ends_between x.old a b (omega (arith, x.ordered)) x.held_before.ends)) in
      let seams_now : Seams (concat P) (concat x.made) (concat Q) = seams_of P x.made Q (subst EndOutside now (ends_between chunks a b (omega (arith, x.ordered)) x.held.ends)) in
      let whole : (m : List (List ℕ)) → concat (P ++ (m ++ Q)) ≡ concat P ++ (concat m ++ concat Q) = λ m. concat-append P (m ++ Q) ∙ ap (λ ys. concat P ++ ys) (concat-append m Q) in
      let of_sum : sum ≡ counts_of (concat P ++ (concat M ++ concat Q)) = was ∙ ap counts_of (ap concat before ∙ whole M) in
      let is : counts_of (concat (slice_range chunks a b)) ≡ exchange_of sum e.gone e.come
      = ap counts_of (ap concat now ∙ whole x.made)
      ∙ (counts_exchanged (concat P) (concat M) (concat x.made) (concat Q) seams seams_now
      ∙ (ap (λ k. exchange_of k (counts_of (concat M)) (counts_of (concat x.made))) (sym of_sum)
      ∙ ap₂ (λ g h. exchange_of sum g h) (sym x.went) (sym x.came))) in
      record {
        is = is;
        part = rw (x.went, of_sum) (counts_part (concat P) (concat M) (concat Q) seams);
        small = rw is at (counts_small (concat (slice_range chunks a b)) (omega (arith, part_len chunks a b (omega (arith, x.ordered)), x.held.small)));
      }

  -- if the new chunks are as many as the old ones, the number of chunks is unchanged
  pub exchanged_len : e.count ≡ e.last - e.first → length x.old ≡ length chunks
  exchanged_len same =
      let many = x.many in
      let ordered = x.ordered in
      let within = x.within in
      sym (ap length x.exchanged ∙ omega (arith, length-splice x.old x.made e.first e.last ordered within))

  front_same : e.first ≤ length x.old → take e.first chunks ≡ take e.first x.old
  front_same le = ap (take e.first) x.exchanged ∙ take_at (take e.first x.old) (x.made ++ drop e.last x.old) e.first (length-take-le e.first x.old le)

  front_row : (k : ℕ) → 256 * k + 256 ≤ e.first → slice_range chunks (256 * k) (256 * k + 256) ≡ slice_range x.old (256 * k) (256 * k + 256)
  front_row k le = same_span chunks x.old e.first (256 * k) (256 * k + 256) (omega arith) le (front_same (omega (arith, x.ordered, x.within)))

  -- the row of the chunks
  module _ (r : ℕ) (same : e.count ≡ e.last - e.first) (from : 256 * r ≤ e.first) (to : e.last ≤ 256 * r + 256) where
    pub row_of_sum : (d : Counts) → r < length sums → RowExchanged chunks (256 * r) (256 * r + 256) e.gone e.come (get_or sums r d)
    row_of_sum d lt =
        let within = x.sums_before.within in
        row_exchanged (256 * r) (256 * r + 256) (get_or sums r d) same from to (omega arith) (x.sums_before.counted r d lt)

    pub sums_exchanged : (others : List Counts) → ((d : Counts) → others ≡ set sums r (exchange_of (get_or sums r d) e.gone e.come)) → AreSums chunks others
    sums_exchanged others is =
        let within = x.sums_before.within in
        let ordered = x.ordered in
        let hi = x.within in
        let many : length x.made ≡ e.last - e.first = sym x.many ∙ same in
        let len : length others ≡ length sums = ap length (is no_counts) ∙ length-set sums r (exchange_of (get_or sums r no_counts) e.gone e.come) in
        let long : length chunks ≡ length x.old = ap length x.exchanged ∙ omega (arith, length-splice x.old x.made e.first e.last ordered hi) in
        record {
          within = omega arith;
          counted = λ k d lt.
              ⊎_elim
              (λ (before : k < r).
              ap (λ ys. get_or ys k d) (is d) ∙ (get_or-set_other sums r k (exchange_of (get_or sums r d) e.gone e.come) d (λ eq. absurd (omega arith))
              ∙ (x.sums_before.counted k d (omega arith) ∙ ap (λ cs. counts_of (concat cs)) (sym (front_row k (omega arith))))))
              (λ (ge : r ≤ k).
              ⊎_elim
              (λ (past : r < k).
              ap (λ ys. get_or ys k d) (is d) ∙ (get_or-set_other sums r k (exchange_of (get_or sums r d) e.gone e.come) d (λ eq. absurd (omega arith))
              ∙ (x.sums_before.counted k d (omega arith)
              ∙ ap (λ cs. counts_of (concat cs)) (sym (ap (λ cs. slice_range cs (256 * k) (256 * k + 256)) x.exchanged ∙ rows_after x.old x.made e.first e.last ordered hi many (256 * k) (256 * k + 256) (omega arith))))))
              (λ (le : k ≤ r).
              let at : k ≡ r = omega arith in
              let lt' : r < length sums = omega arith in
              rw at (ap (λ ys. get_or ys r d) (is d) ∙ (get_or-set_same sums r (exchange_of (get_or sums r d) e.gone e.come) d lt' ∙ sym (row_of_sum d lt').is)))
              (cases_lt r k))
              (cases_lt k r);
        }

  -- the sums of the rows before it and after it stay
  pub sums_but : (r s : ℕ) → e.count ≡ e.last - e.first → 256 * r ≤ e.first → e.last ≤ 256 * s → AreSumsBut chunks sums r s
  sums_but r s same from to =
      let within = x.sums_before.within in
      let ordered = x.ordered in
      let hi = x.within in
      let many : length x.made ≡ e.last - e.first = sym x.many ∙ same in
      let long : length chunks ≡ length x.old = ap length x.exchanged ∙ omega (arith, length-splice x.old x.made e.first e.last ordered hi) in
      record {
        within = omega arith;
        counted = λ k d lt side.
            x.sums_before.counted k d lt
            ∙ ap (λ cs. counts_of (concat cs))
            (sym
            (⊎_elim
            (λ (before : k < r). front_row k (omega arith))
            (λ (past : s ≤ k). ap (λ cs. slice_range cs (256 * k) (256 * k + 256)) x.exchanged ∙ rows_after x.old x.made e.first e.last ordered hi many (256 * k) (256 * k + 256) (omega arith))
            side));
      }

  -- the sums of the rows before it stay
  pub sums_left : (r : ℕ) → 256 * r ≤ e.first → AreSums chunks (take r sums)
  sums_left r le =
      let ordered = x.ordered in
      let hi = x.within in
      let front : length (take e.first x.old) ≡ e.first = length-take-le e.first x.old (omega arith) in
      let same : take e.first chunks ≡ take e.first x.old = ap (take e.first) x.exchanged ∙ take_at (take e.first x.old) (x.made ++ drop e.last x.old) e.first front in
      let long : e.first ≤ length chunks = omega (arith, ap length x.exchanged, length-append (take e.first x.old) (x.made ++ drop e.last x.old)) in
      sums_taken x.old chunks sums e.first r x.sums_before le long same

-- the greatest number of chunks after the exchange
pub rows_fit : (chunks made : List (List ℕ)) (i j : ℕ) → i ≤ j → j ≤ length chunks → length (splice chunks i j made) ≤ length chunks + length made
rows_fit chunks made i j ordered within = omega (arith, length-splice chunks made i j ordered within)

-- Chunks that replaced those that an edit reaches.
pub were_exchanged : (chunks made now : List (List ℕ)) (sums : List Counts) (x : Edit) (new : List ℕ) (counts gone come : Counts) (count : ℕ) → AreCounted chunks sums counts → Surrounds chunks x
    → ChunksEdited chunks made x new → length (splice (concat chunks) x.start x.end new) < 2 ^ 64 → now ≡ splice chunks x.first.number x.last.number made → count ≡ length made
    → gone ≡ counts_of (concat (slice_range chunks x.first.number x.last.number)) → come ≡ counts_of (concat made)
    → WereExchanged now sums (record { first = x.first.number; last = x.last.number; count = count; gone = gone; come = come })
were_exchanged chunks made now sums x new counts gone come count are around edit fits is many went came = record {
  old = chunks;
  made = made;
  sums_before = are.rows;
  all_before = are.all;
  held_before = are.held;
  held = rw is (edit_held chunks made x new edit fits);
  ordered = around.in_order;
  within = around.last.within;
  many = many;
  exchanged = is;
  went = went;
  came = came;
}
