-- Rows of chunks, and their counts.
use Rattle.std.proofs.Common.{◌≡◌, ℕ, ◌+◌, ◌*◌, ◌-◌, ◌^◌, ◌<◌, ◌≤◌, ◌⊎◌, List, [], ◌∷◌, ◌++◌, length, get_or, take, drop, arith, ap, ap₂, sym, ◌∙◌, subst, ⊎_elim, inl, inr, length-append, length-set, length-take}
use Rattle.std.proofs.lemmas.Bool.{cases_lt}
use Rattle.std.proofs.lemmas.List.{drop-take, get_or_append_left, get_or-take, take-take}
use Rattle.std.proofs.lemmas.Option.{slice_get-get_or, get_or_from_slice_get}
use Rattle.std.proofs.lemmas.List.Edits.{split_between}
use Rattle.std.proofs.lemmas.List.Folds.{concat-append}
use Rattle.std.proofs.Math.ListN.{set}
use Rattle.std.proofs.Math.Seq.{get_or-append_seam, get_or-set_same, get_or-set_other}
use Rattle.std.specs.List.{concat}
use Rattle.std.specs.Prelude.{slice_range}
use Rattle.text_buffers.specs.declared.buffers.counts.Counts.{Counts}
use Rattle.text_buffers.specs.declared.buffers.rows.Mark.{Mark}
use Rattle.text_buffers.specs.Chunks.{EndOutside, IsSpot}
use Rattle.text_buffers.specs.CountedChunks.{AreChunks}
use Rattle.text_buffers.specs.Counts.{counts_of, sum_of, IsSmall}
use Rattle.text_buffers.specs.Rows.{AreSums, AreSumsBut, IsMark}
use Rattle.text_buffers.proofs.ChunkLists.{take_up_to, EndOutside-front, EndOutside-rest, EndOutside-take, EndOutside-seam, concat-take-le, concat-take-more}
use Rattle.text_buffers.proofs.ChunkEditLemmas.{chunk_counts, chunk_counts_small}
use Rattle.text_buffers.proofs.CountLemmas.{counts_joined, counts_small}

-- a part of chunks
pub ends_between : (chunks : List (List ℕ)) (a b : ℕ) → a ≤ b → EndOutside chunks → EndOutside (slice_range chunks a b)
ends_between chunks a b le ends =
    EndOutside-front (slice_range chunks a b) (drop b chunks) (EndOutside-rest (take a chunks) (slice_range chunks a b ++ drop b chunks) (subst EndOutside (split_between chunks a b le) ends))

pub part_len : (cs : List (List ℕ)) (a b : ℕ) → a ≤ b → length (concat (slice_range cs a b)) ≤ length (concat cs)
part_len cs a b le =
    let P = take a cs in
    let M = slice_range cs a b in
    let Q = drop b cs in
    omega (arith, ap (λ ds. length (concat ds)) (split_between cs a b le), ap length (concat-append P (M ++ Q)), ap length (concat-append M Q), length-append (concat P) (concat (M ++ Q)), length-append (concat M) (concat Q))

pub held_between : (chunks : List (List ℕ)) (a b : ℕ) → a ≤ b → AreChunks chunks → AreChunks (slice_range chunks a b)
held_between chunks a b le held = record { ends = ends_between chunks a b le held.ends; small = omega (arith, held.small, part_len chunks a b le) }

-- the counts of the chunks from one to another
pub span_counts : (chunks : List (List ℕ)) (i j : ℕ) → EndOutside chunks → i ≤ j → j ≤ length chunks
    → counts_of (concat (take j chunks)) ≡ sum_of (counts_of (concat (take i chunks))) (counts_of (concat (slice_range chunks i j)))
span_counts chunks i j ends lo hi =
    let up_to = take_up_to chunks i j lo hi in
    let both : EndOutside (take i chunks ++ slice_range chunks i j) = rw up_to at (EndOutside-take chunks j ends) in
    ap (λ cs. counts_of (concat cs)) up_to
    ∙ (ap counts_of (concat-append (take i chunks) (slice_range chunks i j))
    ∙ counts_joined (concat (take i chunks)) (concat (slice_range chunks i j)) (EndOutside-seam (take i chunks) (slice_range chunks i j) both))

pub span_small : (chunks : List (List ℕ)) (i j : ℕ) → EndOutside chunks → i ≤ j → j ≤ length chunks → length (concat chunks) < 2 ^ 64
    → IsSmall (sum_of (counts_of (concat (take i chunks))) (counts_of (concat (slice_range chunks i j))))
span_small chunks i j ends lo hi small =
    rw (span_counts chunks i j ends lo hi) at (counts_small (concat (take j chunks)) (omega (arith, concat-take-le chunks j)))

-- some counts, as the default for an index that a list does not have
abbrev pub no_counts : Counts
no_counts = record { bytes = 0; pieces = 0; faults = 0; line_feeds = 0 }

-- an element at an existing index is the same for any default
pub any_default : {X : Type 0} (xs : List X) (n : ℕ) (d e : X) → n < length xs → get_or xs n d ≡ get_or xs n e
any_default xs n d e lt = get_or_from_slice_get xs n (get_or xs n e) d (slice_get-get_or xs n e lt)

-- Marks.

pub spot_of_mark : (chunks : List (List ℕ)) (m : Mark) → IsMark chunks m → IsSpot chunks m.number m.before.bytes
spot_of_mark chunks m mark = record { within = mark.within; begins = ap (λ (k : Counts). k.bytes) mark.before }

-- one more row, the r-th
pub record NextRow (chunks : List (List ℕ)) (m : Mark) (sum : Counts) : Type 0 where
  pub within : m.number + 256 ≤ length chunks
  pub small : IsSmall (sum_of m.before sum)
  pub before : sum_of m.before sum ≡ counts_of (concat (take (m.number + 256) chunks))

pub next_row : (chunks : List (List ℕ)) (sums : List Counts) (m : Mark) (r : ℕ) (d : Counts) → EndOutside chunks → length (concat chunks) < 2 ^ 64 → AreSums chunks sums → IsMark chunks m
    → m.number ≡ 256 * r → r < length sums → NextRow chunks m (get_or sums r d)
next_row chunks sums m r d ends small are mark at lt =
    let within = are.within in
    let row : get_or sums r d ≡ counts_of (concat (slice_range chunks m.number (m.number + 256))) = rw at (are.counted r d lt) in
    let fits : m.number + 256 ≤ length chunks = omega arith in
    record {
      within = fits;
      small = rw (mark.before, row) (span_small chunks m.number (m.number + 256) ends (omega arith) fits small);
      before = ap₂ sum_of mark.before row ∙ sym (span_counts chunks m.number (m.number + 256) ends (omega arith) fits);
    }

-- one more chunk
pub record NextMark (chunks : List (List ℕ)) (m : Mark) (c : Counts) : Type 0 where
  pub small : IsSmall (sum_of m.before c)
  pub before : sum_of m.before c ≡ counts_of (concat (take (m.number + 1) chunks))

pub next_mark : (chunks : List (List ℕ)) (m : Mark) (x : List ℕ) (c : Counts) → EndOutside chunks → length (concat chunks) < 2 ^ 64 → IsMark chunks m → m.number < length chunks → x ≡ get_or chunks m.number x
    → c ≡ counts_of x → NextMark chunks m c
next_mark chunks m x c ends small mark lt is counts = record {
  small = rw (mark.before, counts) (chunk_counts_small chunks m.number x ends lt is small);
  before = ap₂ sum_of mark.before counts ∙ sym (chunk_counts chunks m.number x ends lt is);
}

-- the chunk has the offset that is not after its end
pub mark_has : (chunks : List (List ℕ)) (m : Mark) (x : List ℕ) (at : ℕ) → IsMark chunks m → m.number < length chunks → x ≡ get_or chunks m.number x → m.before.bytes ≤ at → at - m.before.bytes < length x
    → at < length (concat (take (m.number + 1) chunks))
mark_has chunks m x at mark lt is lo hi =
    let more = concat-take-more chunks m.number x lt is in
    omega (arith, ap (λ (k : Counts). k.bytes) mark.before, ap length more, length-append (concat (take m.number chunks)) x)

-- Sums.

span_of_front : {X : Type 0} (xs : List X) (i a b : ℕ) → a ≤ b → b ≤ i → slice_range (take i xs) a b ≡ slice_range xs a b
span_of_front xs i a b lo hi =
    let at : a + (i - a) ≡ i = omega arith in
    let rest : drop a (take i xs) ≡ take (i - a) (drop a xs) = ap (λ n. drop a (take n xs)) (sym at) ∙ drop-take a (i - a) xs in
    ap (take (b - a)) rest ∙ take-take (b - a) (i - a) (drop a xs) (omega arith)

pub same_span : {X : Type 0} (xs ys : List X) (i a b : ℕ) → a ≤ b → b ≤ i → take i xs ≡ take i ys → slice_range xs a b ≡ slice_range ys a b
same_span xs ys i a b lo hi e = sym (span_of_front xs i a b lo hi) ∙ (ap (λ zs. slice_range zs a b) e ∙ span_of_front ys i a b lo hi)

-- the sums of some rows
pub sums_taken : (chunks others : List (List ℕ)) (sums : List Counts) (i n : ℕ) → AreSums chunks sums → 256 * n ≤ i → i ≤ length others → take i others ≡ take i chunks → AreSums others (take n sums)
sums_taken chunks others sums i n are le within same =
    let few = length-take n sums in
    let all = are.within in
    record {
      within = omega arith;
      counted = λ r d lt.
          let first : r < n = omega arith in
          get_or-take n sums r d first
          ∙ (are.counted r d (omega arith)
          ∙ ap (λ cs. counts_of (concat cs)) (sym (same_span others chunks i (256 * r) (256 * r + 256) (omega arith) (omega arith) same)));
    }

-- one more row
pub sums_more : (chunks : List (List ℕ)) (sums : List Counts) (sum : Counts) → AreSums chunks sums → 256 * (length sums + 1) ≤ length chunks
    → sum ≡ counts_of (concat (slice_range chunks (256 * length sums) (256 * length sums + 256))) → AreSums chunks (sums ++ sum ∷ [])
sums_more chunks sums sum are within is = record {
  within = omega (arith, length-append sums (sum ∷ []));
  counted = λ r d lt.
      ⊎_elim
      (λ (before : r < length sums). get_or_append_left sums (sum ∷ []) d r before ∙ are.counted r d before)
      (λ (ge : length sums ≤ r).
      let last : r ≡ length sums = omega (arith, length-append sums (sum ∷ [])) in
      rw last (get_or-append_seam sums sum [] d ∙ is))
      (cases_lt r (length sums));
}

-- one of the rows whose sums are not known
pub sums_renewed : (chunks : List (List ℕ)) (sums others : List Counts) (r j : ℕ) (sum : Counts) → AreSumsBut chunks sums r j → r < length sums
    → sum ≡ counts_of (concat (slice_range chunks (256 * r) (256 * r + 256))) → others ≡ set sums r sum → AreSumsBut chunks others (r + 1) j
sums_renewed chunks sums others r j sum are lt is set_is =
    let len : length others ≡ length sums = ap length set_is ∙ length-set sums r sum in
    let within = are.within in
    let same : (k : ℕ) (d : Counts) → k < length sums → (k ≡ r → ⊥) → (k < r) ⊎ (j ≤ k) → get_or others k d ≡ counts_of (concat (slice_range chunks (256 * k) (256 * k + 256)))
    = λ k d lt other side. ap (λ ys. get_or ys k d) set_is ∙ (get_or-set_other sums r k sum d (λ e. other (omega arith)) ∙ are.counted k d lt side) in
    record {
      within = omega arith;
      counted = λ k d lt' side.
          ⊎_elim
          (λ (before : k < r). same k d (omega arith) (λ e. absurd (omega arith)) (inl before))
          (λ (ge : r ≤ k).
          ⊎_elim
          (λ (past : r < k). same k d (omega arith) (λ e. absurd (omega arith)) (⊎_elim (λ (low : k < r + 1). absurd (omega arith)) (λ (high : j ≤ k). inr high) side))
          (λ (le : k ≤ r).
          let at : k ≡ r = omega arith in
          rw at (ap (λ ys. get_or ys r d) set_is ∙ get_or-set_same sums r sum d lt ∙ is))
          (cases_lt r k))
          (cases_lt k r);
    }
