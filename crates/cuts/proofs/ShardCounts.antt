-- What is counted in each shard adds up to what is counted in the whole.
use Rattle.std.proofs.Common.{◌≡◌, ℕ, suc, ◌+◌, ◌-◌, ◌<◌, ◌≤◌, Bool, true, cond, ltb, List, [], ◌∷◌, ◌++◌, length, get_or, map, drop, arith, refl, ap, ap₂, sym, ◌∙◌, Option, Result, Ok, Err, lt-ltb, length-append, take-append-drop}
use Rattle.std.proofs.lemmas.Grind.{common_steps}
use Rattle.std.proofs.lemmas.List.{drop-drop, get_or-map, length-map, take_rest}
use Rattle.std.proofs.lemmas.List.Sums.{sum_by-append, sum_by-cons}
use Rattle.std.specs.List.{count_by}
use Rattle.std.specs.Result.{result_ok}
use Rattle.std.specs.Prelude.{All, filter, is_err, is_none, nat_eq, slice_range}
use Rattle.utf_base.specs.Code.{IsCode, utf8}
use Rattle.utf_base.specs.Kinds.{fault_kind}
use Rattle.utf_base.proofs.Utf8Code.{utf8_is_code}
use Rattle.encode_unicode.specs.Pieces.{pieces}
use Rattle.encode_unicode.specs.Window.{Item}
use Rattle.text_runs.specs.ForwardRuns.{faulty_item_count, is_fault}
use Rattle.text_runs.specs.Items.{Placed, piece_of, IsRun}
use Rattle.text_runs.specs.ShardRuns.{AreOutside, ShardCountsAdd, joined_items, line_feed_count, moved, shard_items, sum_of_shards}
use Rattle.text_runs.proofs.ForwardRuns.{pieces_are_the_run}
use Rattle.cuts.proofs.ShardPieces.{joined_pieces}

-- a test that all pass keeps all
filter_all : {X : Type 0} (p : X → Bool) (xs : List X) → All (λ x. p x ≡ true) xs → filter p xs ≡ xs
filter_all p [] all = refl
filter_all p (x ∷ xs) all = rw (all 0 x (omega arith)) (ap (λ ys. x ∷ ys) (filter_all p xs (λ k d lt. all (suc k) d (omega arith))))

-- A count of items that uses their pieces.
module _ {E : Type 0} (f : List (Placed E) → ℕ) (adds : (items others : List (Placed E)) → f (items ++ others) ≡ f items + f others) (moves : (i : ℕ) (items : List (Placed E)) → f (map (moved i) items) ≡ f items)
    (code : ℕ → List ℕ) (kind : List ℕ → Option E) (run : List ℕ → List (Placed E)) (is : (w : List ℕ) → IsRun code kind w (run w)) where
  count_of_shard : (xs : List ℕ) (i n : ℕ) → i ≤ n → n ≤ length xs → f (shard_items run 0 xs i n) ≡ f (run (slice_range xs i n))
  count_of_shard xs i n lo le =
      let w = slice_range xs i n in
      let at : n + 0 ≡ n = omega arith in
      let long : length w ≡ n - i = grind (arith, common_steps) in
      let own : All (λ x. ltb x.0 (n - i) ≡ true) (run w) = λ k d lt. lt-ltb _ (n - i) (starts w (n - i) long k d lt) in
      rw at (moves i (filter (λ x. ltb x.0 (n - i)) (run w)) ∙ ap f (filter_all (λ x. ltb x.0 (n - i)) (run w) own))
    where
      starts : (w : List ℕ) (m : ℕ) → length w ≡ m → All (λ x. x.0 < m) (run w)
      starts w m e k d lt = omega (arith, (begins w k d lt), e)
        where
          begins : (w : List ℕ) (k : ℕ) (d : Placed E) → k < length (run w) → (get_or (run w) k d).0 < length w
          begins w k d lt = rw (get_or-map piece_of (run w) k d (piece_of d) lt) at ((is w).cut.pieces k (piece_of d) (omega (arith, length-map (run w) piece_of))).2

  counts_of_shards : (xs : List ℕ) (i : ℕ) (places : List ℕ) → AreOutside code xs i places → sum_of_shards (λ w. f (run w)) xs i places ≡ f (joined_items run 0 xs i places)
  counts_of_shards xs i [] h = sym (count_of_shard xs i (length xs) h (omega arith) ∙ ap (λ w. f (run w)) (take_rest xs i))
  counts_of_shards xs i (n ∷ places) h =
      ap₂ (λ a b. a + b) (sym (count_of_shard xs i n h.0 (within_of xs n places h.2))) (counts_of_shards xs n places h.2) ∙ sym (adds (shard_items run 0 xs i n) (joined_items run 0 xs n places))
    where
      within_of : (xs : List ℕ) (i : ℕ) (places : List ℕ) → AreOutside code xs i places → i ≤ length xs
      within_of xs i [] h = h
      within_of xs i (n ∷ places) h = let rest = within_of xs n places h.2 in omega (arith, h.0)

  pub counts_add : IsCode code → ((items others : List (Placed E)) → map piece_of items ≡ map piece_of others → f items ≡ f others) → ShardCountsAdd code (λ w. f (run w))
  counts_add c by_pieces xs places h = counts_of_shards xs 0 places h ∙ by_pieces _ _ (joined_pieces code c kind run is 0 xs places h)

-- Pieces.

pub pieces_add : ShardCountsAdd utf8 (λ w. length (pieces w))
pieces_add =
    counts_add length (λ items others. length-append items others) (λ i items. length-map items (moved i)) utf8 fault_kind pieces pieces_are_the_run utf8_is_code
    (λ items others e. sym (length-map items piece_of) ∙ ap length e ∙ length-map others piece_of)

-- Faults.

fault_of : {E : Type 0} (r : Result ℕ E) → is_none (result_ok r) ≡ is_err r
fault_of (Ok s) = refl
fault_of (Err k) = refl

faults_by_pieces : (items : List Item) → count_by (λ p. is_none p.char) (map piece_of items) ≡ faulty_item_count items
faults_by_pieces [] = refl
faults_by_pieces (x ∷ items) =
    sum_by-cons (λ p. cond (is_none p.char) 1 0) (piece_of x) (map piece_of items) ∙ ap₂ (λ b n. cond b 1 0 + n) (fault_of x.1) (faults_by_pieces items) ∙ sym (sum_by-cons (λ y. cond (is_fault y) 1 0) x items)

moved_faults : (i : ℕ) (items : List Item) → faulty_item_count (map (moved i) items) ≡ faulty_item_count items
moved_faults i [] = refl
moved_faults i (x ∷ items) =
    sum_by-cons (λ y. cond (is_fault y) 1 0) (moved i x) (map (moved i) items) ∙ ap (λ n. cond (is_err x.1) 1 0 + n) (moved_faults i items) ∙ sym (sum_by-cons (λ y. cond (is_fault y) 1 0) x items)

pub faults_add : ShardCountsAdd utf8 (λ w. faulty_item_count (pieces w))
faults_add =
    counts_add faulty_item_count (λ items others. sum_by-append (λ y. cond (is_fault y) 1 0) items others) moved_faults utf8 fault_kind pieces pieces_are_the_run utf8_is_code
    (λ items others e. sym (faults_by_pieces items) ∙ ap (count_by (λ p. is_none p.char)) e ∙ faults_by_pieces others)

-- Line feeds, which any offsets part.

line_feeds_from : (xs : List ℕ) (i : ℕ) (places : List ℕ) → AreOutside utf8 xs i places → sum_of_shards line_feed_count xs i places ≡ line_feed_count (drop i xs)
line_feeds_from xs i [] h = refl
line_feeds_from xs i (n ∷ places) h =
    let at : i + (n - i) ≡ n = omega (arith, h.0) in
    let rest : drop (n - i) (drop i xs) ≡ drop n xs = drop-drop (n - i) i xs ∙ ap (λ k. drop k xs) at in
    ap (λ k. line_feed_count (slice_range xs i n) + k) (line_feeds_from xs n places h.2)
    ∙ sym (sum_by-append (λ b. cond (nat_eq b 10) 1 0) (slice_range xs i n) (drop n xs))
    ∙ ap line_feed_count (ap (λ ys. slice_range xs i n ++ ys) (sym rest) ∙ take-append-drop (n - i) (drop i xs))

pub line_feeds_add : ShardCountsAdd utf8 line_feed_count
line_feeds_add xs places h = line_feeds_from xs 0 places h
