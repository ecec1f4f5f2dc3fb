-- The pieces of a text after an edit: the counts of a part of it that is counted anew, and the pieces that
-- stay.
use Rattle.std.proofs.Common.{◌≡◌, ℕ, ◌+◌, ◌-◌, ◌<◌, ◌≤◌, ◌⊎◌, List, [], ◌++◌, length, take, drop, map, min, arith, refl, ap, ap₂, sym, ◌∙◌, subst, ⊎_elim, inl, inr, length-append, length-drop}
use Rattle.std.proofs.lemmas.Bool.{cases_lt}
use Rattle.std.proofs.lemmas.List.{drop-append-le, length-take-le, take-append-drop, take-append-le, take_at}
use Rattle.std.proofs.lemmas.List.Edits.{split_between, length-between}
use Rattle.std.proofs.lemmas.List.Elements.{All-nil}
use Rattle.std.proofs.Math.Seq.{drop-append-add}
use Rattle.std.specs.List.{concat, splice}
use Rattle.std.specs.Prelude.{slice_range}
use Rattle.utf_base.specs.Code.{utf8}
use Rattle.utf_base.specs.Kinds.{fault_kind}
use Rattle.utf_base.specs.LocalLaws.{SameAt}
use Rattle.utf_base.specs.Piece.{Inside}
use Rattle.utf_base.proofs.Cuts.{cut_none}
use Rattle.utf_base.proofs.Utf8Code.{utf8_is_code}
use Rattle.encode_unicode.specs.Pieces.{pieces}
use Rattle.encode_unicode.specs.Window.{Item}
use Rattle.text_buffers.specs.declared.buffers.counts.Counts.{Counts}
use Rattle.text_buffers.specs.declared.buffers.edits.Edit.{Edit}
use Rattle.text_buffers.specs.Changes.{IsRecount, IsChange}
use Rattle.text_buffers.specs.ChunkEdits.{IsWindow, Surrounds}
use Rattle.text_buffers.specs.Chunks.{EndOutside}
use Rattle.text_buffers.specs.Counts.{counts_of}
use Rattle.text_runs.specs.ForwardRuns.{IsForwardRunBetween}
use Rattle.text_runs.specs.Items.{HasKind}
use Rattle.text_runs.specs.PieceBoundaries.{IsFirstBetween, IsLastBetween}
use Rattle.text_runs.specs.Tables.{IsSplitAt, moved_item}
use Rattle.text_buffers.proofs.ChunkEditLemmas.{parts_around, window_around}
use Rattle.text_buffers.proofs.ChunkLists.{take_up_to}
use Rattle.text_buffers.proofs.CountLemmas.{Seams}
use Rattle.text_runs.proofs.JoinedCounts.{count_joined}
use Rattle.text_runs.proofs.ForwardRuns.{pieces_are_the_run}
use Rattle.text_runs.proofs.JoinedPieces.{inside_front, inside_rest, inside_before, inside_following}
use Rattle.text_runs.proofs.SplitNumbers.{bytes_split}
use Rattle.text_runs.proofs.RunLaws.{run_between_unique}
use Rattle.text_buffers.proofs.TableRuns.{run_before, run_from_place, run_stays, run_moves, stays_around, splits_in_order}
use Rattle.text_buffers.proofs.WindowEdits.{length-splice, window_begins, window_edit, window_ends, window_fits, window_in_order, window_rest}

-- The window of a recount.
pub window_of_recount : (xs : List ℕ) (s e a b : ℕ) → IsLastBetween xs (s - 3) a → IsFirstBetween xs (min (length xs) (e + 3)) b → IsWindow xs s e a b
window_of_recount xs s e a b first last =
    let before = first.before in
    let after = last.after in
    record {
      begins = first.between.outside;
      ends = last.between.outside;
      before = ⊎_elim (λ (near : s < 3). inl (omega arith)) (λ (far : 3 ≤ s). inr (omega arith)) (cases_lt s 3);
      following = ⊎_elim (λ (near : length xs < e + 3). inl (omega (arith, last.between.within))) (λ (far : e + 3 ≤ length xs). inr (omega arith)) (cases_lt (length xs) (e + 3));
      within = last.between.within;
    }

-- The counts of a window before an edit and after it are a recount.
pub recount_is : (xs ys new : List ℕ) (s e a b u : ℕ) (gone come : Counts) → s ≤ e → e ≤ length xs → IsWindow xs s e a b → ys ≡ splice xs s e new → u ≡ length ys - (length xs - b)
    → IsLastBetween xs (s - 3) a → IsFirstBetween xs (min (length xs) (e + 3)) b → gone ≡ counts_of (slice_range xs a b) → come ≡ counts_of (slice_range ys a u) → IsRecount xs ys s e a gone come
recount_is xs ys new s e a b u gone come lo hi w replaced until first last was is =
    let begins = window_begins xs new s e a b lo hi w in
    let ends = window_ends xs new s e a b lo hi w in
    let within = w.within in
    let order = window_in_order xs ys new s e a b u gone gone come lo hi w replaced until in
    let fits = window_fits xs ys new s e a b u gone gone come lo hi w replaced until in
    let left = window_rest xs ys new s e a b lo hi w replaced in
    let of_gone : gone.bytes ≡ b - a = ap (λ (k : Counts). k.bytes) was ∙ length-between xs a b within in
    let of_come : come.bytes ≡ u - a = ap (λ (k : Counts). k.bytes) is ∙ length-between ys a u fits in
    let end : b ≡ a + gone.bytes = omega arith in
    let end_now : u ≡ a + come.bytes = omega arith in
    record {
      begins = first;
      ends = rw end at last;
      went = rw end at was;
      came = rw end_now at is;
      long = omega arith;
    }

-- A part of some bytes, between two offsets that no code covers.
module _ (p m q : List ℕ) (seams : Seams p m q) where
  inside_of_part : (k : ℕ) → Inside utf8 m k → Inside utf8 (p ++ (m ++ q)) (length p + k)
  inside_of_part k i = inside_rest utf8 p (m ++ q) k (inside_front utf8 m q k i)

  inside_part : (k : ℕ) → k ≤ length m → Inside utf8 (p ++ (m ++ q)) (length p + k) → Inside utf8 m k
  inside_part k le i = inside_before utf8 m q (λ j. seams.ends (inside_rest utf8 p (m ++ q) (length m) j)) k le (inside_following utf8 p (m ++ q) seams.begins k i)

  len_of_parts : length (p ++ (m ++ q)) ≡ length p + (length m + length q)
  len_of_parts = omega (arith, length-append p (m ++ q), length-append m q)

  last_in_whole : (n a : ℕ) → IsLastBetween m n a → n ≤ length m → IsLastBetween (p ++ (m ++ q)) (length p + n) (length p + a)
  last_in_whole n a last le =
      let before = last.before in
      let within = last.between.within in
      record {
        between = record { within = omega (arith, len_of_parts); outside = λ i. last.between.outside (inside_part a within i) };
        before = omega arith;
        last = λ k lo hi.
            let place : length p + (k - length p) ≡ k = omega arith in
            rw place at (inside_of_part (k - length p) (last.last (k - length p) (omega arith) (omega arith)));
      }

  first_in_whole : (n b : ℕ) → IsFirstBetween m n b → IsFirstBetween (p ++ (m ++ q)) (length p + n) (length p + b)
  first_in_whole n b first =
      let after = first.after in
      let within = first.between.within in
      record {
        between = record { within = omega (arith, len_of_parts); outside = λ i. first.between.outside (inside_part b within i) };
        after = omega arith;
        first = λ k lo hi.
            let place : length p + (k - length p) ≡ k = omega arith in
            rw place at (inside_of_part (k - length p) (first.first (k - length p) (omega arith) (omega arith)));
      }

slice_in_whole : (p m q : List ℕ) (a b : ℕ) → a ≤ b → b ≤ length m → slice_range (p ++ (m ++ q)) (length p + a) (length p + b) ≡ slice_range m a b
slice_in_whole p m q a b lo hi =
    let span : length p + b - (length p + a) ≡ b - a = omega arith in
    let left : drop (length p + a) (p ++ (m ++ q)) ≡ drop a m ++ q = drop-append-add p (m ++ q) a ∙ drop-append-le a m q (omega arith) in
    ap (λ n. take n (drop (length p + a) (p ++ (m ++ q)))) span ∙ (ap (take (b - a)) left ∙ take-append-le (b - a) (drop a m) q (omega (arith, length-drop a m)))

-- A recount of the part is a recount of the whole.
recount_of_part : (p m n q : List ℕ) (s e a : ℕ) (gone come : Counts) → Seams p m q → (length p ≡ 0) ⊎ (3 ≤ s) → (length q ≡ 0) ⊎ (e + 3 ≤ length m) → s ≤ e → e ≤ length m
    → IsRecount m n s e a gone come → IsRecount (p ++ (m ++ q)) (p ++ (n ++ q)) (length p + s) (length p + e) (length p + a) gone come
recount_of_part p m n q s e a gone come seams before following lo hi r =
    let of_xs : length (p ++ (m ++ q)) ≡ length p + (length m + length q) = omega (arith, length-append p (m ++ q), length-append m q) in
    let of_ys : length (p ++ (n ++ q)) ≡ length p + (length n + length q) = omega (arith, length-append p (n ++ q), length-append n q) in
    let near : length p + (s - 3) ≡ length p + s - 3 = ⊎_elim (λ (none : length p ≡ 0). omega arith) (λ (far : 3 ≤ s). omega arith) before in
    let far : length p + min (length m) (e + 3) ≡ min (length (p ++ (m ++ q))) (length p + e + 3)
    = ⊎_elim (λ (none : length q ≡ 0). omega arith) (λ (some : e + 3 ≤ length m). omega arith) following in
    let end : length p + (a + gone.bytes) ≡ length p + a + gone.bytes = omega arith in
    let end_now : length p + (a + come.bytes) ≡ length p + a + come.bytes = omega arith in
    let within = r.ends.between.within in
    let long = r.long in
    record {
      begins = rw near at (last_in_whole p m q seams (s - 3) a r.begins (omega arith));
      ends = rw (far, end) at (first_in_whole p m q seams (min (length m) (e + 3)) (a + gone.bytes) r.ends);
      went = r.went ∙ ap counts_of (sym (rw end at (slice_in_whole p m q a (a + gone.bytes) (omega arith) within)));
      came = r.came ∙ ap counts_of (sym (rw end_now at (slice_in_whole p n q a (a + come.bytes) (omega arith) (omega arith))));
      long = omega arith;
    }

-- A recount of the part between two offsets is a recount of the whole.
module _ (xs new : List ℕ) (s e a b : ℕ) (lo : s ≤ e) (hi : e ≤ length xs) (w : IsWindow xs s e a b) where
  pub recount_of_window : (place : ℕ) (gone come : Counts) → a ≤ place
      → IsRecount (slice_range xs a b) (splice (slice_range xs a b) (s - a) (e - a) new) (s - a) (e - a) (place - a) gone come
      → IsRecount xs (splice xs s e new) s e place gone come
  recount_of_window place gone come from r =
      let within = w.within in
      let first = window_begins xs new s e a b lo hi w in
      let last = window_ends xs new s e a b lo hi w in
      let edit = window_edit xs new s e a b lo hi w in
      let of_p : length (take a xs) ≡ a = length-take-le a xs (omega arith) in
      let of_m : length (slice_range xs a b) ≡ b - a = length-between xs a b within in
      let of_q : length (drop b xs) ≡ length xs - b = length-drop b xs in
      let whole : xs ≡ take a xs ++ (slice_range xs a b ++ drop b xs) = split_between xs a b (omega arith) in
      let start : length (take a xs) + (s - a) ≡ s = omega arith in
      let end : length (take a xs) + (e - a) ≡ e = omega arith in
      let at : length (take a xs) + (place - a) ≡ place = omega arith in
      let middle : length (take a xs) + length (slice_range xs a b) ≡ b = omega arith in
      let before : (length (take a xs) ≡ 0) ⊎ (3 ≤ s - a) = ⊎_elim (λ (none : a ≡ 0). inl (omega arith)) (λ (near : a + 3 ≤ s). inr (omega arith)) w.before in
      let following : (length (drop b xs) ≡ 0) ⊎ (e - a + 3 ≤ length (slice_range xs a b))
      = ⊎_elim (λ (none : b ≡ length xs). inl (omega arith)) (λ (near : e + 3 ≤ b). inr (omega arith)) w.following in
      let seams : Seams (take a xs) (slice_range xs a b) (drop b xs) = record {
        begins = λ i. w.begins (rw (← whole, of_p) at i);
        ends = λ i. w.ends (rw (← whole, middle) at i);
      } in
      let part = recount_of_part (take a xs) (slice_range xs a b) (splice (slice_range xs a b) (s - a) (e - a) new) (drop b xs) (s - a) (e - a) (place - a) gone come seams before following
      (omega arith) (omega arith) r in
      rw (← whole, ← edit.bytes, start, end, at) at part

-- a recount of the chunks that an edit reaches is a recount of the whole
pub recount_of_chunks : (chunks : List (List ℕ)) (x : Edit) (new now : List ℕ) (place : ℕ) (gone come : Counts) → EndOutside chunks → Surrounds chunks x → x.first.place ≤ place
    → now ≡ splice (concat (slice_range chunks x.first.number x.last.number)) (x.start - x.first.place) (x.end - x.first.place) new
    → IsRecount (concat (slice_range chunks x.first.number x.last.number)) now (x.start - x.first.place) (x.end - x.first.place) (place - x.first.place) gone come
    → IsRecount (concat chunks) (splice (concat chunks) x.start x.end new) x.start x.end place gone come
recount_of_chunks chunks x new now place gone come outside around from is r =
    let parts = parts_around chunks [] x [] outside around in
    recount_of_window (concat chunks) new x.start x.end x.first.place x.last.place around.ordered around.within (window_around chunks [] x [] outside around) place gone come from
    (rw parts.part (rw is at r))

-- An offset has one number.
split_unique : (items : List Item) (m k r : ℕ) → IsSplitAt items m k → IsSplitAt items m r → k ≡ r
split_unique items m k r a b =
    let le : k ≤ r = splits_in_order items m m k r (omega arith) a b in
    let ge : r ≤ k = splits_in_order items m m r k (omega arith) b a in
    omega arith

split_at : (xs : List ℕ) (b : ℕ) → b ≤ length xs → (Inside utf8 xs b → ⊥) → IsSplitAt (pieces xs) b (length (pieces (take b xs)))
split_at xs b le out = bytes_split xs b le out b (inl (omega arith)) (λ n lo hi. absurd (omega arith))

-- the number of pieces before the end of a part
count_up_to : (xs : List ℕ) (a b : ℕ) → a ≤ b → b ≤ length xs → (Inside utf8 xs a → ⊥) → length (pieces (take b xs)) ≡ length (pieces (take a xs)) + length (pieces (slice_range xs a b))
count_up_to xs a b lo hi out =
    let up_to = take_up_to xs a b lo hi in
    let of_a : length (take a xs) ≡ a = length-take-le a xs (omega arith) in
    ap (λ ys. length (pieces ys)) up_to
    ∙ count_joined (take a xs) (slice_range xs a b) (λ i.
    out (subst (λ ys. Inside utf8 ys a) (take-append-drop b xs) (inside_front utf8 (take b xs) (drop b xs) a (rw (← up_to, of_a) at i))))

-- no piece begins at the end of all
none_at_end : (xs : List ℕ) (items : List Item) → IsForwardRunBetween xs (length xs) (length xs) items → items ≡ []
none_at_end xs items run =
    run_between_unique utf8 fault_kind utf8_is_code xs (length xs) (length xs) items [] run (record { cut = cut_none utf8 xs (length xs); kinds = All-nil (HasKind fault_kind xs) })

-- The pieces of bytes of which a part was replaced, around the window that was counted anew.
module _ (xs new ys : List ℕ) (s e a number : ℕ) (gone come : Counts) (lo : s ≤ e) (hi : e ≤ length xs) (replaced : ys ≡ splice xs s e new) (r : IsRecount xs ys s e a gone come)
    (split : IsSplitAt (pieces ys) a number) where
  w : IsWindow xs s e a (a + gone.bytes)
  w = window_of_recount xs s e a (a + gone.bytes) r.begins r.ends

  first : a ≤ s
  first = window_begins xs new s e a (a + gone.bytes) lo hi w

  last : e ≤ a + gone.bytes
  last = window_ends xs new s e a (a + gone.bytes) lo hi w

  same_front : take a ys ≡ take a xs
  same_front =
      let edit = window_edit xs new s e a (a + gone.bytes) lo hi w in
      let of_p : length (take a xs) ≡ a = length-take-le a xs (omega (arith, first)) in
      ap (take a) (replaced ∙ edit.bytes) ∙ take_at (take a xs) (splice (slice_range xs a (a + gone.bytes)) (s - a) (e - a) new ++ drop (a + gone.bytes) xs) a of_p

  len_of_new : length ys ≡ s + length new + (length xs - e)
  len_of_new = ap length replaced ∙ length-splice xs new s e lo hi

  within : a + gone.bytes ≤ length xs
  within = w.within

  within_new : a + come.bytes ≤ length ys
  within_new = omega (arith, r.long, within)

  -- the new bytes begin and end between two pieces
  outside_before : Inside utf8 ys a → ⊥
  outside_before i =
      let edit = window_edit xs new s e a (a + gone.bytes) lo hi w in
      let of_p : length (take a xs) ≡ a = length-take-le a xs (omega (arith, first)) in
      edit.seams.begins (rw (← edit.bytes, ← replaced, of_p) i)

  outside_after : Inside utf8 ys (a + come.bytes) → ⊥
  outside_after i =
      let edit = window_edit xs new s e a (a + gone.bytes) lo hi w in
      let of_p : length (take a xs) ≡ a = length-take-le a xs (omega (arith, first)) in
      let of_m : length (slice_range xs a (a + gone.bytes)) ≡ gone.bytes = omega (arith, length-between xs a (a + gone.bytes) within) in
      let of_n : length (splice (slice_range xs a (a + gone.bytes)) (s - a) (e - a) new) ≡ come.bytes
      = omega (arith, length-splice (slice_range xs a (a + gone.bytes)) new (s - a) (e - a) (omega (arith, lo, first)) (omega (arith, last)), r.long, len_of_new, first, last, lo, hi) in
      edit.seams.ends (rw (← edit.bytes, ← replaced, of_p, of_n) i)

  number_is : number ≡ length (pieces (take a xs))
  number_is = split_unique (pieces ys) a number (length (pieces (take a ys))) split (split_at ys a (omega (arith, within_new)) outside_before) ∙ ap (λ zs. length (pieces zs)) same_front

  split_before : IsSplitAt (pieces xs) a number
  split_before = rw number_is (split_at xs a (omega (arith, within)) w.begins)

  split_after : IsSplitAt (pieces xs) (a + gone.bytes) (number + gone.pieces)
  split_after =
      let count : length (pieces (take (a + gone.bytes) xs)) ≡ number + gone.pieces
      = count_up_to xs a (a + gone.bytes) (omega arith) within w.begins ∙ ap₂ (λ i j. i + j) (sym number_is) (sym (ap (λ (k : Counts). k.pieces) r.went)) in
      rw count at (split_at xs (a + gone.bytes) within w.ends)

  split_after_new : IsSplitAt (pieces ys) (a + come.bytes) (number + come.pieces)
  split_after_new =
      let front : length (pieces (take a ys)) ≡ number = ap (λ zs. length (pieces zs)) same_front ∙ sym number_is in
      let count : length (pieces (take (a + come.bytes) ys)) ≡ number + come.pieces
      = count_up_to ys a (a + come.bytes) (omega arith) within_new outside_before ∙ ap₂ (λ i j. i + j) front (sym (ap (λ (k : Counts). k.pieces) r.came)) in
      rw count at (split_at ys (a + come.bytes) within_new outside_after)

  stays : (p : ℕ) → p < a → SameAt utf8 fault_kind xs p ys p
  stays p lt =
      let around = stays_around xs new s e lo hi in
      let before = r.begins.before in
      rw replaced (around.before p (omega arith))

  front_stays : take number (pieces ys) ≡ take number (pieces xs)
  front_stays =
      run_between_unique utf8 fault_kind utf8_is_code ys 0 a (take number (pieces ys)) (take number (pieces xs))
      (run_before ys a number (pieces ys) (omega (arith, within_new)) (pieces_are_the_run ys) split)
      (run_stays xs ys a (take number (pieces xs)) stays (run_before xs a number (pieces xs) (omega (arith, within)) (pieces_are_the_run xs) split_before))

  run_of_old : IsForwardRunBetween xs (a + gone.bytes) (length xs) (drop (number + gone.pieces) (pieces xs))
  run_of_old = run_from_place xs (a + gone.bytes) (number + gone.pieces) (pieces xs) (pieces_are_the_run xs) split_after

  run_of_new : IsForwardRunBetween ys (a + come.bytes) (length ys) (drop (number + come.pieces) (pieces ys))
  run_of_new = run_from_place ys (a + come.bytes) (number + come.pieces) (pieces ys) (pieces_are_the_run ys) split_after_new

  moves : e + 3 ≤ a + gone.bytes → (p : ℕ) → 0 ≤ p → SameAt utf8 fault_kind xs (a + gone.bytes + p) ys (a + come.bytes + p)
  moves far p ge =
      let around = stays_around xs new s e lo hi in
      let old : e + (a + gone.bytes - e + p) ≡ a + gone.bytes + p = omega arith in
      let now : s + length new + (a + gone.bytes - e + p) ≡ a + come.bytes + p = omega (arith, r.long, len_of_new, first, hi) in
      rw (replaced, ← old, ← now) (around.following (a + gone.bytes - e + p) (omega arith))

  rest_moves : drop (number + come.pieces) (pieces ys) ≡ map (moved_item (a + gone.bytes) (a + come.bytes)) (drop (number + gone.pieces) (pieces xs))
  rest_moves =
      ⊎_elim
      (λ (end : a + gone.bytes ≡ length xs).
      let end_now : a + come.bytes ≡ length ys = omega (arith, r.long) in
      let none : drop (number + gone.pieces) (pieces xs) ≡ [] = none_at_end xs _ (rw end at run_of_old) in
      let none_now : drop (number + come.pieces) (pieces ys) ≡ [] = none_at_end ys _ (rw end_now at run_of_new) in
      rw (none, none_now) refl)
      (λ (far : e + 3 ≤ a + gone.bytes).
      let from : a + gone.bytes + 0 ≡ a + gone.bytes = omega arith in
      let to : a + come.bytes + 0 ≡ a + come.bytes = omega arith in
      let moved_run : IsForwardRunBetween ys (a + come.bytes) (length ys) (map (moved_item (a + gone.bytes) (a + come.bytes)) (drop (number + gone.pieces) (pieces xs)))
      = rw to at (run_moves xs ys (a + gone.bytes) (a + come.bytes) 0 (length ys) (drop (number + gone.pieces) (pieces xs)) (moves far) (omega arith) (rw from run_of_old)) in
      run_between_unique utf8 fault_kind utf8_is_code ys (a + come.bytes) (length ys) _ _ run_of_new moved_run)
      w.following

  pub is_change : IsChange xs ys s e (record { offset = a; number = number; gone = gone; come = come })
  is_change = record { window = r; number = split_before; front = front_stays; rest = rest_moves }
