-- The chunks that an edit reaches, and the chunks that replace them.
use Rattle.std.proofs.Common.{◌≡◌, ℕ, zero, suc, ◌+◌, ◌-◌, ◌^◌, ◌<◌, ◌≤◌, List, [], ◌∷◌, ◌++◌, length, get_or, take, drop, arith, refl, ap, ap₂, sym, ◌∙◌, ⊎_elim, Ok, Err, Result, length-append}
use Rattle.std.proofs.lemmas.List.{append-nil, length-take-le, set-get_or, take-append-drop, take_at, drop_at}
use Rattle.std.proofs.lemmas.List.Elements.{All-append, All-drop, All-set, All-take}
use Rattle.std.proofs.lemmas.List.Edits.{split_between, length-between}
use Rattle.std.proofs.lemmas.List.Folds.{concat-append}
use Rattle.std.proofs.Math.Seq.{drop-append-add, drop-cons}
use Rattle.std.proofs.Math.ListN.{set}
use Rattle.std.specs.List.{concat, splice}
use Rattle.std.specs.Prelude.{All, OnErr, slice_range}
use Rattle.utf_base.specs.Code.{utf8}
use Rattle.text_buffers.specs.declared.buffers.counts.Counts.{Counts}
use Rattle.text_buffers.specs.declared.buffers.edits.Edit.{Edit}
use Rattle.text_buffers.specs.ChunkEdits.{IsWindow, Surrounds}
use Rattle.text_buffers.specs.Chunks.{EndOutside}
use Rattle.text_buffers.specs.CountedChunks.{AreChunks}
use Rattle.text_buffers.specs.Counts.{counts_of, sum_of, exchange_of, AreAmong, IsSmall}
use Rattle.text_buffers.proofs.ChunkLists.{take_up_to, EndOutside-one, EndOutside-append, EndOutside-front, EndOutside-rest, spot_within, concat-take-more, concat-take-le}
use Rattle.text_buffers.proofs.CountLemmas.{Seams, counts_joined, counts_small}
use Rattle.text_runs.proofs.JoinedPieces.{inside_front, inside_rest}
use Rattle.text_buffers.proofs.WindowEdits.{length-splice, window_edit}

-- The bytes of the chunks from one to another.
pub record ChunkParts (chunks : List (List ℕ)) (i j p q : ℕ) : Type 0 where
  pub whole : chunks ≡ take i chunks ++ (slice_range chunks i j ++ drop j chunks)
  pub front : take p (concat chunks) ≡ concat (take i chunks)
  pub part : slice_range (concat chunks) p q ≡ concat (slice_range chunks i j)
  pub rest : drop q (concat chunks) ≡ concat (drop j chunks)

parts_of : (xs p m q : List ℕ) (a b : ℕ) → xs ≡ p ++ (m ++ q) → length p ≡ a → length p + length m ≡ b → (take a xs ≡ p) × (slice_range xs a b ≡ m) × (drop b xs ≡ q)
parts_of xs p m q a b whole first last =
    let span : b - a ≡ length m = omega arith in (
      ap (take a) whole ∙ take_at p (m ++ q) a first,
      ap (λ zs. take (b - a) (drop a zs)) whole ∙ (ap (λ zs. take (b - a) zs) (drop_at p (m ++ q) a first) ∙ take_at m q (b - a) (sym span)),
      ap (drop b) whole ∙ (ap (λ n. drop n (p ++ (m ++ q))) (sym last) ∙ (drop-append-add p (m ++ q) (length m) ∙ drop_at m q (length m) refl)),
    )

pub chunk_parts : (chunks : List (List ℕ)) (i j p q : ℕ) → i ≤ j → j ≤ length chunks → p ≡ length (concat (take i chunks)) → q ≡ length (concat (take j chunks)) → ChunkParts chunks i j p q
chunk_parts chunks i j p q lo hi first last =
    let P = take i chunks in
    let M = slice_range chunks i j in
    let Q = drop j chunks in
    let whole : chunks ≡ P ++ (M ++ Q) = split_between chunks i j lo in
    let up_to : take j chunks ≡ P ++ M = take_up_to chunks i j lo hi in
    let bytes : concat chunks ≡ concat P ++ (concat M ++ concat Q)
    = ap concat whole ∙ (concat-append P (M ++ Q) ∙ ap (λ ys. concat P ++ ys) (concat-append M Q)) in
    let end : length (concat P) + length (concat M) ≡ q = omega (arith, ap (λ cs. length (concat cs)) up_to, ap length (concat-append P M), length-append (concat P) (concat M)) in
    let parts = parts_of (concat chunks) (concat P) (concat M) (concat Q) p q bytes (sym first) end in
    record { whole = whole; front = parts.0; part = parts.1; rest = parts.2 }

-- The chunks after others have replaced those that an edit reaches.
pub record ChunksEdited (chunks made : List (List ℕ)) (x : Edit) (new : List ℕ) : Type 0 where
  pub bytes : concat (splice chunks x.first.number x.last.number made) ≡ splice (concat chunks) x.start x.end new
  pub ends : EndOutside (splice chunks x.first.number x.last.number made)
  pub counts : counts_of (splice (concat chunks) x.start x.end new)
      ≡ exchange_of (counts_of (concat chunks)) (counts_of (concat (slice_range chunks x.first.number x.last.number))) (counts_of (concat made))
  pub part : AreAmong (counts_of (concat (slice_range chunks x.first.number x.last.number))) (counts_of (concat chunks))

module _ (chunks made : List (List ℕ)) (x : Edit) (new : List ℕ) (outside : EndOutside chunks) (around : Surrounds chunks x) where
  pub parts_around : ChunkParts chunks x.first.number x.last.number x.first.place x.last.place
  parts_around =
      chunk_parts chunks x.first.number x.last.number x.first.place x.last.place around.in_order around.last.within around.first.begins around.last.begins

  pub window_around : IsWindow (concat chunks) x.start x.end x.first.place x.last.place
  window_around = record {
    begins = λ i. outside.outside x.first.number (rw around.first.begins at i);
    ends = λ i. outside.outside x.last.number (rw around.last.begins at i);
    before = around.before;
    following = around.following;
    within = spot_within chunks x.last.number x.last.place around.last;
  }

  pub chunks_edited : EndOutside made
      → concat made ≡ splice (concat (slice_range chunks x.first.number x.last.number)) (x.start - x.first.place) (x.end - x.first.place) new
      → ChunksEdited chunks made x new
  chunks_edited of_made joined =
      let P = take x.first.number chunks in
      let M = slice_range chunks x.first.number x.last.number in
      let Q = drop x.last.number chunks in
      let parts = parts_around in
      let edit = window_edit (concat chunks) new x.start x.end x.first.place x.last.place around.ordered around.within window_around in
      let now : splice (slice_range (concat chunks) x.first.place x.last.place) (x.start - x.first.place) (x.end - x.first.place) new ≡ concat made
      = ap (λ zs. splice zs (x.start - x.first.place) (x.end - x.first.place) new) parts.part ∙ sym joined in
      let seams : Seams (concat P) (concat made) (concat Q) = rw (parts.front, now, parts.rest) at edit.seams in
      let of_p : EndOutside P = EndOutside-front P (M ++ Q) (rw parts.whole at outside) in
      let of_mq : EndOutside (M ++ Q) = EndOutside-rest P (M ++ Q) (rw parts.whole at outside) in
      let of_q : EndOutside Q = EndOutside-rest M Q of_mq in
      let later : EndOutside (made ++ Q) = EndOutside-append made Q of_made of_q (λ i. seams.ends (inside_rest utf8 (concat P) (concat made ++ concat Q) (length (concat made)) i)) in
      let both : concat (made ++ Q) ≡ concat made ++ concat Q = concat-append made Q in
      record {
        bytes =
            concat-append P (made ++ Q)
            ∙ (ap (λ ys. concat P ++ ys) both
            ∙ sym (edit.bytes ∙ (ap₂ (λ ys zs. ys ++ zs) parts.front (ap₂ (λ ys zs. ys ++ zs) now parts.rest))));
        ends = EndOutside-append P (made ++ Q) of_p later (λ i. seams.begins (rw both at i));
        counts = edit.counts ∙ ap₂ (λ ys zs. exchange_of (counts_of (concat chunks)) (counts_of ys) (counts_of zs)) parts.part now;
        part = rw parts.part at edit.part;
      }

-- the chunks that an edit reaches begin before it, and end after it
pub edit_begins : {chunks : List (List ℕ)} {x : Edit} → Surrounds chunks x → x.first.place ≤ x.start
edit_begins {chunks} {x} around = ⊎_elim (λ (none : x.first.place ≡ 0). omega arith) (λ (near : x.first.place + 3 ≤ x.start). omega arith) around.before

pub edit_ends : {chunks : List (List ℕ)} {x : Edit} → Surrounds chunks x → x.end ≤ x.last.place
edit_ends {chunks} {x} around =
    let within = around.within in
    ⊎_elim (λ (end : x.last.place ≡ length (concat chunks)). omega arith) (λ (near : x.end + 3 ≤ x.last.place). omega arith) around.following

module _ (chunks : List (List ℕ)) (x : Edit) (outside : EndOutside chunks) (around : Surrounds chunks x) where
  -- the length of the chunks that an edit reaches, and that no code covers their ends
  pub reached_len : length (concat (slice_range chunks x.first.number x.last.number)) ≡ x.last.place - x.first.place
  reached_len =
      let parts = parts_around chunks [] x [] outside around in
      sym (ap length parts.part) ∙ length-between (concat chunks) x.first.place x.last.place (spot_within chunks x.last.number x.last.place around.last)

  pub reached_ends : EndOutside (slice_range chunks x.first.number x.last.number)
  reached_ends =
      let parts = parts_around chunks [] x [] outside around in
      EndOutside-front (slice_range chunks x.first.number x.last.number) (drop x.last.number chunks)
      (EndOutside-rest (take x.first.number chunks) (slice_range chunks x.first.number x.last.number ++ drop x.last.number chunks) (rw parts.whole at outside))

  pub reached_small : length (concat chunks) < 2 ^ 64 → length (concat (slice_range chunks x.first.number x.last.number)) < 2 ^ 64
  reached_small small = omega (arith, reached_len, spot_within chunks x.last.number x.last.place around.last)

-- the chunks before them stay
pub front_kept : (chunks made : List (List ℕ)) (x : Edit) → Surrounds chunks x → take x.first.number (splice chunks x.first.number x.last.number made) ≡ take x.first.number chunks
front_kept chunks made x around =
    let before : length (take x.first.number chunks) ≡ x.first.number = length-take-le x.first.number chunks around.first.within in
    take_at (take x.first.number chunks) (made ++ drop x.last.number chunks) x.first.number before

-- The properties of the chunks after the edit.
pub edit_held : (chunks made : List (List ℕ)) (x : Edit) (new : List ℕ) → ChunksEdited chunks made x new → length (splice (concat chunks) x.start x.end new) < 2 ^ 64
    → AreChunks (splice chunks x.first.number x.last.number made)
edit_held chunks made x new edit small = record { ends = edit.ends; small = rw edit.bytes small }

pub edit_few : (chunks made : List (List ℕ)) (i j : ℕ) → All (λ x. length x ≤ 2048) chunks → All (λ x. length x ≤ 2048) made → All (λ x. length x ≤ 2048) (splice chunks i j made)
edit_few chunks made i j of_chunks of_made =
    let P : List ℕ → Type 0 = λ x. length x ≤ 2048 in
    All-append P (take i chunks) (made ++ drop j chunks) (All-take P i chunks of_chunks) (All-append P made (drop j chunks) of_made (All-drop P j chunks of_chunks))

-- The counts after the edit.
pub edit_counted : (chunks made : List (List ℕ)) (x : Edit) (new : List ℕ) (counts gone come now : Counts) → counts ≡ counts_of (concat chunks) → ChunksEdited chunks made x new
    → gone ≡ counts_of (concat (slice_range chunks x.first.number x.last.number)) → come ≡ counts_of (concat made) → now ≡ exchange_of counts gone come
    → now ≡ counts_of (concat (splice chunks x.first.number x.last.number made))
edit_counted chunks made x new counts gone come now counted edit was is exchanged =
    exchanged
    ∙ (ap (λ k. exchange_of k gone come) counted
    ∙ (ap₂ (λ g h. exchange_of (counts_of (concat chunks)) g h) was is
    ∙ (sym edit.counts ∙ ap counts_of (sym edit.bytes))))

pub edit_counts_small : (chunks made : List (List ℕ)) (x : Edit) (new : List ℕ) (counts gone come : Counts) → counts ≡ counts_of (concat chunks) → ChunksEdited chunks made x new
    → gone ≡ counts_of (concat (slice_range chunks x.first.number x.last.number)) → come ≡ counts_of (concat made)
    → length (splice (concat chunks) x.start x.end new) < 2 ^ 64 → IsSmall (exchange_of counts gone come)
edit_counts_small chunks made x new counts gone come counted edit was is small =
    rw (edit_counted chunks made x new counts gone come (exchange_of counts gone come) counted edit was is refl)
    (counts_small (concat (splice chunks x.first.number x.last.number made)) (edit_held chunks made x new edit small).small)

pub edit_part : (chunks made : List (List ℕ)) (x : Edit) (new : List ℕ) (counts gone : Counts) → counts ≡ counts_of (concat chunks) → ChunksEdited chunks made x new
    → gone ≡ counts_of (concat (slice_range chunks x.first.number x.last.number)) → AreAmong gone counts
edit_part chunks made x new counts gone counted edit was = rw (was, counted) edit.part

-- One chunk that is changed in place.
set_spliced : {X : Type 0} (xs : List X) (i : ℕ) (y : X) → i < length xs → set xs i y ≡ take i xs ++ (y ∷ drop (i + 1) xs)
set_spliced [] i y lt = absurd (omega arith)
set_spliced (x ∷ xs) zero y lt = refl
set_spliced (x ∷ xs) (suc i) y lt =
    let e : suc i + 1 ≡ suc (i + 1) = omega arith in
    rw e (ap (λ ys. x ∷ ys) (set_spliced xs i y (omega arith)))

one_reached : (chunks : List (List ℕ)) (i : ℕ) (x : List ℕ) → i < length chunks → x ≡ get_or chunks i x → slice_range chunks i (i + 1) ≡ x ∷ []
one_reached chunks i x lt is =
    let span : i + 1 - i ≡ 1 = omega arith in
    let first : drop i chunks ≡ x ∷ drop (suc i) chunks = drop-cons chunks i x lt ∙ ap (λ y. y ∷ drop (suc i) chunks) (sym is) in
    rw (span, first) refl

pub record OneEdited (chunks : List (List ℕ)) (x : Edit) (new was now : List ℕ) : Type 0 where
  pub set_is : set chunks x.first.number now ≡ splice chunks x.first.number x.last.number (now ∷ [])
  pub was_is : concat (slice_range chunks x.first.number x.last.number) ≡ was
  pub now_is : concat (now ∷ []) ≡ now
  pub edit : ChunksEdited chunks (now ∷ []) x new

pub one_edited : (chunks : List (List ℕ)) (x : Edit) (new was now : List ℕ) → EndOutside chunks → Surrounds chunks x → x.last.number ≡ x.first.number + 1 → was ≡ get_or chunks x.first.number was
    → now ≡ splice was (x.start - x.first.place) (x.end - x.first.place) new → OneEdited chunks x new was now
one_edited chunks x new was now outside around one is becomes =
    let lt : x.first.number < length chunks = omega (arith, around.last.within) in
    let reached : slice_range chunks x.first.number x.last.number ≡ was ∷ [] = ap (λ j. slice_range chunks x.first.number j) one ∙ one_reached chunks x.first.number was lt is in
    let was_is : concat (slice_range chunks x.first.number x.last.number) ≡ was = ap concat reached ∙ append-nil was in
    let now_is : concat (now ∷ []) ≡ now = append-nil now in
    record {
      set_is = set_spliced chunks x.first.number now lt ∙ ap (λ j. take x.first.number chunks ++ (now ∷ drop j chunks)) (sym one);
      was_is = was_is;
      now_is = now_is;
      edit =
          chunks_edited chunks (now ∷ []) x new outside around (EndOutside-one now)
          (now_is ∙ (becomes ∙ ap (λ zs. splice zs (x.start - x.first.place) (x.end - x.first.place) new) (sym was_is)));
    }

-- the length of the chunk before the edit
pub one_len : (chunks : List (List ℕ)) (x : Edit) (was : List ℕ) → EndOutside chunks → Surrounds chunks x → x.last.number ≡ x.first.number + 1 → was ≡ get_or chunks x.first.number was
    → length was ≡ x.last.place - x.first.place
one_len chunks x was outside around one is =
    let lt : x.first.number < length chunks = omega (arith, around.last.within) in
    let reached : slice_range chunks x.first.number x.last.number ≡ was ∷ [] = ap (λ j. slice_range chunks x.first.number j) one ∙ one_reached chunks x.first.number was lt is in
    sym (ap length (ap concat reached ∙ append-nil was)) ∙ reached_len chunks x outside around

-- the length of the chunk after the edit
pub one_few : (chunks : List (List ℕ)) (x : Edit) (new was now : List ℕ) → EndOutside chunks → Surrounds chunks x → x.last.number ≡ x.first.number + 1 → x.last.place - x.first.place + length new ≤ 2048
    → was ≡ get_or chunks x.first.number was → now ≡ splice was (x.start - x.first.place) (x.end - x.first.place) new → All (λ y. length y ≤ 2048) chunks
    → All (λ y. length y ≤ 2048) (set chunks x.first.number now)
one_few chunks x new was now outside around one room is becomes few =
    let long = one_len chunks x was outside around one is in
    let ordered = around.ordered in
    let begins = edit_begins around in
    let ends = edit_ends around in
    let len = length-splice was new (x.start - x.first.place) (x.end - x.first.place) (omega arith) (omega arith) in
    All-set (λ y. length y ≤ 2048) chunks x.first.number now (omega (arith, ap length becomes)) few

pub set_read : (chunks : List (List ℕ)) (i : ℕ) (x y : List ℕ) → x ≡ get_or chunks i x → y ≡ x → set chunks i y ≡ chunks
set_read chunks i x y is same = ap (λ z. set chunks i z) (same ∙ is) ∙ set-get_or chunks i x

-- The counts with one more chunk.
pub chunk_counts : (chunks : List (List ℕ)) (k : ℕ) (x : List ℕ) → EndOutside chunks → k < length chunks → x ≡ get_or chunks k x
    → counts_of (concat (take (k + 1) chunks)) ≡ sum_of (counts_of (concat (take k chunks))) (counts_of x)
chunk_counts chunks k x outside lt is =
    let more = concat-take-more chunks k x lt is in
    let whole : concat (take (k + 1) chunks) ++ concat (drop (k + 1) chunks) ≡ concat chunks = sym (concat-append (take (k + 1) chunks) (drop (k + 1) chunks)) ∙ ap concat (take-append-drop (k + 1) chunks) in
    ap counts_of more
    ∙ counts_joined (concat (take k chunks)) x (λ i.
    let on = inside_front utf8 (concat (take k chunks) ++ x) (concat (drop (k + 1) chunks)) (length (concat (take k chunks))) i in
    outside.outside k (rw (← more, whole) at on))

pub chunk_counts_small : (chunks : List (List ℕ)) (k : ℕ) (x : List ℕ) → EndOutside chunks → k < length chunks → x ≡ get_or chunks k x → length (concat chunks) < 2 ^ 64
    → IsSmall (sum_of (counts_of (concat (take k chunks))) (counts_of x))
chunk_counts_small chunks k x outside lt is small =
    rw (chunk_counts chunks k x outside lt is) at (counts_small (concat (take (k + 1) chunks)) (omega (arith, concat-take-le chunks (k + 1))))

pub OnErr-always : {T E : Type 0} {P : Type 0} (r : Result T E) → P → OnErr r P
OnErr-always (Ok x) h = tt
OnErr-always (Err e) h = h
