-- A part of some bytes is replaced inside a window whose ends are three bytes away, or are the ends of the bytes.
use Rattle.std.proofs.Common.{◌≡◌, ℕ, ◌+◌, ◌-◌, ◌≤◌, ◌⊎◌, inl, inr, List, ◌++◌, length, take, drop, arith, refl, ap, ap₂, sym, ◌∙◌, ⊎_elim, append_assoc, length-append, length-drop}
use Rattle.std.proofs.lemmas.Grind.{common_steps}
use Rattle.std.proofs.lemmas.List.{take-append-le, drop-append-le, length-take-le, take_at, drop_at}
use Rattle.std.proofs.lemmas.List.Edits.{split_between, length-between}
use Rattle.std.proofs.Math.Seq.{take-append-add, drop-append-add}
use Rattle.std.specs.List.{splice}
use Rattle.std.specs.Prelude.{slice_range}
use Rattle.text_buffers.specs.declared.buffers.counts.Counts.{Counts}
use Rattle.text_buffers.specs.ChunkEdits.{IsWindow}
use Rattle.text_buffers.specs.Counts.{counts_of, exchange_of, AreAmong}
use Rattle.text_buffers.proofs.CountLemmas.{Seams, counts_exchanged, counts_part}
use Rattle.text_runs.proofs.SplicedPlaces.{stays_outside_before, stays_outside_after}

spliced_parts : (p m q new : List ℕ) (s e : ℕ) → s ≤ e → e ≤ length m → splice (p ++ (m ++ q)) (length p + s) (length p + e) new ≡ p ++ (splice m s e new ++ q)
spliced_parts p m q new s e lo hi =
    let front : take (length p + s) (p ++ (m ++ q)) ≡ p ++ take s m = take-append-add p (m ++ q) s ∙ ap (λ ys. p ++ ys) (take-append-le s m q (omega arith)) in
    let rest : drop (length p + e) (p ++ (m ++ q)) ≡ drop e m ++ q = drop-append-add p (m ++ q) e ∙ drop-append-le e m q hi in
    ap₂ (λ ys zs. ys ++ (new ++ zs)) front rest ∙ simp append_assoc

pub length-splice : {X : Type 0} (xs new : List X) (s e : ℕ) → s ≤ e → e ≤ length xs → length (splice xs s e new) ≡ s + length new + (length xs - e)
length-splice xs new s e lo hi = grind (arith, common_steps)

module _ (p m q new : List ℕ) (s e : ℕ) (lo : s ≤ e) (hi : e ≤ length m) (before : (length p ≡ 0) ⊎ (3 ≤ s)) (following : (length q ≡ 0) ⊎ (e + 3 ≤ length m)) (seams : Seams p m q) where
  seams_stay : Seams p (splice m s e new) q
  seams_stay =
      let xs = p ++ (m ++ q) in
      let len : length xs ≡ length p + (length m + length q) = omega (arith, length-append p (m ++ q), length-append m q) in
      let same = spliced_parts p m q new s e lo hi in
      let near : (length p ≡ 0) ⊎ (length p + 3 ≤ length p + s) = ⊎_elim (λ (none : length p ≡ 0). inl none) (λ (far : 3 ≤ s). inr (omega arith)) before in
      let far : (length p + length m ≡ length xs) ⊎ (length p + e + 3 ≤ length p + length m)
      = ⊎_elim (λ (none : length q ≡ 0). inl (omega arith)) (λ (some : e + 3 ≤ length m). inr (omega arith)) following in
      let place : length p + s + length new + (length p + length m - (length p + e)) ≡ length p + length (splice m s e new) = omega (arith, length-splice m new s e lo hi) in
      record {
        begins = λ i. stays_outside_before xs new (length p + s) (length p + e) (omega arith) (omega arith) (length p) near seams.begins (rw same i);
        ends = λ i. stays_outside_after xs new (length p + s) (length p + e) (omega arith) (omega arith) (length p + length m) far (omega arith) seams.ends (rw (same, place) i);
      }

-- The effect of an edit inside a window on the bytes and their counts: m and n are the bytes of the window before
-- and after.
pub record WindowEdit (xs ys : List ℕ) (a : ℕ) (m n : List ℕ) (b : ℕ) : Type 0 where
  pub bytes : ys ≡ take a xs ++ (n ++ drop b xs)
  pub seams : Seams (take a xs) n (drop b xs)
  pub counts : counts_of ys ≡ exchange_of (counts_of xs) (counts_of m) (counts_of n)
  pub part : AreAmong (counts_of m) (counts_of xs)

window_edit_of : (xs p m q new : List ℕ) (s e a b : ℕ) → xs ≡ p ++ (m ++ q) → p ≡ take a xs → q ≡ drop b xs → length p + s ≤ length p + e → e ≤ length m
    → (length p ≡ 0) ⊎ (3 ≤ s) → (length q ≡ 0) ⊎ (e + 3 ≤ length m) → Seams p m q → WindowEdit xs (splice xs (length p + s) (length p + e) new) a m (splice m s e new) b
window_edit_of xs p m q new s e a b whole of_p of_q lo hi before following seams =
    let le : s ≤ e = omega arith in
    let stay = seams_stay p m q new s e le hi before following seams in
    let same : splice xs (length p + s) (length p + e) new ≡ p ++ (splice m s e new ++ q) = ap (λ zs. splice zs (length p + s) (length p + e) new) whole ∙ spliced_parts p m q new s e le hi in
    record {
      bytes = same ∙ ap₂ (λ ys zs. ys ++ (splice m s e new ++ zs)) of_p of_q;
      seams = rw (← of_p, ← of_q) stay;
      counts = ap counts_of same ∙ (counts_exchanged p m (splice m s e new) q seams stay ∙ ap (λ zs. exchange_of (counts_of zs) (counts_of m) (counts_of (splice m s e new))) (sym whole));
      part = rw whole (counts_part p m q seams);
    }

module _ (xs new : List ℕ) (s e a b : ℕ) (lo : s ≤ e) (hi : e ≤ length xs) (w : IsWindow xs s e a b) where
  pub window_begins : a ≤ s
  window_begins = ⊎_elim (λ (none : a ≡ 0). omega arith) (λ (near : a + 3 ≤ s). omega arith) w.before

  pub window_ends : e ≤ b
  window_ends = ⊎_elim (λ (end : b ≡ length xs). omega arith) (λ (near : e + 3 ≤ b). omega arith) w.following

  pub window_edit : WindowEdit xs (splice xs s e new) a (slice_range xs a b) (splice (slice_range xs a b) (s - a) (e - a) new) b
  window_edit =
      let within = w.within in
      let first = window_begins in
      let last = window_ends in
      let of_p : length (take a xs) ≡ a = length-take-le a xs (omega arith) in
      let of_m : length (slice_range xs a b) ≡ b - a = length-between xs a b within in
      let of_q : length (drop b xs) ≡ length xs - b = length-drop b xs in
      let whole : xs ≡ take a xs ++ (slice_range xs a b ++ drop b xs) = split_between xs a b (omega arith) in
      let start : length (take a xs) + (s - a) ≡ s = omega arith in
      let end : length (take a xs) + (e - a) ≡ e = omega arith in
      let middle : length (take a xs) + length (slice_range xs a b) ≡ b = omega arith in
      let before : (length (take a xs) ≡ 0) ⊎ (3 ≤ s - a) = ⊎_elim (λ (none : a ≡ 0). inl (omega arith)) (λ (near : a + 3 ≤ s). inr (omega arith)) w.before in
      let following : (length (drop b xs) ≡ 0) ⊎ (e - a + 3 ≤ length (slice_range xs a b))
      = ⊎_elim (λ (none : b ≡ length xs). inl (omega arith)) (λ (near : e + 3 ≤ b). inr (omega arith)) w.following in
      let seams : Seams (take a xs) (slice_range xs a b) (drop b xs) = record {
        begins = λ i. w.begins (rw (← whole, of_p) at i);
        ends = λ i. w.ends (rw (← whole, middle) at i);
      } in
      rw (start, end) at (window_edit_of xs (take a xs) (slice_range xs a b) (drop b xs) new (s - a) (e - a) a b whole refl refl (omega arith) (omega arith) before following seams)

-- the window's bytes are a part of the bytes after the edit
pub window_part : (xs ys : List ℕ) (a : ℕ) (m n : List ℕ) (b u : ℕ) → WindowEdit xs ys a m n b → a ≤ length xs → b ≤ length xs → u ≡ length ys - (length xs - b)
    → (slice_range ys a u ≡ n) × (a ≤ u) × (u ≤ length ys)
window_part xs ys a m n b u edit first last is =
    let of_p : length (take a xs) ≡ a = length-take-le a xs first in
    let of_q : length (drop b xs) ≡ length xs - b = length-drop b xs in
    let len : length ys ≡ a + (length n + (length xs - b)) = omega (arith, ap length edit.bytes, length-append (take a xs) (n ++ drop b xs), length-append n (drop b xs)) in
    let span : u - a ≡ length n = omega arith in
    let rest : drop a ys ≡ n ++ drop b xs = ap (λ zs. drop a zs) edit.bytes ∙ drop_at (take a xs) (n ++ drop b xs) a of_p in
    let part : take (u - a) (drop a ys) ≡ n = ap (λ zs. take (u - a) zs) rest ∙ (ap (λ k. take k (n ++ drop b xs)) span ∙ take_at n (drop b xs) (length n) refl) in
    (part, omega arith, omega arith)

-- The counts of the whole follow from those of the window.
module _ (xs ys new : List ℕ) (s e a b u : ℕ) (counts gone come : Counts) (lo : s ≤ e) (hi : e ≤ length xs) (w : IsWindow xs s e a b)
    (replaced : ys ≡ splice xs s e new) (until : u ≡ length ys - (length xs - b)) where
  window_bounds : (slice_range ys a u ≡ splice (slice_range xs a b) (s - a) (e - a) new) × (a ≤ u) × (u ≤ length ys)
  window_bounds =
      let first = window_begins xs new s e a b lo hi w in
      let within = w.within in
      let edit = rw (← replaced) at (window_edit xs new s e a b lo hi w) in
      window_part xs ys a (slice_range xs a b) (splice (slice_range xs a b) (s - a) (e - a) new) b u edit (omega arith) within until

  pub window_in_order : a ≤ u
  window_in_order = window_bounds.1

  pub window_fits : u ≤ length ys
  window_fits = window_bounds.2

  pub recounted : counts ≡ counts_of xs → gone ≡ counts_of (slice_range xs a b) → come ≡ counts_of (slice_range ys a u) → exchange_of counts gone come ≡ counts_of ys
  recounted all was is =
      let edit = window_edit xs new s e a b lo hi w in
      let now = is ∙ ap counts_of window_bounds.0 in
      ap (λ k. exchange_of k gone come) all
      ∙ (ap₂ (λ g h. exchange_of (counts_of xs) g h) was now
      ∙ (sym edit.counts ∙ ap counts_of (sym replaced)))

pub gone_part : (xs new : List ℕ) (s e a b : ℕ) (counts gone : Counts) → s ≤ e → e ≤ length xs → IsWindow xs s e a b → counts ≡ counts_of xs → gone ≡ counts_of (slice_range xs a b) → AreAmong gone counts
gone_part xs new s e a b counts gone lo hi w all was = rw (was, all) ((window_edit xs new s e a b lo hi w).part)

-- what followed the window still follows it
pub window_rest : (xs ys new : List ℕ) (s e a b : ℕ) → s ≤ e → e ≤ length xs → IsWindow xs s e a b → ys ≡ splice xs s e new → length xs - b ≤ length ys
window_rest xs ys new s e a b lo hi w replaced =
    let last = window_ends xs new s e a b lo hi w in
    omega (arith, ap length replaced, length-splice xs new s e lo hi)
