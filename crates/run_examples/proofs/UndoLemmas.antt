-- Edits that are undone, and a part of a text that is copied chunk by chunk.
use Rattle.std.proofs.Common.{◌≡◌, ℕ, ◌+◌, ◌-◌, ◌≤◌, List, [], ◌∷◌, ◌++◌, length, take, drop, reverse, arith, refl, ap, ap₂, sym, ◌∙◌, append_assoc, length-append}
use Rattle.std.proofs.lemmas.Grind.{common_steps}
use Rattle.std.proofs.lemmas.List.{drop-drop, drop_at, length-take-le, reverse-append, take_at, take-take}
use Rattle.std.proofs.lemmas.List.Edits.{split_between}
use Rattle.std.proofs.Math.Seq.{take-add}
use Rattle.std.specs.List.{splice}
use Rattle.std.specs.Prelude.{slice_range}
use Rattle.run_examples.specs.Undo.{CanBeMade, Replacement, replaced, texts}

-- the replacement that undoes one which put the bytes `new` at s in place of those up to e
abbrev pub way_back : List ℕ → ℕ → ℕ → List ℕ → Replacement
way_back xs s e new = record { start = s; end = s + length new; bytes = slice_range xs s e }

length_edited : (xs new : List ℕ) (s e : ℕ) → s ≤ e → e ≤ length xs → length (splice xs s e new) ≡ s + length new + (length xs - e)
length_edited xs new s e lo hi = grind (arith, common_steps)

undone : (xs new : List ℕ) (s e : ℕ) → s ≤ e → e ≤ length xs → replaced (splice xs s e new) (way_back xs s e new) ≡ xs
undone xs new s e lo hi =
    let of_p : length (take s xs) ≡ s = length-take-le s xs (omega arith) in
    let front : take s (splice xs s e new) ≡ take s xs = take_at (take s xs) (new ++ drop e xs) s of_p in
    let far : length (take s xs ++ new) ≡ s + length new = omega (arith, length-append (take s xs) new) in
    let rest : drop (s + length new) (splice xs s e new) ≡ drop e xs
    = ap (drop (s + length new)) (sym (append_assoc (take s xs) new (drop e xs))) ∙ drop_at (take s xs ++ new) (drop e xs) (s + length new) far in
    ap₂ (λ ys zs. ys ++ (slice_range xs s e ++ zs)) front rest ∙ sym (split_between xs s e lo)

newest_first : (rs more : List Replacement) (r : Replacement) → more ≡ rs ++ r ∷ [] → reverse more ≡ r ∷ reverse rs
newest_first rs more r is = ap reverse is ∙ reverse-append rs (r ∷ [])

-- The effect of an edit of xs, which made ys, on the replacements that undo.
module _ (xs ys new : List ℕ) (s e : ℕ) (rs more : List Replacement) (lo : s ≤ e) (hi : e ≤ length xs) (edited : ys ≡ splice xs s e new) (is : more ≡ rs ++ way_back xs s e new ∷ []) where
  pub edited_pasts : texts ys (reverse more) ≡ xs ∷ texts xs (reverse rs)
  edited_pasts =
      rw (newest_first rs more (way_back xs s e new) is, edited, undone xs new s e lo hi) refl

  pub edited_can : CanBeMade xs (reverse rs) → CanBeMade ys (reverse more)
  edited_can can =
      rw (newest_first rs more (way_back xs s e new) is, edited, undone xs new s e lo hi)
      (omega arith, omega (arith, length_edited xs new s e lo hi), can)

-- Some more bytes of a part are copied.
part_more : (xs : List ℕ) (s p n : ℕ) → s ≤ p → slice_range xs s p ++ take n (drop p xs) ≡ slice_range xs s (p + n)
part_more xs s p n le =
    let place : s + (p - s) ≡ p = omega arith in
    let span : p - s + n ≡ p + n - s = omega arith in
    let rest : drop (p - s) (drop s xs) ≡ drop p xs = drop-drop (p - s) s xs ∙ ap (λ k. drop k xs) place in
    ap (λ ys. slice_range xs s p ++ take n ys) (sym rest) ∙ (sym (take-add (p - s) n (drop s xs)) ∙ ap (λ k. take k (drop s xs)) span)

pub part_copied : (xs chunk : List ℕ) (s p n : ℕ) → s ≤ p → n ≤ length chunk → chunk ≡ take (length chunk) (drop p xs) → slice_range xs s p ++ take n chunk ≡ slice_range xs s (p + n)
part_copied xs chunk s p n le few is =
    let same : take n chunk ≡ take n (drop p xs) = ap (take n) is ∙ take-take n (length chunk) (drop p xs) few in
    ap (λ ys. slice_range xs s p ++ ys) same ∙ part_more xs s p n le
