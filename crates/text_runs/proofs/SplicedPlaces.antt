-- If a part of some bytes is replaced, no code comes to cover an offset that is three bytes away from it.
use Rattle.std.proofs.Common.{◌≡◌, ℕ, ◌+◌, ◌-◌, ◌≤◌, ◌⊎◌, List, ◌++◌, length, take, drop, arith, ap, sym, ◌∙◌, subst, ⊎_elim, append_assoc, length-append, length-drop}
use Rattle.std.proofs.lemmas.List.{take-append-drop, length-take-le}
use Rattle.std.specs.List.{splice}
use Rattle.utf_base.specs.Code.{utf8}
use Rattle.utf_base.specs.Piece.{Inside}
use Rattle.utf_base.proofs.Standing.{outside_front, outside_end}
use Rattle.text_runs.proofs.JoinedPieces.{inside_front, inside_rest, near_front, near_rest}

module _ (xs new : List ℕ) (s e : ℕ) (lo : s ≤ e) (hi : e ≤ length xs) where
  -- an offset before the change
  pub stays_outside_before : (p : ℕ) → (p ≡ 0) ⊎ (p + 3 ≤ s) → (Inside utf8 xs p → ⊥) → Inside utf8 (splice xs s e new) p → ⊥
  stays_outside_before p far out i =
      ⊎_elim
      (λ (none : p ≡ 0). outside_front utf8 (splice xs s e new) (rw none at i))
      (λ (near : p + 3 ≤ s).
      let front : length (take s xs) ≡ s = length-take-le s xs (omega arith) in
      let in_front : Inside utf8 (take s xs) p = near_front (take s xs) (new ++ drop e xs) p (omega arith) i in
      out (subst (λ ys. Inside utf8 ys p) (take-append-drop s xs) (inside_front utf8 (take s xs) (drop s xs) p in_front)))
      far

  -- an offset after the change, which moves with its bytes
  pub stays_outside_after : (p : ℕ) → (p ≡ length xs) ⊎ (e + 3 ≤ p) → p ≤ length xs → (Inside utf8 xs p → ⊥) → Inside utf8 (splice xs s e new) (s + length new + (p - e)) → ⊥
  stays_outside_after p far within out i =
      let front : length (take s xs) ≡ s = length-take-le s xs (omega arith) in
      let left : length (take e xs) ≡ e = length-take-le e xs hi in
      let rest : length (drop e xs) ≡ length xs - e = length-drop e xs in
      let both : length (take s xs ++ new) ≡ s + length new = omega (arith, length-append (take s xs) new) in
      let same : (take s xs ++ new) ++ drop e xs ≡ splice xs s e new = append_assoc (take s xs) new (drop e xs) in
      let len : length (splice xs s e new) ≡ s + length new + (length xs - e) = sym (ap length same) ∙ (length-append (take s xs ++ new) (drop e xs) ∙ omega arith) in
      ⊎_elim
      (λ (end : p ≡ length xs).
      let last : s + length new + (p - e) ≡ length (splice xs s e new) = omega arith in
      outside_end utf8 (splice xs s e new) (rw last at i))
      (λ (near : e + 3 ≤ p).
      let j : Inside utf8 ((take s xs ++ new) ++ drop e xs) (length (take s xs ++ new) + (p - e)) = rw (same, both) i in
      let in_rest : Inside utf8 (drop e xs) (p - e) = near_rest (take s xs ++ new) (drop e xs) (p - e) (omega arith) j in
      let place : length (take e xs) + (p - e) ≡ p = omega arith in
      out (subst (λ ys. Inside utf8 ys p) (take-append-drop e xs) (rw place at (inside_rest utf8 (take e xs) (drop e xs) (p - e) in_rest))))
      far
