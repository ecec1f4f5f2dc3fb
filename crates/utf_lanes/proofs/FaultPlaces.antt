-- Faults of a window are those of the whole bytes, if a piece begins where the window does.
use Rattle.std.proofs.Common.{◌↔◌, ℕ, ◌+◌, ◌-◌, ◌≤◌, List, length, drop, refl, inl, inr, arith, None, length-drop}
use Rattle.std.proofs.lemmas.Bool.{cases_lt}
use Rattle.utf_base.specs.Code.{utf8}
use Rattle.utf_base.specs.Piece.{Inside, IsPieceAt}
use Rattle.utf_base.proofs.Rests.{stands_in_list, stands_in_rest}

module _ (xs : List ℕ) (n : ℕ) (le : n ≤ length xs) (outside : Inside utf8 xs n → ⊥) where
  -- no code lies over the end of the window either
  pub outside_on : (m : ℕ) → (Inside utf8 (drop n xs) m → ⊥) → Inside utf8 xs (n + m) → ⊥
  outside_on m end v =
      let begins = v.begins in
      let ends = v.ends in
      elim (cases_lt v.from n) [
        | inl before ↦ outside (record { from = v.from; char = v.char; stands = v.stands; begins = before; ends = omega arith })
        | inr after ↦ end (record { from = v.from - n; char = v.char; stands = stands_in_rest utf8 xs n (v.from - n) v.from v.char (omega arith) v.stands; begins = omega arith; ends = omega arith })
      ]

  -- and the faults are those of the whole
  pub fault_of_all : (k : ℕ) → IsPieceAt utf8 (drop n xs) k 1 None ↔ IsPieceAt utf8 xs (n + k) 1 None
  fault_of_all k = (
    λ h.
        let lt = h.0 in (
          omega (arith, length-drop n xs),
          refl,
          λ v.
              let begins = v.begins in
              let ends = v.ends in
              elim (cases_lt v.from n) [
                | inl before ↦ outside (record { from = v.from; char = v.char; stands = v.stands; begins = before; ends = omega arith })
                | inr after ↦ h.2 (record { from = v.from - n; char = v.char; stands = stands_in_rest utf8 xs n (v.from - n) v.from v.char (omega arith) v.stands; begins = omega arith; ends = omega arith })
              ],
        ),
    λ h.
        let lt = h.0 in (
          omega (arith, length-drop n xs),
          refl,
          λ v.
              let begins = v.begins in
              let ends = v.ends in
              h.2 (record { from = n + v.from; char = v.char; stands = stands_in_list utf8 xs n v.from (n + v.from) v.char refl le v.stands; begins = omega arith; ends = omega arith }),
        ),
  )
