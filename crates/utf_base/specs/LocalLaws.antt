-- The laws of local damage: the pieces that a change of some elements leaves as they were. They are generic in the
-- code, and in the kinds of fault.
use Rattle.std.specs.Prelude.{◌≡◌, ℕ, ◌+◌, ◌≤◌, ◌↔◌, List, ◌++◌, length, drop, Option}
use Rattle.utf_base.specs.Piece.{IsPieceAt}

-- the same pieces begin at the offset p of xs and at the offset q of ys, and what is left from there on has
-- the same kind
pub record SameAt {E : Type 0} (code : ℕ → List ℕ) (kind : List ℕ → Option E) (xs : List ℕ) (p : ℕ) (ys : List ℕ) (q : ℕ) : Type 0 where
  pub pieces : (n : ℕ) (char : Option ℕ) → IsPieceAt code xs p n char ↔ IsPieceAt code ys q n char
  pub kinds : kind (drop p xs) ≡ kind (drop q ys)

-- other elements between a front and a rest do not change the pieces that begin m or more before the end of
-- the front
abbrev pub FrontStays : {E : Type 0} → (ℕ → List ℕ) → (List ℕ → Option E) → ℕ → Type 0
FrontStays code kind m =
    (front old new rest : List ℕ) (p : ℕ) → p + m ≤ length front
    → SameAt code kind (front ++ old ++ rest) p (front ++ new ++ rest) p

-- other elements between a front and a rest do not change, except for their offset, the pieces that begin
-- after the first m - 1 of the rest
abbrev pub RestStays : {E : Type 0} → (ℕ → List ℕ) → (List ℕ → Option E) → ℕ → Type 0
RestStays code kind m =
    (front old new rest : List ℕ) (p : ℕ) → m ≤ p + 1
    → SameAt code kind (front ++ old ++ rest) (length front + length old + p) (front ++ new ++ rest) (length front + length new + p)

pub record DamageIsLocal {E : Type 0} (code : ℕ → List ℕ) (kind : List ℕ → Option E) (m : ℕ) : Type 0 where
  pub front : FrontStays code kind m
  pub rest : RestStays code kind m
