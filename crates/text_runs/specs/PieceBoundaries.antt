-- Offsets between two pieces, near an offset that may lie inside of a code.
use Rattle.std.specs.Prelude.{◌≡◌, ℕ, ◌+◌, ◌<◌, ◌≤◌, List, length}
use Rattle.utf_base.specs.Code.{utf8}
use Rattle.utf_base.specs.Piece.{Inside, Stands}

-- no code covers the offset
pub record IsBetween (xs : List ℕ) (p : ℕ) : Type 0 where
  pub within : p ≤ length xs
  pub outside : ¬ Inside utf8 xs p

-- a code begins at the offset i and ends at j, and p lies inside it
pub record IsCodeOver (xs : List ℕ) (i j p : ℕ) : Type 0 where
  pub char : ℕ
  pub stands : Stands utf8 xs i char
  pub end : j ≡ i + length (utf8 char)
  pub begins : i < p
  pub over : p < j

-- the code that begins at the offset i ends at e, and if none begins there, e is not after i
pub record IsEndFrom (xs : List ℕ) (i e : ℕ) : Type 0 where
  pub code : (s : ℕ) → Stands utf8 xs i s → e ≡ i + length (utf8 s)
  pub some : i < e → (s : ℕ) × Stands utf8 xs i s

-- q is the last offset between two pieces that is not after p
pub record IsLastBetween (xs : List ℕ) (p q : ℕ) : Type 0 where
  pub between : IsBetween xs q
  pub before : q ≤ p
  pub last : (k : ℕ) → q < k → k ≤ p → Inside utf8 xs k

-- q is the first offset between two pieces that is not before p
pub record IsFirstBetween (xs : List ℕ) (p q : ℕ) : Type 0 where
  pub between : IsBetween xs q
  pub after : p ≤ q
  pub first : (k : ℕ) → p ≤ k → k < q → Inside utf8 xs k
