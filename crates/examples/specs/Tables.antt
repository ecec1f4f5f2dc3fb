-- How often each character is in a text. A table is seen as the function that looks a scalar up in it.
use Rattle.std.specs.Prelude.{◌≡◌, ◌≢◌, ℕ, ◌+◌, List, Option, Some, None, count_by, nat_eq, if◌then◌else◌}
use Rattle.std.specs.Map.{count_at}

-- a number, or nothing for zero
abbrev pub non_zero : ℕ → Option ℕ
non_zero n = if nat_eq n 0 then None else Some n

-- the table has how often each scalar occurs in the list, and nothing for one that does not
abbrev pub CountsEach : List ℕ → (ℕ → Option ℕ) → Type 0
CountsEach scalars table = (s : ℕ) → table s ≡ non_zero (count_by (nat_eq s) scalars)

-- new counts the scalar s once more than old does, and every other as often
pub record CountsOneMore (old new : ℕ → Option ℕ) (s : ℕ) : Type 0 where
  pub this : new s ≡ Some (count_at old s + 1)
  pub others : (q : ℕ) → q ≢ s → new q ≡ old q
