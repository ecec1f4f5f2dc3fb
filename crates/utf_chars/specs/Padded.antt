-- A code in an array that can hold the longest: the code, then zeros.
use Rattle.std.specs.Prelude.{◌≡◌, ℕ, ◌-◌, ◌<◌, ◌≤◌, List, ◌++◌, length, replicate}
use Rattle.utf_base.specs.Scalar.{IsScalar}

-- a code, followed by zeros
unfoldable pub padded : ℕ → List ℕ → List ℕ
padded places code = code ++ replicate (places - length code) 0

-- the array is the code of its value, then zeros
pub record IsPadded (code : ℕ → List ℕ) (places : ℕ) (value : List ℕ → ℕ) (xs : List ℕ) : Type 0 where
  pub scalar : IsScalar (value xs)
  pub equal : xs ≡ padded places (code (value xs))

-- the list can hold the code, which has at most `most` elements
abbrev pub HasRoomForCode : ℕ → List ℕ → List ℕ → Type 0
HasRoomForCode most code xs = length xs < most → length code ≤ length xs
