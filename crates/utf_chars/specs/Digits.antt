-- Elements packed into one number, as its digits.
use Rattle.std.specs.Prelude.{ℕ, zero, suc, ◌/◌, ◌%◌, List, [], ◌∷◌}

-- the n lowest digits of a number in a base, the lowest first
unfoldable pub low_digits : ℕ → ℕ → ℕ → List ℕ
low_digits base zero number = []
low_digits base (suc n) number = number % base ∷ low_digits base n (number / base)
