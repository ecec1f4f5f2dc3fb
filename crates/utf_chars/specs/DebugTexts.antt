-- The output of `{:?}` for a list of numbers.
use Rattle.std.specs.Prelude.{ℕ, List, Option, Some}
use Rattle.std.specs.Fmt.{decimal, debug_list}

-- each number in decimal digits, with a comma and a space between two, all in brackets
abbrev pub debug_numbers : List ℕ → Option (List ℕ)
debug_numbers xs = debug_list (λ n. Some (decimal n)) xs
