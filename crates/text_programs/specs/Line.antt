-- The parts of a line of output.
use Rattle.std.specs.Prelude.{ℕ, ◌+◌, ◌/◌, ◌%◌, ◌^◌, List, [], ◌∷◌, nat_lt, if◌then◌else◌}

-- the hexadecimal digit of a number below 16, in lower case: 48 is `0`, and 87 + 10 is `a`
abbrev pub hex_digit : ℕ → ℕ
hex_digit n = if nat_lt n 10 then 48 + n else 87 + n

-- the last six hexadecimal digits of a number, leading zeros among them
abbrev pub six_hex_digits : ℕ → List ℕ
six_hex_digits n =
    hex_digit (n / 16 ^ 5 % 16) ∷ hex_digit (n / 16 ^ 4 % 16) ∷ hex_digit (n / 16 ^ 3 % 16)
    ∷ hex_digit (n / 16 ^ 2 % 16) ∷ hex_digit (n / 16 % 16) ∷ hex_digit (n % 16) ∷ []
