-- The decimal digits of a number, from the last to the first, and how many there are.
use Rattle.std.proofs.Common.{◌≡◌, ℕ, ◌+◌, ◌-◌, ◌/◌, ◌%◌, ◌^◌, ◌<◌, ◌≤◌, List, [], ◌∷◌, ◌++◌, length, drop, slice_set, ap, refl, ◌∙◌, arith, length-append, append_assoc}
use Rattle.std.specs.Fmt.{decimal}
use Rattle.std.proofs.lemmas.Grind.{common_steps}
use Rattle.std.proofs.lemmas.List.{drop-set}
use Rattle.std.proofs.lemmas.Fmt.{decimal_digit, decimal_step, length-decimal-le, decimal_nonempty}

-- a `usize` has 20 digits at most
pub length_decimal : (n : ℕ) → n < 2 ^ 64 → length (decimal n) ≤ 20
length_decimal n fits = length-decimal-le 20 n (omega arith) (omega arith) fits

-- the last digit is one digit
pub length_decimal_step : (n : ℕ) → 10 ≤ n → n < 2 ^ 64 → length (decimal n) ≡ length (decimal (n / 10)) + 1
length_decimal_step n large fits = ap length (decimal_step n large fits) ∙ length-append _ _

-- a write at the offset before `start`
drop_set_before : (digits : List ℕ) (start digit : ℕ) → 1 ≤ start → start ≤ length digits
    → drop (start - 1) (slice_set digits (start - 1) digit) ≡ digit ∷ drop start digits
drop_set_before digits start digit room within = grind (arith, common_steps, drop-set)

-- the last digit of `rest` goes before the digits from `start` on
pub put_digit : (n rest start : ℕ) (digits : List ℕ)
    → 10 ≤ rest → rest < 2 ^ 64 → length (decimal rest) ≤ start → start ≤ length digits
    → decimal rest ++ drop start digits ≡ decimal n
    → decimal (rest / 10) ++ drop (start - 1) (slice_set digits (start - 1) (48 + rest % 10)) ≡ decimal n
put_digit n rest start digits large fits room within whole =
    let some : 1 ≤ start = omega (arith, decimal_nonempty rest fits) in
    rw (drop_set_before digits start (48 + rest % 10) some within, ← whole, decimal_step rest large fits, append_assoc) refl

-- the only digit of `rest` goes first
pub put_first_digit : (n rest start : ℕ) (digits : List ℕ)
    → rest < 10 → length (decimal rest) ≤ start → start ≤ length digits
    → decimal rest ++ drop start digits ≡ decimal n
    → drop (start - 1) (slice_set digits (start - 1) (48 + rest)) ≡ decimal n
put_first_digit n rest start digits small room within whole =
    let some : 1 ≤ start = omega (arith, decimal_nonempty rest (omega arith)) in
    rw (drop_set_before digits start (48 + rest) some within, ← whole, decimal_digit rest small) refl

-- the last two digits of a number that has three at least
pub decimal_hundreds : (n : ℕ) → 100 ≤ n → n < 2 ^ 64 → decimal n ≡ decimal (n / 100) ++ (48 + n / 10 % 10) ∷ (48 + n % 10) ∷ []
decimal_hundreds n large fits =
    let tenth : n / 10 / 10 ≡ n / 100 = omega arith in
    let most : n / 10 < 2 ^ 64 = omega arith in
    rw (decimal_step n (omega arith) fits, decimal_step (n / 10) (omega arith) most, tenth, append_assoc) refl

pub ruleset decimal_steps = (decimal_digit, decimal_nonempty, length_decimal, length_decimal_step)
