-- A number whose digits are the elements of a list.
use Rattle.std.proofs.Common.{◌≡◌, ℕ, zero, suc, ◌+◌, ◌-◌, ◌*◌, ◌/◌, ◌%◌, ◌<◌, ◌≤◌, List, [], ◌∷◌, length, get_or, take, refl, ap, arith}
use Rattle.std.proofs.lemmas.Nat.{div-mul-add, mod-mul-add}
use Rattle.utf_chars.specs.Digits.{low_digits}

pub number_of : ℕ → List ℕ → ℕ
number_of base [] = 0
number_of base (x ∷ xs) = number_of base xs * base + x

pub length_low_digits : (base n number : ℕ) → length (low_digits base n number) ≡ n
unfolding low_digits
length_low_digits base zero number = refl
length_low_digits base (suc n) number = ap suc (length_low_digits base n (number / base))

-- no digit, and the first of some
pub no_digits : (base n number : ℕ) → n ≡ 0 → low_digits base n number ≡ []
unfolding low_digits
no_digits base zero number none = refl
no_digits base (suc n) number none = absurd (omega arith)

pub some_digits : (base n number : ℕ) → 0 < n → low_digits base n number ≡ number % base ∷ low_digits base (n - 1) (number / base)
unfolding low_digits
some_digits base zero number some = absurd (omega arith)
some_digits base (suc n) number some = let one : suc n - 1 ≡ n = omega arith in rw one refl

-- at most four digits
pub four_digits : (base n number : ℕ) → n ≤ 4
    → take n (number % base ∷ number / base % base ∷ number / base / base % base ∷ number / base / base / base % base ∷ []) ≡ low_digits base n number
unfolding low_digits
four_digits base zero number few = refl
four_digits base (suc zero) number few = refl
four_digits base (suc (suc zero)) number few = refl
four_digits base (suc (suc (suc zero))) number few = refl
four_digits base (suc (suc (suc (suc zero)))) number few = refl
four_digits base (suc (suc (suc (suc (suc n))))) number few = absurd (omega arith)

-- the lowest digits are the first elements
pub first_digits : (base n : ℕ) (xs : List ℕ) → n ≤ length xs → ((i : ℕ) → get_or xs i 0 < base) → low_digits base n (number_of base xs) ≡ take n xs
unfolding low_digits number_of
first_digits base zero xs within below = refl
first_digits base (suc n) [] within below = absurd (omega arith)
first_digits base (suc n) (x ∷ xs) within below =
    let first : x < base = below 0 in
    rw (mod-mul-add (number_of base xs) base x first, div-mul-add (number_of base xs) base x first)
    (ap (λ zs. x ∷ zs) (first_digits base n xs (omega arith) (λ i. below (suc i))))

-- two units, as a number
pub number_of_units : (xs : List ℕ) → length xs ≡ 2 → get_or xs 1 0 * 0x1_0000 + get_or xs 0 0 ≡ number_of 0x1_0000 xs
unfolding number_of
number_of_units [] len = absurd (omega arith)
number_of_units (a ∷ []) len = absurd (omega arith)
number_of_units (a ∷ b ∷ []) len = omega arith
number_of_units (a ∷ b ∷ c ∷ xs) len = absurd (omega arith)
