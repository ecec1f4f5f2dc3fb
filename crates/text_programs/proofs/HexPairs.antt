-- The table of pairs of hexadecimal digits, and a number written with it.
use Rattle.std.proofs.Common.{◌≡◌, ℕ, zero, suc, ◌+◌, ◌-◌, ◌*◌, ◌/◌, ◌%◌, ◌^◌, ◌<◌, Bool, true, ◌&&◌, T, eqb, [], ◌∷◌, get_or, refl, inl, inr, arith, eq-zero-or-pos, eqb→eq}
use lib.Ieee.Fits.{and_l, and_r}
use Rattle.text_programs.specs.Line.{hex_digit, six_hex_digits}
use Rattle.text_programs.specs.declared.programs.lines.TheConstants.{PAIRS}

-- whether the table has the two digits of each byte below n
abbrev are_pairs : ℕ → Bool
are_pairs zero = true
are_pairs (suc b) = (eqb (get_or PAIRS (2 * b) 0) (hex_digit (b / 16)) && eqb (get_or PAIRS (2 * b + 1) 0) (hex_digit (b % 16))) && are_pairs b

below : (n b : ℕ) → T (are_pairs n) → b < n → (get_or PAIRS (2 * b) 0 ≡ hex_digit (b / 16)) × (get_or PAIRS (2 * b + 1) 0 ≡ hex_digit (b % 16))
below zero b t lt = absurd (omega arith)
below (suc n) b t lt =
    elim (eq-zero-or-pos (n - b)) [
      | inl z ↦
          let e : b ≡ n = omega arith in
          let a = and_l _ (are_pairs n) t in
          rw e (eqb→eq _ _ (and_l _ _ a), eqb→eq _ _ (and_r _ _ a))
      | inr g ↦ below n b (and_r _ (are_pairs n) t) (omega arith)
    ]

-- the two digits of a byte
pub pair_at : (b : ℕ) → b < 256 → (get_or PAIRS (2 * b) 0 ∷ get_or PAIRS (2 * b + 1) 0 ∷ []) ≡ (hex_digit (b / 16) ∷ hex_digit (b % 16) ∷ [])
pair_at b lt = let both = below 256 b tt lt in rw (both.0, both.1) refl

-- the six digits of a number, as the pairs of its three bytes
pub six_by_pairs : (n : ℕ) → n < 2 ^ 24
    → (hex_digit (n / 65536 / 16) ∷ hex_digit (n / 65536 % 16) ∷ hex_digit (n / 256 % 256 / 16) ∷ hex_digit (n / 256 % 256 % 16)
    ∷ hex_digit (n % 256 / 16) ∷ hex_digit (n % 256 % 16) ∷ []) ≡ six_hex_digits n
six_by_pairs n lt =
    let a : n / 65536 / 16 ≡ n / 16 ^ 5 % 16 = omega arith in
    let b : n / 65536 % 16 ≡ n / 16 ^ 4 % 16 = omega arith in
    let c : n / 256 % 256 / 16 ≡ n / 16 ^ 3 % 16 = omega arith in
    let d : n / 256 % 256 % 16 ≡ n / 16 ^ 2 % 16 = omega arith in
    let e : n % 256 / 16 ≡ n / 16 % 16 = omega arith in
    let f : n % 256 % 16 ≡ n % 16 = omega arith in
    rw (a, b, c, d, e, f) refl
