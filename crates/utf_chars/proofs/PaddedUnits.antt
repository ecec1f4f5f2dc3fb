-- The two units of a character.
use Rattle.std.proofs.Common.{◌≡◌, ℕ, ◌+◌, ◌-◌, ◌/◌, ◌%◌, ◌<◌, ◌≤◌, ◌⊎◌, inl, inr, ⊎_elim, Option, Some, None, Ok, List, [], ◌∷◌, length, get_or, take, sym, ap, ◌∙◌, refl, arith, true, false}
use Rattle.std.proofs.lemmas.Grind.{common_steps}
use Rattle.std.proofs.lemmas.Bool.{cases_Bool, cases_lt}
use Rattle.std.proofs.lemmas.List.{take_at}
use Rattle.std.specs.Prelude.{replicate, unwrap_or, IfOk}
use Rattle.utf_base.specs.Scalar.{IsScalar}
use Rattle.utf_base.specs.Code.{utf16}
use Rattle.utf_base.specs.Decoded.{decoded_two, decoded_tuple}
use Rattle.utf_base.specs.Units.{array_fault, is_padded_units, is_leading_surrogate, is_trailing_surrogate, is_surrogate, pair_value, unit_value}
use Rattle.utf_base.proofs.UnitLemmas.{no_lead}
use Rattle.utf_base.proofs.Utf16Code.{utf16-1, utf16-2, unit_value-unit, unit_value-pair, code_of_pair, scalar_pair, scalar_unit}
use Rattle.utf_chars.specs.Padded.{padded, IsPadded}

pub padded_unit : (s : ℕ) → s < 0x1_0000 → padded 2 (utf16 s) ≡ s ∷ 0 ∷ []
unfolding padded
padded_unit s h = rw (utf16-1 s h) refl

pub padded-pair : (s : ℕ) → 0x1_0000 ≤ s → padded 2 (utf16 s) ≡ (0xD800 + (s - 0x1_0000) / 1024) ∷ (0xDC00 + (s - 0x1_0000) % 1024) ∷ []
unfolding padded
padded-pair s h = rw (utf16-2 s h) refl

-- The units of a scalar: one that is no surrogate and zero, or a pair.
pub record AsUnit (units : List ℕ) (s : ℕ) : Type 0 where
  pub small : s < 0x1_0000
  pub first : get_or units 0 0 ≡ s
  pub second : get_or units 1 0 ≡ 0
  pub plain : is_surrogate s ≡ false

pub record AsPair (units : List ℕ) (s : ℕ) : Type 0 where
  pub large : 0x1_0000 ≤ s
  pub below : s < 0x11_0000
  pub first : get_or units 0 0 ≡ 0xD800 + (s - 0x1_0000) / 1024
  pub second : get_or units 1 0 ≡ 0xDC00 + (s - 0x1_0000) % 1024

pub units_cases : (units : List ℕ) (s : ℕ) → IsScalar s → units ≡ padded 2 (utf16 s) → (AsUnit units s) ⊎ (AsPair units s)
units_cases units s h e =
    ⊎_elim
    (λ (lt : s < 0x1_0000).
    let are : units ≡ s ∷ 0 ∷ [] = e ∙ padded_unit s lt in
    inl (record { small = lt; first = ap (λ xs. get_or xs 0 0) are; second = ap (λ xs. get_or xs 1 0) are; plain = grind (arith, common_steps) }))
    (λ (ge : 0x1_0000 ≤ s).
    let are = e ∙ padded-pair s ge in
    inr (record { large = ge; below = h.below; first = ap (λ xs. get_or xs 0 0) are; second = ap (λ xs. get_or xs 1 0) are }))
    (cases_lt s 0x1_0000)

leading_of_pair : (units : List ℕ) (s : ℕ) → AsPair units s → is_leading_surrogate (get_or units 0 0) ≡ true
leading_of_pair units s p =
    let first = p.first in
    let bound : (s - 0x1_0000) / 1024 < 1024 = omega arith in
    rw first (grind (arith, common_steps))

value_of_pair : (units : List ℕ) (s : ℕ) → AsPair units s → pair_value (get_or units 0 0) (get_or units 1 0) ≡ s
value_of_pair units s p =
    omega arith

-- the value of the units of a scalar is the scalar
pub unit_value_padded : (units : List ℕ) (s : ℕ) → IsScalar s → units ≡ padded 2 (utf16 s) → unit_value units ≡ s
unit_value_padded units s h e =
    ⊎_elim
    (λ (u : AsUnit units s). unit_value-unit units (rw u.first (no_lead s u.plain)) ∙ u.first)
    (λ (p : AsPair units s). unit_value-pair units (leading_of_pair units s p) ∙ value_of_pair units s p)
    (units_cases units s h e)

pub IsPadded_units : (units : List ℕ) (s : ℕ) → IsScalar s → units ≡ padded 2 (utf16 s) → IsPadded utf16 2 unit_value units
IsPadded_units units s h e =
    let v = unit_value_padded units s h e in
    record { scalar = rw v h; equal = rw v e }

-- the units that a character keeps: one that is no surrogate and zero, or a pair
pub char_cases : (units : List ℕ) (s : ℕ) → IsPadded utf16 2 unit_value units → unit_value units ≡ s → (AsUnit units s) ⊎ (AsPair units s)
char_cases units s h e = units_cases units s (rw e at h.scalar) (rw e at h.equal)

-- the second unit shows whether there is a pair
pub ruleset of_one_unit = (utf16-1)

pub second_is_zero : (units : List ℕ) (s : ℕ) → IsPadded utf16 2 unit_value units → unit_value units ≡ s
    → (get_or units 1 0 ≡ 0 → s < 0x1_0000) × (s < 0x1_0000 → get_or units 1 0 ≡ 0)
second_is_zero units s h e =
    ⊎_elim
    (λ (u : AsUnit units s). (λ z. u.small, λ lt. u.second))
    (λ (p : AsPair units s). let second = p.second in let large = p.large in (λ z. absurd (omega arith), λ lt. absurd (omega arith)))
    (char_cases units s h e)

pub first_is_ascii : (units : List ℕ) (s : ℕ) → IsPadded utf16 2 unit_value units → unit_value units ≡ s
    → (get_or units 0 0 < 128 → s < 128) × (s < 128 → get_or units 0 0 < 128)
first_is_ascii units s h e =
    ⊎_elim
    (λ (u : AsUnit units s). let first = u.first in (λ lt. omega arith, λ lt. omega arith))
    (λ (p : AsPair units s). let first = p.first in let large = p.large in (λ lt. absurd (omega arith), λ lt. absurd (omega arith)))
    (char_cases units s h e)

-- the first units, as many as the code has, are the code
pub take_units : (units : List ℕ) (s n : ℕ) → IsPadded utf16 2 unit_value units → unit_value units ≡ s → n ≡ length (utf16 s) → take n units ≡ utf16 s
unfolding padded
take_units units s n h e l = rw (h.equal, e, l) (take_at (utf16 s) (replicate (2 - length (utf16 s)) 0) _ refl)

pub length_unit : (s : ℕ) → s < 0x1_0000 → 1 ≡ length (utf16 s)
length_unit s h = sym (ap length (utf16-1 s h))

pub length_pair : (s : ℕ) → 0x1_0000 ≤ s → 2 ≡ length (utf16 s)
length_pair s h = sym (ap length (utf16-2 s h))

-- the scalar, by whether there is a second unit
pub scalar_by_second : (units : List ℕ) (s : ℕ) → IsPadded utf16 2 unit_value units → unit_value units ≡ s
    → (get_or units 1 0 ≡ 0 → get_or units 0 0 ≡ s) × ((get_or units 1 0 ≡ 0 → ⊥) → pair_value (get_or units 0 0) (get_or units 1 0) ≡ s)
scalar_by_second units s h e =
    ⊎_elim
    (λ (u : AsUnit units s). (λ z. u.first, λ some. absurd (some u.second)))
    (λ (p : AsPair units s). let second = p.second in (λ z. absurd (omega arith), λ some. value_of_pair units s p))
    (char_cases units s h e)

-- the code, by whether there is a second unit
pub code_by_second : (units : List ℕ) (s : ℕ) → IsPadded utf16 2 unit_value units → unit_value units ≡ s
    → (get_or units 1 0 ≡ 0 → get_or units 0 0 ∷ [] ≡ utf16 s) × ((get_or units 1 0 ≡ 0 → ⊥) → get_or units 0 0 ∷ get_or units 1 0 ∷ [] ≡ utf16 s)
code_by_second units s h e =
    ⊎_elim
    (λ (u : AsUnit units s). (λ z. rw u.first (sym (utf16-1 s u.small)), λ some. absurd (some u.second)))
    (λ (p : AsPair units s). let second = p.second in (λ z. absurd (omega arith), λ some. rw (p.first, p.second) (sym (utf16-2 s p.large))))
    (char_cases units s h e)

-- an array of a code is two units as the unchecked calls ask for
pub padded_cases : (units : List ℕ) (s : ℕ) → IsScalar s → units ≡ padded 2 (utf16 s) → is_padded_units (get_or units 0 0) (get_or units 1 0) ≡ true
padded_cases units s h e =
    ⊎_elim
    (λ (u : AsUnit units s). rw (u.first, u.second) (plain_unit s u.plain))
    (λ (p : AsPair units s). rw (leading_of_pair units s p) (trailing_of_pair units s p))
    (units_cases units s h e)
  where
    plain_unit : (s : ℕ) → is_surrogate s ≡ false → is_padded_units s 0 ≡ true
    plain_unit s h = grind (arith, common_steps)

    trailing_of_pair : (units : List ℕ) (s : ℕ) → AsPair units s → is_trailing_surrogate (get_or units 1 0) ≡ true
    trailing_of_pair units s p =
        let second = p.second in
        let rest : (s - 0x1_0000) % 1024 < 1024 = omega arith in
        rw second (grind (arith, common_steps))

-- units that the unchecked calls accept are the code of their value, followed by 0 if it has one unit
pub IsPadded_units_of : (u v : ℕ) → u < 0x1_0000 → v < 0x1_0000 → is_padded_units u v ≡ true → IsPadded utf16 2 unit_value (u ∷ v ∷ [])
unfolding padded
IsPadded_units_of u v fits fits_too h =
    ⊎_elim
    (λ (pair : is_leading_surrogate u ≡ true).
    let trailing : is_trailing_surrogate v ≡ true = rw pair at h in
    IsPadded_units (u ∷ v ∷ []) (pair_value u v) (scalar_pair u v) (pair_code u v pair trailing))
    (λ (alone : is_leading_surrogate u ≡ false).
    let plain = plain_of u v alone h in
    IsPadded_units (u ∷ v ∷ []) u (scalar_unit u fits plain.0) (rw plain.1 (sym (padded_unit u fits))))
    (cases_Bool (is_leading_surrogate u))
  where
    plain_of : (u v : ℕ) → is_leading_surrogate u ≡ false → is_padded_units u v ≡ true → (is_surrogate u ≡ false) × (v ≡ 0)
    plain_of u v alone h = let rest = rw alone at h in (grind (arith, common_steps), grind (arith, common_steps))

    pair_code : (u v : ℕ) → is_leading_surrogate u ≡ true → is_trailing_surrogate v ≡ true → u ∷ v ∷ [] ≡ padded 2 (utf16 (pair_value u v))
    pair_code u v leading trailing = rw (code_of_pair u v leading trailing) refl

pub two_elements : (xs : List ℕ) → length xs ≡ 2 → xs ≡ get_or xs 0 0 ∷ get_or xs 1 0 ∷ []
two_elements [] e = absurd (omega arith)
two_elements (x ∷ []) e = absurd (omega arith)
two_elements (x ∷ y ∷ []) e = refl
two_elements (x ∷ y ∷ z ∷ xs) e = absurd (omega arith)

-- the result of decoding one or two units that have to be a code
pub unchecked_units : (u : ℕ) (second : Option ℕ) (s : ℕ) → is_padded_units u (unwrap_or second 0) ≡ true → decoded_two (u ∷ unwrap_or second 0 ∷ []) ≡ Ok s
    → IfOk (decoded_tuple u second) (λ t. s ≡ t)
unfolding decoded_two decoded_tuple array_fault unit_value
unchecked_units u None s h e = grind (arith, common_steps)
unchecked_units u (Some v) s h e = grind (arith, common_steps)
