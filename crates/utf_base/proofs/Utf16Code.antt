-- The code of a scalar in UTF-16, and the units that begin one.
use Rattle.std.proofs.Common.{refl, ◌≡◌, ℕ, ◌+◌, ◌-◌, ◌/◌, ◌%◌, ◌<◌, ◌≤◌, ◌⊎◌, inl, inr, ⊎_elim, List, [], ◌∷◌, length, get_or, arith, ap, ap₂, sym, ◌∙◌, lit<, true, false}
use Rattle.std.proofs.lemmas.Grind.{common_steps}
use Rattle.std.proofs.lemmas.Bool.{cases_lt}
use Rattle.std.specs.Prelude.{slice_range}
use Rattle.utf_base.specs.Scalar.{IsScalar}
use Rattle.utf_base.specs.Code.{utf16, IsCode}
use Rattle.utf_base.specs.Front.{BeginsWith}
use Rattle.utf_base.specs.Piece.{Stands}
use Rattle.utf_base.specs.Units.{is_leading_surrogate, is_trailing_surrogate, is_surrogate, pair_value, unit_value}
use Rattle.utf_base.proofs.Standing.{Stands-at}

pub utf16-1 : (s : ℕ) → s < 0x1_0000 → utf16 s ≡ s ∷ []
unfolding utf16
utf16-1 s h = grind (arith, common_steps)

pub utf16-2 : (s : ℕ) → 0x1_0000 ≤ s → utf16 s ≡ (0xD800 + (s - 0x1_0000) / 1024) ∷ (0xDC00 + (s - 0x1_0000) % 1024) ∷ []
unfolding utf16
utf16-2 s h = grind (arith, common_steps)

pub length_utf16 : (s : ℕ) → length (utf16 s) ≤ 2
unfolding utf16
length_utf16 s = grind (arith, common_steps)

-- a unit after the first is a trailing surrogate
pub utf16-trailing_surrogate : (s k : ℕ) → IsScalar s → 0 < k → k < length (utf16 s) → (0xDC00 ≤ get_or (utf16 s) k 0) × (get_or (utf16 s) k 0 < 0xE000)
unfolding utf16
utf16-trailing_surrogate s k h p q = grind (arith, common_steps)

-- the first unit is not
utf16-first : (s : ℕ) → IsScalar s → (get_or (utf16 s) 0 0 < 0xDC00) ⊎ (0xE000 ≤ get_or (utf16 s) 0 0)
unfolding utf16
utf16-first s h = grind (arith, common_steps)

pub utf16_is_code : IsCode utf16
unfolding utf16
utf16_is_code = record { some = λ s h. grind (arith, common_steps); apart = λ s t k h g p q e. grind (arith, common_steps, utf16-trailing_surrogate s k h p q, utf16-first t g); sized = λ s t h g e. grind (arith, common_steps); injective = λ s t h g e. grind (arith, common_steps) }

-- A unit that is no surrogate represents itself.

pub scalar_unit : (u : ℕ) → u < 0x1_0000 → is_surrogate u ≡ false → IsScalar u
scalar_unit u fits none = record { below = omega arith; no_surrogate = λ g. grind (arith, common_steps) }

pub begins_with_unit : (w : List ℕ) → 0 < length w → get_or w 0 0 < 0x1_0000 → is_surrogate (get_or w 0 0) ≡ false → BeginsWith utf16 w (get_or w 0 0) 1
begins_with_unit w some fits none =
    let code = utf16-1 (get_or w 0 0) fits in
    let len : length (utf16 (get_or w 0 0)) ≡ 1 = ap length code in
    let front : slice_range w 0 1 ≡ get_or w 0 0 ∷ [] = grind (arith, common_steps) in (
      record { scalar = scalar_unit (get_or w 0 0) fits none; within = omega arith; equal = rw len (front ∙ sym code) },
      sym len,
    )

-- A leading and a trailing surrogate are the code of their value.

pub pair_value-range : (u v : ℕ) → (0x1_0000 ≤ pair_value u v) × (pair_value u v < 0x11_0000)
pair_value-range u v = (omega arith, omega arith)

pub scalar_pair : (u v : ℕ) → IsScalar (pair_value u v)
scalar_pair u v = let r = pair_value-range u v in record { below = r.1; no_surrogate = λ g. omega arith }

pub code_of_pair : (u v : ℕ) → is_leading_surrogate u ≡ true → is_trailing_surrogate v ≡ true → utf16 (pair_value u v) ≡ u ∷ v ∷ []
code_of_pair u v leading trailing =
    let lead_low : 0xD800 ≤ u = grind (arith, common_steps) in
    let lead_high : u < 0xDC00 = grind (arith, common_steps) in
    let trail_low : 0xDC00 ≤ v = grind (arith, common_steps) in
    let trail_high : v < 0xE000 = grind (arith, common_steps) in
    let first : 0xD800 + (pair_value u v - 0x1_0000) / 1024 ≡ u = omega arith in
    let second : 0xDC00 + (pair_value u v - 0x1_0000) % 1024 ≡ v = omega arith in
    utf16-2 (pair_value u v) (pair_value-range u v).0 ∙ ap₂ (λ x y. x ∷ y ∷ []) first second

pub begins_with_pair : (w : List ℕ) → 2 ≤ length w → is_leading_surrogate (get_or w 0 0) ≡ true → is_trailing_surrogate (get_or w 1 0) ≡ true
    → BeginsWith utf16 w (pair_value (get_or w 0 0) (get_or w 1 0)) 2
begins_with_pair w two leading trailing =
    let code = code_of_pair (get_or w 0 0) (get_or w 1 0) leading trailing in
    let len : length (utf16 (pair_value (get_or w 0 0) (get_or w 1 0))) ≡ 2 = ap length code in
    let front : slice_range w 0 2 ≡ get_or w 0 0 ∷ get_or w 1 0 ∷ [] = grind (arith, common_steps) in (
      record {
        scalar = scalar_pair (get_or w 0 0) (get_or w 1 0);
        within = omega arith;
        equal = rw len (front ∙ sym code);
      },
      sym len,
    )

-- A code at the front of units: one unit, or a pair.
pub record StandsAsUnit (w : List ℕ) (s : ℕ) : Type 0 where
  pub unit : get_or w 0 0 ≡ s
  pub plain : is_surrogate (get_or w 0 0) ≡ false
  pub small : s < 0x1_0000

pub record StandsAsPair (w : List ℕ) : Type 0 where
  pub two : 2 ≤ length w
  pub leading : is_leading_surrogate (get_or w 0 0) ≡ true
  pub trailing : is_trailing_surrogate (get_or w 1 0) ≡ true

at_front : (w code : List ℕ) (s k : ℕ) → Stands utf16 w 0 s → utf16 s ≡ code → k < length code → get_or w k 0 ≡ get_or code k 0
at_front w code s k h e q =
    let len : length (utf16 s) ≡ length code = ap length e in
    Stands-at utf16 w 0 s k k (omega arith) h (omega arith) ∙ ap (λ x. get_or x k 0) e

pub stands_cases : (w : List ℕ) (s : ℕ) → Stands utf16 w 0 s → (StandsAsUnit w s) ⊎ (StandsAsPair w)
stands_cases w s h =
    ⊎_elim
    (λ (lt : s < 0x1_0000).
    let e0 : get_or w 0 0 ≡ s = at_front w (s ∷ []) s 0 h (utf16-1 s lt) (lit< tt) in
    inl (record { unit = e0; plain = rw e0 (grind (arith, common_steps)); small = lt }))
    (λ (ge : 0x1_0000 ≤ s).
    let code = utf16-2 s ge in
    let len : length (utf16 s) ≡ 2 = ap length code in
    let e0 : get_or w 0 0 ≡ 0xD800 + (s - 0x1_0000) / 1024 = at_front w _ s 0 h code (lit< tt) in
    let e1 : get_or w 1 0 ≡ 0xDC00 + (s - 0x1_0000) % 1024 = at_front w _ s 1 h code (lit< tt) in
    let bound : (s - 0x1_0000) / 1024 < 1024 = omega arith in
    let rest : (s - 0x1_0000) % 1024 < 1024 = omega arith in
    inr (record { two = omega arith; leading = rw e0 (grind (arith, common_steps)); trailing = rw e1 (grind (arith, common_steps)) }))
    (cases_lt s 0x1_0000)

-- the units of a scalar, as arguments one by one
pub unit_is_code : (u : ℕ) → u < 0x1_0000 → is_surrogate u ≡ false → IsScalar u × (u ∷ [] ≡ utf16 u)
unit_is_code u fits none = (scalar_unit u fits none, sym (utf16-1 u fits))

pub pair_is_code : (u v : ℕ) → is_leading_surrogate u ≡ true → is_trailing_surrogate v ≡ true → IsScalar (pair_value u v) × (u ∷ v ∷ [] ≡ utf16 (pair_value u v))
pair_is_code u v leading trailing = (scalar_pair u v, sym (code_of_pair u v leading trailing))

-- The value of the units of a scalar.

pub unit_value-unit : (w : List ℕ) → is_leading_surrogate (get_or w 0 0) ≡ false → unit_value w ≡ get_or w 0 0
unfolding unit_value
unit_value-unit w none = rw none refl

pub unit_value-pair : (w : List ℕ) → is_leading_surrogate (get_or w 0 0) ≡ true → unit_value w ≡ pair_value (get_or w 0 0) (get_or w 1 0)
unfolding unit_value
unit_value-pair w leading = rw leading refl
