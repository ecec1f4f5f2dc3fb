-- The bytes of one unit, and of a pair.
use Rattle.std.proofs.Common.{◌≡◌, ℕ, ◌+◌, ◌/◌, ◌%◌, ◌<◌, ◌≤◌, Bool, true, false, [], ◌∷◌, ◌++◌, arith, refl, sym, ap₂, ◌∙◌, inl, inr}
use Rattle.std.proofs.lemmas.Bool.{cases_lt}
use Rattle.std.proofs.lemmas.Grind.{common_steps}
use Rattle.utf_base.specs.Code.{utf8}
use Rattle.utf_base.specs.Units.{is_leading_surrogate, is_trailing_surrogate, is_surrogate, pair_value}
use Rattle.utf_base.proofs.Utf8Code.{utf8-1, utf8-2, utf8-3, utf8-4}
use Rattle.utf_base.proofs.Utf16Code.{pair_value-range}
use Rattle.utf_lanes.specs.UnitCodes.{unit_code, lane_bytes, first_byte, middle_byte, last_byte, lead_byte, second_byte, third_byte}

pub no_surrogate : (u : ℕ) → is_leading_surrogate u ≡ false → is_trailing_surrogate u ≡ false → is_surrogate u ≡ false
no_surrogate u e f = grind (arith, common_steps)

one_byte : (u : ℕ) → u < 0x80 → lane_bytes (first_byte u) (middle_byte u) (last_byte u) ≡ u ∷ []
one_byte u h = grind (arith, common_steps)

two_bytes : (u : ℕ) → 0x80 ≤ u → u < 0x800 → lane_bytes (first_byte u) (middle_byte u) (last_byte u) ≡ (0xC0 + u / 64) ∷ (0x80 + u % 64) ∷ []
two_bytes u g h = grind (arith, common_steps)

three_bytes : (u : ℕ) → 0x800 ≤ u → u < 0x1_0000 → lane_bytes (first_byte u) (middle_byte u) (last_byte u) ≡ (0xE0 + u / 4096) ∷ (0x80 + u / 64 % 64) ∷ (0x80 + u % 64) ∷ []
three_bytes u g h = grind (arith, common_steps)

character_slot : (u : ℕ) → u < 0x1_0000 → lane_bytes (first_byte u) (middle_byte u) (last_byte u) ≡ utf8 u
character_slot u fits =
    elim (cases_lt u 0x80) [
      | inl a ↦ one_byte u a ∙ sym (utf8-1 u a)
      | inr a ↦ elim (cases_lt u 0x800) [
        | inl b ↦ two_bytes u a b ∙ sym (utf8-2 u a b)
        | inr b ↦ three_bytes u b fits ∙ sym (utf8-3 u b fits)
      ]
    ]

pub character_code : (p u : ℕ) → u < 0x1_0000 → is_leading_surrogate u ≡ false → is_surrogate u ≡ false → unit_code p u ≡ utf8 u
character_code p u fits e f = rw (e, f) (character_slot u fits)

pub ascii_code : (p u : ℕ) → u < 0x80 → unit_code p u ≡ u ∷ []
ascii_code p u h =
    let e : is_leading_surrogate u ≡ false = grind (arith, common_steps) in
    let f : is_surrogate u ≡ false = grind (arith, common_steps) in
    rw (e, f) (one_byte u h)

pub leading_code : (p u : ℕ) → is_leading_surrogate u ≡ true → unit_code p u ≡ lead_byte u ∷ second_byte u ∷ []
leading_code p u e = grind (arith, common_steps)

trailing_code : (p u : ℕ) → is_trailing_surrogate u ≡ true → unit_code p u ≡ third_byte p u ∷ (0x80 + u % 64) ∷ []
trailing_code p u e = grind (arith, common_steps)

four_bytes : (u v s : ℕ) → pair_value u v ≡ s → lead_byte u ∷ second_byte u ∷ third_byte u v ∷ (0x80 + v % 64) ∷ [] ≡ (0xF0 + s / 262144) ∷ (0x80 + s / 4096 % 64) ∷ (0x80 + s / 64 % 64) ∷ (0x80 + s % 64) ∷ []
four_bytes u v s e =
    let a : lead_byte u ≡ 0xF0 + s / 262144 = omega arith in
    let b : second_byte u ≡ 0x80 + s / 4096 % 64 = omega arith in
    let c : third_byte u v ≡ 0x80 + s / 64 % 64 = omega arith in
    let d : 0x80 + v % 64 ≡ 0x80 + s % 64 = omega arith in
    rw (a, b, c, d) refl

pub pair_code : (p u v : ℕ) → is_leading_surrogate u ≡ true → is_trailing_surrogate v ≡ true → unit_code p u ++ unit_code u v ≡ utf8 (pair_value u v)
pair_code p u v e f =
    ap₂ (λ xs ys. xs ++ ys) (leading_code p u e) (trailing_code u v f) ∙ four_bytes u v (pair_value u v) refl ∙ sym (utf8-4 (pair_value u v) (pair_value-range u v).0)

pub not_both : (u : ℕ) → is_leading_surrogate u ≡ true → is_trailing_surrogate u ≡ true → ⊥
not_both u e f = grind (arith, common_steps)

pub not_true : (b : Bool) → (b ≡ true → ⊥) → b ≡ false
not_true true none = absurd (none refl)
not_true false none = refl
