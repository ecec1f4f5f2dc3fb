-- The code of a scalar in UTF-8, length by length.
use Rattle.std.proofs.Common.{◌≡◌, ℕ, ◌+◌, ◌/◌, ◌%◌, ◌<◌, ◌≤◌, ◌⊎◌, [], ◌∷◌, length, get_or, arith}
use Rattle.std.proofs.lemmas.Grind.{common_steps}
use Rattle.utf_base.specs.Scalar.{IsScalar}
use Rattle.utf_base.specs.Code.{utf8, IsCode}

pub utf8-1 : (s : ℕ) → s < 0x80 → utf8 s ≡ s ∷ []
unfolding utf8
utf8-1 s h = grind (arith, common_steps)

pub utf8-2 : (s : ℕ) → 0x80 ≤ s → s < 0x800 → utf8 s ≡ (0xC0 + s / 64) ∷ (0x80 + s % 64) ∷ []
unfolding utf8
utf8-2 s g h = grind (arith, common_steps)

pub utf8-3 : (s : ℕ) → 0x800 ≤ s → s < 0x1_0000 → utf8 s ≡ (0xE0 + s / 4096) ∷ (0x80 + s / 64 % 64) ∷ (0x80 + s % 64) ∷ []
unfolding utf8
utf8-3 s g h = grind (arith, common_steps)

pub utf8-4 : (s : ℕ) → 0x1_0000 ≤ s → utf8 s ≡ (0xF0 + s / 262144) ∷ (0x80 + s / 4096 % 64) ∷ (0x80 + s / 64 % 64) ∷ (0x80 + s % 64) ∷ []
unfolding utf8
utf8-4 s g = grind (arith, common_steps)

pub length_utf8 : (s : ℕ) → length (utf8 s) ≤ 4
unfolding utf8
length_utf8 s = grind (arith, common_steps)

-- a byte after the first is a continuation byte
pub utf8-continuation_byte : (s k : ℕ) → IsScalar s → 0 < k → k < length (utf8 s) → (0x80 ≤ get_or (utf8 s) k 0) × (get_or (utf8 s) k 0 < 0xC0)
unfolding utf8
utf8-continuation_byte s k h p q = grind (arith, common_steps)

-- the first byte is not
pub utf8-first : (s : ℕ) → IsScalar s → (get_or (utf8 s) 0 0 < 0x80) ⊎ (0xC2 ≤ get_or (utf8 s) 0 0)
unfolding utf8
utf8-first s h = grind (arith, common_steps)

pub utf8_is_code : IsCode utf8
unfolding utf8
utf8_is_code = record { some = λ s h. grind (arith, common_steps); apart = λ s t k h g p q e. grind (arith, common_steps, utf8-continuation_byte s k h p q, utf8-first t g); sized = λ s t h g e. grind (arith, common_steps); injective = λ s t h g e. grind (arith, common_steps) }

pub ascii_is_scalar : (s : ℕ) → s < 0x80 → IsScalar s
ascii_is_scalar s h = record { below = omega arith; no_surrogate = λ g. absurd (omega arith) }
