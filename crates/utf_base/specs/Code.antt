-- The code of a scalar: the elements that encode it, by division and remainder.
use Rattle.std.specs.Prelude.{◌≡◌, ℕ, ◌+◌, ◌-◌, ◌/◌, ◌%◌, ◌<◌, List, [], ◌∷◌, length, slice_index, nat_lt, if◌then◌else◌}
use Rattle.utf_base.specs.Scalar.{IsScalar}

-- one to four bytes (RFC 3629, section 3)
unfoldable pub utf8 : ℕ → List ℕ
utf8 s =
    if nat_lt s 0x80 then s ∷ []
    else if nat_lt s 0x800 then (0xC0 + s / 64) ∷ (0x80 + s % 64) ∷ []
    else if nat_lt s 0x1_0000 then (0xE0 + s / 4096) ∷ (0x80 + s / 64 % 64) ∷ (0x80 + s % 64) ∷ []
    else (0xF0 + s / 262144) ∷ (0x80 + s / 4096 % 64) ∷ (0x80 + s / 64 % 64) ∷ (0x80 + s % 64) ∷ []

-- one unit, or a pair of surrogates (RFC 2781, section 2.1)
unfoldable pub utf16 : ℕ → List ℕ
utf16 s =
    if nat_lt s 0x1_0000 then s ∷ []
    else (0xD800 + (s - 0x1_0000) / 1024) ∷ (0xDC00 + (s - 0x1_0000) % 1024) ∷ []

-- The properties of a code that the laws of cuts need: it is not empty, no element after the first is the
-- first of a code, the first element decides the length, and the whole decides the scalar.
pub record IsCode (code : ℕ → List ℕ) : Type 0 where
  pub some : (s : ℕ) → IsScalar s → 0 < length (code s)
  pub apart : (s t k : ℕ) → IsScalar s → IsScalar t → 0 < k → k < length (code s) → slice_index (code s) k ≡ slice_index (code t) 0 → ⊥
  pub sized : (s t : ℕ) → IsScalar s → IsScalar t → slice_index (code s) 0 ≡ slice_index (code t) 0 → length (code s) ≡ length (code t)
  pub injective : (s t : ℕ) → IsScalar s → IsScalar t → code s ≡ code t → s ≡ t
