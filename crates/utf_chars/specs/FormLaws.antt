-- The laws of the three representations of a scalar: a number, bytes, units.
use Rattle.std.specs.Prelude.{◌≡◌, ℕ}
use Rattle.utf_base.specs.Scalar.{IsScalar}
use Rattle.utf_base.specs.Code.{utf8, utf16}
use Rattle.utf_base.specs.Kinds.{value}
use Rattle.utf_base.specs.Units.{unit_value}
use Rattle.utf_chars.specs.Padded.{padded}

-- the bytes or units that a character keeps give its scalar back; so conversion between the two types keeps the
-- scalar, in both directions
pub record FormsKeepTheScalar : Type 0 where
  pub bytes : (s : ℕ) → IsScalar s → value (padded 4 (utf8 s)) ≡ s
  pub units : (s : ℕ) → IsScalar s → unit_value (padded 2 (utf16 s)) ≡ s
