-- Unicode scalar values, the numbers that UTF-8 and UTF-16 encode (RFC 3629, section 3; RFC 2781, section 2).
use Rattle.std.specs.Prelude.{ℕ, ◌<◌, ◌≤◌, List, All}

-- a number from 0 to 0x10ffff that is no surrogate, 0xd800 to 0xdfff
pub record IsScalar (s : ℕ) : Type 0 where
  pub below : s < 0x11_0000
  pub no_surrogate : 0xD800 ≤ s → 0xE000 ≤ s

-- the elements are code units of UTF-16
abbrev pub IsUnits : List ℕ → Type 0
IsUnits xs = All (λ u. u < 0x1_0000) xs
