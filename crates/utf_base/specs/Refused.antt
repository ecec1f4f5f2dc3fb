-- The numbers of 32 bits that are no scalars (RFC 3629, section 3): two ranges, each with its reason.
use Rattle.std.specs.Prelude.{ℕ, ◌&&◌, nat_lt, nat_le, if◌then◌else◌, Option, Some, None}
use Rattle.utf_base.specs.declared.errors.scalars.CodepointError.{CodepointError}
use Rattle.utf_base.specs.declared.errors.scalars.CodepointError.TheVariants.{Utf16Reserved, TooHigh}

-- the least number that is rejected for this reason
abbrev pub first_refused : CodepointError → ℕ
first_refused Utf16Reserved = 0xD800
first_refused TooHigh = 0x11_0000

-- the greatest number of 32 bits that is rejected for this reason
abbrev pub last_refused : CodepointError → ℕ
last_refused Utf16Reserved = 0xDFFF
last_refused TooHigh = 0xFFFF_FFFF

-- why a number is no scalar, or `None` if it is one
abbrev pub number_fault : ℕ → Option CodepointError
number_fault n =
    if nat_lt 0x10_FFFF n then Some TooHigh
    else if nat_le 0xD800 n && nat_lt n 0xE000 then Some Utf16Reserved
    else None
