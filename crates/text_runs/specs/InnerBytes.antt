-- Bytes that a code has after its first: every other byte begins a piece.
use Rattle.std.specs.Prelude.{ℕ, zero, suc, ◌+◌, ◌-◌, Bool, not, ◌&&◌, ◌||◌, nat_lt, nat_le, nat_eq, List, drop, Option, Some, None}
use Rattle.utf_base.specs.Kinds.{asked_by, fault_kind, is_continuation}
use Rattle.utf_base.specs.declared.errors.Utf8ErrorKind.{Utf8ErrorKind}

-- the number of bytes after the first of a code of n bytes, if it is no fault
abbrev pub inner_of : Option Utf8ErrorKind → ℕ → ℕ
inner_of None n = n - 1
inner_of (Some kind) n = 0

-- the number of inner bytes of the code that begins the bytes, or 0 if no code does
unfoldable pub inner_after : List ℕ → ℕ
inner_after w = inner_of (fault_kind w) (asked_by w)

-- the number of inner bytes of the codes that begin before an offset
unfoldable pub inner_before : List ℕ → ℕ → ℕ
inner_before xs zero = 0
inner_before xs (suc n) = inner_before xs n + inner_after (drop n xs)

-- two bytes that a code of two bytes or more may begin with (the Unicode standard, table 3-7)
abbrev pub is_begun : ℕ → ℕ → Bool
is_begun a b =
    nat_le 0xC2 a && nat_lt a 0xF5 && is_continuation b
    && (not (nat_eq a 0xE0) || nat_le 0xA0 b) && (not (nat_eq a 0xED) || nat_lt b 0xA0)
    && (not (nat_eq a 0xF0) || nat_le 0x90 b) && (not (nat_eq a 0xF4) || nat_lt b 0x90)

-- four bytes that begin with a code of two bytes or more
abbrev pub is_longer : ℕ → ℕ → ℕ → ℕ → Bool
is_longer a b c d = is_begun a b && (nat_lt a 0xE0 || is_continuation c) && (nat_lt a 0xF0 || is_continuation d)
