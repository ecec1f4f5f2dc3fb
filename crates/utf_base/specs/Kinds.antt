-- The faults of bytes that no code begins (RFC 3629, sections 3 and 4).
use Rattle.std.specs.Prelude.{ℕ, ◌+◌, ◌-◌, ◌*◌, Bool, not, ◌&&◌, ◌||◌, nat_lt, nat_le, ◌==◌, if◌then◌else◌, List, length, slice_index, Option, Some, None}
use Rattle.utf_base.specs.declared.errors.Utf8ErrorKind.{Utf8ErrorKind}
use Rattle.utf_base.specs.declared.errors.Utf8ErrorKind.TheVariants.{TooFewBytes, NonUtf8Byte, UnexpectedContinuationByte, InterruptedSequence, OverlongEncoding, Utf16ReservedCodepoint, TooHighCodepoint}

-- a continuation byte, 0x80 to 0xbf
abbrev pub is_continuation : ℕ → Bool
is_continuation b = nat_le 0x80 b && nat_lt b 0xC0

-- the length in bytes of a code that begins with this byte, or 0 if no code does
unfoldable pub asked : ℕ → ℕ
asked b =
    if nat_lt b 0x80 then 1
    else if nat_lt b 0xC2 then 0
    else if nat_lt b 0xE0 then 2
    else if nat_lt b 0xF0 then 3
    else if nat_lt b 0xF5 then 4
    else 0

-- the number of bytes that the first of them asks for
abbrev pub asked_by : List ℕ → ℕ
asked_by w = asked (slice_index w 0)

-- the payload bits of the continuation byte at k
abbrev pub payload : List ℕ → ℕ → ℕ
payload w k = slice_index w k - 0x80

-- the payloads of the bytes that are asked for, each times its power of 64, added up
unfoldable pub value : List ℕ → ℕ
value w =
    if asked_by w == 1 then slice_index w 0
    else if asked_by w == 2 then (slice_index w 0 - 0xC0) * 64 + payload w 1
    else if asked_by w == 3 then (slice_index w 0 - 0xE0) * 4096 + payload w 1 * 64 + payload w 2
    else (slice_index w 0 - 0xF0) * 262144 + payload w 1 * 4096 + payload w 2 * 64 + payload w 3

-- the least value that needs n bytes, if the first byte does not guarantee it
unfoldable pub least_value : ℕ → ℕ
least_value n = if n == 4 then 0x1_0000 else if n == 3 then 0x800 else 0

-- the byte at k is a continuation byte, or the first byte does not ask for it
abbrev pub continues_at : List ℕ → ℕ → Bool
continues_at w k = nat_le (asked_by w) k || is_continuation (slice_index w k)

-- each byte that the first one asks for is a continuation byte
abbrev pub all_continue : List ℕ → Bool
all_continue w = continues_at w 1 && continues_at w 2 && continues_at w 3

-- the fault of only the value
abbrev pub value_fault : List ℕ → Option Utf8ErrorKind
value_fault w =
    if nat_lt (value w) (least_value (asked_by w)) then Some OverlongEncoding
    else if nat_le 0xD800 (value w) && nat_lt (value w) 0xE000 then Some Utf16ReservedCodepoint
    else if nat_lt 0x10_FFFF (value w) then Some TooHighCodepoint
    else None

-- the forward kind: the first case that applies, or `None` if a code begins the bytes
unfoldable pub fault_kind : List ℕ → Option Utf8ErrorKind
fault_kind w =
    if length w == 0 then Some TooFewBytes
    else if is_continuation (slice_index w 0) then Some UnexpectedContinuationByte
    else if asked_by w == 0 then Some NonUtf8Byte
    else if nat_lt (length w) (asked_by w) then Some TooFewBytes
    else if not (all_continue w) then Some InterruptedSequence
    else value_fault w

-- the byte at k is there and is asked for by the first one, and is no continuation byte
abbrev pub breaks_at : List ℕ → ℕ → Bool
breaks_at w k = nat_lt k (length w) && not (continues_at w k)

-- some byte that the first one asks for is there, and is no continuation byte
abbrev pub is_broken : List ℕ → Bool
is_broken w = breaks_at w 1 || breaks_at w 2 || breaks_at w 3

-- the kind of a merger, which reads a byte at a time: it sees a byte that breaks a code before it sees that others are missing
unfoldable pub merger_kind : List ℕ → Option Utf8ErrorKind
merger_kind w = if is_broken w then Some InterruptedSequence else fault_kind w

-- the backward kind of a byte from 0x80 on that no code ends with: the fault of that byte as a list of its
-- own
unfoldable pub back_kind : ℕ → Utf8ErrorKind
back_kind b =
    if is_continuation b then UnexpectedContinuationByte
    else if asked b == 0 then NonUtf8Byte
    else TooFewBytes
