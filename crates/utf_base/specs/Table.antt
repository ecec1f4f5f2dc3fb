-- The table of byte classes and states by which bytes in UTF-8 are decoded one by one (RFC 3629, section 4).
use Rattle.std.specs.Prelude.{ℕ, zero, suc, Bool, true, false, nat_lt, ◌==◌, if◌then◌else◌, List, length, slice_index, Option, Some, None, ◌≡◌}
use Rattle.utf_base.specs.declared.errors.Utf8ErrorKind.{Utf8ErrorKind}
use Rattle.utf_base.specs.declared.errors.Utf8ErrorKind.TheVariants.{TooFewBytes, NonUtf8Byte, UnexpectedContinuationByte, InterruptedSequence, OverlongEncoding, Utf16ReservedCodepoint, TooHighCodepoint}
use Rattle.utf_base.specs.Kinds.{merger_kind}
use Rattle.utf_base.specs.declared.table.State.{State}
use Rattle.utf_base.specs.declared.table.State.TheVariants.{Start, OneMore, TwoMore, ThreeMore, AfterE0, AfterEd, AfterF0, AfterF4, TwoMoreOverlong, OneMoreOverlong, OneMoreReserved, TwoMoreTooHigh, OneMoreTooHigh, Done, Unexpected, Never, Interrupted, Overlong, Reserved, TooHigh}

-- the class of a byte
unfoldable pub class : ℕ → ℕ
class b =
    if nat_lt b 0x80 then 0
    else if nat_lt b 0x90 then 1
    else if nat_lt b 0xA0 then 2
    else if nat_lt b 0xC0 then 3
    else if nat_lt b 0xC2 then 4
    else if nat_lt b 0xE0 then 5
    else if b == 0xE0 then 6
    else if b == 0xED then 8
    else if nat_lt b 0xF0 then 7
    else if b == 0xF0 then 9
    else if nat_lt b 0xF4 then 10
    else if b == 0xF4 then 11
    else 4

-- the index of each state, which is its row in the table if it has one, and the number of bytes it asks for: none at
-- an end, and unknown at the start
abbrev pub place_and_missing : State → ℕ × ℕ
place_and_missing Start = (0, 0)
place_and_missing OneMore = (1, 1)
place_and_missing TwoMore = (2, 2)
place_and_missing ThreeMore = (3, 3)
place_and_missing AfterE0 = (4, 2)
place_and_missing AfterEd = (5, 2)
place_and_missing AfterF0 = (6, 3)
place_and_missing AfterF4 = (7, 3)
place_and_missing TwoMoreOverlong = (8, 2)
place_and_missing OneMoreOverlong = (9, 1)
place_and_missing OneMoreReserved = (10, 1)
place_and_missing TwoMoreTooHigh = (11, 2)
place_and_missing OneMoreTooHigh = (12, 1)
place_and_missing Done = (13, 0)
place_and_missing Unexpected = (14, 0)
place_and_missing Never = (15, 0)
place_and_missing Interrupted = (16, 0)
place_and_missing Overlong = (17, 0)
place_and_missing Reserved = (18, 0)
place_and_missing TooHigh = (19, 0)

abbrev pub row : State → ℕ
row state = (place_and_missing state).0

abbrev pub missing : State → ℕ
missing state = (place_and_missing state).1

-- the state asks for a byte, so it has a row; the others are ends
abbrev pub is_running : State → Bool
is_running state = nat_lt (row state) 13

-- the state after a first byte
abbrev pub begun : ℕ → State
begun c =
    if c == 0 then Done
    else if nat_lt c 4 then Unexpected
    else if c == 4 then Never
    else if c == 5 then OneMore
    else if c == 6 then AfterE0
    else if c == 7 then TwoMore
    else if c == 8 then AfterEd
    else if c == 9 then AfterF0
    else if c == 10 then ThreeMore
    else AfterF4

-- the state after one more byte: those after the three classes of continuation bytes are given
abbrev pub continued : State → State → State → ℕ → State
continued one two three c = if c == 1 then one else if c == 2 then two else if c == 3 then three else Interrupted

-- the state after one more byte, if all continuation bytes lead to one state
abbrev pub continued_to : State → ℕ → State
continued_to state = continued state state state

-- the state after a byte of the class; an end has none
unfoldable pub next_state : State → ℕ → State
next_state Start c = begun c
next_state OneMore c = continued_to Done c
next_state TwoMore c = continued_to OneMore c
next_state ThreeMore c = continued_to TwoMore c
next_state AfterE0 c = continued OneMoreOverlong OneMoreOverlong OneMore c
next_state AfterEd c = continued OneMore OneMore OneMoreReserved c
next_state AfterF0 c = continued TwoMoreOverlong TwoMore TwoMore c
next_state AfterF4 c = continued TwoMore TwoMoreTooHigh TwoMoreTooHigh c
next_state TwoMoreOverlong c = continued_to OneMoreOverlong c
next_state OneMoreOverlong c = continued_to Overlong c
next_state OneMoreReserved c = continued_to Reserved c
next_state TwoMoreTooHigh c = continued_to OneMoreTooHigh c
next_state OneMoreTooHigh c = continued_to TooHigh c
next_state ended c = ended

-- the state after the first k bytes
abbrev pub state_after : List ℕ → ℕ → State
state_after w zero = Start
state_after w (suc k) = next_state (state_after w k) (class (slice_index w k))

-- the fault of bytes that led to the state, if no more follow
abbrev pub fault_of : State → Option Utf8ErrorKind
fault_of Done = None
fault_of Unexpected = Some UnexpectedContinuationByte
fault_of Never = Some NonUtf8Byte
fault_of Interrupted = Some InterruptedSequence
fault_of Overlong = Some OverlongEncoding
fault_of Reserved = Some Utf16ReservedCodepoint
fault_of TooHigh = Some TooHighCodepoint
fault_of running = Some TooFewBytes

-- the end after a first byte that begins no code
abbrev pub is_first_fault : State → Bool
is_first_fault Unexpected = true
is_first_fault Never = true
is_first_fault state = false

-- an end state after a first byte that asks for others, other than that of a code
abbrev pub is_later_fault : State → Bool
is_later_fault Interrupted = true
is_later_fault Overlong = true
is_later_fault Reserved = true
is_later_fault TooHigh = true
is_later_fault state = false

-- the state after all of some bytes determines their kind for a merger
abbrev pub WalkTellsTheKind : Type 0
WalkTellsTheKind = (w : List ℕ) → merger_kind w ≡ fault_of (state_after w (length w))
