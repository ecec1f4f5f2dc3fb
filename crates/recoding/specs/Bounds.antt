-- Upper bounds of the output size, and what fits into a buffer of a fixed size, as laws.
use Rattle.std.specs.Prelude.{◌≡◌, ℕ, ◌-◌, ◌*◌, ◌≤◌, List, ◌++◌, length, take}
use Rattle.recoding.specs.declared.form.Form.{Form}
use Rattle.recoding.specs.declared.form.Form.TheVariants.{Utf8}
use Rattle.recoding.specs.declared.form.TheConstants.{WIDEST}
use Rattle.recoding.specs.Recoded.{Recoding, IsRecoded}
use Rattle.recoding.specs.RecodedBytes.{recoded}
use Rattle.recoding.specs.Rooms.{FeedsInto, FinishesInto, IsFull, IsLastFull, most_bytes}

-- transcoded bytes are at most as long as `room_for` returns
abbrev pub RecodedIsBounded : Type 0
RecodedIsBounded = (from to : Form) (bytes out : List ℕ) → IsRecoded from to bytes out → length out ≤ most_bytes from to (length bytes)

-- transcoded bytes are at most `widest` times as long as their input
abbrev pub RecodedIsShort : Type 0
RecodedIsShort = (from to : Form) (bytes : List ℕ) → length (recoded from to bytes) ≤ WIDEST * length bytes

-- a lossy text is at most three times as long as its bytes
abbrev pub LossyIsBounded : Type 0
LossyIsBounded = (bytes out : List ℕ) → IsRecoded Utf8 Utf8 bytes out → length out ≤ most_bytes Utf8 Utf8 (length bytes)

-- the whole output for the bytes fits into this capacity
abbrev pub HasRoom : Form → Form → List ℕ → ℕ → Type 0
HasRoom from to bytes room = (out : List ℕ) → IsRecoded from to bytes out → length out ≤ room

-- if all of it fits, `feed_into` is not full
abbrev pub FeedsInRoom : Type 0
FeedsInRoom =
    (r s : Recoding) (part old new : List ℕ) (read wrote : ℕ) → FeedsInto r part old new read wrote s → length new ≡ length old
    → HasRoom r.from r.to (r.held ++ part) (length old) → ¬ IsFull s part read (length old - wrote)

-- after `feed_into`, enough capacity is left for what the carried-over bytes become
abbrev pub RoomIsLeft : Type 0
RoomIsLeft =
    (r s : Recoding) (part old new : List ℕ) (read wrote : ℕ) → FeedsInto r part old new read wrote s → length new ≡ length old
    → HasRoom r.from r.to (r.held ++ take read part) (length old) → HasRoom s.from s.to s.held (length old - wrote)

-- if the whole output fits, `finish_into` is not full
abbrev pub FinishesInRoom : Type 0
FinishesInRoom =
    (r s : Recoding) (old new : List ℕ) (wrote : ℕ) → FinishesInto r old new wrote s → length new ≡ length old
    → HasRoom r.from r.to r.held (length old) → ¬ IsLastFull s (length old - wrote)
