-- Transcoding into a buffer of a fixed size.
use Rattle.std.specs.Prelude.{◌≡◌, ℕ, ◌+◌, ◌-◌, ◌*◌, ◌<◌, ◌≤◌, List, ◌++◌, length, take, drop, Vec, vec_len, vec_capacity}
use Rattle.recoding.specs.Recoded.{Reads, written, IsRecoded, Recoding, Feeds}
use Rattle.recoding.specs.NextScalars.{Decides, Ends}
use Rattle.recoding.specs.declared.form.TheConstants.{WIDEST}
use Rattle.recoding.specs.declared.form.Form.{Form}
use Rattle.recoding.specs.TextForms.{text_form}

-- The bytes of the buffer from the first offset to the second became these, and those before them are
-- unchanged. What follows may be anything.
pub record Fills (old new : List ℕ) (from to : ℕ) (bytes : List ℕ) : Type 0 where
  pub ordered : from ≤ to
  pub fits : to ≤ length old
  pub front : take to new ≡ take from old ++ bytes

-- One call of `feed_into`: the bytes of the part that were read were fed, whatever had been written before. The
-- output is at the front of the buffer. What follows it there may be anything.
pub record FeedsInto (r : Recoding) (part old new : List ℕ) (read wrote : ℕ) (s : Recoding) : Type 0 where
  pub within : read ≤ length part
  pub feeds : (out : List ℕ) → Feeds r (take read part) out (out ++ take wrote new) s
  pub fits : wrote ≤ length old

-- how much is left of a part of which some bytes were read: each of the others counts twice, and each carried-over
-- one once
abbrev pub bytes_left : List ℕ → ℕ → Recoding → ℕ
bytes_left part read r = 2 * (length part - read) + length r.held

-- with capacity for one code, each call on some bytes comes nearer to their end
abbrev pub ComesNearer : List ℕ → List ℕ → ℕ → Recoding → Recoding → Type 0
ComesNearer part room read r s = 4 ≤ length room → 0 < length part → bytes_left part read s < bytes_left part 0 r

-- The bytes begin with a scalar and a length for which this holds, and the code of the scalar is longer than
-- the buffer.
pub record BeginsLonger (shows : ℕ → ℕ → Type 0) (to : Form) (room : ℕ) : Type 0 where
  pub scalar : ℕ
  pub len : ℕ
  pub begins : shows scalar len
  pub longer : room < length (written to scalar)

-- The bytes that are left begin with a scalar, whatever follows them, whose code is longer than the buffer.
abbrev pub NextIsTooLong : Form → Form → List ℕ → ℕ → Type 0
NextIsTooLong from to left room = BeginsLonger (Decides (Reads from) left) to room

-- The part was read up to some byte, and the recoder can go no further: the output for the next scalar is
-- longer than the buffer.
abbrev pub IsFull : Recoding → List ℕ → ℕ → ℕ → Type 0
IsFull r part read room = NextIsTooLong r.from r.to (r.held ++ drop read part) room

-- If nothing follows the bytes, they are transcoded to `grown`, followed by the transcoding of the
-- carried-over ones.
abbrev pub Leaves : Form → Form → List ℕ → List ℕ → List ℕ → Type 0
Leaves from to bytes grown held = (rest : List ℕ) → IsRecoded from to held rest → IsRecoded from to bytes (grown ++ rest)

-- One call of `finish_into`: the front of the buffer, followed by the transcoding of the bytes that are carried over
-- now, is the transcoding of those that were carried over. What follows it in the buffer may be anything.
pub record FinishesInto (r : Recoding) (old new : List ℕ) (wrote : ℕ) (s : Recoding) : Type 0 where
  pub leaves : Leaves r.from r.to r.held (take wrote new) s.held
  pub from : s.from ≡ r.from
  pub to : s.to ≡ r.to
  pub few : length s.held ≤ length r.held
  pub fits : wrote ≤ length old

-- The bytes that are left, which nothing follows, begin with a scalar whose code is longer than the buffer.
abbrev pub LastIsTooLong : Form → Form → List ℕ → ℕ → Type 0
LastIsTooLong from to left room = BeginsLonger (Ends (Reads from) left) to room

-- the recoder can go no further at the end: the code for the carried-over bytes, which nothing follows, is
-- longer than the buffer
abbrev pub IsLastFull : Recoding → ℕ → Type 0
IsLastFull r room = LastIsTooLong r.from r.to r.held room

-- The capacity that transcoding needs.

-- the capacity is enough for the output for this number of bytes, whatever the encodings
abbrev pub IsAmple : ℕ → ℕ → Type 0
IsAmple room count = WIDEST * count ≤ room

-- the capacity is enough for the output for the carried-over bytes and a part
abbrev pub IsAmpleFor : ℕ → Recoding → List ℕ → Type 0
IsAmpleFor room r part = IsAmple room (length r.held + length part)

-- the capacity is enough for text of this number of bytes, which at most doubles
abbrev pub IsAmpleForText : ℕ → ℕ → Type 0
IsAmpleForText room count = 2 * count ≤ room

-- the rest of a list's capacity is enough for the output for this number of bytes
abbrev pub HasRoomFor : {Z : Type 0} → Vec ℕ Z → ℕ → Type 0
HasRoomFor out count = vec_len out + WIDEST * count ≤ vec_capacity out

-- the greatest number of bytes written for one byte or unit
abbrev pub widest : Form → ℕ
widest to = (text_form to).widest

-- the number of bytes or units in this number of bytes; half a unit counts as one
abbrev pub parts_of : Form → ℕ → ℕ
parts_of from = (text_form from).parts_of

-- the greatest output size for this number of bytes
abbrev pub most_bytes : Form → Form → ℕ → ℕ
most_bytes from to n = widest to * parts_of from n

-- the output for at most this number of bytes is no longer than that
abbrev pub IsRoomFor : Form → Form → ℕ → ℕ → Type 0
IsRoomFor from to len room = (bytes out : List ℕ) → length bytes ≤ len → IsRecoded from to bytes out → length out ≤ room
