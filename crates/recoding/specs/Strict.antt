-- Strict transcoding: of well-formed text, up to the first fault.
use Rattle.std.specs.Prelude.{◌≡◌, ℕ, ◌+◌, ◌-◌, ◌<◌, ◌≤◌, List, [], ◌++◌, length, take, drop, flat_map, All, Option, Some, min}
use Rattle.utf_base.specs.Scalar.{IsScalar}
use Rattle.recoding.specs.Recoded.{Recoding, IsRecoded, most_held, written}
use Rattle.recoding.specs.Rooms.{BeginsLonger}
use Rattle.recoding.specs.NextScalars.{fault_len}
use Rattle.recoding.specs.declared.first_pieces.FirstPiece.{FirstPiece}
use Rattle.recoding.specs.declared.first_pieces.FirstPiece.TheVariants as piece
use Rattle.recoding.specs.declared.form.Form.{Form}
use Rattle.recoding.specs.TextForms.{text_form}
use Rattle.recoding.specs.declared.faults.FaultKind.{FaultKind}
use Rattle.recoding.specs.declared.faults.Fault.{Fault}
use Rattle.recoding.specs.declared.faults.Outcome.{Outcome}
use Rattle.recoding.specs.declared.faults.Outcome.TheVariants.{AllRead, Full, Faulty}
use Rattle.recoding.specs.declared.faults.StrictProgress.{StrictProgress}
use Rattle.recoding.specs.declared.recoder_runs.StrictRun.{StrictRun}

-- The bytes and `out` are the codes of the same scalars, each in its encoding: the bytes are text, and `out`
-- is that text.
pub record Transcodes (from to : Form) (bytes out : List ℕ) : Type 0 where
  pub scalars : List ℕ
  pub all : All IsScalar scalars
  pub codes : bytes ≡ flat_map (written from) scalars
  pub made : out ≡ flat_map (written to) scalars

-- Text is transcoded to the same text, whatever follows it: if a strict call writes something, `feed` writes
-- the same.
abbrev pub TextIsRecoded : Type 0
TextIsRecoded =
    (from to : Form) (text out later rest : List ℕ) → Transcodes from to text out → IsRecoded from to later rest → IsRecoded from to (text ++ later) (out ++ rest)

-- the kind that a decoder gives for bytes that no code begins; half a unit has none
abbrev pub kind_of : Form → List ℕ → Option FaultKind
kind_of from = (text_form from).kind_of

-- the kind if elements are missing
abbrev pub lacking : Form → FaultKind
lacking from = (text_form from).lacking

-- There is no byte, or what follows the bytes decides their kind.
pub record AwaitsKind (from : Form) (bytes : List ℕ) : Type 0 where
  pub kind : kind_of from bytes ≡ Some (lacking from)
  pub few : length bytes ≤ 3

-- the code of the scalar s begins the bytes, and has n of them
pub record BeginsChar (from : Form) (bytes : List ℕ) (s n : ℕ) : Type 0 where
  pub scalar : IsScalar s
  pub some : 0 < n
  pub within : n ≤ length bytes
  pub code : take n bytes ≡ written from s

-- a fault of n bytes begins the bytes, of the kind that a decoder names, whatever follows them
pub record BeginsFault (from : Form) (bytes : List ℕ) (k : FaultKind) (n : ℕ) : Type 0 where
  pub within : n ≤ length bytes
  pub len : n ≡ fault_len from
  pub kind : (later : List ℕ) → kind_of from (bytes ++ later) ≡ Some k

-- a fault of n bytes begins the bytes, if nothing follows them, and half a unit may be all of them
pub record EndsInFault (from : Form) (bytes : List ℕ) (k : FaultKind) (n : ℕ) : Type 0 where
  pub some : 0 < length bytes
  pub len : n ≡ min (fault_len from) (length bytes)
  pub kind : kind_of from bytes ≡ Some k

-- The piece that begins the bytes, whatever follows them.
abbrev pub IsFirstPiece : Form → List ℕ → FirstPiece → Type 0
IsFirstPiece from bytes (piece.Char s n) = BeginsChar from bytes s n
IsFirstPiece from bytes (piece.Fault k n) = BeginsFault from bytes k n
IsFirstPiece from bytes piece.Undecided = AwaitsKind from bytes

-- Bytes that are text were transcoded, and the output was appended.
pub record PutsText {O : Type 0} (appends : O → List ℕ → O → Type 0) (from to : Form) (bytes : List ℕ) (old new : O) (read : ℕ) : Type 0 where
  pub within : read ≤ length bytes
  pub grown : List ℕ
  pub appended : appends old grown new
  pub transcodes : Transcodes from to (take read bytes) grown

-- if the piece is a character, its code is longer than the buffer
abbrev pub IsLonger : Form → ℕ → FirstPiece → Type 0
IsLonger to room (piece.Char s n) = room < length (written to s)
IsLonger to room (piece.Fault k n) = Unit {0}
IsLonger to room piece.Undecided = Unit {0}

-- A run ends at what begins the bytes: at a character only if its code is longer than the buffer.
pub record StopsAt (from to : Form) (bytes : List ℕ) (room : ℕ) (first : FirstPiece) : Type 0 where
  pub begins : IsFirstPiece from bytes first
  pub longer : IsLonger to room first

-- A call ended before a character whose code is longer than the buffer.
abbrev pub IsTooLong : Form → Form → List ℕ → ℕ → Type 0
IsTooLong from to left room = BeginsLonger (BeginsChar from left) to room

-- the description that the caller gets of a fault: its length, and the number of bytes carried over after it
pub record LocatesFault (f : Fault) (count held : ℕ) : Type 0 where
  pub len : f.len ≡ count
  pub back : f.back ≡ count + held

-- Why a call of `feed_strict_into` ended, by the bytes of the fault, the carried-over ones, those that were not read,
-- and the capacity that is left: all was read, and what follows decides the carried-over ones; or there is no
-- capacity; or a fault begins there, whatever follows the part.
abbrev pub EndsFeed : Form → Form → Outcome → List ℕ → List ℕ → List ℕ → ℕ → Type 0
EndsFeed from to AllRead fault held rest room = (fault ≡ []) × (rest ≡ []) × AwaitsKind from held
EndsFeed from to Full fault held rest room = (fault ≡ []) × IsTooLong from to (held ++ rest) room
EndsFeed from to (Faulty f) fault held rest room =
    BeginsFault from (fault ++ (held ++ rest)) f.kind (length fault) × LocatesFault f (length fault) (length held)

-- One call of `feed_strict_into`: the carried-over bytes and the part are text, which is transcoded at the front of
-- the buffer, then a fault, if the call ended at one, then the bytes that are carried over now, and those that were
-- not read. What follows in the buffer may be anything.
pub record FeedsStrictly (r : Recoding) (part old new : List ℕ) (p : StrictProgress) (s : Recoding) : Type 0 where
  pub text : List ℕ
  pub fault : List ℕ
  pub parts : r.held ++ part ≡ text ++ (fault ++ (s.held ++ drop p.read part))
  pub transcodes : Transcodes r.from r.to text (take p.written new)
  pub fits : p.written ≤ length old
  pub ends : EndsFeed r.from r.to p.outcome fault s.held (drop p.read part) (length old - p.written)
  pub within : p.read ≤ length part
  pub from : s.from ≡ r.from
  pub to : s.to ≡ r.to
  pub replaced : s.replaced ≡ r.replaced
  pub few : length s.held ≤ most_held

-- The bytes that a run left of the carried-over ones and a part: a fault, and bytes that are carried over; the
-- number of bytes read is given.
pub record EndsRun (r : Recoding) (part : List ℕ) (run : StrictRun) (ended : ℕ × Outcome) (s : Recoding) : Type 0 where
  pub fault : List ℕ
  pub left : drop run.read (r.held ++ part) ≡ fault ++ (s.held ++ drop ended.0 part)
  pub ends : (room : ℕ) → IsLonger r.to room run.first → EndsFeed r.from r.to ended.1 fault s.held (drop ended.0 part) room
  pub within : ended.0 ≤ length part
  pub same : s ≡ record (r) { held = s.held }
  pub few : length s.held ≤ most_held

-- Why a call of `finish_strict_into` ended: the carried-over bytes end the input, and too few bytes are a
-- fault.
abbrev pub EndsFinish : Form → Form → Outcome → List ℕ → List ℕ → ℕ → Type 0
EndsFinish from to AllRead fault held room = (fault ≡ []) × (held ≡ [])
EndsFinish from to Full fault held room = (fault ≡ []) × IsTooLong from to held room
EndsFinish from to (Faulty f) fault held room = EndsInFault from (fault ++ held) f.kind (length fault) × LocatesFault f (length fault) (length held)

-- One call of `finish_strict_into`: the carried-over bytes are text, which is transcoded at the front of the buffer,
-- then a fault, if the call ended at one, then the bytes that are carried over now.
pub record FinishesStrictly (r : Recoding) (old new : List ℕ) (p : StrictProgress) (s : Recoding) : Type 0 where
  pub text : List ℕ
  pub fault : List ℕ
  pub parts : r.held ≡ text ++ (fault ++ s.held)
  pub transcodes : Transcodes r.from r.to text (take p.written new)
  pub fits : p.written ≤ length old
  pub ends : EndsFinish r.from r.to p.outcome fault s.held (length old - p.written)
  pub from : s.from ≡ r.from
  pub to : s.to ≡ r.to
  pub replaced : s.replaced ≡ r.replaced
  pub few : length s.held ≤ length r.held
