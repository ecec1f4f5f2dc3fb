-- The output for bytes in each way of replacing, and the piece that begins them.
use Rattle.std.specs.Prelude.{◌≡◌, ℕ, ◌+◌, ◌-◌, ◌*◌, ◌<◌, ◌≤◌, Bool, false, true, List, ◌++◌, length, min, take, drop, IsTrue, IsFalse, Option, Some, None, [], Vec}
use Rattle.recoding.specs.declared.form.Form.{Form}
use Rattle.recoding.specs.declared.next_scalar.ShownPiece.{ShownPiece}
use Rattle.recoding.specs.declared.next_scalar.ShownPiece.TheVariants as piece
use Rattle.recoding.specs.declared.way.Way.{Way}
use Rattle.recoding.specs.declared.way.Way.TheVariants.{Faults, Subparts, Table}
use Rattle.recoding.specs.Faults.{CountsTo, fault_count, saturated}
use Rattle.recoding.specs.Lossy.{ReadsParts}
use Rattle.recoding.specs.LossyBytes.{lossy}
use Rattle.recoding.specs.NextScalars.{Decides, Ends, Leads, LeadsLast, fault_len, utf16_form}
use Rattle.recoding.specs.Outputs.{Extends}
use Rattle.recoding.specs.declared.engine.Reached.{Reached}
use Rattle.recoding.specs.declared.form.TheConstants.{WIDEST}
use Rattle.recoding.specs.declared.rooms.Progress.{Progress}
use Rattle.recoding.specs.Recoded.{Lacks, Reads, Recoding, most_held, written}
use Rattle.recoding.specs.RecodedBytes.{recoded}
use Rattle.recoding.specs.Repaired.{ReadsBy, repaired}
use Rattle.recoding.specs.Rooms.{BeginsLonger, parts_of}
use Rattle.recoding.specs.RepairTables.{char_for}
use Rattle.recoding.specs.TextForms.{text_form}

-- the scalars of the bytes in this way of replacing
abbrev pub reads_by : Way → Form → List ℕ → List ℕ → Type 0
reads_by Faults = Reads
reads_by Subparts = ReadsParts
reads_by (Table t) = ReadsBy t.chars.now

-- the transcoded bytes in this way of replacing, as one list
abbrev pub list_by : Way → Form → Form → List ℕ → List ℕ
list_by Faults = recoded
list_by Subparts = lossy
list_by (Table t) = repaired t.chars.now

-- each maximal subpart is replaced, and not each fault
abbrev pub joins : Way → Bool
joins Faults = false
joins Subparts = true
joins (Table t) = false

-- what replaces an invalid byte of UTF-8
abbrev pub byte_shown : Way → ℕ → Option ℕ
byte_shown Faults byte = Some 0xFFFD
byte_shown Subparts byte = Some 0xFFFD
byte_shown (Table t) byte = char_for t.chars.now byte

-- what replaces the fault that begins the bytes
abbrev pub replaced_by : Way → Form → List ℕ → Option ℕ
replaced_by Faults from bytes = Some 0xFFFD
replaced_by Subparts from bytes = Some 0xFFFD
replaced_by (Table t) from bytes = (text_form from).repaired_fault t.chars.now bytes

-- U+FFFD replaces a lone surrogate
abbrev pub ReplacesUnits : Way → Type 0
ReplacesUnits way = (high_first : Bool) (bytes : List ℕ) → replaced_by way (utf16_form high_first) bytes ≡ Some 0xFFFD

-- the code of a character, or nothing
abbrev pub code_of : Form → Option ℕ → List ℕ
code_of to None = []
code_of to (Some s) = written to s

-- there is a character, and its code is longer than the buffer
abbrev pub CodeIsLonger : Form → Option ℕ → ℕ → Type 0
CodeIsLonger to None room = ⊥
CodeIsLonger to (Some s) room = room < length (written to s)

-- Whatever follows the bytes, they become `grown`, followed by what the carried-over ones become before what follows.
-- The number of faults that were replaced is given.
pub record Becomes (way : Way) (from to : Form) (bytes grown : List ℕ) (faults : ℕ) (held : List ℕ) : Type 0 where
  pub same : (later : List ℕ) → list_by way from to (bytes ++ later) ≡ grown ++ list_by way from to (held ++ later)
  pub counts : CountsTo from bytes faults held

-- The bytes begin with n bytes that show this scalar, or nothing, and are so many faults, whatever follows.
pub record BeginsBy (way : Way) (from : Form) (w : List ℕ) (c : Option ℕ) (n faults : ℕ) : Type 0 where
  pub leads : Leads (reads_by way from) w c n
  pub few : faults ≤ n
  pub counts : CountsTo from w faults (drop n w)

-- The bytes begin with n bytes that show this scalar, or nothing, and are so many faults, if nothing follows.
pub record BeginsLast (way : Way) (from : Form) (w : List ℕ) (c : Option ℕ) (n faults : ℕ) : Type 0 where
  pub leads : LeadsLast (reads_by way from) w c n
  pub few : faults ≤ n
  pub counts : fault_count from w ≡ faults + fault_count from (drop n w)

-- a piece that begins the bytes, whatever follows; one that is replaced is a fault for each byte, or each unit
abbrev pub IsNext : Way → Form → List ℕ → ShownPiece → Type 0
IsNext way from w (piece.Char s n) = BeginsBy way from w (Some s) n 0
IsNext way from w (piece.Fault n) = BeginsBy way from w (replaced_by way from w) n (parts_of from n)

-- the number of bytes that are replaced together if they are too few and nothing follows: those of a fault, or
-- all of them, which are one subpart
abbrev pub len_at_end : Way → Form → ℕ → ℕ
len_at_end Faults from count = min (fault_len from) count
len_at_end Subparts from count = count
len_at_end (Table t) from count = min (fault_len from) count

-- The bytes that are left begin with this piece, whatever follows them, and the code of its scalar is longer
-- than the buffer.
abbrev pub NextIsLonger : Way → Form → Form → List ℕ → ℕ → Type 0
NextIsLonger way from to left room = BeginsLonger (Decides (reads_by way from) left) to room

-- a recoder, after the bytes that were read, can go no further: the code of the next scalar is longer than
-- the buffer
abbrev pub IsFullBy : Way → Recoding → List ℕ → ℕ → ℕ → Type 0
IsFullBy way r part read room = NextIsLonger way r.from r.to (r.held ++ drop read part) room

-- a recoder can go no further at the end: the code for the carried-over bytes is longer than the buffer
abbrev pub IsLastFullBy : Way → Recoding → ℕ → Type 0
IsLastFullBy way r room = BeginsLonger (Ends (reads_by way r.from) r.held) r.to room

-- Definitions for any type of output.

-- Bytes were transcoded that the three that follow them decide, and no others; their faults were counted, and the
-- output for both was appended. At most three bytes were written for each byte, and at most one fault counted.
pub record Recodes {O : Type 0} (appends : O → List ℕ → O → Type 0) (way : Way) (from to : Form) (bytes : List ℕ) (old new : O) (read faults : ℕ) : Type 0 where
  pub grown : List ℕ
  pub appended : appends old grown new
  pub within : read ≤ length bytes
  pub short : length grown ≤ WIDEST * read
  pub few : faults ≤ read
  pub becomes : Becomes way from to (take (read + 3) bytes) grown faults (take 3 (drop read bytes))

-- The bytes of a list after the written ones became these; a list and the offset after what was written.
pub record FillsPlace (old : List ℕ × ℕ) (bytes : List ℕ) (new : List ℕ × ℕ) : Type 0 where
  pub whole : length new.0 ≡ length old.0
  pub fits : new.1 ≤ length new.0
  pub len : new.1 ≡ old.1 + length bytes
  pub front : take new.1 new.0 ≡ take old.1 old.0 ++ bytes

-- a list, and the number of bytes at its front that are written
abbrev pub at_place : List ℕ → ℕ → List ℕ × ℕ
at_place xs n = (xs, n)

-- The end of a run: bytes were transcoded and faults replaced as it returns, and it ended before a code for which
-- there is no capacity, or since what follows decides, or for neither reason.
pub record Reaches {O : Type 0} (appends : O → List ℕ → O → Type 0) (room : O → ℕ) (way : Way) (from to : Form) (bytes : List ℕ) (old new : O) (reached : Reached) : Type 0 where
  pub runs : Recodes appends way from to bytes old new reached.read reached.replaced
  pub full : IsTrue reached.is_full → NextIsLonger way from to (drop reached.read bytes) (room new)
  pub short : IsTrue reached.is_full → room new < 4
  pub waits : IsTrue reached.is_waiting → length bytes ≤ reached.read + 3
  pub lacks : IsTrue reached.is_waiting → Lacks from (drop reached.read bytes)

-- The part was read up to some byte, after the carried-over bytes; faults were replaced, which are not counted yet,
-- and some bytes are carried over.
pub record Takes {O : Type 0} (appends : O → List ℕ → O → Type 0) (way : Way) (r : Recoding) (part : List ℕ) (old new : O) (read faults : ℕ) (s : Recoding) : Type 0 where
  pub grown : List ℕ
  pub appended : appends old grown new
  pub within : read ≤ length part
  pub short : length grown + WIDEST * length s.held ≤ WIDEST * (length r.held + read)
  pub fewer : faults + length s.held ≤ length r.held + read
  pub becomes : Becomes way r.from r.to (r.held ++ take read part) grown faults s.held
  pub from : s.from ≡ r.from
  pub to : s.to ≡ r.to
  pub replaced : s.replaced ≡ r.replaced
  pub few : length s.held ≤ most_held

-- The carried-over bytes at the end were transcoded; faults were replaced, which are not counted yet.
pub record TakesLast {O : Type 0} (appends : O → List ℕ → O → Type 0) (way : Way) (r : Recoding) (old new : O) (faults : ℕ) (s : Recoding) : Type 0 where
  pub grown : List ℕ
  pub appended : appends old grown new
  pub short : length grown + WIDEST * length s.held ≤ WIDEST * length r.held
  pub fewer : faults + length s.held ≤ length r.held
  pub same : list_by way r.from r.to r.held ≡ grown ++ list_by way r.from r.to s.held
  pub counts : fault_count r.from r.held ≡ faults + fault_count r.from s.held
  pub from : s.from ≡ r.from
  pub to : s.to ≡ r.to
  pub replaced : s.replaced ≡ r.replaced

-- a part was taken whole, to the end of a list, and the faults were counted
abbrev pub TakesAll : {Z : Type 0} → Recoding → List ℕ → Vec ℕ Z → Vec ℕ Z → Recoding → Type 0
TakesAll r part old new s =
    (n : ℕ) × (t : Recoding) × Takes Extends Faults r part old new (length part) n t × Lacks r.from t.held
    × (s ≡ record t { replaced = saturated (t.replaced + n) })

-- A part was taken into a buffer of a fixed size, after the written bytes of the old one: to its end, or to a character
-- that does not fit. The faults are not counted yet.
pub record TakesPart (way : Way) (r : Recoding) (part : List ℕ) (old : List ℕ × ℕ) (new : List ℕ) (done : Progress) (s : Recoding) : Type 0 where
  pub takes : Takes FillsPlace way r part old (at_place new done.written) done.read done.replaced s
  pub full : IsTrue done.is_full → IsFullBy way s part done.read (length old.0 - done.written)
  pub short : IsTrue done.is_full → length old.0 < done.written + 4
  pub read : IsFalse done.is_full → done.read ≡ length part
  pub waits : IsFalse done.is_full → Lacks r.from s.held
