-- Bytes of one encoding transcoded to another, with what a table has for each fault, as one list, and the effect of calls
-- on it.
use Rattle.std.specs.Prelude.{◌≡◌, ◌↔◌, ℕ, ◌≤◌, List, [], ◌∷◌, ◌++◌, length, take, drop, flat_map, replicate}
use Rattle.std.specs.List.{concat}
use Rattle.recoding.specs.declared.form.Form.{Form}
use Rattle.recoding.specs.TextForms.{text_form}
use Rattle.recoding.specs.Faults.{fault_count}
use Rattle.recoding.specs.NextScalars.{Decides, Ends}
use Rattle.recoding.specs.Recoded.{Recoding, fresh, most_held, written}
use Rattle.recoding.specs.RecodedBytes.{recoded}
use Rattle.recoding.specs.Rooms.{BeginsLonger}
use Rattle.recoding.specs.Strict.{Transcodes}

-- ss is the list of scalars of the bytes as text of that encoding, if each fault becomes what the table has for it
abbrev pub ReadsBy : List ℕ → Form → List ℕ → List ℕ → Type 0
ReadsBy table from = (text_form from).repairs table

-- `out` is the codes of the scalars of the bytes
abbrev pub IsRepaired : List ℕ → Form → Form → List ℕ → List ℕ → Type 0
IsRepaired table from to bytes out = (ss : List ℕ) × ReadsBy table from bytes ss × (out ≡ flat_map (written to) ss)

-- the scalars of bytes as text of that encoding
unfoldable pub shown_by_table : List ℕ → Form → List ℕ → List ℕ
shown_by_table table from bytes = ((text_form from).repairs_some table bytes).0

-- the codes of these scalars: what the bytes become
unfoldable pub repaired : List ℕ → Form → Form → List ℕ → List ℕ
repaired table from to bytes = flat_map (written to) (shown_by_table table from bytes)

-- The output of a recoder.

-- the final contents of an output that now has `out`, if only these bytes are fed and the recoder is finished, both with
-- this table
unfoldable pub repaired_outcome : List ℕ → Recoding → List ℕ → List ℕ → List ℕ
repaired_outcome table r out later = out ++ repaired table r.from r.to (r.held ++ later)

-- a part was fed: whatever follows it, the final contents are those for the part and then what follows
abbrev pub KeepsRepaired : List ℕ → Recoding → List ℕ → List ℕ → List ℕ → Recoding → Type 0
KeepsRepaired table r old part new s = (later : List ℕ) → repaired_outcome table s new later ≡ repaired_outcome table r old (part ++ later)

-- the bytes were written for the part, whatever the output had: the final contents are those for the part and
-- then what follows
abbrev pub AddsRepaired : List ℕ → Recoding → List ℕ → List ℕ → Recoding → Type 0
AddsRepaired table r part made s = (out : List ℕ) → KeepsRepaired table r out part (out ++ made) s

-- the bytes were written at the end, and the rest of the final contents is still to be written
abbrev pub AddsLastRepaired : List ℕ → Recoding → List ℕ → Recoding → Type 0
AddsLastRepaired table r made s = (out : List ℕ) → repaired_outcome table s (out ++ made) [] ≡ repaired_outcome table r out []

-- the bytes are all that was written at the end
abbrev pub AddsAllRepaired : List ℕ → Recoding → List ℕ → Type 0
AddsAllRepaired table r made = (out : List ℕ) → out ++ made ≡ repaired_outcome table r out []

-- One call of `feed_repaired_into`: the part was read up to some byte, and some bytes are carried over. The output is at
-- the front of the buffer. What follows it there may be anything.
pub record FeedsRepaired (table : List ℕ) (r : Recoding) (part old new : List ℕ) (read wrote : ℕ) (s : Recoding) : Type 0 where
  pub within : read ≤ length part
  pub adds : AddsRepaired table r (take read part) (take wrote new) s
  pub from : s.from ≡ r.from
  pub to : s.to ≡ r.to
  pub few : length s.held ≤ most_held
  pub fits : wrote ≤ length old

-- One call of `finish_repaired_into`.
pub record FinishesRepaired (table : List ℕ) (r : Recoding) (old new : List ℕ) (wrote : ℕ) (s : Recoding) : Type 0 where
  pub adds : AddsLastRepaired table r (take wrote new) s
  pub from : s.from ≡ r.from
  pub to : s.to ≡ r.to
  pub few : length s.held ≤ length r.held
  pub fits : wrote ≤ length old

-- The part was read up to some byte, and the recoder can go no further: the code of the next character is longer than the
-- buffer.
abbrev pub IsFullRepaired : List ℕ → Recoding → List ℕ → ℕ → ℕ → Type 0
IsFullRepaired table r part read room = BeginsLonger (Decides (ReadsBy table r.from) (r.held ++ drop read part)) r.to room

-- the recoder can go no further at the end: the code for the carried-over bytes, which nothing follows, is
-- longer than the buffer
abbrev pub IsLastFullRepaired : List ℕ → Recoding → ℕ → Type 0
IsLastFullRepaired table r room = BeginsLonger (Ends (ReadsBy table r.from) r.held) r.to room

-- The laws.

-- bytes become that list, and no other
abbrev pub RepairedIsOne : Type 0
RepairedIsOne = (table : List ℕ) (from to : Form) (bytes out : List ℕ) → IsRepaired table from to bytes out ↔ (out ≡ repaired table from to bytes)

-- The parts of an input are fed one after another, and then the recoder is finished: each step keeps the final
-- contents.
abbrev pub RepairsEach : List ℕ → Recoding → List (List ℕ) → List ℕ → List ℕ → Type 0
RepairsEach table r [] old new = new ≡ repaired_outcome table r old []
RepairsEach table r (part ∷ parts) old new = (s : Recoding) × (mid : List ℕ) × KeepsRepaired table r old part mid s × RepairsEach table s parts mid new

-- the output for some parts is that for the joined parts, however they are cut
abbrev pub RepairedPartsAreOne : Type 0
RepairedPartsAreOne =
    (table : List ℕ) (from to : Form) (parts : List (List ℕ)) (out : List ℕ)
    → RepairsEach table (fresh from to) parts [] out → out ≡ repaired table from to (concat parts)

-- text stays the same text, whatever follows it
abbrev pub TextIsKept : Type 0
TextIsKept =
    (table : List ℕ) (from to : Form) (text out later : List ℕ) → Transcodes from to text out → repaired table from to (text ++ later) ≡ out ++ repaired table from to later

-- what the bytes become has no fault
abbrev pub RepairedHasNoFault : Type 0
RepairedHasNoFault = (table : List ℕ) (from to : Form) (bytes : List ℕ) → fault_count to (repaired table from to bytes) ≡ 0

-- to repair it again, by any table, changes nothing
abbrev pub RepairedOnceIsEnough : Type 0
RepairedOnceIsEnough = (table other : List ℕ) (from to : Form) (bytes : List ℕ) → repaired other to to (repaired table from to bytes) ≡ repaired table from to bytes

-- with U+FFFD for each byte, it is as if no table were given
abbrev pub ReplacementIsATable : Type 0
ReplacementIsATable = (from to : Form) (bytes : List ℕ) → repaired (replicate 128 0xFFFD) from to bytes ≡ recoded from to bytes
