-- Bytes of one encoding transcoded to another with one U+FFFD for each maximal subpart, as one list, and the
-- effect of calls on it.
use Rattle.std.specs.Prelude.{◌≡◌, ◌↔◌, ℕ, ◌≤◌, Bool, false, true, List, [], ◌∷◌, ◌++◌, length, take, drop, flat_map, map}
use Rattle.std.specs.List.{concat}
use Rattle.utf_base.specs.Code.{utf8}
use Rattle.utf_base.specs.Piece.{Piece}
use Rattle.utf_base.specs.Shown.{shown}
use Rattle.utf_base.specs.Subparts.{IsInParts, pieces_of}
use Rattle.recoding.specs.declared.form.Form.{Form}
use Rattle.recoding.specs.declared.form.Form.TheVariants.{Utf8}
use Rattle.recoding.specs.TextForms.{text_form, utf16_form}
use Rattle.recoding.specs.Lossy.{IsLossy, ReadsParts, odd_part}
use Rattle.recoding.specs.Recoded.{Recoding, fresh, most_held, odd_end, written}
use Rattle.recoding.specs.RecodedBytes.{recoded}
use Rattle.recoding.specs.Rooms.{BeginsLonger}
use Rattle.recoding.specs.NextScalars.{Decides, Ends}
use Rattle.recoding.specs.Strict.{Transcodes}

-- the scalars of the parts of bytes as text of that encoding
unfoldable pub shown_by_parts : Form → List ℕ → List ℕ
shown_by_parts from bytes = ((text_form from).parts_some bytes).0

-- the codes of these scalars: what the bytes become, with one U+FFFD for each maximal subpart
unfoldable pub lossy : Form → Form → List ℕ → List ℕ
lossy from to bytes = flat_map (written to) (shown_by_parts from bytes)

-- bytes become that list, and no other
abbrev pub LossyIsOne : Type 0
LossyIsOne = (from to : Form) (bytes out : List ℕ) → IsLossy from to bytes out ↔ (out ≡ lossy from to bytes)

-- The output of a recoder.

-- the final contents of an output that now has `out`, if only these bytes are fed and the recoder is finished, both
-- lossily
unfoldable pub lossy_outcome : Recoding → List ℕ → List ℕ → List ℕ
lossy_outcome r out later = out ++ lossy r.from r.to (r.held ++ later)

-- a part was fed: whatever follows it, the final contents are those for the part and then what follows
abbrev pub KeepsLossy : Recoding → List ℕ → List ℕ → List ℕ → Recoding → Type 0
KeepsLossy r old part new s = (later : List ℕ) → lossy_outcome s new later ≡ lossy_outcome r old (part ++ later)

-- the bytes were written for the part, whatever the output had: the final contents are those for the part and
-- then what follows
abbrev pub AddsLossy : Recoding → List ℕ → List ℕ → Recoding → Type 0
AddsLossy r part made s = (out : List ℕ) → KeepsLossy r out part (out ++ made) s

-- the bytes were written at the end, and the rest of the final contents is still to be written
abbrev pub AddsLastLossy : Recoding → List ℕ → Recoding → Type 0
AddsLastLossy r made s = (out : List ℕ) → lossy_outcome s (out ++ made) [] ≡ lossy_outcome r out []

-- the bytes are all that was written at the end
abbrev pub AddsAllLossy : Recoding → List ℕ → Type 0
AddsAllLossy r made = (out : List ℕ) → out ++ made ≡ lossy_outcome r out []

-- One call of `feed_lossy_into`: the part was read up to some byte, and some bytes are carried over. The output is at
-- the front of the buffer. What follows it there may be anything.
pub record FeedsLossy (r : Recoding) (part old new : List ℕ) (read wrote : ℕ) (s : Recoding) : Type 0 where
  pub within : read ≤ length part
  pub adds : AddsLossy r (take read part) (take wrote new) s
  pub from : s.from ≡ r.from
  pub to : s.to ≡ r.to
  pub few : length s.held ≤ most_held
  pub fits : wrote ≤ length old

-- One call of `finish_lossy_into`.
pub record FinishesLossy (r : Recoding) (old new : List ℕ) (wrote : ℕ) (s : Recoding) : Type 0 where
  pub adds : AddsLastLossy r (take wrote new) s
  pub from : s.from ≡ r.from
  pub to : s.to ≡ r.to
  pub few : length s.held ≤ length r.held
  pub fits : wrote ≤ length old

-- The bytes that are left begin with a part, whatever follows them, and the code of its scalar is longer than
-- the buffer.
abbrev pub NextPartIsTooLong : Form → Form → List ℕ → ℕ → Type 0
NextPartIsTooLong from to left room = BeginsLonger (Decides (ReadsParts from) left) to room

-- The part was read up to some byte, and the recoder can go no further: U+FFFD or the code of the next character is
-- longer than the buffer.
abbrev pub IsFullLossy : Recoding → List ℕ → ℕ → ℕ → Type 0
IsFullLossy r part read room = NextPartIsTooLong r.from r.to (r.held ++ drop read part) room

-- the recoder can go no further at the end: the code for the carried-over bytes, which nothing follows, is
-- longer than the buffer
abbrev pub IsLastFullLossy : Recoding → ℕ → Type 0
IsLastFullLossy r room = BeginsLonger (Ends (ReadsParts r.from) r.held) r.to room

-- The laws.

-- The parts of an input are fed one after another, and then the recoder is finished: each step keeps the final
-- contents.
abbrev pub AddsEach : Recoding → List (List ℕ) → List ℕ → List ℕ → Type 0
AddsEach r [] old new = new ≡ lossy_outcome r old []
AddsEach r (part ∷ parts) old new = (s : Recoding) × (mid : List ℕ) × KeepsLossy r old part mid s × AddsEach s parts mid new

-- the output for some parts is that for the joined parts, however they are cut
abbrev pub LossyPartsAreOne : Type 0
LossyPartsAreOne =
    (from to : Form) (parts : List (List ℕ)) (out : List ℕ) → AddsEach (fresh from to) parts [] out → out ≡ lossy from to (concat parts)

-- In UTF-16 each maximal subpart is one unit, or an odd byte, except for a leading surrogate and an odd byte at the
-- end. So if the bytes do not end with these, the output is the same as if each fault is replaced.
abbrev pub LossyIsRecoded : Bool → Form → List ℕ → Type 0
LossyIsRecoded high_first to bytes = odd_part high_first bytes ≡ odd_end bytes → lossy (utf16_form high_first) to bytes ≡ recoded (utf16_form high_first) to bytes

-- in both byte orders
abbrev pub LossyUnitsAreRecoded : Type 0
LossyUnitsAreRecoded = (to : Form) (bytes : List ℕ) → LossyIsRecoded false to bytes × LossyIsRecoded true to bytes

-- the output for text, which has no maximal subparts, is the same, whatever follows it
abbrev pub TextIsLossy : Type 0
TextIsLossy = (from to : Form) (text out later : List ℕ) → Transcodes from to text out → lossy from to (text ++ later) ≡ out ++ lossy from to later

-- the codes of the scalars of some pieces or parts, in an encoding
abbrev pub codes_of_pieces : Form → List Piece → List ℕ
codes_of_pieces to ps = flat_map (written to) (map shown ps)

-- In UTF-8 there are parts that give one output, and their single pieces give the other: each U+FFFD of a maximal
-- subpart corresponds to as many as it has bytes.
abbrev pub LossyJoinsFaults : Type 0
LossyJoinsFaults =
    (to : Form) (bytes : List ℕ)
    → (parts : List Piece) × IsInParts utf8 bytes parts × (lossy Utf8 to bytes ≡ codes_of_pieces to parts)
    × (recoded Utf8 to bytes ≡ codes_of_pieces to (flat_map (λ x. pieces_of x.start x.len x.char) parts))
