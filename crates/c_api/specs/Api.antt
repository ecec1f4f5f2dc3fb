-- What C sees: numbers of kinds and encodings, pieces, cursors, and recoders.
use Rattle.std.specs.Option.{unwrap_or}
use Rattle.std.specs.Prelude.{◌≡◌, ℕ, zero, suc, ◌+◌, ◌-◌, ◌<◌, ◌≤◌, List, [], ◌∷◌, length, take, drop, set, get_or, All, Result, Ok, Err, ◌++◌, codes, replicate, option_map, slice_get}
use Rattle.utf_base.specs.declared.errors.Utf8ErrorKind.{Utf8ErrorKind}
use Rattle.utf_base.specs.declared.errors.Utf8ErrorKind.TheVariants.{TooFewBytes, NonUtf8Byte, UnexpectedContinuationByte, InterruptedSequence, OverlongEncoding, Utf16ReservedCodepoint, TooHighCodepoint}
use Rattle.utf_base.specs.declared.errors.units.Utf16PairError.{Utf16PairError}
use Rattle.utf_base.specs.declared.errors.units.Utf16PairError.TheVariants.{UnexpectedTrailingSurrogate, UnmatchedLeadingSurrogate, Incomplete}
use Rattle.utf_base.specs.Code.{utf8}
use Rattle.utf_base.specs.Back.{decoded_end, decoded_pairs_end}
use Rattle.utf_base.specs.Decoded.{decoded, decoded_pairs, unless_fault}
use Rattle.utf_base.specs.Kinds.{asked_by, merger_kind, value}
use Rattle.encode_unicode.specs.Window.{Item, Placed, as_piece}
use Rattle.cuts.specs.Items.{IsRun}
use Rattle.cuts.specs.declared.ChangedRange.{ChangedRange}
use Rattle.cuts.specs.declared.Form.{Form}
use Rattle.cuts.specs.declared.Form.TheVariants.{Utf8, Utf16Le, Utf16Be}
use Rattle.cuts.specs.declared.Fault.{Fault}
use Rattle.cuts.specs.declared.FaultKind.{FaultKind}
use Rattle.cuts.specs.declared.FaultKind.TheVariants as kind
use Rattle.cuts.specs.declared.Outcome.{Outcome}
use Rattle.cuts.specs.declared.Outcome.TheVariants.{AllRead, Full, Faulty}
use Rattle.cuts.specs.declared.StrictProgress.{StrictProgress}
use Rattle.cuts.specs.Recoded.{Recoding, most_held}
use Rattle.cuts.specs.Faults.{Replaces, ReplacesLast, saturated}
use Rattle.c_api.specs.declared.changes.NodyRange.{NodyRange}
use Rattle.c_api.specs.declared.piece.NodyPiece.{NodyPiece}
use Rattle.c_api.specs.declared.recodings.NodyRecoder.{NodyRecoder}
use Rattle.c_api.specs.declared.strict.NodyFault.{NodyFault}

-- the number of an error
abbrev pub kind_number : Utf8ErrorKind → ℕ
kind_number TooFewBytes = 1
kind_number NonUtf8Byte = 2
kind_number UnexpectedContinuationByte = 3
kind_number InterruptedSequence = 4
kind_number OverlongEncoding = 5
kind_number Utf16ReservedCodepoint = 6
kind_number TooHighCodepoint = 7

abbrev pub pair_number : Utf16PairError → ℕ
pair_number UnexpectedTrailingSurrogate = 8
pair_number UnmatchedLeadingSurrogate = 9
pair_number Incomplete = 10

abbrev pub fault_number : FaultKind → ℕ
fault_number (kind.Utf8 k) = kind_number k
fault_number (kind.Utf16 e) = pair_number e

-- what C sees of a piece: a scalar has the kind 0, and a fault its number and no scalar
abbrev pub piece_for_c : {E : Type 0} → (E → ℕ) → Result ℕ E × ℕ → NodyPiece
piece_for_c number (Ok s, n) = record { len = n; scalar = s; kind = 0 }
piece_for_c number (Err e, n) = record { len = n; scalar = 0; kind = number e }

-- the piece that says that nothing is left
abbrev pub no_piece : NodyPiece
no_piece = record { len = 0; scalar = 0; kind = 11 }

-- the pieces that begin and end bytes and units
abbrev pub first_piece_of : List ℕ → NodyPiece
first_piece_of xs = piece_for_c kind_number (as_piece (decoded xs))

abbrev pub last_piece_of : List ℕ → NodyPiece
last_piece_of xs = piece_for_c kind_number (as_piece (decoded_end xs))

abbrev pub first_of_units : List ℕ → NodyPiece
first_of_units xs = piece_for_c pair_number (as_piece (decoded_pairs xs))

abbrev pub last_of_units : List ℕ → NodyPiece
last_of_units xs = piece_for_c pair_number (as_piece (decoded_pairs_end xs))

-- the first result of a reader of one byte at a time: the scalar whose code begins the bytes, with the code's
-- length, otherwise the kind that a merger gives
abbrev pub merger_answer : List ℕ → Result ℕ Utf8ErrorKind × ℕ
merger_answer w = as_piece (unless_fault (merger_kind w) (value w, asked_by w))

abbrev pub first_merged : List ℕ → NodyPiece
first_merged w = piece_for_c kind_number (merger_answer w)

-- each piece of the merged run over the bytes that begins at the offset is this one
abbrev pub IsMergedPiece : List ℕ → ℕ → NodyPiece → Type 0
IsMergedPiece xs place x = (items : List Item) → IsRun utf8 merger_kind xs items → All (λ item. item.0 ≡ place → x ≡ piece_for_c kind_number (item.1, item.2)) items

-- the piece at an end of some bytes or units, as long as it says
pub record IsPieceOf (piece : List ℕ → NodyPiece) (xs : List ℕ) (x : NodyPiece) : Type 0 where
  pub some : 0 < length xs → x ≡ piece xs
  pub none : length xs ≡ 0 → x ≡ no_piece
  pub least : 0 < length xs → 1 ≤ x.len
  pub most : x.len ≤ length xs

-- what is left after a piece at the front, and before one at the end
abbrev pub after : List ℕ → NodyPiece → List ℕ
after xs x = drop x.len xs

abbrev pub before : List ℕ → NodyPiece → List ℕ
before xs x = take (length xs - x.len) xs

-- One call on a cursor: it returns the piece at an end of what is left, and removes it. If nothing is left
-- nothing changes.
pub record GivesPiece (piece : List ℕ → NodyPiece) (left : List ℕ → NodyPiece → List ℕ) (xs : List ℕ) (x : NodyPiece) (ys : List ℕ) : Type 0 where
  pub some : 0 < length xs → x ≡ piece xs
  pub leaves : 0 < length xs → ys ≡ left xs x
  pub least : 0 < length xs → (1 ≤ x.len) × (x.len ≤ length xs)
  pub none : length xs ≡ 0 → (x ≡ no_piece) × (ys ≡ xs)

-- Given pieces begin what was left of a cursor, one after another, and then the rest is left.
abbrev pub GivesEach : (List ℕ → NodyPiece) → List ℕ → List NodyPiece → List ℕ → Type 0
GivesEach piece xs [] ys = ys ≡ xs
GivesEach piece xs (x ∷ ps) ys = (0 < length xs) × (x ≡ piece xs) × GivesEach piece (after xs x) ps ys

-- the piece of an ASCII character
abbrev pub ascii_piece_of : ℕ → NodyPiece
ascii_piece_of byte = record { len = 1; scalar = byte; kind = 0 }

-- The piece that begins the bytes was written to an index of the array, and this is its length; for no bytes
-- nothing was written.
pub record IsPut (xs : List ℕ) (old : List NodyPiece) (place n : ℕ) (new : List NodyPiece) : Type 0 where
  pub some : 0 < length xs → new ≡ set old place (first_piece_of xs)
  pub leaves : 0 < length xs → drop n xs ≡ after xs (first_piece_of xs)
  pub least : 0 < length xs → 1 ≤ n
  pub most : n ≤ length xs
  pub none : length xs ≡ 0 → new ≡ old

-- the number is that of an encoding, of which there are three
abbrev pub IsForm : ℕ → Type 0
IsForm number = number < 3

-- the encoding with that number
abbrev pub form_of : ℕ → Form
form_of zero = Utf8
form_of (suc zero) = Utf16Le
form_of (suc (suc n)) = Utf16Be

-- What holds for the encoding, or for both, if the numbers are those of encodings.
abbrev pub IfForm : ℕ → (Form → Type 0) → Type 0
IfForm number holds = IsForm number → holds (form_of number)

abbrev pub IfForms : ℕ → ℕ → (Form → Form → Type 0) → Type 0
IfForms from to holds = IsForm from → IsForm to → holds (form_of from) (form_of to)

-- The struct is a recoder.
pub record IsRecoder (r : NodyRecoder) : Type 0 where
  pub from : IsForm r.from
  pub to : IsForm r.to
  pub few : r.count ≤ most_held

-- the bytes that it carries over
abbrev pub held_by : NodyRecoder → List ℕ
held_by r = take r.count r.held

-- the recoder that the struct is; what it has replaced is counted only in the struct
abbrev pub recoder_of : NodyRecoder → Recoding
recoder_of r = record { from = form_of r.from; to = form_of r.to; held = held_by r; replaced = 0 }

-- what holds for the recoders that the struct was and is, if it was one
abbrev pub IfRecoder : NodyRecoder → NodyRecoder → (Recoding → Recoding → Type 0) → Type 0
IfRecoder old new holds = IsRecoder old → holds (recoder_of old) (recoder_of new)

-- A part was fed, and the number of faults that were replaced is added to the count.
abbrev pub CountsPart : NodyRecoder → List ℕ → NodyRecoder → Type 0
CountsPart r part s = (n : ℕ) × Replaces (recoder_of r) part n (recoder_of s) × (s.replaced ≡ saturated (r.replaced + n))

-- The recoder was finished, and the number of faults that were replaced is added to the count.
abbrev pub CountsEnd : NodyRecoder → NodyRecoder → Type 0
CountsEnd r s = (n : ℕ) × ReplacesLast (recoder_of r) n (recoder_of s) × (s.replaced ≡ saturated (r.replaced + n))

-- what C sees of how a strict call ended: a status, and the fault, if it ended at one
abbrev pub no_fault : NodyFault
no_fault = record { len = 0; back = 0; kind = 11 }

abbrev pub fault_as : Fault → NodyFault
fault_as f = record { len = f.len; back = f.back; kind = fault_number f.kind }

abbrev pub told : Outcome → ℕ × NodyFault
told AllRead = (0, no_fault)
told Full = (1, no_fault)
told (Faulty f) = (3, fault_as f)

-- A strict call, as C sees it: what the call did, with the outcome that corresponds to status and fault.
pub record TellsOutcome (run : StrictProgress → Type 0) (read wrote status : ℕ) (fault : NodyFault) : Type 0 where
  pub outcome : Outcome
  pub ran : run (record { read = read; written = wrote; outcome = outcome })
  pub answer : (status, fault) ≡ told outcome

-- a name in ASCII, with zeros after it up to 32 bytes
abbrev pub named : List ℕ → List ℕ
named name = name ++ replicate (32 - length name) 0

-- the names of kinds, by their numbers
abbrev pub name_at : List (List ℕ)
name_at =
    named (codes "Ok") ∷ named (codes "TooFewBytes") ∷ named (codes "NonUtf8Byte") ∷
    named (codes "UnexpectedContinuationByte") ∷ named (codes "InterruptedSequence") ∷
    named (codes "OverlongEncoding") ∷ named (codes "Utf16ReservedCodepoint") ∷ named (codes "TooHighCodepoint") ∷
    named (codes "UnexpectedTrailingSurrogate") ∷ named (codes "UnmatchedLeadingSurrogate") ∷
    named (codes "Incomplete") ∷ named (codes "None") ∷ []

abbrev pub name_of : ℕ → List ℕ
name_of kind = get_or name_at kind []

-- what the kinds mean, by their numbers: each in ASCII, with zeros after it up to 64 bytes
abbrev pub spelled : List ℕ → List ℕ
spelled sentence = sentence ++ replicate (64 - length sentence) 0

abbrev pub sentence_at : List (List ℕ)
sentence_at =
    spelled (codes "a character") ∷
    spelled (codes "too few bytes: the input ends inside a character") ∷
    spelled (codes "invalid byte: C0, C1 and F5 to FF never occur in UTF-8") ∷
    spelled (codes "unexpected continuation byte: no character begins with it") ∷
    spelled (codes "interrupted sequence: a continuation byte is missing") ∷
    spelled (codes "overlong encoding: the value has a shorter code") ∷
    spelled (codes "surrogate: the value is one of D800 to DFFF") ∷
    spelled (codes "too high: the value is above 10FFFF") ∷
    spelled (codes "unexpected trailing surrogate: no leading one stands before it") ∷
    spelled (codes "unmatched leading surrogate: no trailing one follows it") ∷
    spelled (codes "incomplete: the input ends inside a character of UTF-16") ∷
    spelled (codes "nothing is left") ∷ []

abbrev pub sentence_of : ℕ → List ℕ
sentence_of kind = get_or sentence_at kind []

-- the offset of the item with that number, or the length of all if there are no more
abbrev pub IsOffsetOf : {E : Type 0} → List (Placed E) → ℕ → ℕ → ℕ → Type 0
IsOffsetOf items len number n = n ≡ unwrap_or (option_map (λ x. x.0) (slice_get items number)) len

-- what C sees of a range
abbrev pub range_of : NodyRange → ChangedRange
range_of r = record { start = r.start; end = r.end }
