-- The pieces of bytes in any encoding, each with its offset and the kind that a merger gives: the results of
-- a decoder of parts.
use Rattle.std.specs.Prelude.{◌≡◌, ◌≢◌, ℕ, zero, suc, ◌+◌, ◌-◌, ◌*◌, ◌%◌, ◌^◌, ◌<◌, ◌≤◌, List, [], ◌∷◌, ◌++◌, length, take, drop, filter, is_err, map, min, true, refl, Result, Ok, Err}
use Rattle.std.proofs.lemmas.List.Elements.{filter-append}
use Rattle.utf_base.specs.Decoded.{decoded_pairs}
use Rattle.utf_lanes.specs.BytePairs.{units_of}
use Rattle.encode_unicode.specs.Mergers.{decoded_by_merger}
use Rattle.encode_unicode.specs.Window.{as_piece}
use Rattle.recoding.specs.Recoded.{most_held}
use Rattle.recoding.specs.NextScalars.{fault_len}
use Rattle.recoding.specs.Strict.{lacking}
use Rattle.recoding.specs.declared.faults.FaultKind.{FaultKind}
use Rattle.recoding.specs.declared.faults.FaultKind.TheVariants as kind
use Rattle.recoding.specs.declared.form.Form.{Form}
use Rattle.recoding.specs.TextForms.{by_form}
use Rattle.text_stream.specs.declared.first_pieces.Front.{Front}
use Rattle.text_stream.specs.declared.first_pieces.Front.TheVariants.{Char, Fault}
use Rattle.text_stream.specs.declared.located.LocatedPiece.{LocatedPiece}
use Rattle.text_stream.specs.declared.located.Spot.{Spot}

-- a scalar or a fault, and its length in bytes
abbrev pub Told : Type 0
Told = Result ℕ FaultKind × ℕ

-- the piece that begins some bytes, as the code returns it
abbrev pub told_of : Front → Told
told_of (Char s n) = (Ok s, n)
told_of (Fault k n) = (Err k, n)

-- a result whose error is that kind of fault
abbrev pub told_as : {E : Type 0} → (E → FaultKind) → Result ℕ E × ℕ → Told
told_as kind (Ok s, n) = (Ok s, n)
told_as kind (Err e, n) = (Err (kind e), n)

-- a result for units in bytes, each of which has two; an odd last byte is a fault of its own
abbrev pub in_bytes : List ℕ → Told → Told
in_bytes w x = (x.0, min (2 * x.1) (length w))

-- the piece that begins some bytes that no others follow
unfoldable pub first_told : Form → List ℕ → Told
first_told =
    by_form (λ form. List ℕ → Told) (λ w. told_as kind.Utf8 (as_piece (decoded_by_merger w)))
    (λ high_first w. in_bytes w (told_as kind.Utf16 (as_piece (decoded_pairs (units_of high_first w)))))

-- the fault that so few bytes are if nothing follows, since what follows decides
abbrev pub lacking_told : Form → ℕ → Told
lacking_told form count = (Err (lacking form), min (fault_len form) count)

-- an offset, as 64 bits count it
abbrev pub wrapped : ℕ → ℕ
wrapped n = n % 2 ^ 64

-- a piece at an offset
abbrev pub at_offset : ℕ → Told → LocatedPiece
at_offset offset x = record { offset = offset; len = x.1; answer = x.0 }

-- n of the pieces of bytes whose first is at an offset, or all if they are fewer
unfoldable pub located_by : ℕ → Form → ℕ → List ℕ → List LocatedPiece
located_by zero form offset w = []
located_by (suc n) form offset [] = []
located_by (suc n) form offset (b ∷ w) =
    at_offset offset (first_told form (b ∷ w)) ∷ located_by n form (wrapped (offset + (first_told form (b ∷ w)).1)) (drop (first_told form (b ∷ w)).1 (b ∷ w))

-- all pieces of bytes whose first is at an offset, one after another
unfoldable pub located : Form → ℕ → List ℕ → List LocatedPiece
located form offset w = located_by (length w) form offset w

-- Whatever follows the bytes, their pieces are those given, and then come the pieces of the rest, from the next
-- offset on.
pub record Locates (form : Form) (offset : ℕ) (bytes : List ℕ) (given : List LocatedPiece) (next : ℕ) (left : List ℕ) : Type 0 where
  pub same : (later : List ℕ) → located form offset (bytes ++ later) ≡ given ++ located form next (left ++ later)

-- The piece begins the bytes, whatever follows them.
pub record Begins (form : Form) (w : List ℕ) (x : Told) : Type 0 where
  pub some : 0 < x.1
  pub few : x.1 ≤ 4
  pub within : x.1 ≤ length w
  pub first : (later : List ℕ) → first_told form (w ++ later) ≡ x

-- some piece begins the bytes, whatever follows them
abbrev pub BeginsSome : Form → List ℕ → Type 0
BeginsSome form w = (x : Told) × Begins form w x

-- a fault begins the bytes, whatever follows them
abbrev pub BeginsSomeFault : Form → List ℕ → Type 0
BeginsSomeFault form w = (x : Told) × Begins form w x × (is_err x.0 ≡ true)

-- What follows the bytes decides which piece begins them: there are two inputs that begin with them, but with two pieces.
pub record IsOpen (form : Form) (w : List ℕ) : Type 0 where
  pub one : List ℕ
  pub other : List ℕ
  pub differ : first_told form (w ++ one) ≢ first_told form (w ++ other)

-- What contracts see of a decoder: the encoding of its input, the bytes that it carries over, and the offset
-- of the first of these.
pub record Decoding : Type 0 where
  pub form : Form
  pub held : List ℕ
  pub offset : ℕ

-- The first elements of an array were written, each with what is made of a piece. The others are unchanged.
pub record WritesPieces {P : Type 0} (made : LocatedPiece → P) (given : List LocatedPiece) (old new : List P) (wrote : ℕ) : Type 0 where
  pub fits : wrote ≤ length old
  pub front : take wrote new ≡ map made given
  pub rest : drop wrote new ≡ drop wrote old
  pub len : length new ≡ length old

-- The pieces of a list that are written: all of them, or only the faults.
abbrev pub all_pieces : List LocatedPiece → List LocatedPiece
all_pieces given = given

abbrev pub faults_alone : List LocatedPiece → List LocatedPiece
faults_alone given = filter (λ p. is_err p.answer) given

-- a piece is kept, at each offset, or it is skipped
abbrev pub IsKept : (List LocatedPiece → List LocatedPiece) → Told → Type 0
IsKept kept x = (offset : ℕ) → kept (at_offset offset x ∷ []) ≡ at_offset offset x ∷ []

abbrev pub IsPassed : (List LocatedPiece → List LocatedPiece) → Told → Type 0
IsPassed kept x = (offset : ℕ) → kept (at_offset offset x ∷ []) ≡ []

-- One call of `feed`, or of `feed_faults`: the part was read up to some byte. Whatever follows the part, the pieces
-- of the carried-over bytes and of the part are those that were given, and then come those of the bytes that are
-- carried over now and of the rest of the part. Of those that were given, these were written.
pub record FeedsKept {P : Type 0} (kept : List LocatedPiece → List LocatedPiece) (made : LocatedPiece → P) (d : Decoding) (part : List ℕ) (old new : List P) (read wrote : ℕ) (e : Decoding) : Type 0 where
  pub given : List LocatedPiece
  pub locates : Locates d.form d.offset (d.held ++ part) given e.offset (e.held ++ drop read part)
  pub writes : WritesPieces made (kept given) old new wrote
  pub within : read ≤ length part
  pub form : e.form ≡ d.form
  pub few : length e.held ≤ most_held

abbrev pub FeedsPieces : {P : Type 0} → (LocatedPiece → P) → Decoding → List ℕ → List P → List P → ℕ → ℕ → Decoding → Type 0
FeedsPieces made d part old new read wrote e = FeedsKept all_pieces made d part old new read wrote e

abbrev pub FeedsFaults : {P : Type 0} → (LocatedPiece → P) → Decoding → List ℕ → List P → List P → ℕ → ℕ → Decoding → Type 0
FeedsFaults made d part old new read wrote e = FeedsKept faults_alone made d part old new read wrote e

-- One call of `finish`, or of `finish_faults`: nothing follows the carried-over bytes. The offset increases by the
-- number of bytes that are not carried over any more.
pub record FinishesKept {P : Type 0} (kept : List LocatedPiece → List LocatedPiece) (made : LocatedPiece → P) (d : Decoding) (old new : List P) (wrote : ℕ) (e : Decoding) : Type 0 where
  pub given : List LocatedPiece
  pub locates : located d.form d.offset d.held ≡ given ++ located e.form e.offset e.held
  pub writes : WritesPieces made (kept given) old new wrote
  pub form : e.form ≡ d.form
  pub few : length e.held ≤ length d.held
  pub on : wrapped e.offset ≡ wrapped (d.offset + (length d.held - length e.held))

abbrev pub FinishesPieces : {P : Type 0} → (LocatedPiece → P) → Decoding → List P → List P → ℕ → Decoding → Type 0
FinishesPieces made d old new wrote e = FinishesKept all_pieces made d old new wrote e

abbrev pub FinishesFaults : {P : Type 0} → (LocatedPiece → P) → Decoding → List P → List P → ℕ → Decoding → Type 0
FinishesFaults made d old new wrote e = FinishesKept faults_alone made d old new wrote e

-- a call has filled the array, and the carried-over bytes and the rest of the part begin with a piece,
-- whatever follows them
abbrev pub HasNoPlace : Decoding → List ℕ → ℕ → ℕ → ℕ → Type 0
HasNoPlace e part read wrote room = (wrote ≡ room) × BeginsSome e.form (e.held ++ drop read part)

-- a call that writes only the faults has filled the array, and the carried-over bytes and the rest of the
-- part begin with a fault, whatever follows them
abbrev pub HasNoPlaceForFault : Decoding → List ℕ → ℕ → ℕ → ℕ → Type 0
HasNoPlaceForFault e part read wrote room = (wrote ≡ room) × BeginsSomeFault e.form (e.held ++ drop read part)

-- Definitions for the inside of a call.

-- The pieces that are kept of a list are those that are kept of each piece, one after another.
pub record KeepsEach (kept : List LocatedPiece → List LocatedPiece) : Type 0 where
  pub none : kept [] ≡ []
  pub more : (xs ys : List LocatedPiece) → kept (xs ++ ys) ≡ kept xs ++ kept ys

pub all_keep_each : KeepsEach all_pieces
all_keep_each = record { none = refl; more = λ xs ys. refl }

pub faults_keep_each : KeepsEach faults_alone
faults_keep_each = record { none = refl; more = λ xs ys. filter-append (λ (p : LocatedPiece). is_err p.answer) xs ys }

-- a piece that is kept begins the bytes
abbrev pub BeginsKept : (List LocatedPiece → List LocatedPiece) → Form → List ℕ → Type 0
BeginsKept kept form w = (x : Told) × Begins form w x × IsKept kept x

-- a call has filled the array, and the carried-over bytes and the rest of the part begin with a piece that is
-- kept
abbrev pub HasNoPlaceFor : (List LocatedPiece → List LocatedPiece) → Decoding → List ℕ → ℕ → ℕ → ℕ → Type 0
HasNoPlaceFor kept e part read wrote room = (wrote ≡ room) × BeginsKept kept e.form (e.held ++ drop read part)

-- The elements of an array from one index to another were written, with these in order. The others are
-- unchanged.
pub record WritesPlaces {P : Type 0} (given old new : List P) (from to : ℕ) : Type 0 where
  pub on : from ≤ to
  pub fits : to ≤ length old
  pub front : take to new ≡ take from old ++ given
  pub rest : drop to new ≡ drop to old
  pub len : length new ≡ length old

-- The bytes up to one offset were read and pieces written up to another, from spot to spot.
pub record PutsKept {P : Type 0} (kept : List LocatedPiece → List LocatedPiece) (made : LocatedPiece → P) (form : Form) (bytes : List ℕ) (old new : List P) (from to : Spot) : Type 0 where
  pub given : List LocatedPiece
  pub locates : Locates form from.offset (drop from.read bytes) given to.offset (drop to.read bytes)
  pub writes : WritesPlaces (map made (kept given)) old new from.written to.written
  pub ahead : from.read ≤ to.read
  pub within : to.read ≤ length bytes

abbrev pub Puts : {P : Type 0} → (LocatedPiece → P) → Form → List ℕ → List P → List P → Spot → Spot → Type 0
Puts made form bytes old new from to = PutsKept all_pieces made form bytes old new from to

-- a spot lies in the bytes and in the array
abbrev pub IsWithin : {P : Type 0} → Spot → List ℕ → List P → Type 0
IsWithin at bytes room = (at.read ≤ length bytes) × (at.written ≤ length room)

-- A call that continues from a spot in the part, if nothing is carried over.
pub record FeedsRest {P : Type 0} (kept : List LocatedPiece → List LocatedPiece) (made : LocatedPiece → P) (d : Decoding) (part : List ℕ) (old new : List P) (from : Spot) (read wrote : ℕ) (e : Decoding) : Type 0 where
  pub given : List LocatedPiece
  pub locates : Locates d.form d.offset (drop from.read part) given e.offset (e.held ++ drop read part)
  pub writes : WritesPlaces (map made (kept given)) old new from.written wrote
  pub within : read ≤ length part
  pub form : e.form ≡ d.form
  pub few : length e.held ≤ most_held
