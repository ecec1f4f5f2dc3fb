-- Lines and columns of input that comes in parts. A line ends at its line feed. A column counts pieces, or bytes.
use Rattle.std.specs.Prelude.{◌≡◌, ℕ, ◌+◌, ◌-◌, ◌*◌, ◌%◌, ◌<◌, ◌≤◌, List, ◌++◌, length, drop, get_or}
use Rattle.utf_lanes.specs.BytePairs.{units_of}
use Rattle.recoding.specs.Recoded.{most_held}
use Rattle.recoding.specs.declared.form.Form.{Form}
use Rattle.recoding.specs.TextForms.{by_form}
use Rattle.text_runs.specs.ShardRuns.{line_feed_count}
use Rattle.text_stream.specs.FormPieces.{form_pieces}
use Rattle.text_stream.specs.Located.{wrapped}
use Rattle.text_stream.specs.UndecidedEnds.{IsUndecidedEnd}

-- What a line feed is one of: a byte of UTF-8, or a unit of UTF-16, which two bytes make.
abbrev pub elements : Form → List ℕ → List ℕ
elements = by_form (λ form. List ℕ → List ℕ) (λ w. w) (λ high_first w. units_of high_first w)

abbrev pub element_len : Form → ℕ
element_len = by_form (λ form. ℕ) 1 (λ high_first. 2)

-- the number of line feeds in bytes
abbrev pub line_feeds : Form → List ℕ → ℕ
line_feeds form w = line_feed_count (elements form w)

-- the number of pieces: each character is one, and so is each invalid byte or unit
abbrev pub piece_count : Form → List ℕ → ℕ
piece_count form w = length (form_pieces form w)

-- The last line begins at this element: after the last line feed, or at the front.
pub record BeginsLastLine (xs : List ℕ) (n : ℕ) : Type 0 where
  pub within : n ≤ length xs
  pub after : 0 < n → get_or xs (n - 1) 0 ≡ 10
  pub last : line_feed_count (drop n xs) ≡ 0

-- The last line of the bytes begins at this offset.
pub record IsLastLine (form : Form) (w : List ℕ) (begin : ℕ) : Type 0 where
  pub number : ℕ
  pub place : begin ≡ element_len form * number
  pub begins : BeginsLastLine (elements form w) number

-- What contracts see of a position: its line and columns, from 1 on and modulo 2^64, and the bytes at the end of what
-- was passed that later bytes decide.
pub record Place : Type 0 where
  pub line : ℕ
  pub column : ℕ
  pub byte_column : ℕ
  pub held : List ℕ

-- The bytes end with those that are carried over. Whatever follows, the pieces of the last line before these stay.
pub record Carries (form : Form) (w : List ℕ) (begin : ℕ) (held : List ℕ) : Type 0 where
  pub front : List ℕ
  pub split : w ≡ front ++ held
  pub few : length held ≤ most_held
  pub whole : length front % element_len form ≡ 0
  pub begins : begin ≤ length front
  pub decided : ℕ
  pub apart : (later : List ℕ) → piece_count form (drop begin w ++ later) ≡ decided + piece_count form (held ++ later)

-- The position after the bytes: its line is the number of line feeds before it, its column the number of pieces
-- between the last of them and it, and its byte column the number of bytes there; each counted from 1. If the bytes
-- end within a character, each byte of it counts as it would if nothing followed.
pub record IsAfter (form : Form) (w : List ℕ) (p : Place) : Type 0 where
  pub begin : ℕ
  pub last : IsLastLine form w begin
  pub line : p.line ≡ wrapped (1 + line_feeds form w)
  pub column : p.column ≡ wrapped (1 + piece_count form (drop begin w))
  pub byte_column : p.byte_column ≡ wrapped (1 + (length w - begin))
  pub carries : Carries form w begin p.held

-- A call: wherever a position was, after the bytes it is where one is that passes all of them at once.
abbrev pub Passes : Form → List ℕ → Place → Place → Type 0
Passes form bytes old new = (w : List ℕ) → IsAfter form w old → IsAfter form (w ++ bytes) new

-- Definitions for the inside of a call.

-- The position after the front, which bytes follow that are passed again.
pub record IsBefore (form : Form) (front held : List ℕ) (p : Place) : Type 0 where
  pub begin : ℕ
  pub last : IsLastLine form front begin
  pub line : p.line ≡ wrapped (1 + line_feeds form front)
  pub whole : length front % element_len form ≡ 0
  pub decided : ℕ
  pub column : p.column ≡ wrapped (1 + decided)
  pub byte_column : p.byte_column ≡ wrapped (1 + (length front - begin))
  pub apart : (later : List ℕ) → piece_count form (drop begin front ++ (held ++ later)) ≡ decided + piece_count form (held ++ later)

-- The position lies before the carried-over bytes again.
abbrev pub StepsBack : Form → Place → Place → Type 0
StepsBack form old new = (w : List ℕ) → IsAfter form w old → (front : List ℕ) × (w ≡ front ++ old.held) × IsBefore form front old.held new

-- The bytes were passed, the first of which were carried over.
abbrev pub PassesAgain : Form → List ℕ → Place → Place → Type 0
PassesAgain form bytes old new =
    (front held later : List ℕ) → IsBefore form front held old → bytes ≡ held ++ later → IsAfter form (front ++ bytes) new

-- the carried-over bytes are the last of those that were passed
abbrev pub IsEnd : List ℕ → List ℕ → Type 0
IsEnd held bytes = (length held ≤ length bytes) × (held ≡ drop (length bytes - length held) bytes)

-- Bytes without a line feed were passed, all in the last line.
pub record PassesLine (form : Form) (bytes : List ℕ) (old new : Place) : Type 0 where
  pub line : new.line ≡ old.line
  pub column : new.column ≡ wrapped (old.column + piece_count form bytes)
  pub byte_column : new.byte_column ≡ wrapped (old.byte_column + length bytes)
  pub within : length new.held ≤ length bytes
  pub held : new.held ≡ drop (length bytes - length new.held) bytes
  pub undecided : IsUndecidedEnd form bytes (length new.held)
