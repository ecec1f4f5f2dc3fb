-- A window of a text, and what one call of an iterator over its characters gives, from either end.
use Rattle.std.specs.Prelude.{◌≡◌, ℕ, ◌≤◌, List, ◌++◌, length, Option, Some, None}
use Rattle.std.specs.List.{flat_map}
use Rattle.std.specs.Str.{IsUtf8, IsCharBoundary}
use Rattle.utf_base.specs.Scalar.{IsScalar}
use Rattle.utf_base.specs.Code.{utf8}
use Rattle.utf_base.specs.Ends.{EndsWith}
use Rattle.utf_chars.specs.Padded.{padded}
use Rattle.utf_chars.specs.Taking.{BoundsLength}
use Rattle.encode_unicode.specs.Window.{Window, elements, without_front, without_back, GivesNone}

-- the window begins and ends between characters of the text, and is text itself
pub record IsTextWindow (w : Window) : Type 0 where
  pub text : IsUtf8 (elements w)
  pub front : IsCharBoundary w.whole w.front
  pub back : IsCharBoundary w.whole w.back

-- the values that the fields of a window of a text keep
pub record IsKeptWindow (text : List ℕ) (front back : ℕ) : Type 0 where
  pub is_text : IsUtf8 text
  pub ordered : front ≤ back
  pub between : IsTextWindow (record { whole = text; front = front; back = back })

-- the scalar whose code begins the window, with its offset, and exactly that code was taken
pub record GivesFirstChar (w : Window) (place s : ℕ) (v : Window) : Type 0 where
  pub scalar : IsScalar s
  pub code : elements w ≡ utf8 s ++ elements v
  pub at_front : place ≡ w.front
  pub left : v ≡ without_front w (length (utf8 s))
  pub begins : IsCharBoundary w.whole w.front
  pub between : IsTextWindow v

-- the scalar whose code ends the window, with its offset, and exactly that code was taken
pub record GivesLastChar (w : Window) (place s : ℕ) (v : Window) : Type 0 where
  pub scalar : IsScalar s
  pub code : elements w ≡ elements v ++ utf8 s
  pub at_back : place ≡ v.back
  pub left : v ≡ without_back w (length (utf8 s))
  pub ends : IsCharBoundary w.whole w.back
  pub between : IsTextWindow v

-- one call of `next` and one of `next_back`, whose items have an offset
abbrev pub NextPlaced : Window → Option (ℕ × ℕ) → Window → Type 0
NextPlaced w None v = GivesNone w v
NextPlaced w (Some x) v = GivesFirstChar w x.0 x.1 v

abbrev pub BackPlaced : Window → Option (ℕ × ℕ) → Window → Type 0
BackPlaced w None v = GivesNone w v
BackPlaced w (Some x) v = GivesLastChar w x.0 x.1 v

-- one call of `next` and one of `next_back`, whose items have no offset
abbrev pub NextScalar : Window → Option ℕ → Window → Type 0
NextScalar w None v = GivesNone w v
NextScalar w (Some s) v = GivesFirstChar w w.front s v

abbrev pub BackScalar : Window → Option ℕ → Window → Type 0
BackScalar w None v = GivesNone w v
BackScalar w (Some s) v = GivesLastChar w v.back s v

-- the array is the code that ends the text, and zeros after it, and the code has n bytes
pub record IsLastCode (text code : List ℕ) (n : ℕ) : Type 0 where
  pub char : ℕ
  pub ends : EndsWith utf8 text char n
  pub padded : code ≡ padded 4 (utf8 char)

-- the text is the codes of at least as many scalars as the first number, and at most as many as the second
abbrev pub BoundsScalars : List ℕ → ℕ × Option ℕ → Type 0
BoundsScalars text hint = (scalars : List ℕ) → flat_map utf8 scalars ≡ text → BoundsLength scalars hint
