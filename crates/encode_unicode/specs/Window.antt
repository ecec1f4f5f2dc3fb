-- A window of a slice, and the effect of one call of a decoder. An offset is an index into the whole slice.
use Rattle.std.specs.Prelude.{◌≡◌, ℕ, ◌+◌, ◌-◌, ◌<◌, List, length, slice_range, take, drop, Option, Some, None, Result, Ok, Err, IfOk}
use Rattle.utf_base.specs.declared.errors.Utf8ErrorKind.{Utf8ErrorKind}
use Rattle.utf_base.specs.Back.{decoded_end, decoded_pairs_end}
use Rattle.utf_base.specs.Code.{utf8, utf16}
use Rattle.utf_base.specs.Decoded.{decoded, decoded_pairs}
use Rattle.utf_base.specs.Ends.{last_of, EndsWith, NoCodeEnds}
use Rattle.utf_base.specs.Front.{BeginsWith, IsFrontLen}
use Rattle.utf_base.specs.Kinds.{fault_kind, back_kind}
use Rattle.utf_base.specs.declared.errors.units.Utf16PairError.{Utf16PairError}
use Rattle.utf_base.specs.Units.{unit_fault_kind, unit_back_kind}
pub use Rattle.utf_base.specs.Walk.{Placed}

-- the part of a slice from the offset `front` up to the offset `back`, `back` not included
pub record Window : Type 0 where
  pub whole : List ℕ
  pub front : ℕ
  pub back : ℕ

-- the window is all of the slice
abbrev pub whole_window : List ℕ → Window
whole_window xs = record { whole = xs; front = 0; back = length xs }

-- the elements in the window
abbrev pub elements : Window → List ℕ
elements w = slice_range w.whole w.front w.back

-- the number of elements in the window, if it lies in the slice
abbrev pub window_len : Window → ℕ
window_len w = w.back - w.front

-- the window without its first n elements
abbrev pub without_front : Window → ℕ → Window
without_front w n = record w { front = w.front + n }

-- the window without its last n elements
abbrev pub without_back : Window → ℕ → Window
without_back w n = record w { back = w.back - n }

-- the items of a decoder of bytes, and of a decoder of units
abbrev pub Item : Type 0
Item = Placed Utf8ErrorKind

abbrev pub UnitItem : Type 0
UnitItem = Placed Utf16PairError

-- the scalar whose code begins the elements, with the code's length, or their fault, with length 1
abbrev pub IsFrontOf : {E : Type 0} → (ℕ → List ℕ) → (List ℕ → Option E) → List ℕ → Result ℕ E → ℕ → Type 0
IsFrontOf code kind xs (Ok s) n = BeginsWith code xs s n
IsFrontOf code kind xs (Err k) n = (kind xs ≡ Some k) × (n ≡ 1)

-- the scalar whose code ends the elements, with the code's length, or the backward kind of the last, with length 1
abbrev pub IsBackOf : {E : Type 0} → (ℕ → List ℕ) → (ℕ → E) → List ℕ → Result ℕ E → ℕ → Type 0
IsBackOf code kind xs (Ok s) n = EndsWith code xs s n
IsBackOf code kind xs (Err k) n = NoCodeEnds code xs × (k ≡ kind (last_of xs)) × (n ≡ 1)

-- if an item is a character, its code is in the list at the item's offset
abbrev pub HasCode : {E : Type 0} → (ℕ → List ℕ) → List ℕ → Placed E → Type 0
HasCode code xs x = IfOk x.1 (λ s. slice_range xs x.0 (x.0 + x.2) ≡ code s)

-- the result of a decoding as a piece: a scalar with the length of its code, a fault with length 1
abbrev pub as_piece : {E : Type 0} → Result (ℕ × ℕ) E → Result ℕ E × ℕ
as_piece (Ok x) = (Ok x.0, x.1)
as_piece (Err k) = (Err k, 1)

-- The item is the piece that begins the window, and exactly that piece was taken. A piece has at most `most`
-- elements, and is a function of the window's; that of a character is its code.
pub record GivesFrontOf {E : Type 0} (code : ℕ → List ℕ) (most : ℕ) (kind : List ℕ → Option E) (answer : List ℕ → Result (ℕ × ℕ) E)
    (w : Window) (x : Placed E) (v : Window) : Type 0 where
  pub some : w.front < w.back
  pub place : x.0 ≡ w.front
  pub piece : IsFrontOf code kind (elements w) x.1 x.2
  pub known : (x.1, x.2) ≡ as_piece (answer (elements w))
  pub len : IsFrontLen most (elements w) x.2
  pub left : v ≡ without_front w x.2
  pub taken : IfOk x.1 (λ s. take x.2 (elements w) ≡ code s)
  pub there : HasCode code w.whole x

-- the piece that begins bytes, and units, and the item for it
abbrev pub IsFrontPiece : List ℕ → Result ℕ Utf8ErrorKind → ℕ → Type 0
IsFrontPiece = IsFrontOf utf8 fault_kind

abbrev pub GivesFront : Window → Item → Window → Type 0
GivesFront = GivesFrontOf utf8 4 fault_kind decoded

abbrev pub GivesFrontUnits : Window → UnitItem → Window → Type 0
GivesFrontUnits = GivesFrontOf utf16 2 unit_fault_kind decoded_pairs

-- The item is the piece that ends the window, and exactly that piece was taken. A piece has at most `most` elements,
-- and is a function of the window's; that of a character is its code.
pub record GivesBackOf {E : Type 0} (code : ℕ → List ℕ) (most : ℕ) (kind : ℕ → E) (answer : List ℕ → Result (ℕ × ℕ) E)
    (w : Window) (x : Placed E) (v : Window) : Type 0 where
  pub some : w.front < w.back
  pub place : x.0 + x.2 ≡ w.back
  pub piece : IsBackOf code kind (elements w) x.1 x.2
  pub known : (x.1, x.2) ≡ as_piece (answer (elements w))
  pub len : IsFrontLen most (elements w) x.2
  pub left : v ≡ without_back w x.2
  pub taken : IfOk x.1 (λ s. drop (length (elements w) - x.2) (elements w) ≡ code s)
  pub there : HasCode code w.whole x

-- the item is the piece that ends the window, of bytes, and of units
abbrev pub GivesBack : Window → Item → Window → Type 0
GivesBack = GivesBackOf utf8 4 back_kind decoded_end

abbrev pub GivesBackUnits : Window → UnitItem → Window → Type 0
GivesBackUnits = GivesBackOf utf16 2 unit_back_kind decoded_pairs_end

-- the window is empty, and stays as it is
pub record GivesNone (w v : Window) : Type 0 where
  pub none : w.front ≡ w.back
  pub left : v ≡ w

-- one call of `next` of a decoder of bytes, from the window w to the window v
abbrev pub NextGives : Window → Option Item → Window → Type 0
NextGives w None v = GivesNone w v
NextGives w (Some x) v = GivesFront w x v

-- one call of `next_back` of a decoder of bytes, from the window w to the window v
abbrev pub NextBackGives : Window → Option Item → Window → Type 0
NextBackGives w None v = GivesNone w v
NextBackGives w (Some x) v = GivesBack w x v

-- one call of `next`, and of `next_back`, of a decoder of units
abbrev pub NextGivesUnits : Window → Option UnitItem → Window → Type 0
NextGivesUnits w None v = GivesNone w v
NextGivesUnits w (Some x) v = GivesFrontUnits w x v

abbrev pub NextBackGivesUnits : Window → Option UnitItem → Window → Type 0
NextBackGivesUnits w None v = GivesNone w v
NextBackGivesUnits w (Some x) v = GivesBackUnits w x v
