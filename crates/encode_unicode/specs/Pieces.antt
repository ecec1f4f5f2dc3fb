-- The items of whole runs of decoders and of iterators over a text, as lists.
use Rattle.std.specs.Prelude.{◌≡◌, ℕ, zero, suc, ◌+◌, ◌<◌, ◌≤◌, List, [], ◌∷◌, length, take, drop, reverse, true, Result, Option, IfSome, None}
use Rattle.std.specs.List.{filter_map, flat_map, fold}
use Rattle.std.specs.Iterator.{Yields}
use Rattle.std.specs.Iterator.Runs.{Run, ItemsAre, ItemsMapTo, ItemsAreReversed, ItemsMapToReversed}
use Rattle.std.specs.Result.{result_ok}
use Rattle.std.specs.Str.{chars, IsCharBoundary, IsUtf8}
use Rattle.utf_base.specs.Code.{utf8}
use Rattle.utf_base.specs.Decoded.{decoded, decoded_pairs}
use Rattle.encode_unicode.specs.RunTests.{Tells}
use Rattle.encode_unicode.specs.Window.{Window, Placed, Item, UnitItem, elements, whole_window, as_piece}

-- the pieces of a list whose first element is at an offset, one after another, as decoded at the front of what is
-- left: n of them, or all if they are fewer
unfoldable pub pieces_by : {E : Type 0} → (List ℕ → Result (ℕ × ℕ) E) → ℕ → ℕ → List ℕ → List (Placed E)
pieces_by answer zero place xs = []
pieces_by answer (suc n) place [] = []
pieces_by answer (suc n) place (x ∷ xs) =
    (place, (as_piece (answer (x ∷ xs))).0, (as_piece (answer (x ∷ xs))).1) ∷ pieces_by answer n (place + (as_piece (answer (x ∷ xs))).1) (drop (as_piece (answer (x ∷ xs))).1 (x ∷ xs))

-- the remaining pieces of a decoder of bytes from the front, and of a decoder of units
abbrev pub pieces_left : Window → List Item
pieces_left w = pieces_by decoded (length (elements w)) w.front (elements w)

abbrev pub unit_pieces_left : Window → List UnitItem
unit_pieces_left w = pieces_by decoded_pairs (length (elements w)) w.front (elements w)

-- all pieces of some bytes, and of some units: the items of a decoder
abbrev pub pieces : List ℕ → List Item
pieces xs = pieces_left (whole_window xs)

abbrev pub unit_pieces : List ℕ → List UnitItem
unit_pieces xs = unit_pieces_left (whole_window xs)

-- scalars with their offsets, if the first is at this one
abbrev pub placed_chars : ℕ → List ℕ → List (ℕ × ℕ)
placed_chars place [] = []
placed_chars place (s ∷ scalars) = (place, s) ∷ placed_chars (place + length (utf8 s)) scalars

-- the remaining characters of a window of a text, without and with their offsets in the text
abbrev pub chars_left : Window → List ℕ
chars_left w = chars (elements w)

abbrev pub placed_chars_left : Window → List (ℕ × ℕ)
placed_chars_left w = placed_chars w.front (chars (elements w))

-- the codes of a text's characters, joined, are the text
abbrev pub CodesAreTheText : Type 0
CodesAreTheText = (text : List ℕ) → IsUtf8 text → flat_map utf8 (chars text) ≡ text

-- a run gives the elements of the list, in order: stated for the elements and for their images
abbrev pub Gives : {S A : Type 0} {steps : S → Option A → S → Type 0} → Run steps → List A → Type 0
Gives p xs = ItemsAre p xs × ItemsMapTo p (λ x. x) xs × Tells p xs

-- a run gives the elements of the list in reverse order
abbrev pub GivesReversed : {S A : Type 0} {steps : S → Option A → S → Type 0} → Run steps → List A → Type 0
GivesReversed p xs = ItemsAreReversed p xs × ItemsMapToReversed p (λ x. x) xs × Tells p (reverse xs)

-- p is a run of a splitter, and q that of its source: p gives the codes of the items of q, one after another, and those of a list
-- whose first elements, or all, are these items
abbrev pub IsSplitterRun : {S T : Type 0} {steps : S → Option ℕ → S → Type 0} {source : T → Option ℕ → T → Type 0} → (ℕ → List ℕ) → Run steps → Run source → Type 0
IsSplitterRun code p q = (q.whole ≡ p.whole) × (p.len ≤ fold (λ sum s. sum + length (code s)) 0 q.items) × (p.whole ≡ true → p.items ≡ flat_map code q.items)
    × ((xs : List ℕ) → q.items ≡ take q.len xs → (q.whole ≡ true → q.items ≡ xs) → Gives p (flat_map code xs))

-- the codes of the characters that a run gives have no more elements together than this
abbrev pub LengthsFit : {S : Type 0} {steps : S → Option ℕ → S → Type 0} → (ℕ → List ℕ) → ℕ → Run steps → Type 0
LengthsFit code most p = fold (λ sum s. sum + length (code s)) 0 p.items ≤ most

-- the pieces that a run gives have no more elements together than this
abbrev pub PiecesFit : {S E : Type 0} {steps : S → Option (Placed E) → S → Type 0} → ℕ → Run steps → Type 0
PiecesFit most p = fold (λ sum x. sum + x.2) 0 p.items ≤ most

-- a piece of at most `most` elements lies within the first n
abbrev pub LiesWithin : {E : Type 0} → ℕ → ℕ → Placed E → Type 0
LiesWithin most n x = (x.0 < n) × (1 ≤ x.2) × (x.2 ≤ most) × (x.0 + x.2 ≤ n)

-- a piece of at most `most` elements lies in a window: not before its front, and not beyond its back
abbrev pub LiesInWindow : {E : Type 0} → ℕ → Window → Placed E → Type 0
LiesInWindow most w x = LiesWithin most w.back x × (w.front ≤ x.0)

-- a character with its offset lies in the text, between two offsets at which the text can be cut
abbrev pub LiesInText : List ℕ → ℕ × ℕ → Type 0
LiesInText text x = (x.0 < length text) × IsCharBoundary text x.0 × (x.0 + length (utf8 x.1) ≤ length text) × IsCharBoundary text (x.0 + length (utf8 x.1))

-- a character with its offset lies in a window of the text
abbrev pub LiesInTextWindow : Window → ℕ × ℕ → Type 0
LiesInTextWindow w x = LiesInText w.whole x × (w.front ≤ x.0) × (x.0 + length (utf8 x.1) ≤ w.back)

-- the front of the text is its first k characters
abbrev pub HasFirstChars : List ℕ → ℕ → List ℕ → Type 0
HasFirstChars text k front = (front ≡ flat_map utf8 (take k (chars text))) × (chars front ≡ take k (chars text))

-- before each item are as many characters as items preceded it; a run that ends has passed all of them
abbrev pub StandAfterChars : {steps : Window → Option (ℕ × ℕ) → Window → Type 0} → List ℕ → Run steps → Type 0
StandAfterChars text p = ((k : ℕ) → IfSome (p.at k) (λ x. HasFirstChars text k (take x.0 text))) × ((k : ℕ) → p.whole ≡ true → p.len ≤ k → HasFirstChars text k text)

-- calls from the front leave the list and the window's back as they are
abbrev pub LeavesBack : {A : Type 0} → (Window → Option A → Window → Type 0) → Type 0
LeavesBack {A} steps = (w : Window) (seen : List A) (v : Window) → Yields steps w seen v → (v.whole ≡ w.whole) × (v.back ≡ w.back) × (w.front ≤ v.front)

-- calls from the end leave the list and the window's front as they are
abbrev pub LeavesFront : {A : Type 0} → (Window → Option A → Window → Type 0) → Type 0
LeavesFront {A} steps = (w : Window) (seen : List A) (v : Window) → Yields steps w seen v → (v.whole ≡ w.whole) × (v.front ≡ w.front) × (v.back ≤ w.back)

-- the characters among the pieces of some bytes
abbrev pub characters : List ℕ → List ℕ
characters xs = filter_map (λ x. result_ok x.1) (pieces xs)

-- the characters among the pieces of some units
abbrev pub unit_characters : List ℕ → List ℕ
unit_characters xs = filter_map (λ x. result_ok x.1) (unit_pieces xs)

-- calls from s that gave these items, and then `None`, gave the list
abbrev pub GaveAll : {S A : Type 0} → (S → Option A → S → Type 0) → S → List A → Type 0
GaveAll {S} {A} steps s xs = (seen : List A) (t u : S) → Yields steps s seen t → steps t None u → seen ≡ xs

-- calls from s give at most this number of items
abbrev pub GiveAtMost : {S A : Type 0} → (S → Option A → S → Type 0) → S → ℕ → Type 0
GiveAtMost {S} {A} steps s n = (seen : List A) (t : S) → Yields steps s seen t → length seen ≤ n
