-- The items of whole runs of decoders from the end, as lists.
use Rattle.std.specs.Prelude.{◌≡◌, ℕ, zero, suc, ◌-◌, List, [], ◌∷◌, if◌then◌else◌, map, nat_le, reverse, slice_range, Result}
use Rattle.utf_base.specs.Back.{decoded_end, decoded_pairs_end}
use Rattle.utf_base.specs.Walk.{piece_of}
use Rattle.encode_unicode.specs.Window.{Window, Placed, Item, UnitItem, whole_window, as_piece}

-- the item of a piece that ends at the offset j
abbrev pub ending_at : {E : Type 0} → ℕ → Result ℕ E × ℕ → Placed E
ending_at j a = (j - a.1, a.0, a.1)

-- the pieces from the offset i up to the offset j, in reverse order, as decoded at the end of what is left: n of
-- them, or all if they are fewer
unfoldable pub pieces_back_by : {E : Type 0} → (List ℕ → Result (ℕ × ℕ) E) → ℕ → List ℕ → ℕ → ℕ → List (Placed E)
pieces_back_by answer zero xs i j = []
pieces_back_by answer (suc n) xs i j =
    if nat_le j i then []
    else ending_at j (as_piece (answer (slice_range xs i j))) ∷ pieces_back_by answer n xs i (j - (as_piece (answer (slice_range xs i j))).1)

-- the remaining pieces of a decoder of bytes from the end, and of a decoder of units
abbrev pub pieces_back_left : Window → List Item
pieces_back_left w = pieces_back_by decoded_end (w.back - w.front) w.whole w.front w.back

abbrev pub unit_pieces_back_left : Window → List UnitItem
unit_pieces_back_left w = pieces_back_by decoded_pairs_end (w.back - w.front) w.whole w.front w.back

-- all pieces of some bytes, and of some units, in reverse order: the items of `rev` of a decoder
abbrev pub pieces_back : List ℕ → List Item
pieces_back xs = pieces_back_left (whole_window xs)

abbrev pub unit_pieces_back : List ℕ → List UnitItem
unit_pieces_back xs = unit_pieces_back_left (whole_window xs)

-- the items are others in reverse order, except for the kinds of their faults
abbrev pub AreTurned : {E : Type 0} → List (Placed E) → List (Placed E) → Type 0
AreTurned back items = map piece_of back ≡ reverse (map piece_of items)
