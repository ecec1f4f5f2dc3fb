-- The list of located pieces: its first piece, when that is decided, and runs over bytes that write pieces into an
-- array.
use Rattle.std.proofs.Common.{◌≡◌, ℕ, zero, suc, ◌+◌, ◌-◌, ◌<◌, ◌≤◌, List, [], ◌∷◌, ◌++◌, get_or, length, take, drop, map, arith, refl, ap, sym, subst, ◌∙◌, append_assoc, length-append, length-drop, length-set, set, Bool, Ok}
use Rattle.std.proofs.lemmas.List.{append-nil, drop-append-le, drop-drop, drop-set-lt, get_or-drop, get_or-take, length-take-le, map-append, take_more_set, take-append-drop}
use Rattle.std.specs.Prelude.{slice_range}
use Rattle.utf_base.specs.Code.{utf8}
use Rattle.utf_base.specs.Decoded.{decoded_pairs}
use Rattle.utf_base.specs.Front.{BeginsWith}
use Rattle.utf_base.proofs.KindLemmas.{ascii_stands_alone}
use Rattle.utf_lanes.specs.AsciiTexts.{AreAscii}
use Rattle.utf_lanes.specs.BytePairs.{units_of}
use Rattle.encode_unicode.specs.Mergers.{decoded_by_merger}
use Rattle.encode_unicode.specs.Window.{as_piece}
use Rattle.encode_unicode.proofs.ForCallers.{some_units}
use Rattle.recoding.specs.declared.faults.FaultKind.TheVariants as kind
use Rattle.recoding.specs.declared.form.Form.{Form}
use Rattle.recoding.specs.declared.form.Form.TheVariants.{Utf8}
use Rattle.recoding.proofs.Forms.{by_form}
use Rattle.text_stream.specs.declared.located.LocatedPiece.{LocatedPiece}
use Rattle.text_stream.specs.declared.located.Spot.{Spot}
use Rattle.text_stream.specs.Located.{Begins, KeepsEach, Locates, Puts, PutsKept, Told, WritesPlaces, all_keep_each, at_offset, first_told, in_bytes, located, located_by, told_as, wrapped}
use Rattle.text_stream.proofs.FrontTold.{char_begins, some_told, told_by_units}
use Rattle.text_stream.proofs.MergedFronts.{some_merged}

-- Each piece has a byte.

some_in_bytes : (high_first : Bool) (w : List ℕ) → 0 < length w → 1 ≤ (in_bytes w (told_as kind.Utf16 (as_piece (decoded_pairs (units_of high_first w))))).1
some_in_bytes high_first w some =
    let one = some_told kind.Utf16 (as_piece (decoded_pairs (units_of high_first w))) (some_units (units_of high_first w)) in
    omega arith

pub first_some : (form : Form) (w : List ℕ) → 0 < length w → 1 ≤ (first_told form w).1
unfolding first_told
first_some = by_form _ (λ w some. some_told kind.Utf8 (as_piece (decoded_by_merger w)) (some_merged w)) (λ high w some. rw (told_by_units high w) (some_in_bytes high w some))

-- As many pieces as there are bytes are all of them.

same_by : (form : Form) (n m offset : ℕ) (w : List ℕ) → length w ≤ n → length w ≤ m → located_by n form offset w ≡ located_by m form offset w
unfolding located_by
same_by form zero zero offset w h k = refl
same_by form zero (suc m) offset [] h k = refl
same_by form zero (suc m) offset (b ∷ w) h k = absurd (omega arith)
same_by form (suc n) zero offset [] h k = refl
same_by form (suc n) zero offset (b ∷ w) h k = absurd (omega arith)
same_by form (suc n) (suc m) offset [] h k = refl
same_by form (suc n) (suc m) offset (b ∷ w) h k =
    let x = first_told form (b ∷ w) in
    let some : 1 ≤ x.1 = first_some form (b ∷ w) (omega arith) in
    let left = length-drop x.1 (b ∷ w) in
    ap (λ ps. at_offset offset x ∷ ps) (same_by form n m (wrapped (offset + x.1)) (drop x.1 (b ∷ w)) (omega arith) (omega arith))

-- One piece, and then the pieces of the rest.

pub located_first : (form : Form) (offset : ℕ) (w : List ℕ) → 0 < length w
    → located form offset w ≡ at_offset offset (first_told form w) ∷ located form (wrapped (offset + (first_told form w).1)) (drop (first_told form w).1 w)
unfolding located located_by
located_first form offset [] some = absurd (omega arith)
located_first form offset (b ∷ w) some =
    let x = first_told form (b ∷ w) in
    let one : 1 ≤ x.1 = first_some form (b ∷ w) some in
    let left = length-drop x.1 (b ∷ w) in
    ap (λ ps. at_offset offset x ∷ ps) (same_by form (length w) (length (drop x.1 (b ∷ w))) (wrapped (offset + x.1)) (drop x.1 (b ∷ w)) (omega arith) (omega arith))

pub located_none : (form : Form) (offset : ℕ) → located form offset [] ≡ []
unfolding located located_by
located_none form offset = refl

-- Pieces that are the same whatever follows.

pub Locates-none : (form : Form) (offset : ℕ) (w : List ℕ) → Locates form offset w [] offset w
Locates-none form offset w = record { same = λ later. refl }

pub Locates-one : {form : Form} {w : List ℕ} {x : Told} (offset : ℕ) → Begins form w x → Locates form offset w (at_offset offset x ∷ []) (wrapped (offset + x.1)) (drop x.1 w)
Locates-one {form} {w} {x} offset b = record {
  same = λ later.
      let within = b.within in
      let some = b.some in
      let first : located form offset (w ++ later) ≡ at_offset offset (first_told form (w ++ later)) ∷ located form (wrapped (offset + (first_told form (w ++ later)).1)) (drop (first_told form (w ++ later)).1 (w ++ later))
      = located_first form offset (w ++ later) (omega (arith, length-append w later)) in
      let left : drop x.1 (w ++ later) ≡ drop x.1 w ++ later = drop-append-le x.1 w later within in
      first ∙ ap (λ y. at_offset offset y ∷ located form (wrapped (offset + y.1)) (drop y.1 (w ++ later))) (b.first later) ∙ ap (λ z. at_offset offset x ∷ located form (wrapped (offset + x.1)) z) left;
}

pub Locates-then : {form : Form} {offset next last : ℕ} {w v u : List ℕ} {xs ys : List LocatedPiece} → Locates form offset w xs next v → Locates form next v ys last u
    → Locates form offset w (xs ++ ys) last u
Locates-then {form} {last = last} {u = u} {xs = xs} {ys = ys} a b = record {
  same = λ later. a.same later ∙ ap (λ z. xs ++ z) (b.same later) ∙ sym (append_assoc xs ys (located form last (u ++ later)));
}

-- The piece that begins some bytes begins them and more.
pub Begins-before : {form : Form} {w : List ℕ} {x : Told} (more : List ℕ) → Begins form w x → Begins form (w ++ more) x
Begins-before {form} {w} {x} more b = record {
  some = b.some;
  few = b.few;
  within = let h = b.within in omega (arith, length-append w more);
  first = λ later. ap (first_told form) (append_assoc w more later) ∙ b.first (more ++ later);
}

pub Begins-all : {form : Form} {x : Told} (n : ℕ) (w : List ℕ) → Begins form (take n w) x → Begins form w x
Begins-all {form} {x} n w b = subst (λ v. Begins form v x) (take-append-drop n w) (Begins-before (drop n w) b)

-- Elements that are written, one after another.

pub WritesPlaces-none : {P : Type 0} (room : List P) (n : ℕ) → n ≤ length room → WritesPlaces [] room room n n
WritesPlaces-none room n within = record { on = omega arith; fits = within; front = sym (append-nil (take n room)); rest = refl; len = refl }

pub WritesPlaces-one : {P : Type 0} (room : List P) (n : ℕ) (piece : P) → n < length room → WritesPlaces (piece ∷ []) room (set room n piece) n (n + 1)
WritesPlaces-one room n piece lt = record {
  on = omega arith;
  fits = omega arith;
  front = take_more_set room n piece lt;
  rest = drop-set-lt (n + 1) room n piece (omega arith);
  len = length-set room n piece;
}

pub WritesPlaces-then : {P : Type 0} {xs ys old room new : List P} {from at to : ℕ} → WritesPlaces xs old room from at → WritesPlaces ys room new at to → WritesPlaces (xs ++ ys) old new from to
WritesPlaces-then {xs = xs} {ys = ys} {old = old} {room = room} {from = from} {at = at} {to = to} a b =
    let k = to - at in
    let on = a.on in
    let more = b.on in
    let fits = b.fits in
    let len = a.len in
    let e : to ≡ at + k = omega arith in
    record {
      on = omega arith;
      fits = omega arith;
      front = b.front ∙ ap (λ ps. ps ++ ys) a.front ∙ append_assoc (take from old) xs ys;
      rest = b.rest ∙ rw e (sym (drop-drop k at room) ∙ ap (drop k) a.rest ∙ drop-drop k at old);
      len = b.len ∙ len;
    }

-- Runs, from spot to spot.

module _ {kept : List LocatedPiece → List LocatedPiece} (law : KeepsEach kept) where
  pub PutsKept-none : {P : Type 0} (made : LocatedPiece → P) (form : Form) (bytes : List ℕ) (room : List P) (at : Spot) → at.read ≤ length bytes → at.written ≤ length room
      → PutsKept kept made form bytes room room at at
  PutsKept-none made form bytes room at read written = record {
    given = [];
    locates = Locates-none form at.offset (drop at.read bytes);
    writes = subst (λ ps. WritesPlaces ps room room at.written at.written) (sym (ap (map made) law.none)) (WritesPlaces-none room at.written written);
    ahead = omega arith;
    within = read;
  }

  -- one run after another
  pub PutsKept-then : {P : Type 0} {made : LocatedPiece → P} {form : Form} {bytes : List ℕ} {old room new : List P} {from at to : Spot} → PutsKept kept made form bytes old room from at
      → PutsKept kept made form bytes room new at to → PutsKept kept made form bytes old new from to
  PutsKept-then {made = made} {old = old} {new = new} {from = from} {to = to} a b =
      let ahead = a.ahead in
      let further = b.ahead in
      let both : map made (kept (a.given ++ b.given)) ≡ map made (kept a.given) ++ map made (kept b.given) = ap (map made) (law.more a.given b.given) ∙ map-append made (kept a.given) (kept b.given) in
      record {
        given = a.given ++ b.given;
        locates = Locates-then a.locates b.locates;
        writes = subst (λ ps. WritesPlaces ps old new from.written to.written) (sym both) (WritesPlaces-then a.writes b.writes);
        ahead = omega arith;
        within = b.within;
      }

-- one piece
pub PutsKept-piece : {P : Type 0} {kept : List LocatedPiece → List LocatedPiece} {made : LocatedPiece → P} {form : Form} {bytes : List ℕ} {room new : List P} {at to : Spot} (x : Told)
    → Begins form (drop at.read bytes) x → at.read ≤ length bytes → WritesPlaces (map made (kept (at_offset at.offset x ∷ []))) room new at.written to.written
    → to.read ≡ at.read + x.1 → to.offset ≡ wrapped (at.offset + x.1) → PutsKept kept made form bytes room new at to
PutsKept-piece {form = form} {bytes = bytes} {at = at} x b there writes read offset =
    let within = b.within in
    let left = length-drop at.read bytes in
    let one : Locates form at.offset (drop at.read bytes) (at_offset at.offset x ∷ []) (wrapped (at.offset + x.1)) (drop (at.read + x.1) bytes)
    = subst (λ z. Locates form at.offset (drop at.read bytes) (at_offset at.offset x ∷ []) (wrapped (at.offset + x.1)) z) (drop-drop x.1 at.read bytes) (Locates-one at.offset b) in
    record {
      given = at_offset at.offset x ∷ [];
      locates = rw (offset, read) one;
      writes = writes;
      ahead = omega arith;
      within = omega arith;
    }

-- Runs that write all pieces.

pub Puts-none : {P : Type 0} (made : LocatedPiece → P) (form : Form) (bytes : List ℕ) (room : List P) (at : Spot) → at.read ≤ length bytes → at.written ≤ length room
    → Puts made form bytes room room at at
Puts-none made form bytes room at read written = PutsKept-none all_keep_each made form bytes room at read written

pub Puts-then : {P : Type 0} {made : LocatedPiece → P} {form : Form} {bytes : List ℕ} {old room new : List P} {from at to : Spot} → Puts made form bytes old room from at
    → Puts made form bytes room new at to → Puts made form bytes old new from to
Puts-then a b = PutsKept-then all_keep_each a b

-- one more piece
pub Puts-one : {P : Type 0} {made : LocatedPiece → P} {form : Form} {bytes : List ℕ} {old room : List P} {from at to : Spot} {piece : P} (x : Told) → Puts made form bytes old room from at
    → Begins form (drop at.read bytes) x → at.written < length room → piece ≡ made (at_offset at.offset x)
    → to.read ≡ at.read + x.1 → to.written ≡ at.written + 1 → to.offset ≡ wrapped (at.offset + x.1) → Puts made form bytes old (set room at.written piece) from to
Puts-one {made = made} {room = room} {at = at} {to = to} {piece = piece} x h b lt is read written offset =
    let put : WritesPlaces (made (at_offset at.offset x) ∷ []) room (set room at.written piece) at.written to.written = rw (written, ← is) (WritesPlaces-one room at.written piece lt) in
    Puts-then h (PutsKept-piece x b h.within put read offset)

-- Bytes of ASCII.

pub ascii_there : (bytes : List ℕ) (place n : ℕ) → place + n ≤ length bytes → AreAscii (slice_range bytes place (place + n)) 0 (length (slice_range bytes place (place + n)))
    → AreAscii bytes place (place + n)
ascii_there bytes place n fits ascii k from lt =
    let span : place + n - place ≡ n = omega arith in
    let long : length (take n (drop place bytes)) ≡ n = length-take-le n (drop place bytes) (omega (arith, length-drop place bytes)) in
    let low = rw span at (ascii (k - place)) in
    let at : get_or (take n (drop place bytes)) (k - place) 0 ≡ get_or bytes k 0
    = get_or-take n (drop place bytes) (k - place) 0 (omega arith) ∙ get_or-drop place bytes (k - place) 0 ∙ ap (λ j. get_or bytes j 0) (omega arith) in
    rw at at (low (omega arith) (omega arith))

pub ascii_begins : (bytes : List ℕ) (place : ℕ) → place < length bytes → get_or bytes place 0 < 0x80 → Begins Utf8 (drop place bytes) (Ok (get_or bytes place 0), 1)
ascii_begins bytes place lt low =
    let there : get_or (drop place bytes) 0 0 ≡ get_or bytes place 0 = get_or-drop place bytes 0 0 ∙ ap (λ j. get_or bytes j 0) (omega arith) in
    let some : 0 < length (drop place bytes) = omega (arith, length-drop place bytes) in
    let (stands, len) = ascii_stands_alone (drop place bytes) 0 some (rw there low) in
    rw there at (char_begins (drop place bytes) (get_or (drop place bytes) 0 0) 1 (stands, len))

-- A character that begins four bytes begins all of them.
pub four_begin : (bytes : List ℕ) (place s n : ℕ) → BeginsWith utf8 (slice_range bytes place (place + 4)) s n → Begins Utf8 (drop place bytes) (Ok s, n)
four_begin bytes place s n h =
    let span : place + 4 - place ≡ 4 = omega arith in
    Begins-all 4 (drop place bytes) (rw span at (char_begins (slice_range bytes place (place + 4)) s n h))
