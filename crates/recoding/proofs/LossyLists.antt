-- The output for bytes with one U+FFFD for each maximal subpart: there is one list, and each step gives its
-- front.
use Rattle.std.proofs.Common.{◌≡◌, ℕ, suc, ◌+◌, ◌-◌, ◌<◌, ◌≤◌, ⊎_elim, Bool, true, false, Some, None, Option, List, [], ◌∷◌, ◌++◌, length, drop, map, flat_map, arith, refl, ap, ap₂, sym, ◌∙◌, subst, append_assoc, length-append, length-drop, length-take}
use Rattle.std.specs.Prelude.{All, slice_range}
use Rattle.std.specs.List.{concat}
use Rattle.std.proofs.lemmas.Bool.{cases_lt}
use Rattle.std.proofs.lemmas.List.{drop-append-le, drop_at, take_all}
use Rattle.std.proofs.lemmas.List.Concat.{flat_map-append}
use Rattle.utf_base.specs.Code.{utf8, utf16}
use Rattle.utf_base.specs.Piece.{Piece, Stands}
use Rattle.utf_base.specs.Scalar.{IsScalar}
use Rattle.utf_base.specs.Shown.{Shows, shown}
use Rattle.utf_base.specs.Subparts.{IsMaximalSubpart, IsPart, ShowsParts, pieces_of}
use Rattle.utf_base.proofs.Rests.{shows_one}
use Rattle.utf_base.proofs.Standing.{stands_first}
use Rattle.utf_base.proofs.SubpartLemmas.{parts_become_the_cut}
use Rattle.utf_base.proofs.UnitLemmas.{utf16_finds}
use Rattle.utf_base.proofs.Utf8Code.{utf8_is_code}
use Rattle.utf_base.proofs.Utf16Code.{length_utf16, utf16_is_code}
use Rattle.utf_lanes.specs.BytePairs.{bytes_of, units_of}
use Rattle.recoding.specs.declared.form.Form.{Form}
use Rattle.recoding.specs.declared.form.Form.TheVariants.{Utf8}
use Rattle.recoding.specs.TextForms.{text_form, utf16_form}
use Rattle.recoding.proofs.Forms.{by_form, is_units}
use Rattle.recoding.specs.Lossy.{BeginsSubpart, IsLossy, ReadsParts, ShowsUnitParts, odd_part}
use Rattle.recoding.specs.LossyBytes.{AddsEach, LossyIsOne, LossyIsRecoded, LossyJoinsFaults, LossyPartsAreOne, LossyUnitsAreRecoded, TextIsLossy, lossy, lossy_outcome, shown_by_parts}
use Rattle.recoding.specs.Recoded.{fresh, IsProperFront, Reads, Recoding, ShowsUnits, odd_end, written}
use Rattle.recoding.specs.NextScalars.{Decides, Ends, ShowsEach}
use Rattle.recoding.proofs.FrontBytes.{replacement}
use Rattle.recoding.proofs.HeldFronts.{no_code_in_front}
use Rattle.utf_base.proofs.PartLists.{part_shows_first, parts_show_none, parts_show_one, parts_show_some}
use Rattle.recoding.proofs.RecodedLists.{same_list}
use Rattle.recoding.proofs.CopiedUnits.{codes_show, joined_bytes}
use Rattle.recoding.proofs.OddParts.{odd_part_of_text}
use Rattle.recoding.proofs.TextLaws.{units_of_bytes}

-- A maximal subpart of units is one unit.

pub one_unit : (xs : List ℕ) (p m : ℕ) → IsMaximalSubpart utf16 xs p m → m ≡ 1
one_unit xs p m h =
    let some = h.some in
    let fits = h.within in
    let long : (1 < m → ⊥) = λ more.
    let f = h.front more in
    let range : List ℕ = slice_range xs p (p + m) in
    let span : p + m - p ≡ m = omega arith in
    let len : length range ≡ m = omega (arith, length-take (p + m - p) (drop p xs), length-drop p xs) in
    let whole : length (utf16 f.char) ≡ m = omega (arith, f.within, length_utf16 f.char) in
    let code : utf16 f.char ≡ range = sym (take_all (length range) (utf16 f.char) (omega arith)) ∙ f.front in
    h.offset.none f.char (record { scalar = f.scalar; within = omega arith; equal = ap (λ k. slice_range xs p (p + k)) whole ∙ sym code }) in
    ⊎_elim (λ (more : 1 < m). absurd (long more)) (λ (le : m ≤ 1). omega arith) (cases_lt 1 m)

-- the parts of units are their pieces
same_part : (xs : List ℕ) (p n : ℕ) (a : Option ℕ) → IsPart utf16 xs p n a → pieces_of p n a ≡ record { start = p; len = n; char = a } ∷ []
same_part xs p n (Some s) h = refl
same_part xs p n None h = rw (one_unit xs p n h) refl

same_parts : (xs : List ℕ) (parts : List Piece) → All (λ x. IsPart utf16 xs x.start x.len x.char) parts → flat_map (λ x. pieces_of x.start x.len x.char) parts ≡ parts
same_parts xs [] each = refl
same_parts xs (x ∷ parts) each =
    ap₂ (λ ys zs. ys ++ zs) (same_part xs x.start x.len x.char (each 0 x (omega arith))) (same_parts xs parts (λ k d lt. each (suc k) d (omega arith)))

pub units_show : (xs ss : List ℕ) → ShowsParts utf16 xs ss → Shows utf16 xs ss
units_show xs ss (parts, h, e) = (parts, rw (same_parts xs parts h.each) at (parts_become_the_cut utf16 utf16_is_code xs parts h), e)

pub units_in_parts : (xs ss : List ℕ) → Shows utf16 xs ss → ShowsParts utf16 xs ss
units_in_parts xs ss h =
    let r = parts_show_some utf16 utf16_is_code utf16_finds xs in
    let same : ss ≡ r.0 = shows_one utf16 utf16_is_code xs ss r.0 h (units_show xs r.0 r.1) in
    subst (λ ts. ShowsParts utf16 xs ts) (sym same) r.1

-- There is one list.

unit_parts_one : (high : Bool) (bytes ss ts : List ℕ) → ShowsUnitParts high bytes ss → ShowsUnitParts high bytes ts → ss ≡ ts
unit_parts_one high bytes ss ts (xs, a, e) (ys, b, f) = e ∙ ap (λ zs. zs ++ odd_part high bytes) (parts_show_one utf16 utf16_is_code (units_of high bytes) xs ys a b) ∙ sym f

parts_one : (from : Form) (bytes ss ts : List ℕ) → ReadsParts from bytes ss → ReadsParts from bytes ts → ss ≡ ts
parts_one = by_form _ (parts_show_one utf8 utf8_is_code) (λ high. rw (is_units high, ReadsParts) (unit_parts_one high))

parts_are_read : (from : Form) (bytes : List ℕ) → ReadsParts from bytes (shown_by_parts from bytes)
unfolding shown_by_parts
parts_are_read from bytes = ((text_form from).parts_some bytes).1

pub lossy_is : (from to : Form) (bytes : List ℕ) → IsLossy from to bytes (lossy from to bytes)
unfolding lossy
lossy_is from to bytes = (shown_by_parts from bytes, parts_are_read from bytes, refl)

pub same_lossy : (from to : Form) (bytes out : List ℕ) → IsLossy from to bytes out → out ≡ lossy from to bytes
same_lossy from to bytes out (ss, r, e) =
    let whole = lossy_is from to bytes in
    e ∙ ap (flat_map (written to)) (parts_one from bytes ss whole.0 r whole.1) ∙ sym whole.2

pub lossy_is_one : LossyIsOne
lossy_is_one from to bytes out = (same_lossy from to bytes out, λ e. subst (λ xs. IsLossy from to bytes xs) (sym e) (lossy_is from to bytes))

pub nothing_is_lossy : (from to : Form) → lossy from to [] ≡ []
nothing_is_lossy from to = sym (same_lossy from to [] [] ([], parts_none from, refl))
  where
    parts_none : (from : Form) → ReadsParts from [] []
    parts_none = by_form _ (parts_show_none utf8) (λ high. rw (is_units high, ReadsParts) ([], parts_show_none utf16, refl))

-- A part at the front.

pub Decides-subpart : (w : List ℕ) (n : ℕ) → n ≤ length w → BeginsSubpart w n → Decides (ReadsParts Utf8) w 0xFFFD n
Decides-subpart w n le h = record {
  some = (h []).some;
  within = le;
  scalar = replacement;
  wide = λ high. absurd (omega arith);
  first = λ later ss r.
      part_shows_first utf8 (w ++ later) n None ss (omega (arith, length-append w later)) (h later) (rw (sym (drop-append-le n w later le)) at r);
}

-- the front of a code that nothing follows is one subpart
pub front_is_subpart : (w : List ℕ) → 0 < length w → IsProperFront utf8 w → IsMaximalSubpart utf8 w 0 (length w)
front_is_subpart w some f = record {
  offset = record { within = some; none = λ s h. no_code_in_front utf8 utf8_is_code w f.char s f.scalar f.longer f.front h };
  some = some;
  within = omega arith;
  front = λ more. rw all (record { char = f.char; scalar = f.scalar; within = omega (arith, f.longer); front = f.front });
  longest = λ n fits g. omega arith;
}
  where
    span : 0 + length w - 0 ≡ length w
    span = omega arith

    all : slice_range w 0 (0 + length w) ≡ w
    all = rw span (take_all (length w) w (omega arith))

pub Ends-front : (w : List ℕ) → 0 < length w → IsProperFront utf8 w → Ends (ReadsParts Utf8) w 0xFFFD (length w)
Ends-front w some f = record {
  some = some;
  within = omega arith;
  scalar = replacement;
  wide = λ high. absurd (omega arith);
  first = λ ss r. part_shows_first utf8 w (length w) None ss (omega arith) (front_is_subpart w some f) r;
}

-- Text.

text_in_parts : (cs : List ℕ) → All IsScalar cs → ShowsEach (ReadsParts Utf8) (flat_map (written Utf8) cs) cs
text_in_parts [] all later ss h = h
text_in_parts (s ∷ cs) all later ss h =
    let rest : List ℕ = flat_map (written Utf8) cs ++ later in
    let whole : (utf8 s ++ flat_map (written Utf8) cs) ++ later ≡ utf8 s ++ rest = append_assoc (utf8 s) (flat_map (written Utf8) cs) later in
    let stands : Stands utf8 (utf8 s ++ rest) 0 s = stands_first utf8 (utf8 s ++ rest) rest s (all 0 s (omega arith)) refl in
    let next = text_in_parts cs (λ j d lt. all (suc j) d (omega arith)) later ss h in
    let at_rest : ShowsParts utf8 (drop (length (utf8 s)) (utf8 s ++ rest)) (cs ++ ss) = rw (drop_at (utf8 s) rest (length (utf8 s)) refl) next in
    rw whole (part_shows_first utf8 (utf8 s ++ rest) (length (utf8 s)) (Some s) (cs ++ ss) (omega (arith, length-append (utf8 s) rest)) (stands, refl) at_rest)

units_in_text : (high : Bool) (cs : List ℕ) → All IsScalar cs → ShowsEach (ShowsUnitParts high) (flat_map (bytes_of high) (flat_map utf16 cs)) cs
units_in_text high cs all later ss (ts, r, f) = (
  cs ++ ts,
  rw (units_of_bytes high (flat_map utf16 cs) later)
      (units_in_parts (flat_map utf16 cs ++ units_of high later) (cs ++ ts) (codes_show cs (units_of high later) ts all (units_show (units_of high later) ts r))),
  ap (λ xs. cs ++ xs) f ∙ sym (append_assoc cs ts (odd_part high later)) ∙ ap (λ o. (cs ++ ts) ++ o) (sym (odd_part_of_text high cs later all)),
)

pub text_shows_parts : (from : Form) (cs : List ℕ) → All IsScalar cs → ShowsEach (ReadsParts from) (flat_map (written from) cs) cs
text_shows_parts = by_form _ text_in_parts (λ high. rw (is_units high, ReadsParts, written) (λ cs all. rw (joined_bytes high cs) (units_in_text high cs all)))

pub text_is_lossy : TextIsLossy
text_is_lossy from to text out later t =
    let r = lossy_is from to later in
    let cs : List ℕ = t.scalars in
    let codes : out ++ lossy from to later ≡ flat_map (written to) (cs ++ r.0) = ap₂ (λ xs ys. xs ++ ys) t.made r.2 ∙ sym (flat_map-append (written to) cs r.0) in
    sym (same_lossy from to (text ++ later) (out ++ lossy from to later) (cs ++ r.0, rw t.codes (text_shows_parts from cs t.all later r.0 r.1), codes))

-- The laws.

units_alike : (high : Bool) (bytes ss : List ℕ) → odd_part high bytes ≡ odd_end bytes → ShowsUnitParts high bytes ss → ShowsUnits high bytes ss
units_alike high bytes ss same (ts, r, e) = (ts, units_show (units_of high bytes) ts r, e ∙ ap (λ o. ts ++ o) same)

pub lossy_units_are_recoded : LossyUnitsAreRecoded
lossy_units_are_recoded to bytes = (alike false, alike true)
  where
    alike : (high : Bool) → LossyIsRecoded high to bytes
    alike high same =
        let r = lossy_is (utf16_form high) to bytes in
        let parts : ShowsUnitParts high bytes r.0 = rw (is_units high, ReadsParts) at r.1 in
        same_list (utf16_form high) to bytes (lossy (utf16_form high) to bytes) (r.0, rw (is_units high, Reads) (units_alike high bytes r.0 same parts), r.2)

pub lossy_joins_faults : LossyJoinsFaults
lossy_joins_faults to bytes =
    let r = lossy_is Utf8 to bytes in
    let parts : List Piece = r.1.0 in
    let pieces : List Piece = flat_map (λ x. pieces_of x.start x.len x.char) parts in
    let cut = parts_become_the_cut utf8 utf8_is_code bytes parts r.1.1 in (
      parts,
      r.1.1,
      r.2 ∙ ap (flat_map (written to)) r.1.2,
      sym (same_list Utf8 to bytes (flat_map (written to) (map shown pieces)) (map shown pieces, (pieces, cut, refl), refl)),
    )

adds_each : (r : Recoding) (parts : List (List ℕ)) (old new : List ℕ) → AddsEach r parts old new → new ≡ lossy_outcome r old (concat parts)
adds_each r [] old new e = e
adds_each r (part ∷ parts) old new (s, mid, keeps, rest) = adds_each s parts mid new rest ∙ keeps (concat parts)

pub lossy_parts_are_one : LossyPartsAreOne
unfolding lossy_outcome
lossy_parts_are_one from to parts out h = adds_each (fresh from to) parts [] out h
