-- A text converted to units and back, character by character.
use Rattle.std.proofs.Common.{◌≡◌, ℕ, suc, ◌+◌, List, [], ◌∷◌, ◌++◌, length, drop, refl, ap, sym, ◌∙◌, arith, Some, Result, Ok, Err, length-append, append_assoc, append-nil}
use Rattle.std.proofs.lemmas.Grind.{common_steps}
use Rattle.std.proofs.lemmas.List.{drop_at}
use Rattle.std.proofs.lemmas.Str.{scalars-chars}
use Rattle.std.specs.List.{flat_map}
use Rattle.std.specs.Prelude.{All, slice_range}
use Rattle.std.specs.Str.{IsUtf8, chars}
use Rattle.encode_unicode.specs.Code.{utf8, utf16}
use Rattle.encode_unicode.specs.Mergers.{Merging, TakesFront, unasked, unread}
use Rattle.encode_unicode.specs.Scalar.{IsScalar}
use Rattle.encode_unicode.specs.Sources.{IsListed, Splitting, SplitterNext, unbegun, unsent}
use Rattle.encode_unicode.specs.TextWindow.{NextScalar}
use Rattle.encode_unicode.specs.Units.{unit_fault_kind}
use Rattle.encode_unicode.specs.Window.{Window, elements, whole_window}
use Rattle.encode_unicode.specs.declared.error.Utf16PairError.{Utf16PairError}
use Rattle.encode_unicode.proofs.ForCallers.{all_scalar, codes_of_text, utf16_is_code, same_char, stands_first, no_units_where_kind}
use Rattle.encode_unicode.proofs.Listed.{scalars_listed, splitter_listed}

-- the units that a splitter over the characters of a text still gives
abbrev pub units_left : Splitting Window → List ℕ
units_left = unsent utf16 (λ w. chars (elements w))

-- the text is what was converted back and the characters whose units are unread
pub record IsRecodedSoFar (text again following : List ℕ) : Type 0 where
  pub left : List ℕ
  pub scalars : All IsScalar left
  pub units : following ≡ flat_map utf16 left
  pub joined : text ≡ again ++ flat_map utf8 left

pub recoded_none : (text : List ℕ) → IsUtf8 text → IsRecodedSoFar text [] (flat_map utf16 (chars text))
recoded_none text utf = record {
  left = chars text;
  scalars = all_scalar (chars text) (scalars-chars text utf);
  units = refl;
  joined = sym (codes_of_text text utf);
}

-- the character that begins the unread units is the next of the text
pub recoded_char : (text again old new : List ℕ) (s : ℕ) → IsRecodedSoFar text again old → IsScalar s → old ≡ utf16 s ++ new → IsRecodedSoFar text (again ++ utf8 s) new
recoded_char text again old new s before h e = by_left before.left before.scalars before.units before.joined
  where
    by_left : (left : List ℕ) → All IsScalar left → old ≡ flat_map utf16 left → text ≡ again ++ flat_map utf8 left → IsRecodedSoFar text (again ++ utf8 s) new
    by_left [] all units joined =
        let some = utf16_is_code.some s h in
        let len = ap length e ∙ length-append (utf16 s) new in
        let none : length old ≡ 0 = ap length units in
        absurd (omega arith)
    by_left (x ∷ left) all units joined =
        let x_scalar = all 0 x (omega arith) in
        let same : x ≡ s = same_char utf16 utf16_is_code old 0 x s (stands_first utf16 old (flat_map utf16 left) x x_scalar units) (stands_first utf16 old new s h e) in
        let first : old ≡ utf16 s ++ flat_map utf16 left = units ∙ ap (λ y. utf16 y ++ flat_map utf16 left) same in
        record {
          left = left;
          scalars = λ k d lt. all (suc k) d (omega arith);
          units = sym (ap (drop (length (utf16 s))) e ∙ drop_at (utf16 s) new (length (utf16 s)) refl) ∙ ap (drop (length (utf16 s))) first ∙ drop_at (utf16 s) (flat_map utf16 left) (length (utf16 s)) refl;
          joined = joined ∙ ap (λ y. again ++ (utf8 y ++ flat_map utf8 left)) same ∙ sym (append_assoc again (utf8 s) (flat_map utf8 left));
        }

-- none of the units of a text is invalid
pub recoded_fault : (text again old new : List ℕ) (u : ℕ) (k : Utf16PairError) → IsRecodedSoFar text again old → unit_fault_kind old ≡ Some k → old ≡ u ∷ new → ⊥
recoded_fault text again old new u k before kind e = by_left before.left before.scalars before.units
  where
    by_left : (left : List ℕ) → All IsScalar left → old ≡ flat_map utf16 left → ⊥
    by_left [] all units = absurd (cc (sym e ∙ units))
    by_left (x ∷ left) all units = no_units_where_kind old k x kind (stands_first utf16 old (flat_map utf16 left) x (all 0 x (omega arith)) units)

pub recoded_all : (text again old : List ℕ) → IsRecodedSoFar text again old → old ≡ [] → again ≡ text
recoded_all text again old before none = by_left before.left before.scalars before.units before.joined
  where
    by_left : (left : List ℕ) → All IsScalar left → old ≡ flat_map utf16 left → text ≡ again ++ flat_map utf8 left → again ≡ text
    by_left [] all units joined = sym (joined ∙ append-nil again)
    by_left (x ∷ left) all units joined =
        let some = utf16_is_code.some x (all 0 x (omega arith)) in
        let len : length old ≡ length (utf16 x) + length (flat_map utf16 left) = ap length units ∙ length-append (utf16 x) (flat_map utf16 left) in
        let zero : length old ≡ 0 = ap length none in
        absurd (omega arith)

-- the units of a text, by the results of a merger over a splitter

pub units_listed : IsListed (SplitterNext utf16 NextScalar) units_left
units_listed = splitter_listed utf16 NextScalar (λ w. chars (elements w)) scalars_listed

pub recoded_begun : (text : List ℕ) (m : Merging (Splitting Window)) → IsUtf8 text → m ≡ unasked (unbegun (whole_window text)) → IsRecodedSoFar text [] (unread units_left m)
recoded_begun text m utf is = rw (is, range_all text) (recoded_none text utf)
  where
    range_all : (xs : List ℕ) → slice_range xs 0 (length xs) ≡ xs
    range_all xs = grind (arith, common_steps)

pub recoded_answer : {text again old new : List ℕ} {r : Result ℕ Utf16PairError} (s : ℕ) → IsRecodedSoFar text again old → r ≡ Ok s → TakesFront utf16 unit_fault_kind old (Some r) new → IsRecodedSoFar text (again ++ utf8 s) new
recoded_answer {text} {again} {old} {new} {r = (Ok t)} s before is takes =
    let same : t ≡ s = cc in
    rw (← same) (recoded_char text again old new t before takes.0 takes.1)
recoded_answer {r = (Err k)} s before is takes = absurd (cc is)

pub recoded_no_error : {text again old : List ℕ} (new : List ℕ) {r : Result ℕ Utf16PairError} {k : Utf16PairError} → IsRecodedSoFar text again old → r ≡ Err k → TakesFront utf16 unit_fault_kind old (Some r) new → ⊥
recoded_no_error new {r = (Ok s)} before is takes = absurd (cc is)
recoded_no_error {text} {again} {old} new {r = (Err e)} before is takes = recoded_fault text again old new _ e before takes.0 takes.1
