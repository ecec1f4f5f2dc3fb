-- The piece that begins some bytes, derived from the result of a decoder.
use Rattle.std.proofs.Common.{◌≡◌, ◌≢◌, ℕ, ◌+◌, ◌-◌, ◌<◌, ◌≤◌, eqb, Bool, true, false, List, [], ◌∷◌, ◌++◌, length, get_or, take, drop, flat_map, arith, refl, ap, ap₂, sym, ◌∙◌, Some, Fits, w8}
use Rattle.std.proofs.lemmas.Grind.{common_steps}
use Rattle.std.specs.Option.{option_map}
use Rattle.std.proofs.lemmas.List.{append-nil}
use Rattle.utf_base.specs.Code.{utf8, utf16}
use Rattle.utf_base.specs.Front.{BeginsWith}
use Rattle.utf_base.specs.Kinds.{fault_kind}
use Rattle.utf_base.specs.Scalar.{IsScalar}
use Rattle.utf_base.specs.Units.{is_leading_surrogate, is_trailing_surrogate, unit_fault_kind}
use Rattle.utf_base.specs.declared.errors.Utf8ErrorKind.{Utf8ErrorKind}
use Rattle.utf_base.specs.declared.errors.Utf8ErrorKind.TheVariants.{TooFewBytes}
use Rattle.utf_base.specs.declared.errors.units.Utf16PairError.{Utf16PairError}
use Rattle.utf_base.specs.declared.errors.units.Utf16PairError.TheVariants.{Incomplete, UnexpectedTrailingSurrogate, UnmatchedLeadingSurrogate}
use Rattle.utf_base.proofs.LaterLemmas.{kind_stays, few_where_too_few}
use Rattle.utf_base.proofs.UnitLemmas.{no_both}
use Rattle.utf_base.proofs.Utf8Code.{utf8_is_code}
use Rattle.utf_lanes.specs.BytePairs.{units_of, bytes_of}
use Rattle.recoding.specs.NextScalars.{HasByteOrder, fault_len}
use Rattle.recoding.specs.Strict.{kind_of, lacking, BeginsChar, BeginsFault, AwaitsKind}
use Rattle.recoding.specs.declared.faults.FaultKind.TheVariants as kind
use Rattle.recoding.specs.declared.form.Form.{Form}
use Rattle.recoding.specs.declared.form.Form.TheVariants.{Utf8}
use Rattle.recoding.proofs.Forms.{is_units}
use Rattle.recoding.proofs.CopiedUnits.{as_written, same_pair}
use Rattle.recoding.proofs.FrontBytes.{not_empty, first_unit, second_unit, units_two, units_next, lacks_byte, lacks_second}

-- UTF-8.

pub BeginsChar-utf8 : (w : List ℕ) (s n : ℕ) → BeginsWith utf8 w s n → BeginsChar Utf8 w s n
BeginsChar-utf8 w s n (h, e) =
    let some = utf8_is_code.some s h.scalar in
    let within = h.within in
    let span : 0 + length (utf8 s) - 0 ≡ length (utf8 s) = omega arith in
    record { scalar = h.scalar; some = omega arith; within = omega arith; code = rw e (rw span at h.equal) }

pub BeginsFault-utf8 : (w : List ℕ) (k : Utf8ErrorKind) → fault_kind w ≡ Some k → k ≢ TooFewBytes → BeginsFault Utf8 w (kind.Utf8 k) 1
BeginsFault-utf8 w k e other = record {
  within = (let some = not_empty w k e other in omega arith);
  len = refl;
  kind = λ later. ap (option_map kind.Utf8) (kind_stays w later (λ few. other (same_kind k TooFewBytes (sym e ∙ few))) ∙ e);
}
  where
    same_kind : (a b : Utf8ErrorKind) → Some a ≡ Some b → a ≡ b
    same_kind a b e = cc

pub AwaitsKind-utf8 : (w : List ℕ) → fault_kind w ≡ Some TooFewBytes → AwaitsKind Utf8 w
AwaitsKind-utf8 w e = record { kind = ap (option_map kind.Utf8) e; few = few_where_too_few w e }

-- UTF-16: bytes, two by two.

pub kind_of_units : (high : Bool) (from : Form) (w : List ℕ) → HasByteOrder high from → kind_of from w ≡ option_map kind.Utf16 (unit_fault_kind (units_of high w))
kind_of_units high from w form = rw (form, is_units high, kind_of) refl

lacking_units : (high : Bool) (from : Form) → HasByteOrder high from → lacking from ≡ kind.Utf16 Incomplete
lacking_units high from form = rw (form, is_units high, lacking) refl

fault_of_unit : (high : Bool) (from : Form) → HasByteOrder high from → 2 ≡ fault_len from
fault_of_unit high from form = rw (form, is_units high, fault_len) refl

trailing_units : (us : List ℕ) → 0 < length us → is_trailing_surrogate (get_or us 0 0) ≡ true → unit_fault_kind us ≡ Some UnexpectedTrailingSurrogate
unfolding unit_fault_kind
trailing_units us some t =
    let not_empty : eqb (length us) 0 ≡ false = grind (arith, common_steps) in
    rw (not_empty, t) refl

unmatched_units : (us : List ℕ) → 2 ≤ length us → is_leading_surrogate (get_or us 0 0) ≡ true → is_trailing_surrogate (get_or us 1 0) ≡ false
    → unit_fault_kind us ≡ Some UnmatchedLeadingSurrogate
unfolding unit_fault_kind
unmatched_units us two l t =
    let not_empty : eqb (length us) 0 ≡ false = grind (arith, common_steps) in
    let not_alone : eqb (length us) 1 ≡ false = grind (arith, common_steps) in
    rw (not_empty, no_both (get_or us 0 0) l, l, not_alone, t) refl

front_two : (w : List ℕ) → 2 ≤ length w → take 2 w ≡ get_or w 0 0 ∷ get_or w 1 0 ∷ []
front_two [] h = absurd (omega arith)
front_two (a ∷ []) h = absurd (omega arith)
front_two (a ∷ b ∷ w) h = refl

front_four : (w : List ℕ) → 4 ≤ length w → take 4 w ≡ (get_or w 0 0 ∷ get_or w 1 0 ∷ []) ++ (get_or w 2 0 ∷ get_or w 3 0 ∷ [])
front_four [] h = absurd (omega arith)
front_four (a ∷ []) h = absurd (omega arith)
front_four (a ∷ b ∷ []) h = absurd (omega arith)
front_four (a ∷ b ∷ c ∷ []) h = absurd (omega arith)
front_four (a ∷ b ∷ c ∷ d ∷ w) h = refl

module _ (high : Bool) (from : Form) (w : List ℕ) (form : HasByteOrder high from) where
  units_undecided : length w ≤ 3 → unit_fault_kind (units_of high w) ≡ Some Incomplete → AwaitsKind from w
  units_undecided few e = record {
    kind = kind_of_units high from w form ∙ ap (option_map kind.Utf16) e ∙ ap Some (sym (lacking_units high from form));
    few = few;
  }

  pub AwaitsKind-byte : length w < 2 → AwaitsKind from w
  AwaitsKind-byte few = units_undecided (omega arith) (lacks_byte high w few)

  pub AwaitsKind-leading : 2 ≤ length w → length w < 4 → is_leading_surrogate (first_unit high w) ≡ true → AwaitsKind from w
  AwaitsKind-leading two few l = units_undecided (omega arith) (lacks_second high w two few l)

  unit_fault : (k : Utf16PairError) → 2 ≤ length w → ((later : List ℕ) → unit_fault_kind (units_of high (w ++ later)) ≡ Some k) → BeginsFault from w (kind.Utf16 k) 2
  unit_fault k two e = record {
    within = two;
    len = fault_of_unit high from form;
    kind = λ later. kind_of_units high from (w ++ later) form ∙ ap (option_map kind.Utf16) (e later);
  }

  pub BeginsFault-trailing : 2 ≤ length w → is_trailing_surrogate (first_unit high w) ≡ true → BeginsFault from w (kind.Utf16 UnexpectedTrailingSurrogate) 2
  BeginsFault-trailing two t = unit_fault UnexpectedTrailingSurrogate two (λ later. rw (units_two high w later two) (trailing_units (first_unit high w ∷ units_of high (drop 2 w ++ later)) (omega arith) t))

  pub BeginsFault-unmatched : 4 ≤ length w → is_leading_surrogate (first_unit high w) ≡ true → is_trailing_surrogate (second_unit high w) ≡ false
      → BeginsFault from w (kind.Utf16 UnmatchedLeadingSurrogate) 2
  BeginsFault-unmatched four l t =
      unit_fault UnmatchedLeadingSurrogate (omega arith)
      (λ later. let two : 2 ≤ length w = omega arith in rw (units_two high w later two, units_next high w later four) (unmatched_units (first_unit high w ∷ second_unit high w ∷ units_of high (drop 4 w ++ later)) (omega arith) l t))

  -- The characters.

  pub BeginsChar-unit : (s : ℕ) → 2 ≤ length w → ((j : ℕ) → Fits w8 (get_or w j 0)) → IsScalar s → first_unit high w ∷ [] ≡ utf16 s → BeginsChar from w s 2
  BeginsChar-unit s two fits scalar e = record {
    scalar = scalar;
    some = omega arith;
    within = two;
    code =
        front_two w two ∙ sym (same_pair high (get_or w 0 0) (get_or w 1 0) (fits 0).fits (fits 1).fits) ∙ sym (append-nil (bytes_of high (first_unit high w)))
        ∙ ap (flat_map (bytes_of high)) e ∙ sym (as_written high from s form);
  }

  pub BeginsChar-pair : (s : ℕ) → 4 ≤ length w → ((j : ℕ) → Fits w8 (get_or w j 0)) → IsScalar s → first_unit high w ∷ second_unit high w ∷ [] ≡ utf16 s → BeginsChar from w s 4
  BeginsChar-pair s four fits scalar e =
      let first = same_pair high (get_or w 0 0) (get_or w 1 0) (fits 0).fits (fits 1).fits in
      let second = same_pair high (get_or w 2 0) (get_or w 3 0) (fits 2).fits (fits 3).fits in
      record {
        scalar = scalar;
        some = omega arith;
        within = four;
        code =
            front_four w four ∙ ap₂ (λ xs ys. xs ++ ys) (sym first) (sym second ∙ sym (append-nil (bytes_of high (second_unit high w))))
            ∙ ap (flat_map (bytes_of high)) e ∙ sym (as_written high from s form);
      }
