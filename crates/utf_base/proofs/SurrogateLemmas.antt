-- The steps of RFC 2781 make the units of a scalar, and recover it.
use Rattle.std.proofs.Common.{◌≡◌, ℕ, ◌+◌, ◌-◌, ◌/◌, ◌%◌, ◌<◌, ◌≤◌, ⊎_elim, List, [], ◌∷◌, length, ap, sym, ◌∙◌, arith, Some, None}
use Rattle.std.proofs.lemmas.Grind.{common_steps}
use Rattle.std.proofs.lemmas.Bool.{cases_lt}
use Rattle.utf_base.specs.Scalar.{IsScalar, IsUnits}
use Rattle.utf_base.specs.Code.{utf16}
use Rattle.utf_base.specs.GrammarLaws.{UnitsAreDecoded, UnitsAreEncoded}
use Rattle.utf_base.specs.Piece.{Stands}
use Rattle.utf_base.specs.SurrogatePairs.{IsEncodedAs, decoded_by_steps}
use Rattle.utf_base.specs.Units.{slice_fault, unit_value}
use Rattle.utf_base.proofs.Standing.{same_char}
use Rattle.utf_base.proofs.UnitLemmas.{units_code_or_one_fault}
use Rattle.utf_base.proofs.Utf16Code.{utf16_is_code}

alone : (s : ℕ) → s < 0x1_0000 → utf16 s ≡ s ∷ []
unfolding utf16
alone s h = grind (arith, common_steps)

paired : (s : ℕ) → 0x1_0000 ≤ s → utf16 s ≡ (0xD800 + (s - 0x1_0000) / 1024) ∷ (0xDC00 + (s - 0x1_0000) % 1024) ∷ []
unfolding utf16
paired s h = grind (arith, common_steps)

encoded : (s : ℕ) → IsScalar s → IsEncodedAs s (utf16 s)
encoded s scalar =
    let below = scalar.below in
    record {
      alone = alone s;
      paired = λ h. record { high = (s - 0x1_0000) / 1024; low = (s - 0x1_0000) % 1024; ten_high = omega arith; ten_low = omega arith; twenty = omega arith; pair = paired s h };
    }

once : (s : ℕ) (units : List ℕ) → IsEncodedAs s units → units ≡ utf16 s
once s units e =
    ⊎_elim (λ (h : s < 0x1_0000). e.alone h ∙ sym (alone s h))
    (λ (h : 0x1_0000 ≤ s).
    let p = e.paired h in
    let twenty = p.twenty in
    let high : 0xD800 + p.high ≡ 0xD800 + (s - 0x1_0000) / 1024 = omega (arith, p.ten_low) in
    let low : 0xDC00 + p.low ≡ 0xDC00 + (s - 0x1_0000) % 1024 = omega (arith, p.ten_low) in
    let units_are : (0xD800 + p.high) ∷ (0xDC00 + p.low) ∷ [] ≡ (0xD800 + (s - 0x1_0000) / 1024) ∷ (0xDC00 + (s - 0x1_0000) % 1024) ∷ [] = cc in
    p.pair ∙ units_are ∙ sym (paired s h))
    (cases_lt s 0x1_0000)

pub units_are_encoded : UnitsAreEncoded
units_are_encoded = record { code = encoded; once = once }

-- The decoding steps find a fault if and only if a slice of units has one, and otherwise the scalar of its
-- first code.

value_of_decoded : (w : List ℕ) (s : ℕ) → 0 < length w → decoded_by_steps w ≡ Some s → (slice_fault w ≡ None) × (unit_value w ≡ s)
unfolding decoded_by_steps slice_fault unit_value
value_of_decoded w s some e = (grind (arith, common_steps), grind (arith, common_steps))

decoded_of_none : (w : List ℕ) → slice_fault w ≡ None → decoded_by_steps w ≡ Some (unit_value w)
unfolding decoded_by_steps slice_fault unit_value
decoded_of_none w e = grind (arith, common_steps)

stands_of_decoded : (w : List ℕ) (s : ℕ) → IsUnits w → 0 < length w → decoded_by_steps w ≡ Some s → Stands utf16 w 0 s
stands_of_decoded w s units some e =
    let h = value_of_decoded w s some e in
    rw (sym h.1) (units_code_or_one_fault.code w units h.0)

decoded_of_stands : (w : List ℕ) (s : ℕ) → IsUnits w → Stands utf16 w 0 s → decoded_by_steps w ≡ Some s
decoded_of_stands w s units h =
    let none = units_code_or_one_fault.fault w s h in
    let same = same_char utf16 utf16_is_code w 0 (unit_value w) s (units_code_or_one_fault.code w units none) h in
    decoded_of_none w none ∙ ap (λ v. Some v) same

pub units_are_decoded : UnitsAreDecoded
units_are_decoded = record { code = stands_of_decoded; only = decoded_of_stands }
