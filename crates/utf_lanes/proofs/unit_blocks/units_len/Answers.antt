use Rattle.std.proofs.Common.{◌≡◌, ◌-◌, ap, sym, ◌∙◌, arith, subst, false, true≢false, inl, inr, take}
use Rattle.std.proofs.lemmas.Bool.{cases_lt}
use Rattle.utf_base.specs.Units.{is_leading_surrogate}
use Rattle.std.specs.Prelude.{slice_index}
use Rattle.utf_lanes.specs.BytePairs.{units_of}
use Rattle.utf_lanes.specs.UnitBlocks.{AreCodes}
use Rattle.utf_lanes.proofs.CodedUnits.{before_end, units_codes, units_codes_less, units_front, units_length, codes_first_paired, codes_last}
use Rattle.utf_lanes.proofs.unit_blocks.units_len.Goals as goal

pub returns-then-is_utf16_leading_surrogate-clause-codes : goal.returns-then-is_utf16_leading_surrogate-clause-codes
returns-then-is_utf16_leading_surrogate-clause-codes g c =
    let judged = c.paired_end-end.ensures in
    units_codes_less g.E.ByteOrder.HIGH_FIRST c.args.bytes.now c.type_inv.bytes c.paired_end-end.result (omega arith) judged.within judged.first judged.paired _ c.unit-last.ensures
    (sym c.is_utf16_leading_surrogate.ensures ∙ c.if-is_utf16_leading_surrogate.true)

pub returns-else-is_utf16_leading_surrogate-clause-codes : goal.returns-else-is_utf16_leading_surrogate-clause-codes
returns-else-is_utf16_leading_surrogate-clause-codes g c =
    let judged = c.paired_end-end.ensures in
    units_codes g.E.ByteOrder.HIGH_FIRST c.args.bytes.now c.type_inv.bytes c.paired_end-end.result (omega arith) judged.within judged.first judged.paired _ c.unit-last.ensures
    (sym c.is_utf16_leading_surrogate.ensures ∙ c.if-is_utf16_leading_surrogate.false)

pub returns-then-end-eq0-clause-all : goal.returns-then-end-eq0-clause-all
returns-then-end-eq0-clause-all g c enough n within codes =
    let us = units_of g.E.ByteOrder.HIGH_FIRST c.args.bytes.now in
    let front : AreCodes (take n us) = rw (units_front g.E.ByteOrder.HIGH_FIRST c.args.bytes.now n) codes in
    let end = c.paired_end-end.ensures.all n within (codes_first_paired us n (units_length g.E.ByteOrder.HIGH_FIRST c.args.bytes.now n within) front) in
    omega arith

pub returns-else-is_utf16_leading_surrogate-clause-all : goal.returns-else-is_utf16_leading_surrogate-clause-all
returns-else-is_utf16_leading_surrogate-clause-all g c enough n within codes =
    let us = units_of g.E.ByteOrder.HIGH_FIRST c.args.bytes.now in
    let front : AreCodes (take n us) = rw (units_front g.E.ByteOrder.HIGH_FIRST c.args.bytes.now n) codes in
    c.paired_end-end.ensures.all n within (codes_first_paired us n (units_length g.E.ByteOrder.HIGH_FIRST c.args.bytes.now n within) front)

pub returns-then-is_utf16_leading_surrogate-clause-all : goal.returns-then-is_utf16_leading_surrogate-clause-all
returns-then-is_utf16_leading_surrogate-clause-all g c enough n within codes =
    let high = g.E.ByteOrder.HIGH_FIRST in
    let bytes = c.args.bytes.now in
    let us = units_of high bytes in
    let e = c.paired_end-end.result in
    let front : AreCodes (take n us) = rw (units_front high bytes n) codes in
    let long = units_length high bytes n within in
    let end = c.paired_end-end.ensures.all n within (codes_first_paired us n long front) in
    elim (cases_lt n e) [
      | inl lt ↦ omega arith
      | inr ge ↦
          let at : n ≡ e = omega arith in
          let none = subst (λ m. is_leading_surrogate (slice_index us (m - 1)) ≡ false) at (codes_last us n long front (omega arith)) in
          let leads = sym c.is_utf16_leading_surrogate.ensures ∙ c.if-is_utf16_leading_surrogate.true in
          let same = before_end high bytes e (omega arith) c.paired_end-end.ensures.within ∙ sym c.unit-last.ensures in
          absurd (true≢false (sym (ap is_leading_surrogate same ∙ leads) ∙ none))
    ]
