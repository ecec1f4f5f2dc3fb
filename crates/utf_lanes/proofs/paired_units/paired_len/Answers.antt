use Rattle.std.proofs.Common.{◌∙◌, arith, sym, eqb-true, length, true≢false, inl, inr}
use Rattle.std.proofs.lemmas.Bool.{cases_lt}
use Rattle.utf_lanes.proofs.CodedUnits.{front_codes, front_codes_less, codes_first_paired}
use Rattle.utf_lanes.proofs.paired_units.paired_len.Goals.{then-is_empty-via-then-is_empty, then-is_empty-via-else-is_empty+then-is_trailing_surrogate}
use Rattle.utf_lanes.proofs.paired_units.paired_len.Goals as goal

pub returns-then-is_utf16_leading_surrogate-clause-codes : goal.returns-then-is_utf16_leading_surrogate-clause-codes
returns-then-is_utf16_leading_surrogate-clause-codes c =
    let judged = c.paired_end-end.ensures in
    front_codes_less c.args.units.now (λ k. (c.type_inv.units k).fits) (sym c.is_trailing_surrogate.ensures ∙ c.if-is_trailing_surrogate.false) c.paired_end-end.result judged.least judged.within judged.paired
    (sym c.is_utf16_leading_surrogate.ensures ∙ c.if-is_utf16_leading_surrogate.true)

pub returns-else-is_utf16_leading_surrogate-clause-codes : goal.returns-else-is_utf16_leading_surrogate-clause-codes
returns-else-is_utf16_leading_surrogate-clause-codes c =
    let judged = c.paired_end-end.ensures in
    front_codes c.args.units.now (λ k. (c.type_inv.units k).fits) (sym c.is_trailing_surrogate.ensures ∙ c.if-is_trailing_surrogate.false) c.paired_end-end.result judged.least judged.within judged.paired
    (sym c.is_utf16_leading_surrogate.ensures ∙ c.if-is_utf16_leading_surrogate.false)

pub returns-else-is_utf16_leading_surrogate-clause-near : goal.returns-else-is_utf16_leading_surrogate-clause-near
returns-else-is_utf16_leading_surrogate-clause-near c n within codes =
    let end = c.paired_end-end.ensures.near n within (codes_first_paired c.args.units.now n within codes).paired in
    omega arith

pub returns-then-is_utf16_leading_surrogate-clause-near : goal.returns-then-is_utf16_leading_surrogate-clause-near
returns-then-is_utf16_leading_surrogate-clause-near c n within codes =
    let end = c.paired_end-end.ensures.near n within (codes_first_paired c.args.units.now n within codes).paired in
    omega (arith, c.paired_end-end.ensures.least)

pub returns-then-is_empty-clause-near : goal.returns-then-is_empty-clause-near
returns-then-is_empty-clause-near c n within codes = elim c.then-is_empty.branch [
  | then-is_empty-via-then-is_empty w ↦ (let none = eqb-true (length c.args.units.now) 0 (sym c.is_empty.ensures ∙ w.if-is_empty.true) in omega arith)
  | then-is_empty-via-else-is_empty+then-is_trailing_surrogate w ↦ elim (cases_lt 0 n) [
    | inr ge ↦ omega arith
    | inl some ↦
        let first = (codes_first_paired c.args.units.now n within codes).first some in
        absurd (true≢false (sym (sym w.is_trailing_surrogate.ensures ∙ w.if-is_trailing_surrogate.true) ∙ first))
  ]
]
