use Rattle.std.proofs.Common.{arith}
use Rattle.std.proofs.lemmas.List.{take_rest}
use Rattle.utf_base.specs.Code.{utf16}
use Rattle.recoding.proofs.FirstFaults.{good_all, good_units, first_unit_fault}
use Rattle.recoding.proofs.GoodCodes.{good_front_codes}
use Rattle.text_runs.proofs.ValidLengths.{first_unit_fault_known}
use Rattle.text_runs.proofs.runs.well_formed.units_valid_up_to.Goals as goal

pub loop-place-init : goal.loop-place-init
loop-place-init c = good_front_codes c.args.units.now c.paired_len-place.result c.paired_len-place.ensures.within c.paired_len-place.ensures.codes

pub loop-place-preserved : goal.loop-place-preserved
loop-place-preserved c =
    let units = c.args.units.now in
    let place = c.loop-place.place in
    good_units units place _ c.in-Ok.len c.loop-place.invariant (rw (take_rest units place) at c.in-Ok.ensures.decodes)

pub returns-in-Err-clause-first : goal.returns-in-Err-clause-first
returns-in-Err-clause-first c =
    let units = c.args.units.now in
    let place = c.loop-place.place in
    first_unit_fault units place _ c.loop-place.invariant c.loop-place-test.true (rw (take_rest units place) at c.in-Err.ensures.decodes)

pub returns-in-Err-clause-value : goal.returns-in-Err-clause-value
returns-in-Err-clause-value c = first_unit_fault_known _ c.type_inv.units _ (returns-in-Err-clause-first c)

pub returns-clause-value : goal.returns-clause-value
returns-clause-value c = first_unit_fault_known _ c.type_inv.units _ (good_all utf16 _ _ c.loop-place.invariant (omega (arith, c.loop-place-test.false)))
