use Rattle.std.proofs.Common.{◌-◌, length}
use Rattle.utf_base.specs.Code.{utf16}
use Rattle.recoding.proofs.FirstFaults.{IsGoodTo}
use Rattle.text_runs.proofs.runs.well_formed.units_valid_up_to.Given as goal

abbrev pub invariant-loop-place : goal.invariant-loop-place
invariant-loop-place l = IsGoodTo utf16 l.units l.place

abbrev pub decreases-loop-place : goal.decreases-loop-place
decreases-loop-place l = length l.units - l.place
