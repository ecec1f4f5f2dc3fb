use Rattle.std.proofs.Common.{◌-◌, length, take, IsUtf8}
use Rattle.utf_base.specs.Code.{utf8}
use Rattle.recoding.proofs.FirstFaults.{IsGoodTo}
use Rattle.text_runs.proofs.runs.well_formed.valid_up_to.Given as goal

abbrev pub invariant-loop-place : goal.invariant-loop-place
invariant-loop-place l = IsGoodTo utf8 l.bytes l.place × IsUtf8 (take l.place l.bytes)

abbrev pub decreases-loop-place : goal.decreases-loop-place
decreases-loop-place l = length l.bytes - l.place
