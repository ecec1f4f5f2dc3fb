use Rattle.std.proofs.Common.{◌≡◌, ◌-◌, length}
use Rattle.c_api.specs.Api.{IsRecoder, form_of, recoder_of}
use Rattle.c_api.proofs.WholeRuns.{CountsTo}
use Rattle.c_api.proofs.whole.nody_recoded_len.Given as goal

abbrev pub invariant-loop-place : goal.invariant-loop-place
invariant-loop-place l = record {
  is : IsRecoder l.recoder;
  counts : CountsTo (form_of l.fn.from) (form_of l.fn.to) l.bytes l.place l.len (recoder_of l.recoder);
  room : length l.room ≡ 1024;
}

abbrev pub decreases-loop-place : goal.decreases-loop-place
decreases-loop-place l = length l.bytes - l.place
