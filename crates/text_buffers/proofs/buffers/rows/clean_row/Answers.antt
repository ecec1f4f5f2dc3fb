use Rattle.std.proofs.Common.{◌/◌, arith, ap, ◌∙◌}
use Rattle.text_buffers.specs.declared.buffers.counts.Counts.{Counts}
use Rattle.text_buffers.proofs.RowLemmas.{any_default}
use Rattle.text_buffers.proofs.buffers.rows.clean_row.Goals as goal

pub returns : goal.returns
returns c = record {
  row = c.args.number / 256;
  begins = omega arith;
  some = omega arith;
  long = λ d. ap (λ (k : Counts). k.bytes) (any_default c.args.sums.now (c.args.number / 256) _ d (omega arith));
  clean = λ d. ap (λ (k : Counts). k.faults) (any_default c.args.sums.now (c.args.number / 256) d _ (omega arith)) ∙ c.if-sum-ne0.false;
}
