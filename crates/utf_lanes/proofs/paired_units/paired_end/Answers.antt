use Rattle.std.proofs.Common.{◌+◌, ◌∙◌, arith, sym, true≢false, inl, inr}
use Rattle.std.proofs.lemmas.Bool.{cases_lt}
use Rattle.utf_lanes.proofs.UnitPairs.{pair_on}
use Rattle.utf_lanes.proofs.paired_units.paired_end.Goals as goal

pub loop-place-preserved : goal.loop-place-preserved
loop-place-preserved c = record {
  least = omega arith;
  within = omega arith;
  paired = pair_on c.args.units.now 1 c.loop-place.place _ c.loop-place.invariant.paired (c.is_paired_block.ensures.paired c.if-not-is_paired_block.false);
}

pub returns-then-not-is_paired_block-clause-near : goal.returns-then-not-is_paired_block-clause-near
returns-then-not-is_paired_block-clause-near c n within pairs = elim (cases_lt n (c.loop-place.place + 32)) [
  | inl lt ↦ lt
  | inr ge ↦ absurd (true≢false (sym (c.is_paired_block.ensures.all (λ k least most. pairs k (omega arith) (omega arith))) ∙ c.if-not-is_paired_block.true))
]
