use Rattle.std.proofs.Common.{◌+◌, arith, inl, inr}
use Rattle.std.proofs.lemmas.Bool.{cases_lt}
use Rattle.utf_lanes.proofs.unit_blocks.paired_lane_by_lane.Goals as goal

pub returns-then-count-lt8-clause-paired : goal.returns-then-count-lt8-clause-paired
returns-then-count-lt8-clause-paired g c k ge lt =
    elim (cases_lt (k + 1) c.loop-place.place) [
      | inl known ↦ c.loop-place.invariant.paired k ge known
      | inr new ↦ c.paired_lanes-count.ensures.paired k (omega arith) lt
    ]

pub loop-place-preserved : goal.loop-place-preserved
loop-place-preserved g c =
    record {
      least = omega arith;
      within = omega arith;
      paired = λ k ge lt. elim (cases_lt (k + 1) c.loop-place.place) [
        | inl known ↦ c.loop-place.invariant.paired k ge known
        | inr new ↦ c.paired_lanes-count.ensures.paired k (omega arith) (omega arith)
      ];
    }

pub returns-then-count-lt8-clause-all : goal.returns-then-count-lt8-clause-all
returns-then-count-lt8-clause-all g c n within pairs =
    let block = c.min-block.result in
    let count = c.paired_lanes-count.result in
    let few = c.if-count-lt8.true in
    elim (cases_lt (block + count) n) [
      | inr ge ↦ ge
      | inl lt ↦ (let more = c.paired_lanes-count.ensures.all (count + 1) (omega arith) (λ k least most. pairs k (omega arith) (omega arith)) in absurd (omega arith))
    ]
