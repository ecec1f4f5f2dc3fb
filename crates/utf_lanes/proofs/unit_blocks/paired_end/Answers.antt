use Rattle.std.proofs.Common.{◌+◌, arith, inl, inr}
use Rattle.std.proofs.lemmas.Bool.{cases_lt}
use Rattle.utf_lanes.specs.UnitBlocks.{AreFirstPaired}
use Rattle.utf_lanes.specs.BytePairs.{units_of}
use Rattle.utf_lanes.proofs.CodedUnits.{first_after_a_nul, pairs_after_a_nul, after_a_nul_pairs}
use Rattle.utf_lanes.proofs.UnitPairs.{pair_on}
use Rattle.utf_lanes.proofs.unit_blocks.paired_end.Goals as goal

pub returns-then-count-lt8-clause-first : goal.returns-then-count-lt8-clause-first
returns-then-count-lt8-clause-first g c =
    let lanes = c.paired_lanes-count.ensures in
    first_after_a_nul g.E.ByteOrder.HIGH_FIRST c.args.bytes.now c.padded_units.result c.paired_lanes-count.result lanes.most c.padded_units.ensures lanes.paired

pub returns-then-count-lt8-clause-paired : goal.returns-then-count-lt8-clause-paired
returns-then-count-lt8-clause-paired g c =
    let lanes = c.paired_lanes-count.ensures in
    pairs_after_a_nul g.E.ByteOrder.HIGH_FIRST c.args.bytes.now c.padded_units.result c.paired_lanes-count.result lanes.most c.padded_units.ensures lanes.paired

pub returns-clause-first : goal.returns-clause-first
returns-clause-first g c some =
    let lanes = c.paired_lanes-count.ensures in
    first_after_a_nul g.E.ByteOrder.HIGH_FIRST c.args.bytes.now c.padded_units.result c.paired_lanes-count.result lanes.most c.padded_units.ensures lanes.paired (omega arith)

pub returns-clause-paired : goal.returns-clause-paired
returns-clause-paired g c =
    let us = units_of g.E.ByteOrder.HIGH_FIRST c.args.bytes.now in
    let lanes = c.paired_lanes-count.ensures in
    let first = pairs_after_a_nul g.E.ByteOrder.HIGH_FIRST c.args.bytes.now c.padded_units.result c.paired_lanes-count.result lanes.most c.padded_units.ensures lanes.paired in
    pair_on us 1 c.paired_wide.result c.paired_lane_by_lane.result (pair_on us 1 8 c.paired_wide.result (λ k ge lt. first k ge (omega arith)) c.paired_wide.ensures.paired) c.paired_lane_by_lane.ensures.paired

pub returns-then-count-lt8-clause-all : goal.returns-then-count-lt8-clause-all
returns-then-count-lt8-clause-all g c n within pairs =
    let count = c.paired_lanes-count.result in
    elim (cases_lt count n) [
      | inr ge ↦ ge
      | inl lt ↦
          let less : AreFirstPaired (units_of g.E.ByteOrder.HIGH_FIRST c.args.bytes.now) (count + 1) = record { first = λ some. pairs.first (omega arith); paired = λ k least most. pairs.paired k least (omega arith) } in
          let more = c.paired_lanes-count.ensures.all (count + 1) (omega arith) (after_a_nul_pairs g.E.ByteOrder.HIGH_FIRST c.args.bytes.now c.padded_units.result (count + 1) (omega arith) c.padded_units.ensures less) in
          absurd (omega arith)
    ]

pub returns-clause-all : goal.returns-clause-all
returns-clause-all g c n within pairs = c.paired_lane_by_lane.ensures.all n within pairs.paired
