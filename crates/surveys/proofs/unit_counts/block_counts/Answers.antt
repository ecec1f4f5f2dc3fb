use Rattle.std.proofs.Common.{◌≡◌, ◌+◌, ◌*◌, ◌<◌, ◌≤◌, ◌∙◌, get_or, length, arith, ap, sym}
use Rattle.utf_lanes.specs.BytePairs.{units_of}
use Rattle.utf_lanes.proofs.UnitBytePairs.{count_in_bytes}
use Rattle.utf_lanes.proofs.UnitPairs.{unit_at}
use Rattle.surveys.specs.SurveyCounts.{number}
use Rattle.surveys.proofs.ClassCounts.{as_number}
use Rattle.surveys.proofs.FedUnits.{Counted-ended, Counted-more, Counted-none}
use Rattle.surveys.proofs.unit_counts.block_counts.Goals as goal

pub loop-k-init : goal.loop-k-init
loop-k-init g c = Counted-none _ _

pub loop-k-preserved : goal.loop-k-preserved
loop-k-preserved g c =
    let hf = g.E.ByteOrder.HIGH_FIRST in
    let bytes = c.args.bytes.now in
    let k = c.loop-k.k in
    let inside : k < 192 = c.loop-k-test.true in
    let within : 2 * k + 1 < length bytes = omega (arith, c.requires) in
    let u = c.unit-unit.result in
    let at : get_or (units_of hf bytes) k 0 ≡ u = unit_at hf bytes k within ∙ sym c.unit-unit.ensures in
    let lt : k < length (units_of hf bytes) = omega (arith, c.requires, count_in_bytes hf bytes) in
    Counted-more c.args.before (units_of hf bytes) k c.loop-k.plain c.loop-k.stray c.loop-k.unpaired c.loop-k.last u _ _ _ lt at (as_number c.is_plain.result ∙ ap number c.is_plain.ensures)
    (as_number c.is_stray.result ∙ ap number c.is_stray.ensures) (as_number c.is_unpaired.result ∙ ap number c.is_unpaired.ensures) c.loop-k.invariant

pub returns-clause-plain : goal.returns-clause-plain
returns-clause-plain g c =
    let us = units_of g.E.ByteOrder.HIGH_FIRST c.args.bytes.now in
    let all : length us ≤ c.loop-k.k = omega (arith, c.requires, count_in_bytes g.E.ByteOrder.HIGH_FIRST c.args.bytes.now, c.loop-k-test.false) in
    (Counted-ended c.args.before us _ _ _ _ _ all c.loop-k.invariant).0

pub returns-clause-stray : goal.returns-clause-stray
returns-clause-stray g c =
    let us = units_of g.E.ByteOrder.HIGH_FIRST c.args.bytes.now in
    let all : length us ≤ c.loop-k.k = omega (arith, c.requires, count_in_bytes g.E.ByteOrder.HIGH_FIRST c.args.bytes.now, c.loop-k-test.false) in
    (Counted-ended c.args.before us _ _ _ _ _ all c.loop-k.invariant).1

pub returns-clause-unpaired : goal.returns-clause-unpaired
returns-clause-unpaired g c =
    let us = units_of g.E.ByteOrder.HIGH_FIRST c.args.bytes.now in
    let all : length us ≤ c.loop-k.k = omega (arith, c.requires, count_in_bytes g.E.ByteOrder.HIGH_FIRST c.args.bytes.now, c.loop-k-test.false) in
    (Counted-ended c.args.before us _ _ _ _ _ all c.loop-k.invariant).2
