use Rattle.std.proofs.Common.{◌≡◌, arith, refl, lit<}
use Rattle.utf_lanes.specs.BytePairs.{units_of}
use Rattle.utf_lanes.proofs.LaneLemmas.{differ_mask, differs_first, none_differs, first_differs}
use Rattle.utf_lanes.proofs.UnitPairs.{pair_before, pair_first}
use Rattle.utf_lanes.proofs.unit_blocks.paired_lanes.Goals as goal

pub returns-then-wrong-eq0-clause-paired : goal.returns-then-wrong-eq0-clause-paired
returns-then-wrong-eq0-clause-paired g c =
    let none : differ_mask 16 c.unpaired.result ≡ 0 = c.if-wrong-eq0.true in
    let zero = none_differs c.unpaired.result (lit< tt) c.unpaired.ensures.wide none in
    pair_before g.E.ByteOrder.HIGH_FIRST (units_of g.E.ByteOrder.HIGH_FIRST c.args.bytes.now) c.unpaired.result c.args.place 16 (omega arith) zero c.unpaired.ensures.lanes

pub returns-else-wrong-eq0-clause-most : goal.returns-else-wrong-eq0-clause-most
returns-else-wrong-eq0-clause-most g c =
    let first = first_differs c.unpaired.result (lit< tt) c.unpaired.ensures.wide _ c.if-wrong-eq0.false refl in
    omega (arith, first.0)

pub returns-else-wrong-eq0-clause-paired : goal.returns-else-wrong-eq0-clause-paired
returns-else-wrong-eq0-clause-paired g c =
    let first = first_differs c.unpaired.result (lit< tt) c.unpaired.ensures.wide _ c.if-wrong-eq0.false refl in
    pair_before g.E.ByteOrder.HIGH_FIRST (units_of g.E.ByteOrder.HIGH_FIRST c.args.bytes.now) c.unpaired.result c.args.place _ first.0 first.1 c.unpaired.ensures.lanes

pub returns-else-wrong-eq0-clause-all : goal.returns-else-wrong-eq0-clause-all
returns-else-wrong-eq0-clause-all g c n few pairs =
    let first = differs_first c.unpaired.result (lit< tt) c.unpaired.ensures.wide _ c.if-wrong-eq0.false refl in
    pair_first g.E.ByteOrder.HIGH_FIRST (units_of g.E.ByteOrder.HIGH_FIRST c.args.bytes.now) c.unpaired.result c.args.place _ n few first.1 c.unpaired.ensures.lanes c.unpaired.ensures.others pairs
