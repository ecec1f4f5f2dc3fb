use Rattle.std.proofs.Common.{false}
use Rattle.utf_lanes.specs.UnitBlocks.{BlockIsJudged}
use Rattle.utf_lanes.proofs.paired_units.is_paired_block.Goals as goal

pub returns : goal.returns
returns c =
    let judged : BlockIsJudged false c.args.units.now c.args.place c.unpaired.result c.unpaired-2.result c.unpaired-3.result c.unpaired-4.result
    = record { first = c.unpaired.ensures; second = c.unpaired-2.ensures; third = c.unpaired-3.ensures; fourth = c.unpaired-4.ensures } in
    record { paired = c.all_pair.ensures.paired false _ _ judged; all = c.all_pair.ensures.all false _ _ judged }
