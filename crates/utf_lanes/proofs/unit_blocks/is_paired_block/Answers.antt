use Rattle.utf_lanes.proofs.unit_blocks.is_paired_block.Goals as goal

pub returns : goal.returns
returns g c =
    c.all_pair.ensures.paired g.E.ByteOrder.HIGH_FIRST _ c.args.place
    (record { first = c.unpaired.ensures; second = c.unpaired-2.ensures; third = c.unpaired-3.ensures; fourth = c.unpaired-4.ensures })
