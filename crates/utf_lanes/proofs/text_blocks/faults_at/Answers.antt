use Rattle.std.proofs.Common.{arith}
use Rattle.utf_lanes.proofs.LaneLemmas.{loaded_follow}
use Rattle.utf_lanes.proofs.text_blocks.faults_at.Goals as goal

pub returns-clause-lanes : goal.returns-clause-lanes
returns-clause-lanes g c k lt =
    let loaded = loaded_follow g.row.N c.args.bytes.now c.args.place c.requires.start k (omega (arith, c.faults_after.ensures.len)) in
    let lane = c.faults_after.ensures.lanes k lt in
    (λ none. loaded.0 (lane.0 none), λ all. lane.1 (loaded.1 all))
