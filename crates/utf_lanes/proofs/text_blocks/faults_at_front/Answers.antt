use Rattle.std.proofs.Common.{arith}
use Rattle.utf_lanes.proofs.FewBytes.{past_follow}
use Rattle.utf_lanes.proofs.text_blocks.faults_at_front.Goals as goal

pub returns-clause-lanes : goal.returns-clause-lanes
returns-clause-lanes c k lt =
    let past = past_follow c.args.here _ _ _ c.before_lanes.ensures.first c.before_lanes.ensures.second c.before_lanes.ensures.third k (omega (arith, c.faults_after.ensures.len)) in
    let lane = c.faults_after.ensures.lanes k lt in
    (λ none. past.0 (lane.0 none), λ all. lane.1 (past.1 all))
