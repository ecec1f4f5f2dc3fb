use Rattle.recoding.proofs.Recodes.{waits_where_room}
use Rattle.recoding.proofs.recoder_runs.run_whole.Goals as goal

pub returns-clause-waits : goal.returns-clause-waits
returns-clause-waits g c =
    let reached = c.run-reached.ensures in
    reached.reaches.waits (waits_where_room c.requires reached.reaches reached.ends)

pub returns-clause-lacks : goal.returns-clause-lacks
returns-clause-lacks g c =
    let reached = c.run-reached.ensures in
    reached.reaches.lacks (waits_where_room c.requires reached.reaches reached.ends)
