use Rattle.utf_lanes.proofs.StartLemmas.{lanes_counted}
use Rattle.utf_lanes.proofs.starts.lane_starts.Goals as goal

pub returns : goal.returns
returns g c = lanes_counted g.row.N c.requires.few c.args.bytes.now c.args.place c.requires.within c.type_inv.bytes
