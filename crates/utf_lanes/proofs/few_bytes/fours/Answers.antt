use Rattle.std.proofs.Common.{lit<, refl}
use Rattle.utf_lanes.proofs.BlockUnits.{below_8}
use Rattle.utf_lanes.proofs.FewBytes.{ends_at}
use Rattle.utf_lanes.proofs.few_bytes.fours.Goals as goal

pub returns-clause-twice : goal.returns-clause-twice
returns-clause-twice c = below_8 _ refl refl refl refl refl refl refl refl

pub returns-clause-lanes : goal.returns-clause-lanes
returns-clause-lanes c =
    let xs = c.args.bytes.now in
    let at = ends_at 4 xs c.requires in
    below_8 _ (at 0 (lit< tt)) (at 1 (lit< tt)) (at 2 (lit< tt)) (at 3 (lit< tt)) (at 4 (lit< tt)) (at 5 (lit< tt)) (at 6 (lit< tt)) (at 7 (lit< tt))
