use Rattle.std.proofs.Common.{◌≡◌, ◌<◌, ◌^◌, true, false, rules}
use Rattle.utf_lanes.proofs.MendedWindows.{marks_of_faults, marks_of_subparts}
use Rattle.utf_lanes.proofs.mending.marks_of.Goals as goal

pub returns-then-is_by_subparts : goal.returns-then-is_by_subparts
returns-then-is_by_subparts g c xs judged =
    let fits : c.args.window.inner < 2 ^ 64 = search rules in
    let on : g.M.Mending.subparts ≡ true = cc (c.is_by_subparts.ensures, c.if-is_by_subparts.true) in
    rw on (marks_of_subparts xs _ _ _ _ _ judged fits)

pub returns-else-is_by_subparts : goal.returns-else-is_by_subparts
returns-else-is_by_subparts g c xs judged =
    let off : g.M.Mending.subparts ≡ false = cc (c.is_by_subparts.ensures, c.if-is_by_subparts.false) in
    rw off (marks_of_faults xs _ _ _ _ _ judged)
