use Rattle.std.proofs.Common.{◌≡◌, ◌<◌, ◌/◌, ◌^◌, true, rules}
use Rattle.utf_lanes.proofs.MendedWindows.{joined_subparts}
use Rattle.utf_lanes.proofs.mending.marked_len.Goals as goal

pub returns-then-is_by_subparts : goal.returns-then-is_by_subparts
returns-then-is_by_subparts g c xs judged within =
    let fits : c.args.window.inner < 2 ^ 64 = search rules in
    let part : c.args.window.inner / 2 ^ c.args.mark < 2 ^ 64 = search rules in
    let on : g.M.Mending.subparts ≡ true = cc (c.is_by_subparts.ensures, c.if-is_by_subparts.true) in
    rw on (joined_subparts xs _ _ _ _ _ judged c.args.mark c.requires within fits part)
