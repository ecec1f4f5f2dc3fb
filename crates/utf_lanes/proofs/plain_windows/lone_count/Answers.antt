use Rattle.std.proofs.Common.{arith, drop, length-drop}
use Rattle.utf_lanes.proofs.PlainWindows.{plain_window}
use Rattle.utf_lanes.proofs.plain_windows.lone_count.Goals as goal

pub returns : goal.returns
returns c =
    let others = c.others_at-others.ensures in
    plain_window (drop c.args.place c.args.bytes.now) c.others_at-others.result (omega (arith, length-drop c.args.place c.args.bytes.now)) others.set (c.are_apart.ensures c.if-not-are_apart.false) others.count
