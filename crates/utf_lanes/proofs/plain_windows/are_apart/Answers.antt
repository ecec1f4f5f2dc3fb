use Rattle.std.proofs.Common.{eqb-true}
use Rattle.utf_lanes.proofs.PlainWindows.{bits_apart}
use Rattle.utf_lanes.proofs.plain_windows.are_apart.Goals as goal

pub returns : goal.returns
returns c h = bits_apart c.args.mask (eqb-true _ _ h)
