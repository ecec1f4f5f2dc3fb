use Rattle.std.proofs.Common.{take, drop, arith, length-take, length-drop}
use Rattle.utf_lanes.proofs.SwappedBytes.{lanes_swapped}
use Rattle.utf_lanes.proofs.byte_pairs.swapped_16.Goals as goal

pub returns : goal.returns
returns c = lanes_swapped (take 16 (drop c.args.place c.args.bytes.now)) 8 (omega (arith, length-take 16 (drop c.args.place c.args.bytes.now), length-drop c.args.place c.args.bytes.now))
