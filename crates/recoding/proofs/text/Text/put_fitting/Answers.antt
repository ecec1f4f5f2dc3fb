use Rattle.std.proofs.Common.{arith}
use Rattle.recoding.proofs.RoomRuns.{few_written}
use Rattle.recoding.proofs.text.Text.put_fitting.Goals as goal

pub put_code-requires : goal.put_code-requires
put_code-requires g c = omega (arith, few_written g.Self.Text.form c.args.c)
