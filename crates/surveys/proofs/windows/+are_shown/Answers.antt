use Rattle.std.proofs.Common.{◌-◌, arith}
use Rattle.std.proofs.lemmas.Grind.{common_steps}
use Rattle.surveys.proofs.FrontLens.{are_shown-more}
use Rattle.surveys.proofs.windows.+are_shown.Goals as goal

pub returns-then-len-gt0 : goal.returns-then-len-gt0
returns-then-len-gt0 t c =
    let more = are_shown-more c.args.count (c.args.count - 1) c.args.bytes.now (omega arith) in
    grind (arith, common_steps)

pub returns-else-len-gt0 : goal.returns-else-len-gt0
returns-else-len-gt0 t c =
    let more = are_shown-more c.args.count (c.args.count - 1) c.args.bytes.now (omega arith) in
    grind (arith, common_steps)
