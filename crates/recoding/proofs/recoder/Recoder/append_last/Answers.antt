use Rattle.std.proofs.Common.{arith}
use Rattle.recoding.specs.Outputs.{Extends-room}
use Rattle.recoding.proofs.Taking.{all_finished, false_unless, never_full_last}
use Rattle.recoding.proofs.recoder.Recoder.append_last.Goals as goal

pub returns : goal.returns
returns g c =
    let last = c.take_last-done in
    all_finished last.ensures.takes (last.ensures.all (false_unless last.result.is_full (λ is. never_full_last Extends-room last.ensures.takes (omega (arith, c.requires)) (last.ensures.full is))))
