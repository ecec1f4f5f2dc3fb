use Rattle.std.proofs.Common.{ap, Err, arith}
use Rattle.text_programs.proofs.Relays.{fails_at_an_end}
use Rattle.text_programs.proofs.programs.recode_program.run_recode.Goals as goal

pub returns-in_default-clause-right : goal.returns-in_default-clause-right
returns-in_default-clause-right g c from to asks told = c.in_default.ensures.none from to asks

pub returns-in-Ok-clause-wrong : goal.returns-in-Ok-clause-wrong
returns-in-Ok-clause-wrong g c wrong = absurd (wrong c.in-Some.from c.in-Some.to c.in-Some.ensures.some)

pub returns-in-Err-clause-wrong : goal.returns-in-Err-clause-wrong
returns-in-Err-clause-wrong g c wrong = absurd (wrong c.in-Some.from c.in-Some.to c.in-Some.ensures.some)

pub returns-in_default-clause-front : goal.returns-in_default-clause-front
returns-in_default-clause-front g c from to asks = absurd (c.in_default.ensures.none from to asks)

pub returns-in_default-clause-nothing : goal.returns-in_default-clause-nothing
returns-in_default-clause-nothing g c from to asks none = absurd (c.in_default.ensures.none from to asks)

pub returns-in-Err-clause-nothing : goal.returns-in-Err-clause-nothing
returns-in-Err-clause-nothing g c from to asks none =
    let done = c.in-Err.ensures in
    fails_at_an_end c.in-Err.fault _ _ _ _
    (λ e. rw none at (done.cannot_read (ap Err e)) (omega arith)) (λ e. done.writes.failed (ap Err e)) (λ e. done.nothing none (ap Err e))
