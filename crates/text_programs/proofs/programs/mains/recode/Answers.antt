use Rattle.std.proofs.Common.{◌≡◌, ◌∙◌, ap, sym, arith, Err}
use Rattle.text_programs.specs.Endings.{status_of}
use Rattle.text_programs.specs.declared.programs.stops.Stop.TheVariants.{WrongArguments}
use Rattle.text_programs.proofs.ProgramLemmas.{wrong_by_status}
use Rattle.text_programs.proofs.programs.mains.recode.Goals as goal

pub returns-in-Ok-run_recode-clause-wrong : goal.returns-in-Ok-run_recode-clause-wrong
returns-in-Ok-run_recode-clause-wrong g c words =
    let given = c.in-Ok.ensures.given words.0 words.1 in
    let all = c.run_recode.ensures.wrong (rw (c.as_slice.ensures.value, given) words.2) in
    let is = c.in-Ok-run_recode.is in
    let no = all.0 in
    absurd cc

pub returns-clause-front : goal.returns-clause-front
returns-clause-front g c from to words =
    let given = c.in-Ok.ensures.given words.0 words.1 in
    c.run_recode.ensures.front from to (rw (c.as_slice.ensures.value, given) words.2)

pub returns-clause-wrong : goal.returns-clause-wrong
returns-clause-wrong g c words =
    let given = c.in-Ok.ensures.given words.0 words.1 in
    let all = c.run_recode.ensures.wrong (rw (c.as_slice.ensures.value, given) words.2) in
    let is = c.in-Err.is in
    let no = all.0 in
    let stop : c.in-Err.stop ≡ WrongArguments = cc in
    let two = c.report-in-Err.ensures.status ∙ ap status_of stop in
    (omega (arith, two), all.1, all.2)

pub returns-clause-right : goal.returns-clause-right
returns-clause-right g c from to words two =
    let given = c.in-Ok.ensures.given words.0 words.1 in
    let stop = wrong_by_status c.in-Err.stop (sym c.report-in-Err.ensures.status ∙ two) in
    c.run_recode.ensures.right from to (rw (c.as_slice.ensures.value, given) words.2) (c.in-Err.is ∙ ap Err stop)
