use Rattle.std.proofs.Common.{◌≡◌, ◌∙◌, ap, arith}
use Rattle.text_programs.specs.Endings.{status_of}
use Rattle.text_programs.specs.declared.programs.stops.Stop.TheVariants.{WrongArguments}
use Rattle.text_programs.proofs.RunLemmas.{BeginsAsked-none}
use Rattle.text_programs.proofs.programs.mains.pieces.Goals as goal

pub returns-in_default-clause-front : goal.returns-in_default-clause-front
returns-in_default-clause-front g c asked words = BeginsAsked-none asked _ _

pub returns-clause-front : goal.returns-clause-front
returns-clause-front g c asked words =
    let given = c.in-Ok.ensures.given words.0 words.1 in
    c.run_pieces.ensures.front asked (rw (c.as_slice.ensures.value, given) words.2)

pub returns-in-Ok-eq0-clause-wrong : goal.returns-in-Ok-eq0-clause-wrong
returns-in-Ok-eq0-clause-wrong g c words =
    let given = c.in-Ok.ensures.given words.0 words.1 in
    let all = c.run_pieces.ensures.wrong (rw (c.as_slice.ensures.value, given) words.2) in
    let is = c.in-Ok-eq0.is in
    let no = all.0 in
    absurd cc

pub returns-in-Ok-run_pieces-clause-wrong : goal.returns-in-Ok-run_pieces-clause-wrong
returns-in-Ok-run_pieces-clause-wrong g c words =
    let given = c.in-Ok.ensures.given words.0 words.1 in
    let all = c.run_pieces.ensures.wrong (rw (c.as_slice.ensures.value, given) words.2) in
    let is = c.in-Ok-run_pieces.is in
    let no = all.0 in
    absurd cc

pub returns-clause-wrong : goal.returns-clause-wrong
returns-clause-wrong g c words =
    let given = c.in-Ok.ensures.given words.0 words.1 in
    let all = c.run_pieces.ensures.wrong (rw (c.as_slice.ensures.value, given) words.2) in
    let is = c.in-Err.is in
    let no = all.0 in
    let stop : c.in-Err.stop ≡ WrongArguments = cc in
    let two = c.report-in-Err.ensures.status ∙ ap status_of stop in
    (omega (arith, two), all.1, all.2)
