use Rattle.std.proofs.Common.{◌∙◌, Some, ap}
use Rattle.text_runs.proofs.StepLemmas.{numbered_in_step}
use Rattle.text_runs.proofs.runs.steps.offset_in_step.Goals as goal

pub returns : goal.returns
returns c =
    let asked = c.requires in
    ap Some c.unwrap_or.ensures ∙ numbered_in_step c.args.bytes.now c.args.text c.args.number c.nth_start.result asked.within asked.text asked.some asked.most c.nth_start.ensures
