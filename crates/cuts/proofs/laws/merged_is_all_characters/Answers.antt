use Rattle.text_runs.proofs.CharacterRuns.{text_by_merger}
use Rattle.cuts.proofs.laws.merged_is_all_characters.Goals as goal

pub returns : goal.returns
returns c = text_by_merger c.args.bytes.now
