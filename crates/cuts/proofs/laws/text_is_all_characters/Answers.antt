use Rattle.text_runs.proofs.CharacterRuns.{text_by_pieces}
use Rattle.cuts.proofs.laws.text_is_all_characters.Goals as goal

pub returns : goal.returns
returns c = text_by_pieces c.args.bytes.now
