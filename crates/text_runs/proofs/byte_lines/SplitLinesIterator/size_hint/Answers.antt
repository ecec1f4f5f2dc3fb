use Rattle.text_runs.proofs.LinesOfParts.{few_left}
use Rattle.text_runs.proofs.byte_lines.SplitLinesIterator.size_hint.Goals as goal

pub returns-clause-upper : goal.returns-clause-upper
returns-clause-upper c = few_left _ _ c.size_hint-most.result.1 c.self.view_is c.size_hint-most.ensures.upper
