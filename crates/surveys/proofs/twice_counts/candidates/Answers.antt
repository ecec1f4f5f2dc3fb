use Rattle.surveys.proofs.TwiceWindows.{none_may}
use Rattle.surveys.proofs.twice_counts.candidates.Goals as goal

pub returns : goal.returns
returns c none k lt = none_may c.args.bytes.now c.args.place c.requires none k lt
