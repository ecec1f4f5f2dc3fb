use Rattle.utf_base.specs.Code.{utf16}
use Rattle.encode_unicode.proofs.SplitterRuns.{splitter_runs}
use Rattle.encode_unicode.proofs.iter_ext.AnyUtf16CharIterExt.to_units.Goals as goal

pub returns-clause-runs : goal.returns-clause-runs
returns-clause-runs g c = splitter_runs utf16 g.I.Iterator.next_gives _ _ c.from.ensures
