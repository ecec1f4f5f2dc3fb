use Rattle.utf_base.specs.Code.{utf8}
use Rattle.encode_unicode.proofs.SplitterRuns.{splitter_runs}
use Rattle.encode_unicode.proofs.iter_ext.AnyUtf8CharIterExt.to_bytes.Goals as goal

pub returns-clause-runs : goal.returns-clause-runs
returns-clause-runs g c = splitter_runs utf8 g.I.Iterator.next_gives _ _ c.from.ensures
