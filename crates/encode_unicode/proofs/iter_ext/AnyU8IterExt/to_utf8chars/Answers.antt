use Rattle.encode_unicode.proofs.MergedLists.{byte_runs, listed_byte_runs}
use Rattle.encode_unicode.proofs.iter_ext.AnyU8IterExt.to_utf8chars.Goals as goal

pub returns-clause-runs : goal.returns-clause-runs
returns-clause-runs g c = byte_runs g.I.Iterator.next_gives _ _ c.from.ensures

pub returns-clause-listed : goal.returns-clause-listed
returns-clause-listed g c = listed_byte_runs g.I.Iterator.next_gives _ _ c.from.ensures
