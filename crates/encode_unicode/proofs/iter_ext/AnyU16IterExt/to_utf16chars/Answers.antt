use Rattle.encode_unicode.proofs.MergedLists.{unit_runs, listed_unit_runs}
use Rattle.encode_unicode.proofs.iter_ext.AnyU16IterExt.to_utf16chars.Goals as goal

pub returns-clause-runs : goal.returns-clause-runs
returns-clause-runs g c = unit_runs g.I.Iterator.next_gives _ _ c.from.ensures

pub returns-clause-listed : goal.returns-clause-listed
returns-clause-listed g c = listed_unit_runs g.I.Iterator.next_gives _ _ c.from.ensures
