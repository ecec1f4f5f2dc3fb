use Rattle.encode_unicode.proofs.PieceRuns.{listed_run, listed_run_back, scalars_last, scalars_listed}
use Rattle.encode_unicode.proofs.SeenRuns.{chars_gave}
use Rattle.encode_unicode.proofs.str_ext.RefStrStrExt.utf16chars.Goals as goal

pub returns-clause-runs : goal.returns-clause-runs
returns-clause-runs c = listed_run _ _ scalars_listed

pub returns-clause-runs_back : goal.returns-clause-runs_back
returns-clause-runs_back c = listed_run_back _ _ scalars_last

pub returns-clause-gave : goal.returns-clause-gave
returns-clause-gave c = chars_gave c.args.self.now _ c.from.ensures
