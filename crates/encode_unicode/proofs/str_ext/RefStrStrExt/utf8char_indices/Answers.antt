use Rattle.encode_unicode.proofs.PieceRuns.{listed_run, listed_run_back, placed_last, placed_listed}
use Rattle.encode_unicode.proofs.SeenRuns.{placed_gave}
use Rattle.encode_unicode.proofs.str_ext.RefStrStrExt.utf8char_indices.Goals as goal

pub returns-clause-runs : goal.returns-clause-runs
returns-clause-runs c = listed_run _ _ placed_listed

pub returns-clause-runs_back : goal.returns-clause-runs_back
returns-clause-runs_back c = listed_run_back _ _ placed_last

pub returns-clause-gave : goal.returns-clause-gave
returns-clause-gave c = placed_gave c.args.self.now _ c.from.ensures
