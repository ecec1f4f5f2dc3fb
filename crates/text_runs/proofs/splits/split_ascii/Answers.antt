use Rattle.text_runs.proofs.SplitLemmas.{is_split}
use Rattle.text_runs.proofs.SplitPlaces.{spans_run, spans_run_back}
use Rattle.text_runs.proofs.splits.split_ascii.Goals as goal

pub returns-clause-runs : goal.returns-clause-runs
returns-clause-runs c = spans_run

pub returns-clause-runs_back : goal.returns-clause-runs_back
returns-clause-runs_back c = spans_run_back

pub returns-clause-split : goal.returns-clause-split
returns-clause-split c = is_split c.args.separator c.args.bytes.now
