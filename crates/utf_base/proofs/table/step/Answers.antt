use Rattle.utf_base.proofs.TableLemmas.{step_at}
use Rattle.utf_base.proofs.table.step.Goals as goal

pub returns : goal.returns
returns c = rw c.row_of.ensures (step_at c.args.state c.requires.running c.args.c c.requires.bound _ _)
