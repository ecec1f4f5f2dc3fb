use Rattle.utf_base.proofs.TableSteps.{kind_of_all}
use Rattle.utf_base.proofs.table.walks.walk_tells_the_kind.Goals as goal

pub returns : goal.returns
returns c = kind_of_all
