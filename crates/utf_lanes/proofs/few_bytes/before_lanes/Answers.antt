use Rattle.std.proofs.Common.{refl}
use Rattle.utf_lanes.proofs.FewBytes.{below_16}
use Rattle.utf_lanes.proofs.BlockUnits.{below_8}
use Rattle.utf_lanes.proofs.few_bytes.before_lanes.Goals as goal

pub returns-clause-first : goal.returns-clause-first
returns-clause-first c = below_16 _ (below_8 _ refl refl refl refl refl refl refl refl) (below_8 _ refl refl refl refl refl refl refl refl)

pub returns-clause-second : goal.returns-clause-second
returns-clause-second c = below_16 _ (below_8 _ refl refl refl refl refl refl refl refl) (below_8 _ refl refl refl refl refl refl refl refl)

pub returns-clause-third : goal.returns-clause-third
returns-clause-third c = below_16 _ (below_8 _ refl refl refl refl refl refl refl refl) (below_8 _ refl refl refl refl refl refl refl refl)
