use Rattle.std.proofs.Common.{refl}
use Rattle.text_positions.proofs.PositionLemmas.{at_front}
use Rattle.text_positions.proofs.position.Position.new.Goals as goal

pub returns-clause-after : goal.returns-clause-after
returns-clause-after c = λ form. at_front form _ refl refl refl c.new.ensures
