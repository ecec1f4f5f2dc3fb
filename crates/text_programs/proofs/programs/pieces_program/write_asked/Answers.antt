use Rattle.text_programs.proofs.RunLemmas.{WritesAskedFront-none}
use Rattle.text_programs.proofs.programs.pieces_program.write_asked.Goals as goal

pub returns-in_default-clause-front : goal.returns-in_default-clause-front
returns-in_default-clause-front g c = WritesAskedFront-none _ _ _

pub returns-in_default-walk_utf8-clause-front : goal.returns-in_default-walk_utf8-clause-front
returns-in_default-walk_utf8-clause-front g c = WritesAskedFront-none _ _ _
