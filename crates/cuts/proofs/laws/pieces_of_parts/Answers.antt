use Rattle.text_stream.proofs.LocatedLists.{located_are_merged, no_piece_earlier, parts_are_located}
use Rattle.cuts.proofs.laws.pieces_of_parts.Goals as goal

pub returns-clause-merged : goal.returns-clause-merged
returns-clause-merged c = located_are_merged

pub returns-clause-parts : goal.returns-clause-parts
returns-clause-parts c = parts_are_located

pub returns-clause-earliest : goal.returns-clause-earliest
returns-clause-earliest c = no_piece_earlier
