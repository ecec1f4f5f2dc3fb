use Rattle.recoding.proofs.text.Utf16Text.next_piece.Goals as goal

pub returns-clause-some : goal.returns-clause-some
returns-clause-some g c = c.next_of_utf16.ensures.some c.args._way
