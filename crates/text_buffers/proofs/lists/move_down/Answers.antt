use Rattle.text_buffers.proofs.lists.move_down.Goals as goal

pub returns-in-3 : goal.returns-in-3
returns-in-3 g c = rw c.in-3.is c.move_down_by-in-3.ensures
