use Rattle.std.proofs.Common.{arith}
use Rattle.text_buffers.proofs.CursorPlaces.{begins_at, ends_between_pieces}
use Rattle.text_buffers.proofs.buffers.cursor.TextCursor.next.Goals as goal

pub overflow_add-self : goal.overflow_add-self
overflow_add-self g c =
    let ends = (ends_between_pieces c.self.inside.text.now c.in_ok-item.item c.in_ok-item.ensures.0).within in
    omega (arith, c.len-len.ensures)

pub invariant_of-self : goal.invariant_of-self
invariant_of-self g c = ends_between_pieces c.self.inside.text.now c.in_ok-item.item c.in_ok-item.ensures.0

pub returns-clause-piece : goal.returns-clause-piece
returns-clause-piece g c =
    rw (← c.self.view_is)
    (c.in_ok-item.ensures.0, begins_at c.self.inside.text.now c.in_ok-item.item c.in_ok-item.ensures.0 c.self.inside.offset c.self.invariant c.in_ok-item.ensures.1)
