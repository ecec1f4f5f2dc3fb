use Rattle.std.proofs.Common.{◌≡◌, ◌-◌, ◌<◌, arith}
use Rattle.text_buffers.specs.TextLookups.{HasPlace}
use Rattle.text_buffers.proofs.CursorPlaces.{begins_between, ends_at}
use Rattle.text_buffers.proofs.buffers.cursor.TextCursor.next_back.Goals as goal

pub invariant_of-self : goal.invariant_of-self
invariant_of-self g c = begins_between c.self.inside.text.now c.in_ok-item.item c.in_ok-item.ensures.0

pub returns-clause-piece : goal.returns-clause-piece
returns-clause-piece g c =
    let some : 0 < c.self.inside.offset = omega (arith, c.in_ok-last.ensures) in
    let last : c.in_ok-last.last ≡ c.self.inside.offset - 1 = omega (arith, c.in_ok-last.ensures) in
    let has : HasPlace (c.self.inside.offset - 1) c.in_ok-item.item = rw last at c.in_ok-item.ensures.1 in
    rw (← c.self.view_is)
    (c.in_ok-item.ensures.0, ends_at c.self.inside.text.now c.in_ok-item.item c.in_ok-item.ensures.0 c.self.inside.offset c.self.invariant some has)
