use Rattle.std.proofs.Common.{◌≡◌, length, min, ap, arith}
use Rattle.encode_unicode.specs.Window.{Item}
use Rattle.text_buffers.specs.TextLookups.{TextPlace}
use Rattle.text_buffers.proofs.CursorPlaces.{begins_between, ends_between_pieces, last_at_piece}
use Rattle.text_buffers.proofs.buffers.cursor.TextCursor.at.Goals as goal

pub between-requires : goal.between-requires
between-requires g c =
    let x : Item = (c.in-Some.place, c.in-Some.field-0-1, c.in-Some.field-0-2) in
    begins_between c.args.text.now x c.in-Some.ensures.0

pub returns-in-Some-clause-offset : goal.returns-in-Some-clause-offset
returns-in-Some-clause-offset g c =
    let x : Item = (c.in-Some.place, c.in-Some.field-0-1, c.in-Some.field-0-2) in
    let has = c.in-Some.ensures.1 in
    let hi = has.1 in
    let ends = (ends_between_pieces c.args.text.now x c.in-Some.ensures.0).within in
    let place : min c.args.offset (length c.args.text.now) ≡ c.args.offset = omega arith in
    rw (place, ap (λ (t : TextPlace). t.offset) c.between.ensures) (last_at_piece c.args.text.now x c.in-Some.ensures.0 c.args.offset has)
