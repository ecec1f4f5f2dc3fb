use Rattle.std.proofs.Common.{arith, Some}
use Rattle.recoding.specs.Rooms.{parts_of}
use Rattle.recoding.proofs.NextPieces.{begins_replaced}
use Rattle.recoding.proofs.Recodes.{Recodes-char, Recodes-code, Recodes-none, room_for_next}
use Rattle.recoding.proofs.engine.recode_faults.Goals as goal

pub loop-read-init : goal.loop-read-init
loop-read-init g c = record { some = omega arith; runs = Recodes-none g.met.O.Output.appends_none }

pub put_code-requires : goal.put_code-requires
put_code-requires g c =
    let settles = rw (c.way.ensures, c.in-Char.is) at c.in-Some.ensures.some in
    room_for_next g.met.O.Output.appends_room (Some c.in-Char.c) c.loop-read.invariant.runs settles c.requires

pub loop-read-preserved-in-Char : goal.loop-read-preserved-in-Char
loop-read-preserved-in-Char g c =
    let settles = rw (c.way.ensures, c.in-Char.is) at c.in-Some.ensures.some in
    record { some = c.loop-read.invariant.some; runs = Recodes-char g.met.O.Output.appends_more c.loop-read.invariant.runs settles c.put_code.ensures }

pub put_any-requires : goal.put_any-requires
put_any-requires g c =
    let settles = rw (c.way.ensures, c.in-Fault.is) at c.in-Some.ensures.some in
    let begins = begins_replaced (g.F.Replacing.way c.args.by) g.S.Text.form c.args.bytes.now c.loop-read.read c.in-Fault.len (parts_of g.S.Text.form c.in-Fault.len) c.replacement.result (rw c.way-in-Fault.ensures at c.replacement.ensures) settles in
    room_for_next g.met.O.Output.appends_room c.replacement.result c.loop-read.invariant.runs begins c.requires

pub loop-read-preserved : goal.loop-read-preserved
loop-read-preserved g c =
    let settles = rw (c.way.ensures, c.in-Fault.is) at c.in-Some.ensures.some in
    let begins = begins_replaced (g.F.Replacing.way c.args.by) g.S.Text.form c.args.bytes.now c.loop-read.read c.in-Fault.len (parts_of g.S.Text.form c.in-Fault.len) c.replacement.result (rw c.way-in-Fault.ensures at c.replacement.ensures) settles in
    record { some = omega arith; runs = rw c.count_parts-replaced.ensures (Recodes-code g.met.O.Output.appends_more c.replacement.result c.loop-read.invariant.runs begins c.put_any.ensures) }
