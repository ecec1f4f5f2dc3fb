use Rattle.std.proofs.Common.{◌≡◌, ◌+◌, ◌-◌, length, length-drop, take, drop, arith, ap}
use Rattle.std.proofs.lemmas.List.{drop-drop, take_rest}
use Rattle.c_api.specs.Api.{first_piece_of}
use Rattle.c_api.proofs.Each.{each_join}
use Rattle.c_api.proofs.WholeRuns.{written_both, kept_both}
use Rattle.c_api.proofs.cursors.put_text_pieces.Goals as goal

pub returns-clause-each : goal.returns-clause-each
returns-clause-each c =
    let bytes = c.args.bytes.now in
    let room = c.put_ascii_pieces-ascii.new.room in
    let rest = c.put_characters-count.new.room in
    let ascii = c.put_ascii_pieces-ascii.result in
    let (count, end) = c.put_characters-count.result in
    let more = rw (take_rest bytes ascii, drop-drop end ascii bytes) at c.put_characters-count.ensures.each in
    let len : length rest ≡ length room - ascii = omega (arith, c.put_characters-count.auto.room, ap length (take_rest room ascii), length-drop ascii room) in
    rw (written_both room rest ascii count (omega (arith, c.put_ascii_pieces-ascii.ensures.within, c.put_ascii_pieces-ascii.ensures.len)) len)
    (each_join first_piece_of bytes (drop ascii bytes) (drop (ascii + end) bytes) (take ascii room) (take count rest) c.put_ascii_pieces-ascii.ensures.each more)

pub returns-clause-rest : goal.returns-clause-rest
returns-clause-rest c =
    let room = c.put_ascii_pieces-ascii.new.room in
    let rest = c.put_characters-count.new.room in
    let ascii = c.put_ascii_pieces-ascii.result in
    kept_both room rest ascii c.put_characters-count.result.0 (omega (arith, c.put_ascii_pieces-ascii.ensures.within, c.put_ascii_pieces-ascii.ensures.len)) (omega (arith, c.put_characters-count.auto.room, ap length (take_rest room ascii), length-drop ascii room)) c.args.room.now (rw (take_rest room ascii) at c.put_characters-count.ensures.rest) c.put_ascii_pieces-ascii.ensures.rest
