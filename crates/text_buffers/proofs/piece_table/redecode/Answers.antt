use Rattle.std.proofs.Common.{arith, ap, length}
use Rattle.text_buffers.proofs.TableRuns.{IsRenewed-all, on_ok}
use Rattle.text_buffers.proofs.piece_table.redecode.Goals as goal

pub returns-clause-renewed : goal.returns-clause-renewed
returns-clause-renewed g c =
    let reached = c.find_splice-spot.ensures.reached in
    let ends = c.requires.replaced.ends in
    let long = ap length c.as_slice-2.ensures.value in
    let fits = c.put_pieces.ensures.room (omega (arith, c.in_ok-decode_pieces.ensures.steps, c.decode_pieces.ensures.few)) in
    let all = rw c.as_slice-2.ensures.value at (on_ok c.put_pieces.result fits c.put_pieces.ensures.ok) in
    IsRenewed-all c.requires.replaced (rw c.as_slice.ensures.value at c.find_splice-spot.ensures) c.in_ok-decode_pieces.ensures.run all
    c.in_ok-decode_pieces.ensures.steps c.decode_pieces.ensures.few
