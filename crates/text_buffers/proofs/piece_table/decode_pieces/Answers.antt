use Rattle.std.proofs.Common.{◌<◌, length, refl, arith}
use Rattle.std.proofs.lemmas.List.{length_push}
use Rattle.text_buffers.proofs.Decoding.{IsDecodedTo-push, IsDecodedTo-all, item_has_some}
use Rattle.text_buffers.proofs.piece_table.decode_pieces.Goals as goal

pub loop-next-smaller : goal.loop-next-smaller
loop-next-smaller g c =
    let some = item_has_some c.piece_at-item.result c.loop-next.invariant.decoded (omega (arith, c.min-end.ensures)) c.piece_at-item.ensures.piece in
    omega arith

pub loop-next-preserved : goal.loop-next-preserved
loop-next-preserved g c =
    let short : c.loop-next.next < length c.args.bytes.now = omega (arith, c.min-end.ensures) in
    let lt : c.loop-next.next < c.args.range.end = omega (arith, c.min-end.ensures) in
    record {
      decoded =
          rw c.in_ok-push.ensures.items
          (IsDecodedTo-push c.loop-next.pieces.items c.piece_at-item.result c.loop-next.invariant.decoded lt short c.piece_at-item.ensures.place c.piece_at-item.ensures.piece refl);
      counted = rw c.in_ok-push.ensures.items (omega (arith, c.loop-next.invariant.counted, c.piece_at-item.ensures.step, length_push c.loop-next.pieces.items c.piece_at-item.result));
      room = omega arith;
    }

pub returns-clause-run : goal.returns-clause-run
returns-clause-run g c = IsDecodedTo-all c.loop-next.invariant.decoded (λ lt. omega (arith, c.min-end.ensures))
