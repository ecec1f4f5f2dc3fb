use Rattle.std.proofs.Common.{◌+◌, ◌<◌, [], ◌∷◌, ◌++◌, length, refl, arith}
use Rattle.std.proofs.lemmas.List.{length_push}
use Rattle.text_buffers.proofs.Decoding.{IsDecodedTo-none, IsDecodedTo-push, IsDecodedTo-all, item_has_some}
use Rattle.text_buffers.proofs.TableRuns.{least_at_spot}
use Rattle.text_buffers.proofs.piece_table.decode_near.Goals as goal

pub loop-next-init : goal.loop-next-init
loop-next-init c =
    let spot = c.find_splice-spot.ensures in
    ([], IsDecodedTo-none _ _ _ spot.within spot.outside, omega arith)

pub loop-next-smaller : goal.loop-next-smaller
loop-next-smaller c =
    let short : c.loop-next.next < length c.args.bytes.now = omega (arith, c.min-end.ensures) in
    let some = item_has_some c.piece_at-item.result c.loop-next.invariant.1 short c.piece_at-item.ensures.piece in
    omega arith

pub loop-next-preserved : goal.loop-next-preserved
loop-next-preserved c =
    let now = c.loop-next.invariant in
    let item = c.piece_at-item.ensures in
    let short : c.loop-next.next < length c.args.bytes.now = omega (arith, c.min-end.ensures) in
    let lt : c.loop-next.next < c.args.place + 3 = omega (arith, c.min-end.ensures) in (
      now.0 ++ c.piece_at-item.result ∷ [],
      IsDecodedTo-push now.0 c.piece_at-item.result now.1 lt short item.place item.piece refl,
      omega (arith, now.2, item.step, length_push now.0 c.piece_at-item.result),
    )

pub returns-clause-least : goal.returns-clause-least
returns-clause-least c =
    let now = c.loop-next.invariant in
    least_at_spot c.requires.replaced _ _ now.0 c.find_splice-spot.ensures (IsDecodedTo-all now.1 (λ lt. omega (arith, c.min-end.ensures))) now.2

pub returns-clause-most : goal.returns-clause-most
returns-clause-most c =
    let now = c.loop-next.invariant in
    omega (arith, now.1.few, now.2, c.find_splice-spot.ensures.reached)
