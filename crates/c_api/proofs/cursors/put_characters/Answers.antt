use Rattle.std.proofs.Common.{◌≡◌, ◌+◌, ◌<◌, length, length-drop, drop, Ok, arith, sym, refl}
use Rattle.std.proofs.lemmas.List.{drop-drop, take_rest}
use Rattle.utf_base.specs.Decoded.{decoded}
use Rattle.c_api.specs.Api.{first_piece_of, after}
use Rattle.c_api.proofs.Each.{fills_on}
use Rattle.c_api.proofs.cursors.put_characters.Goals as goal

pub loop-count-preserved : goal.loop-count-preserved
loop-count-preserved c =
    let bytes = c.args.bytes.now in
    let place = c.loop-count.place in
    let len = c.in-Some.len in
    let (before, few, most, enough) = c.loop-count.invariant in
    let is_len = c.in-Some.ensures.len in
    let test = c.loop-count-test.true in
    let some : 0 < length (drop place bytes) = omega (arith, length-drop place bytes) in
    let known : decoded (drop place bytes) ≡ Ok (c.in-Some.c, len) = rw (take_rest bytes place) at c.in-Some.ensures.known in
    let piece : c.character_piece.result ≡ first_piece_of (drop place bytes) = rw (known, c.character_piece.ensures) refl in
    let left : drop (place + len) bytes ≡ after (drop place bytes) c.character_piece.result = rw c.character_piece.ensures (sym (drop-drop len place bytes)) in (
      fills_on first_piece_of bytes (drop place bytes) c.args.room.now c.loop-count.room c.loop-count.count before (omega (arith, before.len)) some piece left,
      omega arith,
      most,
      omega (arith, is_len),
    )
