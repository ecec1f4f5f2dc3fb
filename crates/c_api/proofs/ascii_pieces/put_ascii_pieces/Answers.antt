use Rattle.std.proofs.Common.{◌≡◌, ap, ◌+◌, ◌-◌, ◌≤◌, ◌++◌, arith, refl, subst, sym, ◌∙◌, take, drop, length, length-drop}
use Rattle.std.proofs.lemmas.List.{drop-drop, length-take-le, take-append-drop}
use Rattle.c_api.specs.Api.{first_piece_of, GivesEach}
use Rattle.c_api.proofs.AsciiPieces.{ascii_run}
use Rattle.c_api.proofs.Each.{fills_more}
use Rattle.c_api.proofs.ascii_pieces.put_ascii_pieces.Goals as goal

pub loop-count-preserved : goal.loop-count-preserved
loop-count-preserved c =
    let count = c.loop-count.count in
    let bytes = c.args.bytes.now in
    let (before, few) = c.loop-count.invariant in
    let eight : count + 8 - count ≡ 8 = omega arith in
    let front = take 8 (drop count bytes) in
    let test : count + 8 ≤ c.min-most.result = omega (arith, c.loop-count-test.true, few) in
    let len : length front ≡ 8 = length-take-le 8 (drop count bytes) (omega (arith, length-drop count bytes, c.min-most.ensures)) in
    let ascii = rw eight at c.if-not-put_block.ensures.ascii refl in
    let put = rw eight at c.if-not-put_block.ensures.put refl in
    let left = drop (count + 8) bytes in
    let whole : front ++ left ≡ drop count bytes = ap (λ z. front ++ z) (sym (drop-drop 8 count bytes)) ∙ take-append-drop 8 (drop count bytes) in
    let run = ascii_run front left (λ k lt. ascii k (omega arith) (omega (arith, len, lt))) in
    let each : GivesEach first_piece_of (drop count bytes) c.put_block.new.room left = subst (λ z. GivesEach first_piece_of z c.put_block.new.room left) whole (rw put run) in (
      rw eight (fills_more first_piece_of bytes (drop count bytes) left c.args.room.now c.loop-count.room c.put_block.new.room count 8 before (omega (arith, test, c.min-most.ensures)) c.put_block.ensures.len each),
      test,
    )
