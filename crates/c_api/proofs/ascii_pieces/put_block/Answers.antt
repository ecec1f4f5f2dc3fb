use Rattle.std.proofs.Common.{◌++◌, ◌∷◌, [], length-set, map, take, arith, ap, sym, ◌∙◌}
use Rattle.std.proofs.lemmas.List.{take_more_set, map_more}
use Rattle.c_api.specs.Api.{ascii_piece_of}
use Rattle.c_api.proofs.ascii_pieces.put_block.Goals as goal

pub loop-i-preserved : goal.loop-i-preserved
loop-i-preserved c =
    let i = c.loop-i.i in
    let room = c.loop-i.room in
    let (len, same) = c.loop-i.invariant in (
      length-set room i c.ascii_piece.result ∙ len,
      take_more_set room i c.ascii_piece.result (omega (arith, len)) ∙ ap (λ ps. ps ++ c.ascii_piece.result ∷ []) same
          ∙ ap (λ x. map ascii_piece_of (take i c.args.bytes.now) ++ x ∷ []) c.ascii_piece.ensures
          ∙ sym (map_more ascii_piece_of c.args.bytes.now i 0 (omega (arith, c.requires.bytes))),
    )
