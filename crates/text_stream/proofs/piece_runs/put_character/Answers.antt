use Rattle.std.proofs.Common.{arith}
use Rattle.text_stream.proofs.LocatedLemmas.{Puts-none, Puts-one, four_begin}
use Rattle.text_stream.proofs.piece_runs.put_character.Goals as goal

pub returns-clause-puts : goal.returns-clause-puts
returns-clause-puts g c =
    let at = c.args.at in
    let begins = four_begin c.args.bytes.now at.read _ _ c.in-Some.ensures.some in
    Puts-one _ (Puts-none g.P.FromPiece.made _ c.args.bytes.now c.args.room.now at (omega arith) (omega arith)) begins (omega arith) c.from_character.ensures c.after.ensures.read c.after.ensures.written c.after.ensures.offset
