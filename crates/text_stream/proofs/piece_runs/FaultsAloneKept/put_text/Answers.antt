use Rattle.std.proofs.Common.{◌≤◌, arith, length, drop}
use Rattle.std.proofs.lemmas.List.{take_rest}
use Rattle.text_stream.proofs.KeptPieces.{PutsKept-text}
use Rattle.text_stream.proofs.piece_runs.FaultsAloneKept.put_text.Goals as goal

pub returns : goal.returns
returns g c =
    let rest = take_rest c.args.bytes.now c.args.from.read in
    let within : c.front_text_len.result ≤ length (drop c.args.from.read c.args.bytes.now) = rw rest at c.front_text_len.ensures.within in
    PutsKept-text g.P.FromPiece.made c.front_text_len.result c.requires.0 c.requires.1 (omega arith) within (rw rest at c.front_text_len.ensures.text)
    c.past.ensures.read c.past.ensures.written c.past.ensures.offset
