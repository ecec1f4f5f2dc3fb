use Rattle.std.proofs.Common.{ap, ◌++◌}
use Rattle.text_programs.proofs.HexPairs.{six_by_pairs}
use Rattle.text_programs.proofs.programs.lines.Lines.push_hex.Goals as goal

pub returns : goal.returns
returns c =
    rw (c.push_text.ensures, c.hex_pair.ensures, c.hex_pair-2.ensures, c.hex_pair-3.ensures)
    (ap (λ xs. c.args.self.now ++ xs) (six_by_pairs c.args.n c.requires.six))
