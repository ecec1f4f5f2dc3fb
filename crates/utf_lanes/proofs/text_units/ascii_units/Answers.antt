use Rattle.std.proofs.Common.{◌≡◌, ◌+◌, ◌∙◌, arith}
use Rattle.utf_lanes.proofs.AsciiTexts.{ascii_given}
use Rattle.utf_lanes.proofs.text_units.ascii_units.Goals as goal

pub returns-clause-first : goal.returns-clause-first
returns-clause-first g c =
    let at : c.args.place + 0 ≡ c.args.place = omega arith in
    rw at at (c.interleave_zeros_wide.ensures.first ∙ ascii_given g.E.ByteOrder.HIGH_FIRST c.args.text.now c.args.place 0 32 c.requires.start (omega arith) c.requires.closed c.requires.ascii)

pub returns-clause-second : goal.returns-clause-second
returns-clause-second g c = c.interleave_zeros_wide.ensures.second ∙ ascii_given g.E.ByteOrder.HIGH_FIRST c.args.text.now c.args.place 32 32 c.requires.start (omega arith) c.requires.closed c.requires.ascii
