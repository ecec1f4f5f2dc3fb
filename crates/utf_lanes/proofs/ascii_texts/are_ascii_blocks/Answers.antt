use Rattle.std.proofs.Common.{◌+◌, ◌-◌, ◌*◌, arith, inl, inr}
use Rattle.std.proofs.lemmas.Bool.{and_parts, cases_lt}
use Rattle.utf_lanes.proofs.LaneLemmas.{ascii_block}
use Rattle.utf_lanes.proofs.ascii_texts.are_ascii_blocks.Goals as goal

pub returns : goal.returns
returns g c holds k ge lt =
    let place = c.args.place in
    let last = place + 64 * (g.row.BLOCKS - 1) in
    elim (cases_lt k (place + 64)) [
      | inl front ↦ ascii_block c.args.bytes.now place (c.is_ascii_block.ensures.ascii (and_parts _ _ holds).0) k ge front
      | inr after ↦ ascii_block c.args.bytes.now last (c.is_ascii_block-2.ensures.ascii (and_parts _ _ holds).1) k (omega arith) (omega arith)
    ]
