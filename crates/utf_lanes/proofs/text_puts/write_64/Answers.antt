use Rattle.std.proofs.Common.{◌+◌, ◌≡◌, take, arith, refl, ◌∙◌}
use Rattle.utf_lanes.proofs.TextUnits.{given_more}
use Rattle.utf_lanes.proofs.text_puts.write_64.Goals as goal

pub returns-clause-written : goal.returns-clause-written
returns-clause-written g c =
    let p = c.args.place in
    let zero : p + 0 ≡ p = omega arith in
    let first = c.write_block-first.ensures.written in
    let second = c.write_block-second.ensures.written in
    let third = c.write_block-third.ensures.written in
    let last = c.write_block.ensures.written in
    let more = given_more g.E.ByteOrder.HIGH_FIRST c.args.text.now (take c.args.at c.args.room.now) in
    let two = more _ _ p 16 (p + 16 + 0) 16 32 (rw zero at first.front) second.front (omega arith) refl in
    let three = more _ _ p 32 (p + 32 + 0) 16 48 two third.front (omega arith) refl in
    record {
      len = last.len ∙ third.len ∙ second.len ∙ first.len;
      front = more _ _ p 48 (p + 48 + 0) 16 64 three last.front (omega arith) refl;
    }
