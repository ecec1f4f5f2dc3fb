use Rattle.std.proofs.Common.{◌-◌, length, take, arith, refl, ◌∙◌}
use Rattle.utf_lanes.proofs.TextUnits.{given_more}
use Rattle.recoding.proofs.utf8_to_utf16.widen_text.Goals as goal

pub returns-clause-written : goal.returns-clause-written
returns-clause-written g c =
    let text = c.args.text.now in
    let first = c.write_first-first.ensures.written in
    let wide = c.write_wide-place.ensures.written in
    let last = c.write_rest.ensures.written in
    let place = c.write_wide-place.result.0 in
    let more = given_more _ text (take c.args.at c.args.room.now) in
    let front = more _ _ 0 16 16 (place - 16) place first.front wide.front refl (omega arith) in
    record { len = last.len ∙ wide.len ∙ first.len; front = more _ _ 0 place place (length text - place) (length text) front last.front (omega arith) (omega arith) }
