use Rattle.std.proofs.Common.{◌+◌, ◌++◌, arith, refl, ap, ◌∙◌, take}
use Rattle.utf_lanes.proofs.TextUnits.{given_more}
use Rattle.recoding.proofs.utf8_to_utf16.write_ascii.Goals as goal

pub returns-clause-written : goal.returns-clause-written
returns-clause-written g c =
    let p = c.args.place in
    let room = c.args.room.now in
    let mid = c.lay_wide-middle.new.room in
    let middle = c.lay_wide-middle.result in
    let first = c.lay_wide-middle.ensures.fills.front ∙ ap (λ ys. take c.args.at room ++ ys) c.ascii_units.ensures.first in
    let second = c.lay_wide.ensures.fills.front ∙ ap (λ ys. take middle mid ++ ys) c.ascii_units.ensures.second in
    record {
      len = omega arith;
      front = given_more _ c.args.text.now (take c.args.at room) _ _ p 32 (p + 32) 32 64 first second refl refl;
    }
