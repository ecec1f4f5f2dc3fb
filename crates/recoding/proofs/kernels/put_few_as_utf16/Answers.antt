use Rattle.std.proofs.Common.{◌-◌, [], length, arith, refl}
use Rattle.utf_lanes.proofs.TextUnits.{given_more}
use Rattle.recoding.proofs.GivenBytes.{few_given}
use Rattle.recoding.proofs.kernels.put_few_as_utf16.Goals as goal

pub put-requires : goal.put-requires
put-requires g c =
    let text = c.args.text.now in
    let all = given_more _ text [] _ _ 0 16 16 (length text - 16) (length text) c.write_first-first.ensures.written.front c.write_rest-last.ensures.written.front refl (omega arith) in
    omega (arith, few_given _ text _ 0 (length text) all)

pub returns : goal.returns
returns g c =
    let text = c.args.text.now in
    let all = given_more _ text [] _ _ 0 16 16 (length text - 16) (length text) c.write_first-first.ensures.written.front c.write_rest-last.ensures.written.front refl (omega arith) in
    rw all at c.put.ensures
