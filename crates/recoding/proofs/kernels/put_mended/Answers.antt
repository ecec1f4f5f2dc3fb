use Rattle.std.proofs.Common.{◌≡◌, [], length, arith, rules}
use Rattle.std.proofs.lemmas.List.{drop_all}
use Rattle.utf_lanes.specs.Utf8ToUtf16.{concat_range}
use Rattle.recoding.proofs.kernels.put_mended.Goals as goal

pub returns-else-not-is_empty : goal.returns-else-not-is_empty
unfolding concat_range
returns-else-not-is_empty g c =
    let empty : length c.args.text.now ≡ 0 = search rules in
    let none : c.args.text.now ≡ [] = drop_all 0 c.args.text.now (omega arith) in
    rw none (g.met.O.Output.appends_none c.args.out.now)
