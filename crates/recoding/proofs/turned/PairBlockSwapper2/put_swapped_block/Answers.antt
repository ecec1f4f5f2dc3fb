use Rattle.std.proofs.Common.{[], arith, refl}
use Rattle.utf_lanes.proofs.SwappedBytes.{swapped_pair}
use Rattle.recoding.proofs.turned.PairBlockSwapper2.put_swapped_block.Goals as goal

pub returns : goal.returns
returns g c =
    let pair = swapped_pair c.args.bytes.now [] _ _ c.args.place (omega arith) refl refl in
    rw pair at c.put_pair.ensures
