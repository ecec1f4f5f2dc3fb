use Rattle.utf_lanes.proofs.SwappedBytes.{swapped_last}
use Rattle.recoding.proofs.turned.put_last.Goals as goal

pub returns : goal.returns
returns g c =
    let q = c.requires in
    rw (swapped_last c.args.bytes.now _ c.args.count q.even q.pairs q.few q.enough c.swapped_16-block.ensures) at c.put.ensures
