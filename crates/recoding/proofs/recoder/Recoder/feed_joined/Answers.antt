use Rattle.recoding.proofs.Taking.{Takes-reserved}
use Rattle.recoding.proofs.recoder.Recoder.feed_joined.Goals as goal

pub returns-clause-ok : goal.returns-clause-ok
returns-clause-ok g c =
    (c.append_joined-replaced.result, c.append_joined-replaced.new.self, Takes-reserved c.in_ok-reserve.ensures.items c.in_ok-reserve.ensures.capacity c.append_joined-replaced.ensures.takes, c.append_joined-replaced.ensures.waits, c.count_faults.ensures)
