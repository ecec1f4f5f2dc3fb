use Rattle.std.proofs.Common.{[], arith, refl}
use Rattle.recoding.specs.Recodes.{differ}
use Rattle.recoding.proofs.SwappedRuns.{turned_none}
use Rattle.recoding.proofs.turned.copy_units.Goals as goal

pub returns-then-len-eq0 : goal.returns-then-len-eq0
returns-then-len-eq0 g c = record {
  within = omega arith;
  even = refl;
  codes = record { scalars = []; all = λ i d lt. absurd (omega arith); codes = refl };
  appended = rw (turned_none (differ g.E.ByteOrder.HIGH_FIRST g.W.ByteOrder.HIGH_FIRST)) at (g.met.O.Output.appends_none c.args.out.now);
}

pub returns : goal.returns
returns g c =
    let judged = c.units_len-len.ensures in
    record { within = judged.within; even = omega arith; codes = judged.codes; appended = rw (c.HIGH_FIRST.ensures, c.HIGH_FIRST-2.ensures) at c.put_turned.ensures }
