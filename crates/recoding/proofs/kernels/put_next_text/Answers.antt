use Rattle.utf_lanes.specs.Utf8ToUtf16.{concat_range}
use Rattle.recoding.proofs.AsciiToUtf16.{none_at}
use Rattle.recoding.proofs.kernels.put_next_text.Goals as goal

pub returns-then-end-place-lt32-clause-appends : goal.returns-then-end-place-lt32-clause-appends
unfolding concat_range
returns-then-end-place-lt32-clause-appends g c = rw (none_at c.args.bytes.now c.args.place) (g.met.O.Output.appends_none c.args.out.now)
