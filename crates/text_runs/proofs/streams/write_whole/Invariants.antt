use Rattle.std.proofs.Common.{◌≡◌, ◌≤◌, ◌-◌, length, take}
use Rattle.std.specs.Prelude.{IsTrue}
use Rattle.std.specs.Io.KnownBytes.{Appends}
use Rattle.text_runs.proofs.streams.write_whole.Given as goal

abbrev pub invariant-loop-sent : goal.invariant-loop-sent
invariant-loop-sent g l = record {
  in_range : l.sent ≤ length l.bytes;
  front : Appends (g.S.Sink.contents l.fn.to) (g.S.Sink.contents l.to) (take l.sent l.bytes);
  quiet : IsTrue g.S.Sink.is_counted → g.S.Sink.failures l.to ≡ g.S.Sink.failures l.fn.to;
  stalls : IsTrue g.S.Sink.is_counted → g.S.Sink.stalls l.to ≡ g.S.Sink.stalls l.fn.to;
  other_calls : IsTrue g.S.Sink.is_counted → g.S.Sink.other_calls l.to ≡ g.S.Sink.other_calls l.fn.to;
}

abbrev pub decreases-loop-sent : goal.decreases-loop-sent
decreases-loop-sent g l = length l.bytes - l.sent
