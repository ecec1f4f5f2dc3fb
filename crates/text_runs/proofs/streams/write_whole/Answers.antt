use Rattle.std.proofs.Common.{rules}
use Rattle.text_runs.proofs.Parts.{sent_more}
use Rattle.text_runs.proofs.streams.write_whole.Goals as goal

pub loop-sent-preserved : goal.loop-sent-preserved
loop-sent-preserved g c = record {
  in_range = search rules;
  front = sent_more _ _ _ _ c.loop-sent.sent _ c.loop-sent.invariant.front c.in_ok-count.ensures.appends;
  quiet = search rules;
  stalls = search rules;
  other_calls = search rules;
}
