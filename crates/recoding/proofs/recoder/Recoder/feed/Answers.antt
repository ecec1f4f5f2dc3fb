use Rattle.std.proofs.lemmas.Result.{on_ok_weaker}
use Rattle.recoding.proofs.Advancing.{fed_counts}
use Rattle.recoding.proofs.Taking.{all_counted}
use Rattle.recoding.proofs.recoder.Recoder.feed.Goals as goal

pub returns-then-count-eq0-clause-counts : goal.returns-then-count-eq0-clause-counts
returns-then-count-eq0-clause-counts g c = on_ok_weaker c.feed_alone.result (λ h. fed_counts _ _ _ (all_counted _ _ _ _ _ h)) c.feed_alone.ensures.ok

pub returns-clause-counts : goal.returns-clause-counts
returns-clause-counts g c = on_ok_weaker c.feed_joined.result (λ h. fed_counts _ _ _ (all_counted _ _ _ _ _ h)) c.feed_joined.ensures.ok
