use Rattle.std.proofs.Common.{drop}
use Rattle.encode_unicode.specs.Code.{utf8}
use Rattle.encode_unicode.specs.Kinds.{merger_kind}
use Rattle.std.specs.Iterator.Adapters.{skip_count, skip_source}
use Rattle.encode_unicode.proofs.Listed.{copied_listed, copied_rest, skip_listed}
use Rattle.cuts.specs.Collected.{IsMergedRun}
use Rattle.run_examples.proofs.SourceLemmas.{at_list}
use Rattle.run_examples.proofs.listed.pieces_after.Goals as goal

pub returns : goal.returns
returns g c = at_list (λ xs all. IsMergedRun utf8 merger_kind xs all.items) (λ s. drop (skip_count s) (copied_rest (skip_source s))) (skip_listed _ copied_rest copied_listed) _ _ _ (cc) c.merge_utf8.ensures.run
