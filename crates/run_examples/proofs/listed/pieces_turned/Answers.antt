use Rattle.std.proofs.Common.{reverse}
use Rattle.encode_unicode.specs.Code.{utf8}
use Rattle.encode_unicode.specs.Kinds.{merger_kind}
use Rattle.std.specs.Slice.Iter.{iter_rest}
use Rattle.std.specs.Iterator.Adapters.{copied_source, rev_source}
use Rattle.encode_unicode.proofs.Listed.{rev_copied_listed}
use Rattle.cuts.specs.Collected.{IsMergedRun}
use Rattle.run_examples.proofs.SourceLemmas.{at_list}
use Rattle.run_examples.proofs.listed.pieces_turned.Goals as goal

pub returns : goal.returns
returns g c = at_list (λ xs all. IsMergedRun utf8 merger_kind xs all.items) (λ s. reverse (iter_rest (rev_source (copied_source s)))) (rev_copied_listed) _ _ _ (cc) c.merge_utf8.ensures.run
