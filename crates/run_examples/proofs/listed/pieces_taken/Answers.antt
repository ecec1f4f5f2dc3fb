use Rattle.encode_unicode.specs.Code.{utf8}
use Rattle.encode_unicode.specs.Kinds.{merger_kind}
use Rattle.std.specs.Vec.Iter.{into_iter_items}
use Rattle.encode_unicode.proofs.Listed.{vector_listed}
use Rattle.cuts.specs.Collected.{IsMergedRun}
use Rattle.run_examples.proofs.SourceLemmas.{at_list}
use Rattle.run_examples.proofs.listed.pieces_taken.Goals as goal

pub returns : goal.returns
returns g c = at_list (λ xs all. IsMergedRun utf8 merger_kind xs all.items) (into_iter_items) (vector_listed) _ _ _ (cc) c.merge_utf8.ensures.run
