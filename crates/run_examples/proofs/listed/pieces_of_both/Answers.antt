use Rattle.std.proofs.Common.{arith}
use Rattle.std.proofs.lemmas.Grind.{common_steps}
use Rattle.encode_unicode.specs.Code.{utf8}
use Rattle.encode_unicode.specs.Kinds.{merger_kind}
use Rattle.encode_unicode.proofs.Listed.{chain_listed, chain_rest, copied_listed, copied_rest}
use Rattle.cuts.specs.Collected.{IsMergedRun}
use Rattle.run_examples.proofs.SourceLemmas.{at_list}
use Rattle.run_examples.proofs.listed.pieces_of_both.Goals as goal

pub returns : goal.returns
returns g c = at_list (λ xs all. IsMergedRun utf8 merger_kind xs all.items) (chain_rest copied_rest copied_rest) (chain_listed _ _ _ _ copied_listed copied_listed) _ _ _ (grind (arith, common_steps)) c.merge_utf8.ensures.run
