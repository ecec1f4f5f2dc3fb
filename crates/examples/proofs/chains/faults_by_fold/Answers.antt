use Rattle.std.proofs.Common.{length, rules, tests}
use Rattle.encode_unicode.proofs.ForCallers.{count_serves, pieces_within, pieces_yielded}
use Rattle.examples.proofs.chains.faults_by_fold.Goals as goal

pub fold-requires-clause-callable : goal.fold-requires-clause-callable
fold-requires-clause-callable c =
    count_serves (pieces_yielded c.args.bytes.now c.utf8char_indices.ensures.window) (length c.args.bytes.now) (pieces_within c.args.bytes.now) (λ n x q k. search (rules, tests)) (λ n x lt. search (rules, tests))
