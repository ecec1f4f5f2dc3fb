use Rattle.std.proofs.Common.{◌∙◌, sym, rules, tests, nat_eq, length}
use Rattle.std.proofs.lemmas.Iterator.Adapters.{option_map_id}
use Rattle.std.proofs.lemmas.Iterator.Consumers.{YieldsList-from_first}
use Rattle.std.proofs.lemmas.Iterator.Search.{find_from_yields_List}
use Rattle.run_examples.proofs.fields.first_empty_line.Goals as goal

pub returns-clause-first : goal.returns-clause-first
returns-clause-first c =
    let found = find_from_yields_List (λ x. nat_eq (length x.bytes) 0) _ _ c.find.result c.find.ensures.ran (YieldsList-from_first (λ x. x) (λ left. left) _ c.lines.ensures.list) (λ x b q k. search (rules, tests)) in
    sym (option_map_id c.find.result) ∙ found
