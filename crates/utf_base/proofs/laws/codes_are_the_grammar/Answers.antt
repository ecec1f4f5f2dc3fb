use Rattle.utf_base.proofs.GrammarLemmas.{codes_are_the_grammar}
use Rattle.utf_base.proofs.laws.codes_are_the_grammar.Goals as goal

pub returns : goal.returns
returns c = codes_are_the_grammar
