use Rattle.std.proofs.lemmas.Cmp.{lists_equiv}
use Rattle.run_examples.proofs.equals.are_equal.Goals as goal

pub returns : goal.returns
returns g c = λ e. rw (c.eq.ensures, e) ((lists_equiv g.met.T.Eq.laws).refl c.args.second.now.items)
