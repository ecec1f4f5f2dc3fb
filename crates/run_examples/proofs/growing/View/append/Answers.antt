use Rattle.encode_unicode.specs.Pieces.{pieces}
use Rattle.run_examples.proofs.GrowingLemmas.{all_came, shown_stay}
use Rattle.run_examples.proofs.growing.View.append.Goals as goal

pub returns-clause-stay : goal.returns-clause-stay
returns-clause-stay g c =
    rw c.min-self.ensures
    (shown_stay (pieces c.args.text.now) (pieces c.insert.new.self) c.args.self.now.first c.in_ok-change.change.number c.in_ok-change.ensures.change.front)

pub returns-clause-come : goal.returns-clause-come
returns-clause-come g c =
    all_came c.args.text.now c.insert.new.self c.args.new.now c.in_ok-change.change (rw c.len-end.ensures at c.in_ok-change.ensures.ok)
    (rw c.len-end.ensures at c.in_ok-change.ensures.change)
