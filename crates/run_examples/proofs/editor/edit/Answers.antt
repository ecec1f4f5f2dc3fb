use Rattle.std.proofs.Common.{◌≡◌, ◌+◌, length, arith, rules}
use Rattle.run_examples.proofs.EditorLemmas.{stays_after}
use Rattle.run_examples.proofs.editor.edit.Goals as goal

pub returns-clause-before : goal.returns-clause-before
returns-clause-before g c x lt =
    let both = (c.in_ok-replace.ensures.around x).0 (omega (arith, c.saturating_sub-from.ensures)) in
    (both.1, both.0)

pub returns-clause-following : goal.returns-clause-following
returns-clause-following g c x le =
    let until : c.in_ok-until.until ≡ c.args.start + length c.args.new.now + 3 = search rules in
    stays_after _ _ _ c.args.end _ c.in_ok-replace.ensures.around x (omega arith)
