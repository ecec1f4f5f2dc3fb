use Rattle.std.proofs.Common.{◌++◌, length, arith, ap, ◌∙◌, length-append}
use Rattle.recoding.specs.declared.form.Form.TheVariants.{Utf8}
use Rattle.run_examples.proofs.parts.feed_line.Goals as goal

pub returns-clause-early : goal.returns-clause-early
returns-clause-early g c =
    λ other rest h.
    let feeds = c.in_ok-feed.ensures.ok in
    let front = rw c.requires.form at (c.in_ok-feed.ensures.waits c.requires.some) in
    let continues = rw c.requires.form at feeds.grows.continues in
    let le = c.nothing_comes_earlier.ensures Utf8 c.args.recoder.now.to (c.args.recoder.now.held ++ c.args.line.now) feeds.grows.grown _ other rest front continues h in
    let grown = ap length feeds.grows.appended ∙ length-append c.args.out.now.items feeds.grows.grown in
    omega arith
