use Rattle.std.proofs.Common.{[], ◌++◌, append_assoc, arith, ap, refl, take, drop}
use Rattle.std.proofs.lemmas.List.{take-append-drop, take_rest}
use Rattle.text_positions.specs.Positions.{Place}
use Rattle.text_positions.proofs.LineLemmas.{rest_has_none}
use Rattle.text_positions.proofs.PositionLemmas.{at_line, in_line}
use Rattle.text_positions.proofs.position.Position.pass.Goals as goal

pub returns-then-feeds-eq0-clause-after : goal.returns-then-feeds-eq0-clause-after
returns-then-feeds-eq0-clause-after c =
    let feeds = c.line_feed_count-feeds.ensures in
    λ front held later b e. in_line c.args.form front held later c.args.bytes.now c.args.self.now _ b e (omega arith) c.pass_in_line.ensures

pub returns-clause-after : goal.returns-clause-after
returns-clause-after c =
    let form = c.args.form in
    let bytes = c.args.bytes.now in
    let begin = c.last_line-begin.result in
    let begins = c.last_line-begin.ensures.begins in
    let feeds = c.line_feed_count-feeds.ensures in
    let line = ap (λ (p : Place). p.line) c.self.view_is in
    λ front held later b e.
    let start = at_line form front held bytes c.args.self.now _ begin b begins (omega arith) (omega arith) refl refl in
    let after = in_line form (front ++ take begin bytes) [] (drop begin bytes) (drop begin bytes) _ _ start refl (rest_has_none form bytes begin begins) (rw (take_rest bytes begin) at c.pass_in_line-2.ensures) in
    rw (append_assoc front (take begin bytes) (drop begin bytes), take-append-drop begin bytes) at after
