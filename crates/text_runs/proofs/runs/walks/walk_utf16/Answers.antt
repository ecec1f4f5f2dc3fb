use Rattle.std.proofs.Common.{arith}
use Rattle.std.proofs.lemmas.List.{take_more}
use Rattle.utf_base.specs.Walk.{utf16_units}
use Rattle.utf_base.proofs.Utf16Code.{utf16_is_code}
use Rattle.text_runs.proofs.WalkLemmas.{IsWalkSoFar-none, unit_more, IsWalk-all, walk_entries, walk_each_once, walk_outside}
use Rattle.text_runs.proofs.runs.walks.walk_utf16.Goals as goal

pub loop-end-init : goal.loop-end-init
loop-end-init g c = rw (c.new-answers.ensures.items, c.from-units.ensures) (IsWalkSoFar-none utf16_units _)

pub loop-end-preserved : goal.loop-end-preserved
loop-end-preserved g c =
    let more = take_more c.args.word.now c.loop-end.end-index _ (omega arith) in
    rw (c.in_ok-push.ensures.items, more) (unit_more _ _ c.loop-end.invariant c.ask.ensures)

pub returns-clause-entries : goal.returns-clause-entries
returns-clause-entries g c = walk_entries utf16_units _ _ _ (IsWalk-all utf16_units _ _ c.loop-end-test.false c.loop-end.invariant)

pub returns-clause-each_once : goal.returns-clause-each_once
returns-clause-each_once g c = walk_each_once utf16_units utf16_is_code _ _ _ (IsWalk-all utf16_units _ _ c.loop-end-test.false c.loop-end.invariant)

pub returns-clause-outside : goal.returns-clause-outside
returns-clause-outside g c = walk_outside utf16_units utf16_is_code _ _ _ (IsWalk-all utf16_units _ _ c.loop-end-test.false c.loop-end.invariant)
