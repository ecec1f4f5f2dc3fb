use Rattle.std.proofs.Common.{sym}
use Rattle.std.proofs.lemmas.List.Edits.{map_over_more}
use Rattle.text_runs.specs.Tables.{moved_item}
use Rattle.text_buffers.proofs.TableRuns.{moved_nowhere}
use Rattle.text_buffers.proofs.piece_table.move_places.Goals as goal

pub returns-then-from-to : goal.returns-then-from-to
returns-then-from-to c = rw (← c.if-from-to.true) (sym (moved_nowhere c.args.from c.args.items.now c.requires.counted))

pub loop-i-preserved : goal.loop-i-preserved
loop-i-preserved c = map_over_more (moved_item c.args.from c.args.to) _ _ _ _ c.loop-i-test.true c.loop-i.invariant c.index-items-i.is
