use Rattle.recoding.proofs.RoomRuns.{FillsPlace-more}
use Rattle.recoding.proofs.TextRuns.{PutsText-start, PutsText-then}
use Rattle.recoding.proofs.utf16_to_utf8.write_wide_blocks.Goals as goal

pub loop-place-init : goal.loop-place-init
loop-place-init g c = PutsText-start c.requires

pub loop-place-preserved : goal.loop-place-preserved
loop-place-preserved g c = PutsText-then FillsPlace-more c.loop-place.invariant c.write_some_blocks-len.ensures

pub returns-then-len-eq0 : goal.returns-then-len-eq0
returns-then-len-eq0 g c = PutsText-then FillsPlace-more c.loop-place.invariant c.write_some_blocks-len.ensures
