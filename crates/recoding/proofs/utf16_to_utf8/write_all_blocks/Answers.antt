use Rattle.recoding.proofs.RoomRuns.{FillsPlace-more}
use Rattle.recoding.proofs.TextRuns.{PutsText-then}
use Rattle.recoding.proofs.utf16_to_utf8.write_all_blocks.Goals as goal

pub returns : goal.returns
returns g c = PutsText-then FillsPlace-more c.write_wide_blocks-wide.ensures c.write_short_blocks-len.ensures
