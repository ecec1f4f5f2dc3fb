use Rattle.recoding.proofs.RoomRuns.{FillsPlace-more}
use Rattle.recoding.proofs.TextRuns.{PutsText-then}
use Rattle.recoding.proofs.utf16_to_utf8.write_some_blocks.Goals as goal

pub returns : goal.returns
returns g c =
    let both = PutsText-then FillsPlace-more c.write_ascii_blocks-ascii.ensures c.write_character_blocks-characters.ensures in
    PutsText-then FillsPlace-more both c.write_mixed_blocks-mixed.ensures
