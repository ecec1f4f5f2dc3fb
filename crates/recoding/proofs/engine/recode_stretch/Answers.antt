use Rattle.recoding.proofs.TextRuns.{PutsText-part}
use Rattle.recoding.proofs.engine.recode_stretch.Goals as goal

pub returns : goal.returns
returns g c = PutsText-part _ c.recode_text_within.ensures

pub returns-then-fits_all : goal.returns-then-fits_all
returns-then-fits_all g c = PutsText-part _ c.recode_text.ensures
