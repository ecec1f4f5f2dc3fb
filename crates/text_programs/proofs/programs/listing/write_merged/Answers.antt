use Rattle.std.specs.Prelude.{is_err}
use Rattle.text_programs.specs.Lines.{answer_line}
use Rattle.text_programs.proofs.ListingLemmas.{lines_are_counted}
use Rattle.text_programs.proofs.programs.listing.write_merged.Goals as goal

pub returns-clause-count : goal.returns-clause-count
returns-clause-count g c = lines_are_counted answer_line is_err _ _ _ _ c.write_entries.ensures.lines
