use Rattle.text_programs.specs.Lines.{step_line, is_fault_step}
use Rattle.text_programs.proofs.ListingLemmas.{lines_are_counted}
use Rattle.text_programs.proofs.programs.listing.write_walk.Goals as goal

pub returns-clause-count : goal.returns-clause-count
returns-clause-count g c = lines_are_counted step_line is_fault_step _ _ _ _ c.write_entries.ensures.lines
