use Rattle.std.proofs.Common.{reverse}
use Rattle.encode_unicode.specs.Code.{utf16}
use Rattle.encode_unicode.specs.Units.{unit_fault_kind}
use Rattle.std.specs.Iterator.Adapters.{rev_source}
use Rattle.encode_unicode.specs.Pieces.{chars_left}
use Rattle.encode_unicode.specs.Sources.{unsent}
use Rattle.encode_unicode.proofs.Listed.{scalars_rev_listed, splitter_listed}
use Rattle.cuts.specs.Collected.{IsMergedRun}
use Rattle.run_examples.proofs.SourceLemmas.{at_list, units_turned}
use Rattle.run_examples.proofs.listed.turned_by_units.Goals as goal

pub returns : goal.returns
returns g c = at_list (λ xs all. IsMergedRun utf16 unit_fault_kind xs all.items) (unsent utf16 (λ s. reverse (chars_left (rev_source s)))) (splitter_listed utf16 _ _ scalars_rev_listed) _ _ _ (units_turned _ _ _ _ c.to_units.ensures.splitter c.rev.ensures.source c.utf16chars.ensures.window) c.merge_utf16.ensures.run
