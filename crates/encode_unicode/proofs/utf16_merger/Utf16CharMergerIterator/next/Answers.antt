use Rattle.std.proofs.Common.{◌∷◌, ◌∙◌, ap}
use Rattle.utf_base.specs.Code.{utf16}
use Rattle.utf_base.specs.Units.{unit_fault_kind}
use Rattle.encode_unicode.specs.Mergers.{IsHeldUnits}
use Rattle.encode_unicode.proofs.UnitMerging.{known_units}
use Rattle.encode_unicode.proofs.MergerSteps.{merger_nearer, merger_next}
use Rattle.encode_unicode.proofs.utf16_merger.Utf16CharMergerIterator.next.Goals as goal

pub returns-in-Err : goal.returns-in-Err
returns-in-Err g c =
    let reads = rw c.in-Some.ensures.going at c.in-Some.ensures.first.reads in
    let begins = c.in-Some.ensures.first.begins ∙ ap (λ held. c.in-Some.first ∷ held) c.in-Some.ensures.none in
    rw (← c.self.view_is)
    (record {
      steps = merger_next utf16 unit_fault_kind IsHeldUnits reads begins c.in-Err.ensures.answers c.in-Err.ensures.held;
      goes = merger_nearer utf16 unit_fault_kind reads begins c.in-Err.ensures.answers;
    })

pub returns : goal.returns
returns g c =
    let reads = rw c.in-Some.ensures.going at c.in-Some.ensures.first.reads in
    let begins = c.in-Some.ensures.first.begins ∙ ap (λ held. c.in-Some.first ∷ held) c.in-Some.ensures.none in
    let answers = known_units _ c.in-Ok.ensures.answers c.from_array_unchecked.ensures.known in
    rw (← c.self.view_is)
    (record {
      steps = merger_next utf16 unit_fault_kind IsHeldUnits reads begins answers c.in-Ok.ensures.held;
      goes = merger_nearer utf16 unit_fault_kind reads begins answers;
    })
