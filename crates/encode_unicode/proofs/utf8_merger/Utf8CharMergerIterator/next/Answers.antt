use Rattle.utf_base.specs.Code.{utf8}
use Rattle.utf_base.specs.Kinds.{merger_kind}
use Rattle.encode_unicode.specs.Mergers.{IsHeldBytes}
use Rattle.encode_unicode.proofs.ByteMerging.{known_bytes}
use Rattle.encode_unicode.proofs.MergerSteps.{merger_nearer, merger_next}
use Rattle.encode_unicode.proofs.utf8_merger.Utf8CharMergerIterator.next.Goals as goal

pub returns-in-Err : goal.returns-in-Err
returns-in-Err g c =
    let begun = c.in-Some.ensures.first in
    rw (← c.self.view_is)
    (record {
      steps = merger_next utf8 merger_kind IsHeldBytes begun.reads begun.begins c.in-Err.ensures.answers c.in-Err.ensures.held;
      goes = merger_nearer utf8 merger_kind begun.reads begun.begins c.in-Err.ensures.answers;
    })

pub returns : goal.returns
returns g c =
    let begun = c.in-Some.ensures.first in
    let answers = known_bytes c.in-Ok.ensures (rw c.to_array.ensures at c.from_array_unchecked.ensures.known) in
    rw (← c.self.view_is)
    (record {
      steps = merger_next utf8 merger_kind IsHeldBytes begun.reads begun.begins answers c.in-Ok.ensures.held;
      goes = merger_nearer utf8 merger_kind begun.reads begun.begins answers;
    })
