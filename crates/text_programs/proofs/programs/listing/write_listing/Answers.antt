use Rattle.std.proofs.Common.{rules, refl, ◌∙◌}
use Rattle.text_programs.proofs.ListingLemmas.{listing_of_pieces, IsListedSoFar-none, IsListedSoFar-push, IsListedSoFar-sent, WritesListing-all, WritesListingFront-failed, listing_of_text}
use Rattle.text_programs.proofs.LineLemmas.{Sends, Sends-all, Sends-none}
use Rattle.text_programs.proofs.programs.listing.write_listing.Goals.{then-not-has_room+in_ok-write_to, else-not-has_room}
use Rattle.text_programs.proofs.programs.listing.write_listing.Goals as goal

pub loop-item-init : goal.loop-item-init
loop-item-init g c =
    let whole = c.into_iter-item-iterator.ensures.into_iter_gives ∙ c.from-item-items.ensures in
    record {
      listed = IsListedSoFar-none _ _ _ _ whole c.new-lines.ensures;
      offset = rw (c.new-offset.ensures, whole) refl;
      quiet = refl;
      stalls = refl;
      other_calls = refl;
    }

pub loop-item-preserved : goal.loop-item-preserved
loop-item-preserved g c =
    let steps = c.in-Some.ensures.steps in
    let sent : Sends (g.W.Write.contents c.loop-item.out.inner) (g.W.Write.contents c.if-not-has_room.out.inner) c.loop-item.lines c.if-not-has_room.lines
    = elim c.if-not-has_room.branch [
      | then-not-has_room+in_ok-write_to w ↦ rw (w.out-is, w.lines-is) (Sends-all _ _ _ _ w.in_ok-write_to.ensures.ok w.in_ok-write_to.ensures.empty)
      | else-not-has_room w ↦ rw (w.out-is, w.lines-is) (Sends-none _ _)
    ] in
    let listed = IsListedSoFar-sent c.loop-item.invariant.listed sent in
    record {
      listed = rw (c.push_counted-faults.ensures.line, c.push_counted-faults.ensures.faults) (IsListedSoFar-push listed steps);
      offset = rw (c.push_counted-faults.ensures.next, steps.left, steps.place) refl;
      quiet = elim c.if-not-has_room.branch [
        | then-not-has_room+in_ok-write_to w ↦ rw w.out-is (search rules)
        | else-not-has_room w ↦ rw w.out-is (search rules)
      ];
      stalls = elim c.if-not-has_room.branch [
        | then-not-has_room+in_ok-write_to w ↦ rw w.out-is (search rules)
        | else-not-has_room w ↦ rw w.out-is (search rules)
      ];
      other_calls = elim c.if-not-has_room.branch [
        | then-not-has_room+in_ok-write_to w ↦ rw w.out-is (search rules)
        | else-not-has_room w ↦ rw w.out-is (search rules)
      ];
    }

pub returns-in_err-write_to-clause-front : goal.returns-in_err-write_to-clause-front
returns-in_err-write_to-clause-front g c = WritesListingFront-failed c.loop-item.invariant.listed c.write_to.ensures.front

pub returns-in_err-write_to-2-clause-front : goal.returns-in_err-write_to-2-clause-front
returns-in_err-write_to-2-clause-front g c = WritesListingFront-failed c.loop-item.invariant.listed c.write_to-2.ensures.front

pub returns-clause-front : goal.returns-clause-front
returns-clause-front g c = WritesListingFront-failed c.loop-item.invariant.listed c.write_to-2.ensures.front

pub returns-clause-text : goal.returns-clause-text
returns-clause-text g c =
    listing_of_text _ _ _ _ (WritesListing-all c.loop-item.invariant.listed c.in-None.ensures.steps c.in_ok-write_to-2.ensures.ok)

pub returns-clause-count : goal.returns-clause-count
returns-clause-count g c =
    listing_of_pieces _ _ _ _ (WritesListing-all c.loop-item.invariant.listed c.in-None.ensures.steps c.in_ok-write_to-2.ensures.ok)
