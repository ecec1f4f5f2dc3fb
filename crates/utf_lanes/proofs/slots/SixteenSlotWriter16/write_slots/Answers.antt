use Rattle.std.proofs.Common.{◌++◌, ap₂, ◌∙◌}
use Rattle.utf_lanes.proofs.BlockUnits.{first_pairs, last_pairs, first_pairs_at, last_pairs_at}
use Rattle.utf_lanes.proofs.SlotLanes.{sixteen_slots}
use Rattle.utf_lanes.proofs.TextUnits.{Writes-then}
use Rattle.utf_lanes.proofs.slots.SixteenSlotWriter16.write_slots.Goals as goal

pub returns-clause-written : goal.returns-clause-written
returns-clause-written c =
    let first = c.args.first in
    let middle = c.args.middle in
    let last = c.args.last in
    let p = c.fits-first.0 in
    let q = c.fits-middle.0 in
    let r = c.fits-last.0 in
    Writes-then c.write_rows-half.ensures.written c.write_rows.ensures.written
    (ap₂ (λ xs ys. xs ++ ys) c.rows_of.ensures.bytes c.rows_of-2.ensures.bytes
    ∙ sixteen_slots first middle last (first_pairs first middle p q) (last_pairs first middle p q) (first_pairs last last r r) (last_pairs last last r r)
    (first_pairs_at first middle p q) (last_pairs_at first middle p q) (first_pairs_at last last r r) (last_pairs_at last last r r))
