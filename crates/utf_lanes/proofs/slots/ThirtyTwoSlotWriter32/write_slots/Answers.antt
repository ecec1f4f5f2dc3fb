use Rattle.std.proofs.Common.{◌++◌, ap₂, ◌∙◌, take, drop}
use Rattle.utf_lanes.proofs.SlotLanes.{sixteen_slots, slot_halves}
use Rattle.utf_lanes.proofs.TextUnits.{Writes-then}
use Rattle.utf_lanes.proofs.slots.ThirtyTwoSlotWriter32.write_slots.Goals as goal

pub returns-clause-written : goal.returns-clause-written
returns-clause-written c =
    let first = c.args.first in
    let middle = c.args.middle in
    let last = c.args.last in
    let fronts = c.low_pairs in
    let ends = c.low_pairs-2 in
    let more_fronts = c.high_pairs in
    let more_ends = c.high_pairs-2 in
    let front =
    Writes-then c.write_rows-quarter.ensures.written c.write_rows-half.ensures.written
    (ap₂ (λ xs ys. xs ++ ys) c.wide_rows_of.ensures.front c.wide_rows_of-2.ensures.front
    ∙ sixteen_slots (take 16 first) (take 16 middle) (take 16 last) (take 16 fronts.result) (take 16 more_fronts.result) (take 16 ends.result) (take 16 more_ends.result)
    fronts.ensures.front more_fronts.ensures.front ends.ensures.front more_ends.ensures.front) in
    let back =
    Writes-then c.write_rows-most.ensures.written c.write_rows.ensures.written
    (ap₂ (λ xs ys. xs ++ ys) c.wide_rows_of.ensures.back c.wide_rows_of-2.ensures.back
    ∙ sixteen_slots (drop 16 first) (drop 16 middle) (drop 16 last) (drop 16 fronts.result) (drop 16 more_fronts.result) (drop 16 ends.result) (drop 16 more_ends.result)
    fronts.ensures.back more_fronts.ensures.back ends.ensures.back more_ends.ensures.back) in
    Writes-then front back (slot_halves first middle last)
