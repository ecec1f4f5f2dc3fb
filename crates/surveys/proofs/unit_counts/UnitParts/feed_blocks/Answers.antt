use Rattle.std.proofs.Common.{◌≡◌, ◌+◌, ◌-◌, ◌*◌, ◌++◌, ◌∙◌, append_assoc, length, length-drop, length-take, take, drop, arith, ap, sym}
use Rattle.std.proofs.Math.Seq.{take-add}
use Rattle.utf_lanes.specs.BytePairs.{units_of}
use Rattle.surveys.specs.SurveyUnits.{SeesUnits, units_with}
use Rattle.surveys.proofs.FedUnits.{units_with-block}
use Rattle.surveys.proofs.unit_counts.UnitParts.feed_blocks.Goals as goal

pub loop-place-preserved : goal.loop-place-preserved
loop-place-preserved g c =
    let hf = g.E.ByteOrder.HIGH_FIRST in
    let s = c.loop-place.self in
    let part = c.args.part.now in
    let place = c.loop-place.place in
    let block = take 384 (drop place part) in
    let width : place + 384 - place ≡ 384 = omega arith in
    let sees : SeesUnits s (units_of hf block) c.see_block.new.self = rw width at c.see_block.ensures.counts in
    let whole : length block ≡ 2 * 192 = omega (arith, length-take 384 (drop place part), length-drop place part) in
    let odd = c.see_block.ensures.odd ∙ c.loop-place.invariant.odd in
    record {
      within = omega arith;
      odd = odd;
      same = λ later.
          units_with-block hf s c.see_block.new.self 192 block later c.loop-place.invariant.odd odd whole sees
          ∙ c.loop-place.invariant.same (block ++ later)
          ∙ ap (units_with hf c.args.self.now) (sym (append_assoc (take place part) block later) ∙ ap (λ z. z ++ later) (sym (take-add place 384 part)));
    }
