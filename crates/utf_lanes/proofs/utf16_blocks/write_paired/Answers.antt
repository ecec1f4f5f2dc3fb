use Rattle.std.proofs.Common.{◌≡◌, ◌-◌, ◌+◌, true, List, ℕ, ◌++◌, length, take, arith, ap, sym, ◌∙◌, subst, length-take}
use Rattle.std.proofs.lemmas.List.{take-take}
use Rattle.utf_base.specs.Units.{is_leading_surrogate}
use Rattle.utf_lanes.specs.UnitCodes.{lane_unit, AreText, WritesUnits}
use Rattle.utf_lanes.proofs.JudgedUnits.{text_codes, two_more, without_last, WritesUnits-all}
use Rattle.utf_lanes.proofs.UnitSlots.{text_firsts_of_units}
use Rattle.utf_lanes.proofs.LaneLemmas.{lane_fits}
use Rattle.utf_lanes.proofs.utf16_blocks.write_paired.Goals as goal

pub returns-then-count : goal.returns-then-count
returns-then-count g c =
    let low = c.args.low in
    let high = c.args.high in
    let judged = c.requires in
    let put = c.write_slots-end.ensures in
    let first = text_firsts_of_units low high c.text_first_bytes.result (λ k lt. lane_fits low k c.fits-low lt) c.text_first_bytes.ensures in
    let codes = text_codes low high c.one_later.result _ _ _ (judged.text.first (omega arith)) c.one_later.ensures.others first.each c.text_middle_bytes-middle.ensures.each c.text_last_bytes-last.ensures.each in
    rw c.if-count.true (WritesUnits-all (subst (AreText (lane_unit low high)) c.if-count.true judged.text) put.written codes put.most)

pub overflow_sub-result : goal.overflow_sub-result
overflow_sub-result g c =
    let low = c.args.low in
    let high = c.args.high in
    let n = g.row.N in
    let judged = c.requires in
    let count : c.args.count ≡ n - 1 = omega arith in
    let one : n ≡ n - 1 + 1 = omega arith in
    let put = c.write_slots-end in
    let first = text_firsts_of_units low high c.text_first_bytes.result (λ k lt. lane_fits low k c.fits-low lt) c.text_first_bytes.ensures in
    let codes = text_codes low high c.one_later.result _ _ _ (judged.text.first (omega arith)) c.one_later.ensures.others first.each c.text_middle_bytes-middle.ensures.each c.text_last_bytes-last.ensures.each in
    let last : is_leading_surrogate (lane_unit low high (n - 1)) ≡ true = subst (λ k. is_leading_surrogate (lane_unit low high k) ≡ true) count (judged.last (omega arith)) in
    let two = two_more n (n - 1) one (lane_unit low high) _ _ last (put.ensures.written.front ∙ ap (λ xs. take c.args.at c.args.room.now ++ xs) codes) in
    omega (arith, two, length-take put.result put.new.room)

pub returns-else-count : goal.returns-else-count
returns-else-count g c =
    let low = c.args.low in
    let high = c.args.high in
    let n = g.row.N in
    let judged = c.requires in
    let count : c.args.count ≡ n - 1 = omega arith in
    let one : n ≡ n - 1 + 1 = omega arith in
    let put = c.write_slots-end in
    let end = put.result in
    let front : List ℕ = take end put.new.room in
    let first = text_firsts_of_units low high c.text_first_bytes.result (λ k lt. lane_fits low k c.fits-low lt) c.text_first_bytes.ensures in
    let codes = text_codes low high c.one_later.result _ _ _ (judged.text.first (omega arith)) c.one_later.ensures.others first.each c.text_middle_bytes-middle.ensures.each c.text_last_bytes-last.ensures.each in
    let last : is_leading_surrogate (lane_unit low high (n - 1)) ≡ true = subst (λ k. is_leading_surrogate (lane_unit low high k) ≡ true) count (judged.last (omega arith)) in
    let most = put.ensures.most in
    let len = put.ensures.written.len in
    let fit = c.requires.room in
    let at : end - 2 ≡ length front - 2 = omega (arith, length-take end put.new.room) in
    let all : WritesUnits n low high c.args.room.now put.new.room c.args.at (n - 1) (end - 2) = record {
      most = omega arith;
      text = subst (AreText (lane_unit low high)) count judged.text;
      len = len;
      bytes =
          sym (take-take (end - 2) end put.new.room (omega arith)) ∙ ap (λ k. take k front) at
          ∙ without_last n (n - 1) one (lane_unit low high) _ _ last (put.ensures.written.front ∙ ap (λ xs. take c.args.at c.args.room.now ++ xs) codes);
      short = omega arith;
      fits = omega arith;
    } in
    subst (λ k. WritesUnits n low high c.args.room.now put.new.room c.args.at k (end - 2)) (sym count) all
