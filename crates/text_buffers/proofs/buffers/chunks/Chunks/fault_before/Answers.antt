use Rattle.std.proofs.Common.{◌≡◌, ◌+◌, ◌-◌, length, take, arith, ap, subst, sym, ◌∙◌}
use Rattle.std.specs.List.{concat}
use Rattle.text_buffers.specs.TextLookups.{HasNoFaultBefore, IsPreviousFault}
use Rattle.text_buffers.proofs.CleanRows.{clean_step_back}
use Rattle.text_buffers.proofs.NumberLemmas.{ChunkAt}
use Rattle.text_buffers.proofs.PreviousFaultLemmas.{NoneBack, spot_before, previous_of_chunk, none_back_of_chunk, none_back_at_all}
use Rattle.text_buffers.proofs.buffers.chunks.Chunks.fault_before.Goals as goal

pub overflow_sub-spot-in_default-3 : goal.overflow_sub-spot-in_default-3
overflow_sub-spot-in_default-3 g c =
    let back = spot_before c.args.self.now _ _ c.chunk-chunk.result.now c.loop-spot.invariant.0 (omega arith) c.chunk-chunk.ensures.is in
    omega (arith, back.0, c.len.ensures)

pub returns-in-Some-chunk_fault_before : goal.returns-in-Some-chunk_fault_before
returns-in-Some-chunk_fault_before g c =
    let x = c.chunk-chunk.result.now in
    let back = spot_before c.args.self.now _ _ x c.loop-spot.invariant.0 (omega arith) c.chunk-chunk.ensures.is in
    let within = c.loop-spot.invariant.0.within in
    let k = c.loop-spot.spot.number - 1 in
    let p = c.loop-spot.spot.place - length x in
    let at : ChunkAt c.args.self.now k p x = record { ends = c.sums-sums.ensures.held.ends; spot = back.1; lt = omega arith; is = c.chunk-chunk.ensures.is } in
    let end : p + length x ≡ c.loop-spot.spot.place = omega (arith, back.0) in
    let none : NoneBack (concat c.args.self.now) c.args.at (p + length x) = subst (NoneBack (concat c.args.self.now) c.args.at) (sym end) c.loop-spot.invariant.1 in
    let left : c.saturating_sub.result ≡ c.args.at - p = omega (arith, c.len.ensures) in
    let told : IsPreviousFault x (c.args.at - p) c.in-Some-chunk_fault_before.place = rw left at c.in-Some-chunk_fault_before.ensures in
    rw c.len.ensures (previous_of_chunk c.args.self.now k p x at c.args.at c.in-Some-chunk_fault_before.place none told)

pub loop-spot-preserved : goal.loop-spot-preserved
loop-spot-preserved g c =
    let x = c.chunk-chunk.result.now in
    let back = spot_before c.args.self.now _ _ x c.loop-spot.invariant.0 (omega arith) c.chunk-chunk.ensures.is in
    let within = c.loop-spot.invariant.0.within in
    let k = c.loop-spot.spot.number - 1 in
    let p = c.loop-spot.spot.place - length x in
    let at : ChunkAt c.args.self.now k p x = record { ends = c.sums-sums.ensures.held.ends; spot = back.1; lt = omega arith; is = c.chunk-chunk.ensures.is } in
    let end : p + length x ≡ c.loop-spot.spot.place = omega (arith, back.0) in
    let none : NoneBack (concat c.args.self.now) c.args.at (p + length x) = subst (NoneBack (concat c.args.self.now) c.args.at) (sym end) c.loop-spot.invariant.1 in
    let left : c.saturating_sub.result ≡ c.args.at - p = omega (arith, c.len.ensures) in
    let told : HasNoFaultBefore x (c.args.at - p) = rw left at c.in_default-chunk_fault_before.ensures in
    rw c.len.ensures (back.1, none_back_of_chunk c.args.self.now k p x at c.args.at none told)

pub overflow_sub-spot : goal.overflow_sub-spot
overflow_sub-spot g c =
    (clean_step_back c.args.self.now c.sums-sums.result.now _ _ c.in-Some.bytes c.sums-sums.ensures.held.ends c.sums-sums.ensures.sums c.loop-spot.invariant.0 c.in-Some.ensures.some c.in-Some.ensures.row).0

pub loop-spot-preserved-in-Some : goal.loop-spot-preserved-in-Some
loop-spot-preserved-in-Some g c =
    let step = clean_step_back c.args.self.now c.sums-sums.result.now _ _ c.in-Some.bytes c.sums-sums.ensures.held.ends c.sums-sums.ensures.sums c.loop-spot.invariant.0 c.in-Some.ensures.some c.in-Some.ensures.row in
    (step.1, step.2 c.args.at c.loop-spot.invariant.1)

pub returns : goal.returns
returns g c =
    let none : c.loop-spot.spot.number ≡ 0 = omega arith in
    let start : c.loop-spot.spot.place ≡ 0 = c.loop-spot.invariant.0.begins ∙ ap (λ k. length (concat (take k c.args.self.now))) none in
    none_back_at_all (concat c.args.self.now) c.args.at c.loop-spot.spot.place c.loop-spot.invariant.1 start
