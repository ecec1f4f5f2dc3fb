use Rattle.std.proofs.Common.{◌≡◌, ◌+◌, ◌-◌, ◌≤◌, length, take, arith, ap, ◌∙◌}
use Rattle.std.proofs.lemmas.List.{take_all}
use Rattle.std.specs.List.{concat}
use Rattle.text_buffers.specs.TextLookups.{HasNoFaultFrom, IsNextFault}
use Rattle.text_buffers.proofs.ChunkLists.{next_spot, spot_within}
use Rattle.text_buffers.proofs.CleanRows.{clean_step}
use Rattle.text_buffers.proofs.NextFaultLemmas.{next_of_chunk, none_of_chunk, none_at_all}
use Rattle.text_buffers.proofs.NumberLemmas.{ChunkAt, chunk_within}
use Rattle.text_buffers.proofs.buffers.chunks.Chunks.fault_from.Goals as goal

pub overflow_add-result : goal.overflow_add-result
overflow_add-result g c =
    let x = c.chunk-chunk.result.now in
    let at : ChunkAt c.args.self.now c.loop-spot.spot.number c.loop-spot.spot.place x
    = record { ends = c.sums-sums.ensures.held.ends; spot = c.loop-spot.invariant.0; lt = omega arith; is = c.chunk-chunk.ensures.is } in
    let within = c.in-Some-chunk_fault_from.ensures.fault.0 in
    omega (arith, chunk_within c.args.self.now _ _ x at)

pub returns-in-Some-chunk_fault_from : goal.returns-in-Some-chunk_fault_from
returns-in-Some-chunk_fault_from g c =
    let x = c.chunk-chunk.result.now in
    let at : ChunkAt c.args.self.now c.loop-spot.spot.number c.loop-spot.spot.place x
    = record { ends = c.sums-sums.ensures.held.ends; spot = c.loop-spot.invariant.0; lt = omega arith; is = c.chunk-chunk.ensures.is } in
    let left : c.saturating_sub.result ≡ c.args.at - c.loop-spot.spot.place = omega arith in
    let next : IsNextFault x (c.args.at - c.loop-spot.spot.place) c.in-Some-chunk_fault_from.place = rw left at c.in-Some-chunk_fault_from.ensures in
    next_of_chunk c.args.self.now _ _ x at c.args.at c.in-Some-chunk_fault_from.place c.loop-spot.invariant.1 next

pub overflow_add-spot-in_default : goal.overflow_add-spot-in_default
overflow_add-spot-in_default g c =
    let next = next_spot c.args.self.now _ _ c.chunk-chunk.result.now c.loop-spot.invariant.0 (omega arith) c.chunk-chunk.ensures.is in
    let within : c.loop-spot.spot.place + length c.chunk-chunk.result.now ≤ length (concat c.args.self.now) = spot_within c.args.self.now _ _ next in
    omega (arith, c.len-in_default.ensures)

pub loop-spot-preserved : goal.loop-spot-preserved
loop-spot-preserved g c =
    let x = c.chunk-chunk.result.now in
    let at : ChunkAt c.args.self.now c.loop-spot.spot.number c.loop-spot.spot.place x
    = record { ends = c.sums-sums.ensures.held.ends; spot = c.loop-spot.invariant.0; lt = omega arith; is = c.chunk-chunk.ensures.is } in
    let next = next_spot c.args.self.now _ _ x c.loop-spot.invariant.0 (omega arith) c.chunk-chunk.ensures.is in
    let left : c.saturating_sub.result ≡ c.args.at - c.loop-spot.spot.place = omega arith in
    let none : HasNoFaultFrom x (c.args.at - c.loop-spot.spot.place) = rw left at c.in_default-chunk_fault_from.ensures in
    rw c.len-in_default.ensures (next, none_of_chunk c.args.self.now _ _ x at c.args.at c.loop-spot.invariant.1 none)

pub loop-spot-preserved-in-Some : goal.loop-spot-preserved-in-Some
loop-spot-preserved-in-Some g c =
    let step = clean_step c.args.self.now c.sums-sums.result.now _ _ c.in-Some.bytes c.sums-sums.ensures.held.ends c.sums-sums.ensures.sums c.loop-spot.invariant.0 c.in-Some.ensures in
    (step.0, step.1 c.args.at c.loop-spot.invariant.1)

pub overflow_add-spot : goal.overflow_add-spot
overflow_add-spot g c =
    let step = clean_step c.args.self.now c.sums-sums.result.now _ _ c.in-Some.bytes c.sums-sums.ensures.held.ends c.sums-sums.ensures.sums c.loop-spot.invariant.0 c.in-Some.ensures in
    omega (arith, spot_within c.args.self.now _ _ step.0, c.sums-sums.ensures.held.small)

pub returns : goal.returns
returns g c =
    let chunks = c.args.self.now in
    let all : concat (take c.loop-spot.spot.number chunks) ≡ concat chunks = ap concat (take_all c.loop-spot.spot.number chunks (omega arith)) in
    let end : c.loop-spot.spot.place ≡ length (concat chunks) = c.loop-spot.invariant.0.begins ∙ ap length all in
    none_at_all (concat chunks) c.args.at c.loop-spot.spot.place c.loop-spot.invariant.1 (omega arith)
