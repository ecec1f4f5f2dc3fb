use Rattle.std.proofs.Common.{◌+◌, ◌<◌, ◌^◌, arith, rules}
use Rattle.text_stream.proofs.WindowFaults.{ascii_part, next_fault, next_written, so_far_text_to, stops_at, window_begins, window_ends}
use Rattle.utf_lanes.proofs.LaneLemmas.{ascii_block, ascii_on}
use Rattle.text_stream.proofs.runs.fault_lists.window_faults.Goals as goal

pub loop-place-preserved-then-is_ascii_block : goal.loop-place-preserved-then-is_ascii_block
loop-place-preserved-then-is_ascii_block g c =
    let xs = c.args.bytes.now in
    let place = c.loop-place.place in
    let end = c.ascii_wide_end-place.result in
    let least = c.ascii_wide_end-place.ensures.least in
    let within = c.ascii_wide_end-place.ensures.within in
    let ascii = ascii_on xs place (place + 64) end (ascii_block xs place (c.is_ascii_block.ensures.ascii c.if-is_ascii_block.true)) c.ascii_wide_end-place.ensures.ascii in
    so_far_text_to _ xs c.args.start _ _ place end _ c.loop-place.invariant (omega arith) within (ascii_part xs place end (omega arith) within ascii)

pub loop-marks-init : goal.loop-marks-init
loop-marks-init g c =
    let fits : c.window_at-window.result.faults < 2 ^ 64 = search rules in
    window_begins _ c.args.bytes.now c.args.start _ _ c.loop-place.place _ _ _ fits c.loop-place.invariant

pub returns-then-written-room-clause-so_far : goal.returns-then-written-room-clause-so_far
returns-then-written-room-clause-so_far g c = rw c.fed.ensures ((next_fault _ c.args.bytes.now c.args.start _ c.loop-place.place _ _ _ _ _ (omega arith) c.window_at-window.ensures _ c.loop-marks.marks _ (omega arith) c.loop-marks.invariant).so_far)

pub returns-then-written-room-clause-stops : goal.returns-then-written-room-clause-stops
returns-then-written-room-clause-stops g c full =
    let n = next_fault _ c.args.bytes.now c.args.start _ c.loop-place.place _ _ _ _ _ (omega arith) c.window_at-window.ensures _ c.loop-marks.marks _ (omega arith) c.loop-marks.invariant in
    rw c.fed.ensures (stops_at c.args.bytes.now c.loop-place.place _ n.fault)

pub kind_at-kind-requires-clause-enough : goal.kind_at-kind-requires-clause-enough
kind_at-kind-requires-clause-enough g c =
    let n = next_fault _ c.args.bytes.now c.args.start _ c.loop-place.place _ _ _ _ _ (omega arith) c.window_at-window.ensures _ c.loop-marks.marks _ (omega arith) c.loop-marks.invariant in
    omega (arith, n.small)

pub kind_at-kind-requires-clause-within : goal.kind_at-kind-requires-clause-within
kind_at-kind-requires-clause-within g c = (next_fault _ c.args.bytes.now c.args.start _ c.loop-place.place _ _ _ _ _ (omega arith) c.window_at-window.ensures _ c.loop-marks.marks _ (omega arith) c.loop-marks.invariant).below

pub kind_at-kind-requires-clause-fault : goal.kind_at-kind-requires-clause-fault
kind_at-kind-requires-clause-fault g c = (next_fault _ c.args.bytes.now c.args.start _ c.loop-place.place _ _ _ _ _ (omega arith) c.window_at-window.ensures _ c.loop-marks.marks _ (omega arith) c.loop-marks.invariant).fault

pub loop-marks-preserved : goal.loop-marks-preserved
loop-marks-preserved g c =
    let fits : c.without_lowest-marks.result < 2 ^ 64 = search rules in
    next_written _ c.args.bytes.now c.args.start _ c.loop-place.place _ _ _ _ _ (omega arith) c.window_at-window.ensures _ c.loop-marks.marks _ _ _ _ (omega arith) fits c.loop-marks.invariant c.kind_at-kind.ensures c.if-written-room.false
    c.from_fault.ensures c.without_lowest-marks.ensures

pub loop-place-preserved-then-ends_character : goal.loop-place-preserved-then-ends_character
loop-place-preserved-then-ends_character g c =
    let done = window_ends _ c.args.bytes.now c.args.start _ c.loop-place.place _ _ _ _ _ (omega arith) c.window_at-window.ensures _ _ _ c.loop-marks-test.false c.loop-marks.invariant in
    let text = c.text_end-place.ensures in
    so_far_text_to _ c.args.bytes.now c.args.start _ _ _ _ _ done text.least text.within text.text

pub loop-place-preserved : goal.loop-place-preserved
loop-place-preserved g c = window_ends _ c.args.bytes.now c.args.start _ c.loop-place.place _ _ _ _ _ (omega arith) c.window_at-window.ensures _ _ _ c.loop-marks-test.false c.loop-marks.invariant
