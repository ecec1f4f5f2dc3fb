use Rattle.std.proofs.Common.{◌≡◌, ◌+◌, ◌-◌, ◌<◌, ◌≤◌, ◌^◌, drop, arith, rules, ap, ◌∙◌, w64}
use Rattle.std.specs.Int.{trailing_zeros}
use Rattle.utf_lanes.proofs.MendedWindows.{last_text, next_mark, replaced_at, window_begins, window_on}
use Rattle.utf_lanes.proofs.mending.put_window.Goals as goal

pub loop-marks-init : goal.loop-marks-init
loop-marks-init g c =
    let xs = c.args.bytes.now in
    let fits : c.marks_of-marks.result < 2 ^ 64 = search rules in
    record {
      room = omega arith;
      window = window_begins g.M.Mending.subparts (g.M.Mending.shown c.args.by) xs c.args.made.now c.args.done.read c.args.window.len _ _ _ fits c.requires.outside c.requires.so_far (c.marks_of-marks.ensures (drop c.args.done.read xs) c.requires.judged);
    }

pub put_text-done-requires-clause-ordered : goal.put_text-done-requires-clause-ordered
put_text-done-requires-clause-ordered g c =
    (next_mark g.M.Mending.subparts (g.M.Mending.shown c.args.by) c.args.bytes.now c.args.done.read c.args.window.len c.args.done.len (omega arith) c.requires.judged.most c.requires.outside _ _ _ _ _ c.loop-marks.invariant.window (omega arith)).ahead

pub put_text-done-requires-clause-text : goal.put_text-done-requires-clause-text
put_text-done-requires-clause-text g c =
    (next_mark g.M.Mending.subparts (g.M.Mending.shown c.args.by) c.args.bytes.now c.args.done.read c.args.window.len c.args.done.len (omega arith) c.requires.judged.most c.requires.outside _ _ _ _ _ c.loop-marks.invariant.window (omega arith)).text

pub put_shown-done-requires-clause-within : goal.put_shown-done-requires-clause-within
put_shown-done-requires-clause-within g c =
    let next = next_mark g.M.Mending.subparts (g.M.Mending.shown c.args.by) c.args.bytes.now c.args.done.read c.args.window.len c.args.done.len (omega arith) c.requires.judged.most c.requires.outside _ _ _ _ _ c.loop-marks.invariant.window (omega arith) in
    let joined = c.marked_len-len.ensures (drop c.args.done.read c.args.bytes.now) c.requires.judged next.below in
    let few = c.requires.judged.most in
    omega (arith, joined.1, c.put_text-done.ensures.read)

pub put_shown-done-requires-clause-some : goal.put_shown-done-requires-clause-some
put_shown-done-requires-clause-some g c =
    let next = next_mark g.M.Mending.subparts (g.M.Mending.shown c.args.by) c.args.bytes.now c.args.done.read c.args.window.len c.args.done.len (omega arith) c.requires.judged.most c.requires.outside _ _ _ _ _ c.loop-marks.invariant.window (omega arith) in
    (c.marked_len-len.ensures (drop c.args.done.read c.args.bytes.now) c.requires.judged next.below).0.some

pub put_shown-done-requires-clause-invalid : goal.put_shown-done-requires-clause-invalid
put_shown-done-requires-clause-invalid g c =
    let xs = c.args.bytes.now in
    let start = c.args.done.read in
    let next = next_mark g.M.Mending.subparts (g.M.Mending.shown c.args.by) xs start c.args.window.len c.args.done.len (omega arith) c.requires.judged.most c.requires.outside _ _ _ _ _ c.loop-marks.invariant.window (omega arith) in
    let joined = c.marked_len-len.ensures (drop start xs) c.requires.judged next.below in
    rw c.put_text-done.ensures.read (replaced_at g.M.Mending.subparts xs start (trailing_zeros w64 c.loop-marks.marks) _ (omega arith) c.requires.outside next.mark joined.0)

pub loop-marks-smaller : goal.loop-marks-smaller
loop-marks-smaller g c =
    let next = next_mark g.M.Mending.subparts (g.M.Mending.shown c.args.by) c.args.bytes.now c.args.done.read c.args.window.len c.args.done.len (omega arith) c.requires.judged.most c.requires.outside _ _ _ _ _ c.loop-marks.invariant.window (omega arith) in
    let joined = c.marked_len-len.ensures (drop c.args.done.read c.args.bytes.now) c.requires.judged next.below in
    let few = c.requires.judged.most in
    omega (arith, joined.0.some, joined.1, next.ahead, c.put_text-done.ensures.read, c.put_shown-done.ensures.read)

pub loop-marks-preserved : goal.loop-marks-preserved
loop-marks-preserved g c =
    let xs = c.args.bytes.now in
    let start = c.args.done.read in
    let len = c.args.window.len in
    let m = trailing_zeros w64 c.loop-marks.marks in
    let n = c.marked_len-len.result in
    let next = next_mark g.M.Mending.subparts (g.M.Mending.shown c.args.by) xs start len c.args.done.len (omega arith) c.requires.judged.most c.requires.outside _ _ _ _ _ c.loop-marks.invariant.window (omega arith) in
    let joined = c.marked_len-len.ensures (drop start xs) c.requires.judged next.below in
    let fits : c.without_lowest-marks.result < 2 ^ 64 = search rules in
    let text = c.put_text-done.ensures in
    let done = c.put_shown-done.ensures in
    let read : c.put_shown-done.result.read ≡ start + m + n = done.read ∙ ap (λ p. p + n) text.read in
    let end = c.put_shown-done.result.len in
    let few : end ≤ c.loop-marks.done.len + (start + m - c.loop-marks.done.read) + 3 = omega (arith, done.most, text.len) in
    let replaced : c.put_shown-done.result.replaced ≡ c.loop-marks.done.replaced + n = done.replaced ∙ ap (λ p. p + n) text.replaced in
    record {
      room = omega arith;
      window = rw (read, replaced)
          (window_on g.M.Mending.subparts (g.M.Mending.shown c.args.by) xs start len c.args.done.len (omega arith) c.requires.judged.most c.requires.outside c.loop-marks.made c.put_shown-done.new.made c.loop-marks.marks c.without_lowest-marks.result c.loop-marks.done.read
          c.loop-marks.done.len c.loop-marks.done.replaced m n end c.loop-marks.invariant.window next.mark joined.0 joined.1 next.ahead fits c.without_lowest-marks.ensures (rw (read, replaced) at done.mends) few);
    }

pub put_text-requires-clause-text : goal.put_text-requires-clause-text
put_text-requires-clause-text g c =
    last_text g.M.Mending.subparts (g.M.Mending.shown c.args.by) c.args.bytes.now c.args.done.read c.args.window.len c.args.done.len (omega arith) c.requires.judged.most c.requires.outside _ _ _ _ _ c.loop-marks.invariant.window (omega arith) c.requires.judged.ends
