use Rattle.std.proofs.Common.{◌≡◌, ◌+◌, ◌-◌, length, min, arith}
use Rattle.text_buffers.proofs.ChangeLemmas.{window_of_recount}
use Rattle.text_buffers.proofs.buffers.chunk.window_of.Goals as goal

pub returns-clause-window : goal.returns-clause-window
returns-clause-window c =
    let low : c.saturating_sub.result ≡ c.args.start - 3 = omega arith in
    let high : c.min.result ≡ min (length c.args.bytes.now) (c.args.end + 3) = omega arith in
    window_of_recount c.args.bytes.now c.args.start c.args.end _ _ (rw low at c.floor.ensures) (rw high at c.ceil.ensures)

pub returns-clause-begins : goal.returns-clause-begins
returns-clause-begins c =
    let low : c.saturating_sub.result ≡ c.args.start - 3 = omega arith in
    rw low at c.floor.ensures

pub returns-clause-ends : goal.returns-clause-ends
returns-clause-ends c =
    let high : c.min.result ≡ min (length c.args.bytes.now) (c.args.end + 3) = omega arith in
    rw high at c.ceil.ensures
