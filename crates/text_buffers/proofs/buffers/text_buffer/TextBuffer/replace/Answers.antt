use Rattle.std.proofs.Common.{◌≡◌, ◌≤◌, length, arith}
use Rattle.std.specs.List.{concat, splice}
use Rattle.encode_unicode.specs.Pieces.{pieces}
use Rattle.text_runs.specs.Tables.{IsSplitAt}
use Rattle.text_buffers.proofs.ChangeLemmas.{is_change}
use Rattle.text_buffers.proofs.buffers.text_buffer.TextBuffer.replace.Goals as goal

pub pieces_before_from-requires-clause-before : goal.pieces_before_from-requires-clause-before
pieces_before_from-requires-clause-before g c =
    let place : c.reach-edit.result.first.place ≡ c.mark_at-mark.result.before.bytes = c.reach-edit.ensures.first.1 in
    omega (arith, c.in_ok-recount.ensures.place)

pub returns-clause-change : goal.returns-clause-change
returns-clause-change g c =
    let xs = concat c.self.inside.chunks in
    let ys = concat c.replace.new.self in
    let r = c.in_ok-recount.recount in
    let start : c.reach-edit.result.start ≡ c.args.start = c.reach-edit.ensures.part.0 in
    let end : c.reach-edit.result.end ≡ c.args.end = c.reach-edit.ensures.part.1 in
    let within : c.args.end ≤ length xs = rw (← c.self.view_is) at c.requires.within in
    let ok : ys ≡ splice xs c.args.start c.args.end c.args.new.now = rw (start, end) at c.in_ok-recount.ensures.ok in
    let split : IsSplitAt (pieces ys) r.place c.pieces_before_from.result = c.pieces_before_from.ensures in
    rw (← c.self.view_is)
    (is_change xs c.args.new.now ys c.args.start c.args.end r.place c.pieces_before_from.result r.gone r.come c.requires.ordered within ok
    (rw (start, end) at c.in_ok-recount.ensures.recount) split)
