use Rattle.std.proofs.Common.{◌≡◌, ◌+◌, ◌-◌, arith}
use Rattle.text_buffers.proofs.buffers.edits.replace_part.Goals as goal

pub overflow_add-result : goal.overflow_add-result
overflow_add-result g c = let before = c.in_ok-recount.ensures.recount.begins.before in omega arith

pub returns-clause-recount : goal.returns-clause-recount
returns-clause-recount g c =
    let place : c.args.edit.first.place + c.in_ok-recount.recount.place - c.args.edit.first.place ≡ c.in_ok-recount.recount.place = omega arith in
    rw place c.in_ok-recount.ensures.recount
