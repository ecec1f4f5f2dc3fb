use Rattle.std.proofs.Common.{◌≡◌, ◌+◌, length, arith}
use Rattle.std.proofs.lemmas.Grind.{common_steps}
use Rattle.text_buffers.proofs.TableRuns.{OnOk-always, same_bytes, StayAround-same, StepForEach-to}
use Rattle.text_buffers.proofs.piece_table.PieceTable.replace.Goals as goal

pub returns-clause-around : goal.returns-clause-around
returns-clause-around g c = OnOk-always c.redecode.result (rw (← c.self.view_is) (rw c.reserve.ensures.items at c.redecode.ensures.renewed.around))

pub returns-then-is_empty-clause-ok : goal.returns-then-is_empty-clause-ok
returns-then-is_empty-clause-ok g c =
    let none : length c.args.new.now ≡ 0 = grind (arith, common_steps) in
    same_bytes c.args.self.now.bytes c.args.new.now c.args.start c.args.end (omega arith) none

pub returns-then-is_empty-clause-around : goal.returns-then-is_empty-clause-around
returns-then-is_empty-clause-around g c =
    let none : length c.args.new.now ≡ 0 = grind (arith, common_steps) in
    StayAround-same c.args.self.now.pieces c.args.start c.args.end (c.args.start + length c.args.new.now) (omega (arith, none))

pub returns-then-is_empty-clause-least : goal.returns-then-is_empty-clause-least
returns-then-is_empty-clause-least g c =
    let none : length c.args.new.now ≡ 0 = grind (arith, common_steps) in
    let near = rw c.as_slice.ensures.value at c.decode_near.ensures.least in
    rw (← c.self.view_is) (StepForEach-to _ _ (c.args.start + 3) (c.args.start + length c.args.new.now + 3) _ _ (omega (arith, none)) near)
