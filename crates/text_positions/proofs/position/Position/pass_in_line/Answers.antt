use Rattle.std.proofs.Common.{◌∙◌, ◌-◌, arith, ap, length, sym}
use Rattle.std.proofs.lemmas.List.{take_rest}
use Rattle.text_positions.specs.Positions.{Place}
use Rattle.text_positions.proofs.PositionLemmas.{line_passed}
use Rattle.text_positions.proofs.SinglePieces.{nothing_left}
use Rattle.text_positions.proofs.position.Position.pass_in_line.Goals as goal

pub returns-then-are_single : goal.returns-then-are_single
returns-then-are_single c =
    let line = ap (λ (p : Place). p.line) c.self.view_is in
    let column = ap (λ (p : Place). p.column) c.self.view_is in
    let byte_column = ap (λ (p : Place). p.byte_column) c.self.view_is in
    let pieces = c.are_single.ensures.pieces c.if-are_single.true in
    let u = c.are_single.ensures.end c.if-are_single.true in
    line_passed c.args.form c.args.bytes.now c.args.self.now _ 0 (omega arith) (omega arith) (omega arith) (c.new-self-inside.ensures ∙ sym (nothing_left c.args.bytes.now)) u.within u

pub returns : goal.returns
returns c =
    let u = c.undecided_len.ensures in
    let line = ap (λ (p : Place). p.line) c.self.view_is in
    let column = ap (λ (p : Place). p.column) c.self.view_is in
    let byte_column = ap (λ (p : Place). p.byte_column) c.self.view_is in
    let pieces = c.char_count.ensures in
    line_passed c.args.form c.args.bytes.now c.args.self.now _ c.undecided_len.result (omega arith) (omega arith) (omega arith) (c.hold.ensures ∙ take_rest c.args.bytes.now (length c.args.bytes.now - c.undecided_len.result)) u.within u.end
