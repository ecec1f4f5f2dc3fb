use Rattle.std.proofs.Common.{arith, ap, length}
use Rattle.text_positions.specs.Positions.{Place}
use Rattle.text_positions.proofs.PositionLemmas.{step_back}
use Rattle.text_positions.proofs.position.Position.step_back.Goals as goal

pub returns-clause-back : goal.returns-clause-back
returns-clause-back c =
    let line = ap (λ (p : Place). p.line) c.self.view_is in
    let column = ap (λ (p : Place). p.column) c.self.view_is in
    let byte_column = ap (λ (p : Place). p.byte_column) c.self.view_is in
    let held = ap length c.held-held.ensures.bytes in
    let pieces = rw c.held-held.ensures.bytes at c.char_count-pieces.ensures in
    λ w h. step_back c.args.form w c.args.self.now _ h (omega arith) (omega arith) (omega arith) (omega arith)
