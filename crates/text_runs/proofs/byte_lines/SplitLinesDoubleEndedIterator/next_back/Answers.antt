use Rattle.text_runs.proofs.LinesOfParts.{fewer_before, fewer_before_empty}
use Rattle.text_runs.proofs.byte_lines.SplitLinesDoubleEndedIterator.next_back.Goals as goal

pub returns-then-is_empty-clause-goes : goal.returns-then-is_empty-clause-goes
returns-then-is_empty-clause-goes c =
    let fewer = fewer_before_empty c.next_back.new.self c.next_back-then-is_empty.new.self c.in_ok-part.part c.in_ok-line.line c.self.view_is c.if-self.false c.in_ok-part.ensures.steps c.is_empty.ensures c.if-is_empty.true c.in_ok-line.ensures.steps in
    record { on = λ _. (tt, tt, fewer); keeps = tt; rests = λ _. tt }

pub returns-clause-goes : goal.returns-clause-goes
returns-clause-goes c =
    let fewer = fewer_before c.next_back.new.self c.in_ok-part.part c.self.view_is c.if-self.false c.in_ok-part.ensures.steps c.is_empty.ensures c.if-is_empty.false in
    record { on = λ _. (tt, tt, fewer); keeps = tt; rests = λ _. tt }
