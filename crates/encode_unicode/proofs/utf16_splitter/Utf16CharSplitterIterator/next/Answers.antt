use Rattle.std.proofs.Common.{◌∷◌, Some, length, ap, arith, refl}
use Rattle.utf_base.specs.Code.{utf16}
use Rattle.utf_base.proofs.Utf16Code.{length_utf16}
use Rattle.utf_base.proofs.JoinedLengths.{some_utf16}
use Rattle.encode_unicode.proofs.Splits.{sent_next, nearer_by_next}
use Rattle.encode_unicode.proofs.utf16_splitter.Utf16CharSplitterIterator.next.Goals as goal

pub returns-in_ok-next-in-None-clause-steps : goal.returns-in_ok-next-in-None-clause-steps
returns-in_ok-next-in-None-clause-steps g c =
    let x = c.in_ok-next-in-None.field-0 in
    let code = c.split-first.result in
    rw (← c.self.view_is) (sent_next utf16 g.I.Iterator.next_gives c.self.inside.source c.next.new.self x c.self.inside.begun (code.0 ∷ code.1) code.1 (Some code.0)
    c.in-None.ensures.0 c.in_ok-next-in-None.ensures.steps c.split-first.ensures (some_utf16 x) refl)

pub returns-in_ok-next-in-None-clause-goes : goal.returns-in_ok-next-in-None-clause-goes
returns-in_ok-next-in-None-clause-goes g c =
    let x = c.in_ok-next-in-None.field-0 in
    let code = c.split-first.result in
    let len = ap length c.split-first.ensures in
    rw (← c.self.view_is) (nearer_by_next g.I.Iterator.can_next g.I.Iterator.remaining 2 c.self.inside.source c.next.new.self x c.self.inside.begun (code.0 ∷ code.1) code.1 (Some code.0)
    (omega (arith, len, length_utf16 x)) (omega arith) refl c.in_ok-next-in-None.ensures.goes)
