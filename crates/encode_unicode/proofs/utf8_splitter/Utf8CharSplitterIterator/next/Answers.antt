use Rattle.utf_base.specs.Code.{utf8}
use Rattle.utf_base.proofs.Utf8Code.{length_utf8}
use Rattle.utf_base.proofs.JoinedLengths.{some_utf8}
use Rattle.encode_unicode.proofs.Splits.{sent_next, nearer_by_next}
use Rattle.encode_unicode.proofs.utf8_splitter.Utf8CharSplitterIterator.next.Goals as goal

pub returns-in_ok-next-in-None-clause-steps : goal.returns-in_ok-next-in-None-clause-steps
returns-in_ok-next-in-None-clause-steps g c =
    rw (← c.self.view_is) (sent_next utf8 g.I.Iterator.next_gives c.self.inside.source c.next.new.self c.in_ok-next-in-None.field-0 c.self.inside.begun c.from-self-inside.result c.next_byte-in-None.new.self c.next_byte-in-None.result
    c.in-None.ensures.0 c.in_ok-next-in-None.ensures.steps c.from-self-inside.ensures (some_utf8 c.in_ok-next-in-None.field-0) c.next_byte-in-None.ensures)

pub returns-in_ok-next-in-None-clause-goes : goal.returns-in_ok-next-in-None-clause-goes
returns-in_ok-next-in-None-clause-goes g c =
    rw (← c.self.view_is) (nearer_by_next g.I.Iterator.can_next g.I.Iterator.remaining 4 c.self.inside.source c.next.new.self c.in_ok-next-in-None.field-0 c.self.inside.begun c.from-self-inside.result c.next_byte-in-None.new.self c.next_byte-in-None.result
    (rw c.from-self-inside.ensures (length_utf8 c.in_ok-next-in-None.field-0)) (rw c.from-self-inside.ensures (some_utf8 c.in_ok-next-in-None.field-0)) c.next_byte-in-None.ensures c.in_ok-next-in-None.ensures.goes)
