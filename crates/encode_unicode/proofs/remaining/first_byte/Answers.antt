use Rattle.encode_unicode.proofs.ByteMerging.{held_rest}
use Rattle.encode_unicode.proofs.MergerSteps.{takes_held}
use Rattle.encode_unicode.proofs.remaining.first_byte.Goals as goal

pub returns-then-not-is_idle-clause-first : goal.returns-then-not-is_idle-clause-first
returns-then-not-is_idle-clause-first g c =
    takes_held _ _ _ _ c.take.result c.requires.can (c.is_idle.ensures.busy c.if-not-is_idle.true) c.take.ensures.same c.take.ensures.first
    (held_rest _ _ c.take.result c.take.ensures.first c.requires.held)
