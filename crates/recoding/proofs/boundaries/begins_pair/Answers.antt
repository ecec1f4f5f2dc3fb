use Rattle.std.proofs.lemmas.Bool.{ltb-false}
use Rattle.recoding.proofs.LastBoundaries.{no_pair, no_pair_at_fault}
use Rattle.recoding.proofs.boundaries.begins_pair.Goals as goal

pub returns-in-Ok-clause-no : goal.returns-in-Ok-clause-no
returns-in-Ok-clause-no g c =
    λ no.
    no_pair g.E.ByteOrder.HIGH_FIRST c.args.bytes.now c.if-bytes-lt4.false c.in-Ok.field-0-0 c.in-Ok.len (rw (c.unit-first.ensures, c.unit-second.ensures) at c.in-Ok.ensures.decodes) (ltb-false _ _ no)

pub returns-in-Err-clause-no : goal.returns-in-Err-clause-no
returns-in-Err-clause-no g c =
    λ no.
    no_pair_at_fault g.E.ByteOrder.HIGH_FIRST c.args.bytes.now c.if-bytes-lt4.false c.in-Err.field-0 (rw (c.unit-first.ensures, c.unit-second.ensures) at c.in-Err.ensures.decodes)
