use Rattle.std.proofs.Common.{◌∙◌}
use Rattle.text_stream.proofs.FrontTold.{char_begins, kind_begins}
use Rattle.text_stream.proofs.first_pieces.front_with_care.Goals as goal

pub returns-in-Ok-clause-begins : goal.returns-in-Ok-clause-begins
returns-in-Ok-clause-begins c = char_begins _ _ _ c.in-Ok.ensures.decodes

pub returns-in_default-clause-begins : goal.returns-in_default-clause-begins
returns-in_default-clause-begins c = rw c.kind.ensures (kind_begins _ _ c.in-Err.ensures.decodes (λ e. c.in_default.not-TooFewBytes (c.kind.ensures ∙ e)))
