use Rattle.std.proofs.Common.{ap, sym, ◌∙◌}
use Rattle.utf_base.specs.Units.{is_leading_surrogate}
use Rattle.recoding.proofs.ShardEnds.{leads_by_bytes}
use Rattle.recoding.proofs.shards.ends_in_leading_surrogate.Goals as goal

pub returns-then-end-ge2-clause-yes : goal.returns-then-end-ge2-clause-yes
returns-then-end-ge2-clause-yes g c = λ yes.
    leads_by_bytes g.E.ByteOrder.HIGH_FIRST c.args.bytes.now c.args.end c.requires.within c.requires.even c.if-end-ge2.true
    ∙ ap is_leading_surrogate (sym c.unit.ensures) ∙ sym c.is_utf16_leading_surrogate.ensures ∙ yes

pub returns-then-end-ge2-clause-no : goal.returns-then-end-ge2-clause-no
returns-then-end-ge2-clause-no g c = λ no two.
    leads_by_bytes g.E.ByteOrder.HIGH_FIRST c.args.bytes.now c.args.end c.requires.within c.requires.even two
    ∙ ap is_leading_surrogate (sym c.unit.ensures) ∙ sym c.is_utf16_leading_surrogate.ensures ∙ no
