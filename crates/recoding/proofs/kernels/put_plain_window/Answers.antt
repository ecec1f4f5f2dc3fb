use Rattle.std.proofs.Common.{arith, ap, sym, ◌∙◌}
use Rattle.recoding.proofs.Forms.{is_utf16}
use Rattle.recoding.proofs.PlainRuns.{Recodes-ascii, Recodes-plain}
use Rattle.recoding.proofs.kernels.put_plain_window.Goals as goal

pub returns-then-is_ascii_block-clause-some : goal.returns-then-is_ascii_block-clause-some
returns-then-is_ascii_block-clause-some g c =
    Recodes-ascii g.E.ByteOrder.HIGH_FIRST (is_utf16 _) g.met.O.Output.appends_none g.met.O.Output.appends_more (omega arith) (c.is_ascii_block.ensures.ascii c.if-is_ascii_block.true) c.put_ascii_64.ensures

pub returns-clause-some : goal.returns-clause-some
returns-clause-some g c =
    Recodes-plain g.E.ByteOrder.HIGH_FIRST (is_utf16 _) (λ byte. ap (λ f. f byte) (sym (g.met.F.Windowed.windowed c.args.by)) ∙ c.is_replacement.ensures c.if-not-is_replacement.false c.args.by byte) c.requires.enough c.in_ok-faults.ensures
    c.put_plain_64.ensures
