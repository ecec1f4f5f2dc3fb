use Rattle.std.proofs.Common.{sym, true≢false, ◌∙◌}
use Rattle.recoding.proofs.repair.CodedMending.TheImpl.Goals as goal

-- no table is always U+FFFD
pub is_replacement-tells : goal.is_replacement-tells
is_replacement-tells g c t by byte = absurd (true≢false (sym t ∙ c.ensures))
