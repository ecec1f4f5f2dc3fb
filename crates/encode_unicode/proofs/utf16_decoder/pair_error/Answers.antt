use Rattle.std.proofs.Common.{ap, sym, ◌∙◌}
use Rattle.utf_base.proofs.UnitEnds.{back_kind_of_fault}
use Rattle.utf_base.proofs.UnitLemmas.{pair_error}
use Rattle.encode_unicode.proofs.utf16_decoder.pair_error.Goals as goal

pub returns-in-FirstIsTrailingSurrogate-clause-last : goal.returns-in-FirstIsTrailingSurrogate-clause-last
returns-in-FirstIsTrailingSurrogate-clause-last c = λ w some h. sym (ap pair_error c.in-FirstIsTrailingSurrogate.is) ∙ back_kind_of_fault w _ some h

pub returns-in-MissingSecond-clause-last : goal.returns-in-MissingSecond-clause-last
returns-in-MissingSecond-clause-last c = λ w some h. sym (ap pair_error c.in-MissingSecond.is) ∙ back_kind_of_fault w _ some h
