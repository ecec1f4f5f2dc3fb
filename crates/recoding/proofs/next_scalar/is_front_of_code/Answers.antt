use Rattle.std.proofs.Common.{arith, sym, ◌∙◌}
use Rattle.recoding.proofs.CodeFronts.{front_of_few, decided_by_second, decided_by_third, continues_where, continues_not}
use Rattle.recoding.proofs.next_scalar.is_front_of_code.Goals as goal

pub returns-then-bytes-lt2-clause-yes : goal.returns-then-bytes-lt2-clause-yes
returns-then-bytes-lt2-clause-yes c = λ yes. front_of_few _ c.requires (λ two. absurd (omega (arith, c.if-bytes-lt2.true))) (λ three. absurd (omega (arith, c.if-bytes-lt2.true)))

pub returns-then-bytes-lt3-clause-yes : goal.returns-then-bytes-lt3-clause-yes
returns-then-bytes-lt3-clause-yes c = λ yes. front_of_few _ c.requires (λ two. c.may_be_second.ensures.yes c.if-may_be_second.true) (λ three. absurd (omega (arith, c.if-bytes-lt3.true)))

pub returns-else-bytes-lt3-clause-yes : goal.returns-else-bytes-lt3-clause-yes
returns-else-bytes-lt3-clause-yes c =
    λ yes. front_of_few _ c.requires (λ two. c.may_be_second.ensures.yes c.if-may_be_second.true) (λ three. continues_where _ (sym c.is_continuation.ensures ∙ yes))

pub returns-else-bytes-lt3-clause-no : goal.returns-else-bytes-lt3-clause-no
returns-else-bytes-lt3-clause-no c = λ no. decided_by_third _ c.requires c.if-bytes-lt3.false (continues_not _ (sym c.is_continuation.ensures ∙ no))

pub returns-else-may_be_second-clause-no : goal.returns-else-may_be_second-clause-no
returns-else-may_be_second-clause-no c = λ no. decided_by_second _ c.requires c.if-bytes-lt2.false (λ m. let yes = c.may_be_second.ensures.no m in cc)
