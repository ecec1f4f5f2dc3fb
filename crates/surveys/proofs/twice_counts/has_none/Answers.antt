use Rattle.std.proofs.Common.{◌≡◌, ◌+◌, ◌-◌, arith, inl, inr, eqb-true}
use Rattle.std.proofs.lemmas.Bool.{cases_lt}
use Rattle.surveys.proofs.twice_counts.has_none.Goals as goal

pub returns-then-candidates-eq0-clause-none : goal.returns-then-candidates-eq0-clause-none
returns-then-candidates-eq0-clause-none c holds k lt = elim (cases_lt k 32) [
  | inl first ↦ c.candidates.ensures c.if-candidates-eq0.true k first
  | inr second ↦ (let at : c.args.place + 32 + (k - 32) ≡ c.args.place + k = omega arith in
      rw at at (c.candidates-then-candidates-eq0.ensures (eqb-true _ _ holds) (k - 32) (omega arith)))
]
