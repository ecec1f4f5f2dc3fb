use Rattle.std.proofs.Common.{arith}
use Rattle.utf_lanes.proofs.LaneLemmas.{follow_lanes}
use Rattle.utf_lanes.proofs.text_blocks.valid_lanes.Goals as goal

pub returns-clause-follow : goal.returns-clause-follow
returns-clause-follow c = follow_lanes c.args.bytes.now c.args.place _ (λ k lt. (c.faults_at.ensures.lanes k (omega arith)).0 (c.first_fault.ensures.none k lt))

pub returns-clause-all : goal.returns-clause-all
returns-clause-all c n few all = c.first_fault.ensures.all n few (λ k lt. (c.faults_at.ensures.lanes k (omega (arith, c.faults_at.ensures.len))).1 (λ j least most. all j (omega arith) (omega arith)))
