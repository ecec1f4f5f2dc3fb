use Rattle.std.proofs.Common.{◌≡◌, ◌+◌, arith, lit<, eqb-true, eq-eqb}
use Rattle.utf_lanes.proofs.LaneLemmas.{both_zero, zero_both, follow_on, follow_lanes}
use Rattle.utf_lanes.proofs.text_blocks.follows_block.Goals as goal

pub returns-clause-follow : goal.returns-clause-follow
returns-clause-follow c holds =
    let xs = c.args.bytes.now in
    let p = c.args.place in
    let zero = both_zero c.faults_at.result c.faults_at-2.result (lit< tt) c.faults_at.ensures.len c.faults_at-2.ensures.len (eqb-true _ _ holds) in
    let first = follow_lanes xs p 32 (λ k lt. (c.faults_at.ensures.lanes k (omega (arith, c.faults_at.ensures.len))).0 (zero k lt).0) in
    let second = follow_lanes xs (p + 32) 32 (λ k lt. (c.faults_at-2.ensures.lanes k (omega (arith, c.faults_at-2.ensures.len))).0 (zero k lt).1) in
    let end : p + 32 + 32 ≡ p + 64 = omega arith in
    follow_on xs p (p + 32) (p + 64) first (rw end at second)

pub returns-clause-all : goal.returns-clause-all
returns-clause-all c all =
    let zero = zero_both c.faults_at.result c.faults_at-2.result (lit< tt) c.faults_at.ensures.len c.faults_at-2.ensures.len (λ k lt. (
      (c.faults_at.ensures.lanes k (omega (arith, c.faults_at.ensures.len))).1 (λ j least most. all j (omega arith) (omega arith)),
      (c.faults_at-2.ensures.lanes k (omega (arith, c.faults_at-2.ensures.len))).1 (λ j least most. all j (omega arith) (omega arith)),
    )) in
    eq-eqb _ _ zero
