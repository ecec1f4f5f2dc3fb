use Rattle.std.proofs.Common.{◌+◌, ◌∷◌, take, arith, inl, inr}
use Rattle.std.proofs.lemmas.Bool.{cases_lt}
use Rattle.utf_lanes.proofs.FewBytes.{first_follows, follows_first, follows_later, later_follows}
use Rattle.utf_lanes.proofs.LaneLemmas.{follow_lanes, follow_on}
use Rattle.utf_lanes.proofs.text_blocks.valid_len.Goals as goal

pub returns-then-count-lt16-clause-follow : goal.returns-then-count-lt16-clause-follow
returns-then-count-lt16-clause-follow c =
    let bytes = c.args.bytes.now in
    let n = c.first_fault-count.result in
    follows_first bytes n (omega arith) (follow_lanes (0 ∷ 0 ∷ 0 ∷ take 16 bytes) 3 n (λ k lt. (c.faults_at_front.ensures.lanes k (omega arith)).0 (c.first_fault-count.ensures.none k lt)))

pub returns-clause-follow : goal.returns-clause-follow
returns-clause-follow c =
    let bytes = c.args.bytes.now in
    let end = c.valid_len_by_lanes.result in
    let wide = c.valid_len_in_blocks.result in
    let first = follows_first bytes 16 (omega arith) (follow_lanes (0 ∷ 0 ∷ 0 ∷ take 16 bytes) 3 16 (λ k lt. (c.faults_at_front.ensures.lanes k (omega (arith, c.faults_at_front.ensures.len))).0 (c.first_fault-count.ensures.none k (omega arith)))) in
    let later = follows_later bytes 16 wide (omega arith) c.valid_len_in_blocks.ensures.follow in
    let last = follows_later bytes wide end (omega arith) c.valid_len_by_lanes.ensures.follow in
    follow_on (0 ∷ 0 ∷ 0 ∷ bytes) 3 (wide + 3) (end + 3) (follow_on (0 ∷ 0 ∷ 0 ∷ bytes) 3 19 (wide + 3) first later) last

pub returns-then-count-lt16-clause-all : goal.returns-then-count-lt16-clause-all
returns-then-count-lt16-clause-all c n within all =
    let count = c.first_fault-count.result in
    elim (cases_lt count n) [
      | inr ge ↦ ge
      | inl lt ↦
          let front = first_follows c.args.bytes.now (count + 1) (omega arith) (λ k least most. all k least (omega arith)) in
          let more = c.first_fault-count.ensures.all (count + 1) (omega arith) (λ k below. (c.faults_at_front.ensures.lanes k (omega (arith, c.faults_at_front.ensures.len))).1 (λ j least most. front j (omega arith) (omega arith))) in
          absurd (omega arith)
    ]

pub returns-clause-all : goal.returns-clause-all
returns-clause-all c n within all = c.valid_len_by_lanes.ensures.all n within (later_follows c.args.bytes.now n all)
