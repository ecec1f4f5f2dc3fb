use Rattle.std.proofs.Common.{◌≤◌, ◌+◌, length, arith, inl, inr}
use Rattle.std.proofs.lemmas.Bool.{cases_lt}
use Rattle.utf_lanes.proofs.text_blocks.valid_len_by_lanes.Goals as goal

pub loop-place-preserved : goal.loop-place-preserved
loop-place-preserved c =
    let place = c.loop-place.place in
    let before : c.min-block.result ≤ place = omega arith in
    let room : c.min-block.result + 16 ≤ length c.args.bytes.now = omega arith in (
      room,
      omega arith,
      λ k ge lt. elim (cases_lt (k + 3) place) [
        | inl known ↦ c.loop-place.invariant.2 k ge known
        | inr new ↦ c.valid_lanes-count.ensures.follow k (omega arith) (omega arith)
      ],
    )

pub returns-then-count-lt16-clause-all : goal.returns-then-count-lt16-clause-all
returns-then-count-lt16-clause-all c n within all =
    let block = c.min-block.result in
    let count = c.valid_lanes-count.result in
    let few = c.if-count-lt16.true in
    elim (cases_lt (block + count) n) [
      | inr ge ↦ ge
      | inl lt ↦ (let more = c.valid_lanes-count.ensures.all (count + 1) (omega arith) (λ k least most. all k (omega arith) (omega arith)) in absurd (omega arith))
    ]
