use Rattle.std.proofs.Common.{◌+◌, arith, inl, inr}
use Rattle.std.proofs.lemmas.Bool.{cases_lt}
use Rattle.utf_lanes.proofs.LaneLemmas.{ascii_on}
use Rattle.utf_lanes.proofs.ascii_texts.is_ascii_from.Goals as goal

pub loop-place-preserved : goal.loop-place-preserved
loop-place-preserved c =
    let place = c.loop-place.place in
    let block = c.is_ascii_16.ensures.ascii c.if-not-is_ascii_16.false in
    (omega arith, ascii_on c.args.bytes.now 0 place (place + 16) c.loop-place.invariant.1 block)

pub returns-clause-ascii : goal.returns-clause-ascii
returns-clause-ascii c holds k ge lt =
    let place = c.loop-place.place in
    elim (cases_lt k place) [
      | inl before ↦ c.loop-place.invariant.1 k ge before
      | inr after ↦ c.is_ascii_16-2.ensures.ascii holds k (omega arith) (omega arith)
    ]

pub returns-clause-all : goal.returns-clause-all
returns-clause-all c ascii = c.is_ascii_16-2.ensures.all (λ k ge lt. ascii k (omega arith) (omega arith))
