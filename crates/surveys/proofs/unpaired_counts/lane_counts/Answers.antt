use Rattle.std.proofs.Common.{◌≡◌, ◌+◌, ◌-◌, ◌*◌, ◌∙◌, ap₂, sym, arith}
use Rattle.std.proofs.lemmas.List.{get_or-replicate}
use Rattle.surveys.specs.SurveyUnits.{lane_count}
use Rattle.surveys.proofs.UnpairedRows.{lane_few, lane_more, row_at}
use Rattle.surveys.proofs.unpaired_counts.lane_counts.Goals as goal

pub loop-row-init : goal.loop-row-init
unfolding lane_count
loop-row-init c k lt = get_or-replicate 32 k 0 0 lt

pub add_row-requires-clause-few : goal.add_row-requires-clause-few
add_row-requires-clause-few c k lt = omega (arith, c.loop-row.invariant k lt, lane_few c.args.bytes.now k c.loop-row.row, c.loop-row-test.true)

pub loop-row-preserved : goal.loop-row-preserved
loop-row-preserved c k lt =
    let bytes = c.args.bytes.now in
    let row = c.loop-row.row in
    let width : 32 * row + 32 + 2 - 32 * row ≡ 34 = omega arith in
    let one = rw width at (c.add_row.ensures k lt) in
    one ∙ ap₂ (λ a b. a + b) (c.loop-row.invariant k lt) (row_at bytes (32 * row) k lt) ∙ sym (lane_more bytes k row)
