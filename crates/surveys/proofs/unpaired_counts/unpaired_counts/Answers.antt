use Rattle.std.proofs.Common.{◌≡◌, ◌+◌, ◌*◌, ◌∙◌, get_or, ap, sym, refl, arith}
use Rattle.surveys.specs.SurveyUnits.{lane_count}
use Rattle.surveys.proofs.UnpairedRows.{rows_all, sum_next, sum_same, sum_to}
use Rattle.surveys.proofs.unpaired_counts.unpaired_counts.Goals as goal

pub loop-k-init : goal.loop-k-init
unfolding sum_to
loop-k-init c = record { high_first = refl; low_first = refl; few_high = omega arith; few_low = omega arith }

pub loop-k-preserved : goal.loop-k-preserved
loop-k-preserved c =
    let lanes = c.lane_counts-lanes.result in
    let k = c.loop-k.k in
    record {
      high_first = ap (λ a. a + get_or lanes (2 * k) 0) c.loop-k.invariant.high_first ∙ sym (sum_next k (λ j. get_or lanes (2 * j) 0));
      low_first = ap (λ a. a + get_or lanes (2 * k + 1) 0) c.loop-k.invariant.low_first ∙ sym (sum_next k (λ j. get_or lanes (2 * j + 1) 0));
      few_high = omega (arith, c.loop-k.invariant.few_high, c.loop-k-test.element_fits.fits);
      few_low = omega (arith, c.loop-k.invariant.few_low, c.loop-k-test.element_fits2.fits);
    }

pub returns-clause-high_first : goal.returns-clause-high_first
returns-clause-high_first c =
    let bytes = c.args.bytes.now in
    let lanes = c.lane_counts-lanes.result in
    let all : c.loop-k.k ≡ 16 = omega arith in
    c.loop-k.invariant.high_first ∙ ap (λ k. sum_to k (λ j. get_or lanes (2 * j) 0)) all
    ∙ sum_same 16 (λ j. get_or lanes (2 * j) 0) (λ j. lane_count bytes (2 * j + 0) 96) (λ k lt. c.lane_counts-lanes.ensures (2 * k) (omega arith) ∙ ap (λ j. lane_count bytes j 96) (omega arith))
    ∙ rows_all bytes 0 c.requires (omega arith)

pub returns-clause-low_first : goal.returns-clause-low_first
returns-clause-low_first c =
    let bytes = c.args.bytes.now in
    let lanes = c.lane_counts-lanes.result in
    let all : c.loop-k.k ≡ 16 = omega arith in
    c.loop-k.invariant.low_first ∙ ap (λ k. sum_to k (λ j. get_or lanes (2 * j + 1) 0)) all
    ∙ sum_same 16 (λ j. get_or lanes (2 * j + 1) 0) (λ j. lane_count bytes (2 * j + 1) 96) (λ k lt. c.lane_counts-lanes.ensures (2 * k + 1) (omega arith)) ∙ rows_all bytes 1 c.requires (omega arith)
