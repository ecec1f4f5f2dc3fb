use Rattle.std.proofs.Common.{◌≡◌, ℕ, ◌/◌, ◌<◌, ◌^◌, ◌∙◌, ap, cond, eqb, get_or, refl, replicate, arith}
use lib.Lanes.{zip2}
use Rattle.utf_lanes.proofs.LaneLemmas.{lane_with}
use Rattle.utf_lanes.proofs.MendedUnits.{lone_is}
use Rattle.utf_lanes.proofs.unit_mending.lone_lanes.Goals as goal

abbrev down : ℕ → ℕ → ℕ
down a b = a / 2 ^ b

pub returns : goal.returns
returns c =
    let high = c.args.high in
    let fourth : (k : ℕ) → k < 32 → get_or (zip2 down high (replicate 32 2)) k 0 ≡ get_or high k 0 / 4 = λ k lt. lane_with down high 2 c.fits-high.0 k lt in
    lone_is (λ k. eqb (get_or high k 0 / 4) 0x36) (λ k. eqb (get_or high k 0 / 4) 0x37) c.all_but_last-leading.result c.where_equal-trailing.result c.one_later.result _ c.one_earlier.result
    c.all_but_last-leading.ensures.wide c.where_equal-trailing.ensures.wide c.one_later.ensures.wide c.one_earlier.ensures.wide
    (λ k lt. c.all_but_last-leading.ensures.others k lt ∙ c.where_equal.ensures.each k (omega arith) ∙ ap (λ x. cond (eqb x 0x36) 255 0) (fourth k (omega arith)))
    c.all_but_last-leading.ensures.last
    (λ k lt. c.where_equal-trailing.ensures.each k lt ∙ ap (λ x. cond (eqb x 0x37) 255 0) (fourth k lt))
    c.one_later.ensures.others c.one_later.ensures.first refl c.one_earlier.ensures.others
