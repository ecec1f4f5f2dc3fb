use Rattle.std.proofs.Common.{◌+◌, ◌*◌, ◌++◌, get_or, arith, ap₂, ◌∙◌}
use Rattle.utf_lanes.specs.Lanes.{half_place}
use Rattle.utf_lanes.proofs.WideShuffles.{parts_at}
use Rattle.utf_lanes.proofs.unit_bytes.even_and_odd.Goals as goal

pub returns-clause-even : goal.returns-clause-even
returns-clause-even c = record {
  wide = c.even_bytes.ensures.wide;
  each = λ k lt.
      c.even_bytes.ensures.each k lt ∙ ap₂ (λ xs ys. get_or (xs ++ ys) (half_place (2 * k)) 0) c.joined-front.ensures c.joined-back.ensures
      ∙ parts_at c.args.bytes.now c.requires (2 * k) (omega arith);
}

pub returns-clause-odd : goal.returns-clause-odd
returns-clause-odd c = record {
  wide = c.odd_bytes.ensures.wide;
  each = λ k lt.
      c.odd_bytes.ensures.each k lt ∙ ap₂ (λ xs ys. get_or (xs ++ ys) (half_place (2 * k + 1)) 0) c.joined-front.ensures c.joined-back.ensures
      ∙ parts_at c.args.bytes.now c.requires (2 * k + 1) (omega arith);
}
