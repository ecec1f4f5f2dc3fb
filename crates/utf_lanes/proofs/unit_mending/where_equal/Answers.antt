use Rattle.std.proofs.Common.{eqb, cond, get_or, replicate, ap₂, refl, ◌∙◌}
use Rattle.std.proofs.lemmas.Simd.{get_or-replicate}
use Rattle.utf_lanes.proofs.PassedLanes.{where_passed_len, where_passed_at}
use Rattle.utf_lanes.proofs.unit_mending.where_equal.Goals as goal

pub returns : goal.returns
returns c = record {
  wide = where_passed_len 32 eqb c.args.lanes c.args.byte (replicate 32 255) (replicate 32 0) c.fits-lanes.0 refl refl;
  each = λ k lt.
      where_passed_at 32 eqb c.args.lanes c.args.byte (replicate 32 255) (replicate 32 0) c.fits-lanes.0 refl refl k lt
      ∙ ap₂ (cond (eqb (get_or c.args.lanes k 0) c.args.byte)) (get_or-replicate 32 k 255 0 lt) (get_or-replicate 32 k 0 0 lt);
}
