-- One call for the faults of a cursor.
use Rattle.std.specs.Prelude.{◌≡◌, ℕ, ◌+◌, List, drop}
use Rattle.encode_unicode.specs.Window.{Placed}
use Rattle.cuts.specs.declared.FaultKind.{FaultKind}
use Rattle.cuts.specs.FaultLists.{FindsFaults, fault_at}
use Rattle.cuts.specs.Located.{wrapped}
use Rattle.c_api.specs.Decoders.{located_for_c}
use Rattle.c_api.specs.declared.decoders.NodyLocated.{NodyLocated}

-- The faults of what is left were written, as many as there is capacity for, each with its offset; the cursor and its
-- offset moved as far as the call read.
pub record PassesFaults {E : Type 0} (kind : E → FaultKind) (faults : List ℕ → List (Placed E)) (xs : List ℕ) (offset : ℕ) (old new : List NodyLocated) (wrote : ℕ) (ys : List ℕ) (next : ℕ) : Type 0 where
  pub read : ℕ
  pub finds : FindsFaults (λ x. located_for_c (fault_at kind offset x)) faults xs old new read wrote
  pub leaves : ys ≡ drop read xs
  pub on : next ≡ wrapped (offset + read)
