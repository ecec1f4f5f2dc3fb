-- What calls with a table do to a recoder of C, whose count of replacements is the struct's.
use Rattle.std.proofs.Common.{◌≡◌, ℕ, List}
use Rattle.recoding.specs.Recoded.{Recoding}
use Rattle.recoding.specs.Repaired.{FeedsRepaired, FinishesRepaired, repaired_outcome}

pub FeedsRepaired-counted : (table : List ℕ) (r s t : Recoding) (part old new : List ℕ) (read wrote m : ℕ) → FeedsRepaired table r part old new read wrote s → t ≡ record (s) { replaced = m }
    → FeedsRepaired table r part old new read wrote t
unfolding repaired_outcome
FeedsRepaired-counted table r s t part old new read wrote m f e = rw e (record { within = f.within; adds = f.adds; from = f.from; to = f.to; few = f.few; fits = f.fits })

pub FinishesRepaired-counted : (table : List ℕ) (r s t : Recoding) (old new : List ℕ) (wrote m : ℕ) → FinishesRepaired table r old new wrote s → t ≡ record (s) { replaced = m } → FinishesRepaired table r old new wrote t
unfolding repaired_outcome
FinishesRepaired-counted table r s t old new wrote m f e = rw e (record { adds = f.adds; from = f.from; to = f.to; few = f.few; fits = f.fits })
