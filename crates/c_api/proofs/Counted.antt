-- The number of faults that a call replaced, and the count in the struct after it.
use Rattle.std.proofs.Common.{◌≡◌, ℕ, ◌+◌, List, subst, sym}
use Rattle.cuts.specs.Recoded.{Recoding}
use Rattle.cuts.specs.Faults.{Replaces, ReplacesLast, saturated}
use Rattle.cuts.specs.LossyBytes.{FeedsLossy, FinishesLossy, lossy_outcome}
use Rattle.cuts.specs.Rooms.{FinishesInto}
use Rattle.c_api.specs.declared.recodings.NodyRecoder.{NodyRecoder}
use Rattle.c_api.specs.Api.{recoder_of, CountsPart, CountsEnd}

-- Feeding and finishing do not depend on the count.
pub FinishesInto-counted : (r s t : Recoding) (old new : List ℕ) (wrote : ℕ) {n : ℕ} → FinishesInto r old new wrote s → t ≡ record s { replaced = n } → FinishesInto r old new wrote t
FinishesInto-counted r s t old new wrote f e = rw e (record { leaves = f.leaves; from = f.from; to = f.to; few = f.few; fits = f.fits })

pub FeedsLossy-counted : (r s t : Recoding) (part old new : List ℕ) (read wrote : ℕ) {n : ℕ} → FeedsLossy r part old new read wrote s → t ≡ record s { replaced = n } → FeedsLossy r part old new read wrote t
unfolding lossy_outcome
FeedsLossy-counted r s t part old new read wrote f e = rw e (record { within = f.within; adds = f.adds; from = f.from; to = f.to; few = f.few; fits = f.fits })

pub FinishesLossy-counted : (r s t : Recoding) (old new : List ℕ) (wrote : ℕ) {n : ℕ} → FinishesLossy r old new wrote s → t ≡ record s { replaced = n } → FinishesLossy r old new wrote t
unfolding lossy_outcome
FinishesLossy-counted r s t old new wrote f e = rw e (record { adds = f.adds; from = f.from; to = f.to; few = f.few; fits = f.fits })

-- The struct was opened as a recoder, which a call changed and which was stored back.
module _ (r kept : NodyRecoder) (opened inner : Recoding) (n total : ℕ) (was : opened ≡ recoder_of r) (is : recoder_of kept ≡ record inner { replaced = 0 })
    (sum : total ≡ saturated (r.replaced + n)) where
  pub part_counted : (part : List ℕ) → Replaces opened part n inner → CountsPart r part (record kept { replaced = total })
  part_counted part h =
      let from : Replaces (recoder_of r) part n inner = subst (λ x. Replaces x part n inner) was h in
      (n, subst (Replaces (recoder_of r) part n) (sym is) from, sum)

  pub end_counted : ReplacesLast opened n inner → CountsEnd r (record kept { replaced = total })
  end_counted h =
      let from : ReplacesLast (recoder_of r) n inner = subst (λ x. ReplacesLast x n inner) was h in
      (n, subst (ReplacesLast (recoder_of r) n) (sym is) from, sum)
