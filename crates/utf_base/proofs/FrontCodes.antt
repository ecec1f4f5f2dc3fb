-- The code that begins a list.
use Rattle.std.proofs.Common.{◌≡◌, ℕ, ◌+◌, ◌-◌, ◌<◌, ◌≤◌, List, length, take, drop, ap, sym, ◌∙◌, arith}
use Rattle.std.proofs.lemmas.Grind.{common_steps}
use Rattle.std.specs.Prelude.{slice_range}
use Rattle.utf_base.specs.Front.{BeginsWith}

module _ (code : ℕ → List ℕ) where
  -- the code is the first elements
  pub begins_taken : (w : List ℕ) (s n : ℕ) → BeginsWith code w s n → take n w ≡ code s
  begins_taken w s n h = let e : n ≡ 0 + length (code s) - 0 = omega (arith, h.1) in ap (λ k. take k w) e ∙ h.0.equal

  module _ (whole : List ℕ) (i j : ℕ) where
    -- the code is at the offset of the part in the whole list
    pub begins_there : (s n : ℕ) → i < j → n ≤ length (slice_range whole i j) → BeginsWith code (slice_range whole i j) s n → slice_range whole i (i + n) ≡ code s
    begins_there s n some fits h =
        let e : i + n - i ≡ n = omega arith in
        let len : length (slice_range whole i j) ≤ j - i = grind (arith, common_steps) in
        let same : take n (slice_range whole i j) ≡ take n (drop i whole) = grind (arith, common_steps) in
        ap (λ k. take k (drop i whole)) e ∙ sym same ∙ begins_taken (slice_range whole i j) s n h
