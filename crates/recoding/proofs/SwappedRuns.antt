-- Bytes swapped in pairs, appended to any output.
use Rattle.std.proofs.Common.{◌≡◌, ℕ, ◌+◌, ◌-◌, ◌*◌, ◌/◌, ◌%◌, ◌≤◌, Bool, true, false, List, [], ◌∷◌, ◌++◌, length, take, drop, refl, arith, subst, length-take}
use Rattle.utf_lanes.specs.BytePairs.{swapped, turned}
use Rattle.utf_lanes.proofs.SwappedBytes.{swapped_more, swapped_rest}

length_swapped : (v : List ℕ) (k : ℕ) → length v ≡ 2 * k → length (swapped v) ≡ length v
length_swapped [] k h = refl
length_swapped (a ∷ []) k h = absurd (omega arith)
length_swapped (a ∷ b ∷ v) k h = let more = length_swapped v (k - 1) (omega arith) in omega arith

-- the swapped bytes are as many as before
pub length_swapped_front : (xs : List ℕ) (p : ℕ) → p % 2 ≡ 0 → p ≤ length xs → length (swapped (take p xs)) ≡ p
length_swapped_front xs p even within =
    let half : length (take p xs) ≡ 2 * (p / 2) = omega (arith, length-take p xs) in
    omega (arith, length_swapped (take p xs) (p / 2) half, length-take p xs)

pub turned_none : (swaps : Bool) → [] ≡ turned swaps []
turned_none true = refl
turned_none false = refl

module _ {O : Type 0} (appends : O → List ℕ → O → Type 0) (more : (a b c : O) (xs ys : List ℕ) → appends a xs b → appends b ys c → appends a (xs ++ ys) c) (xs : List ℕ) where
  -- after the swapped bytes of a front, those of more
  pub appends_swapped : (old mid new : O) (p n : ℕ) → p % 2 ≡ 0 → p ≤ length xs → appends old (swapped (take p xs)) mid → appends mid (swapped (take n (drop p xs))) new
      → appends old (swapped (take (p + n) xs)) new
  appends_swapped old mid new p n even within f g =
      subst (λ ys. appends old ys new) (swapped_more xs [] (swapped (take p xs)) (swapped (take p xs) ++ swapped (take n (drop p xs))) p n even within refl refl) (more old mid new _ _ f g)

  -- after the swapped bytes of a front, those of the rest
  pub appends_swapped_rest : (old mid new : O) (p : ℕ) → p % 2 ≡ 0 → p ≤ length xs → appends old (swapped (take p xs)) mid → appends mid (swapped (drop p xs)) new → appends old (swapped xs) new
  appends_swapped_rest old mid new p even within f g =
      subst (λ ys. appends old ys new) (swapped_rest xs [] (swapped (take p xs)) (swapped (take p xs) ++ swapped (drop p xs)) p even within refl refl) (more old mid new _ _ f g)
