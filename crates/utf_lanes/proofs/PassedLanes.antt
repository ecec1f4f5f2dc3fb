-- Lanes that pass a test, of vectors of any width.
use Rattle.std.proofs.Common.{◌≡◌, ℕ, suc, ◌%◌, ◌^◌, ◌<◌, ◌≤◌, Bool, true, false, not, cond, List, [], ◌∷◌, map, length, get_or, replicate, refl, sym, ap, ◌∙◌, arith, w8}
use Rattle.std.proofs.lemmas.List.{get_or-map, length-map}
use Rattle.std.proofs.lemmas.List.Sums.{prefix_len_passes}
use Rattle.std.proofs.lemmas.Simd.{length-zip2, get_or-zip2, get_or-replicate, length-replicate, length-sel_l, get_or-sel_l, tops_compared, bitmask_splat, bit_mask_l, mask_l-lt, leading_from_mask_l}
use Rattle.std.specs.Int.{bit_at}
use lib.Lanes.{zip2, sel_l, mask_l, top}

-- The lane of a third vector if the lanes of two pass a test, otherwise that of a fourth.
module _ (t : ℕ → ℕ → Bool) (xs ys ps qs : List ℕ) where
  abbrev pub chosen : List ℕ
  chosen = sel_l (map (top 7) (zip2 (λ a b. cond {A = ℕ} (t a b) 255 0) xs ys)) ps qs

  module _ {n : ℕ} (x : length xs ≡ n) (y : length ys ≡ n) (p : length ps ≡ n) (q : length qs ≡ n) where
    tests_len : length (zip2 t xs ys) ≡ n
    tests_len = length-zip2 t xs ys (x ∙ sym y) ∙ x

    pub chosen_len : length chosen ≡ n
    chosen_len = rw (tops_compared w8 t xs ys) (length-sel_l (zip2 t xs ys) ps qs (tests_len ∙ sym p) (tests_len ∙ sym q) ∙ tests_len)

    pub chosen_at : (k : ℕ) → k < n → get_or chosen k 0 ≡ cond (t (get_or xs k 0) (get_or ys k 0)) (get_or ps k 0) (get_or qs k 0)
    chosen_at k lt =
        let test : get_or (zip2 t xs ys) k false ≡ t (get_or xs k 0) (get_or ys k 0) = get_or-zip2 t xs ys k 0 0 false (omega (arith, x)) (omega (arith, y)) in
        rw (tops_compared w8 t xs ys, get_or-sel_l (zip2 t xs ys) ps qs k 0 (omega (arith, tests_len)) (omega (arith, p)) (omega (arith, q)), test) refl

-- The lane of one vector or of another, by a test of the lanes of one vector and a number.
module _ (n : ℕ) (t : ℕ → ℕ → Bool) (xs : List ℕ) (y : ℕ) (ps qs : List ℕ) where
  abbrev pub where_passed : List ℕ
  where_passed = chosen t xs (replicate n y) ps qs

  module _ (x : length xs ≡ n) (p : length ps ≡ n) (q : length qs ≡ n) where
    pub where_passed_len : length where_passed ≡ n
    where_passed_len = chosen_len t xs (replicate n y) ps qs x (length-replicate n y) p q

    pub where_passed_at : (k : ℕ) → k < n → get_or where_passed k 0 ≡ cond (t (get_or xs k 0) y) (get_or ps k 0) (get_or qs k 0)
    where_passed_at k lt =
        chosen_at t xs (replicate n y) ps qs x (length-replicate n y) p q k lt
        ∙ ap (λ z. cond (t (get_or xs k 0) z) (get_or ps k 0) (get_or qs k 0)) (get_or-replicate {A = ℕ} n k y 0 lt)

-- Masks of the lanes that pass a test.

not_true : (b : Bool) → not b ≡ true → b ≡ false
not_true true e = sym e
not_true false e = refl

mask_none : (p : ℕ → Bool) (v : List ℕ) → ((k : ℕ) → k < length v → p (get_or v k 0) ≡ false) → mask_l (map p v) ≡ 0
mask_none p [] none = refl
mask_none p (x ∷ v) none = rw (none 0 (omega arith), mask_none p v (λ k lt. none (suc k) (omega arith))) refl

abbrev pub passed_mask : ℕ → (ℕ → ℕ → Bool) → List ℕ → ℕ → ℕ
passed_mask n t v y = mask_l (map (top 7) (zip2 (λ a b. cond {A = ℕ} (t a b) 255 0) v (replicate n y))) % 2 ^ 64

module _ {n : ℕ} (few : n ≤ 64) (t : ℕ → ℕ → Bool) (v : List ℕ) (y : ℕ) (long : length v ≡ n) where
  pub mask_is : passed_mask n t v y ≡ mask_l (map (λ x. t x y) v)
  mask_is = bitmask_splat w8 t v n y long few

  pub passed_most : passed_mask n t v y < 2 ^ n
  passed_most =
      let all : length (map (λ x. t x y) v) ≡ n = length-map v (λ x. t x y) ∙ long in
      let below : mask_l (map (λ x. t x y) v) < 2 ^ n = rw all at (mask_l-lt (map (λ x. t x y) v)) in
      rw mask_is below

  pub passed_bits : (k : ℕ) → k < n → bit_at (passed_mask n t v y) k ≡ cond (t (get_or v k 0) y) 1 0
  passed_bits k lt =
      let test : get_or (map (λ x. t x y) v) k false ≡ t (get_or v k 0) y = get_or-map (λ x. t x y) v k 0 false (omega (arith, long)) in
      rw mask_is (bit_mask_l (map (λ x. t x y) v) k ∙ ap (λ (b : Bool). cond {A = ℕ} b 1 0) test)

  pub none_passes : passed_mask n t v y ≡ 0 → (k : ℕ) → k < n → t (get_or v k 0) y ≡ false
  none_passes none k lt =
      let all = leading_from_mask_l (λ x. t x y) v (sym mask_is ∙ none) in
      not_true _ (prefix_len_passes (λ x. not (t x y)) v k 0 (omega (arith, all, long)))

  pub passes_none : ((k : ℕ) → k < n → t (get_or v k 0) y ≡ false) → passed_mask n t v y ≡ 0
  passes_none none = mask_is ∙ mask_none (λ x. t x y) v (λ k lt. none k (omega (arith, long)))
