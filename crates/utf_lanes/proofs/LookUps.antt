-- Look-ups in a row, which vectors of 32 lanes have twice.
use Rattle.std.proofs.Common.{◌≡◌, ℕ, ◌+◌, ◌-◌, ◌*◌, ◌/◌, ◌<◌, List, ◌++◌, length, get_or, arith, ap, ◌∙◌, inl, inr, w8}
use Rattle.std.proofs.lemmas.Bool.{cases_lt}
use Rattle.std.proofs.lemmas.List.{get_or_append_left, get_or-append_right}
use Rattle.std.proofs.lemmas.Simd.{Each1-from_get_or, swz_l, SwzOk, SwzOk-from_below, length-swz_l, get_or-swz_l_below}
use Rattle.utf_lanes.specs.Lanes.{ArePlaces, AreLookedUp}

pub places_ok : (b n : ℕ) (places : List ℕ) → n ≡ b * 16 → length places ≡ n → ArePlaces n places → SwzOk w8 16 n 0 places
places_ok b n places blocks long below = SwzOk-from_below w8 16 b n 0 places blocks (omega (arith, long)) (Each1-from_get_or (λ j. j < 16) places 0 (λ k lt. below k (omega (arith, long))))

module _ (row places : List ℕ) where
  pub looked_up : length places ≡ 16 → ArePlaces 16 places → AreLookedUp 16 row places (swz_l w8 16 row 0 places)
  looked_up long below = record {
    wide = length-swz_l w8 16 row 0 places ∙ long;
    each = λ k lt.
        let at : 16 * ((0 + k) / 16) + get_or places k 0 ≡ get_or places k 0 = omega arith in
        get_or-swz_l_below w8 16 row 0 places k (omega (arith, long)) (below k lt) ∙ ap (λ n. get_or row n 0) at;
  }

  pub looked_up_twice : length row ≡ 16 → length places ≡ 32 → ArePlaces 32 places → AreLookedUp 32 row places (swz_l w8 16 (row ++ row) 0 places)
  looked_up_twice whole long below = record {
    wide = length-swz_l w8 16 (row ++ row) 0 places ∙ long;
    each = λ k lt. get_or-swz_l_below w8 16 (row ++ row) 0 places k (omega (arith, long)) (below k lt) ∙ entry k lt;
  }
    where
      entry : (k : ℕ) → k < 32 → get_or (row ++ row) (16 * ((0 + k) / 16) + get_or places k 0) 0 ≡ get_or row (get_or places k 0) 0
      entry k lt =
          let place = below k lt in
          elim (cases_lt k 16) [
            | inl first ↦ (
                let at : 16 * ((0 + k) / 16) + get_or places k 0 ≡ get_or places k 0 = omega arith in
                ap (λ n. get_or (row ++ row) n 0) at ∙ get_or_append_left row row 0 (get_or places k 0) (omega (arith, whole)))
            | inr second ↦ (
                let at : 16 * ((0 + k) / 16) + get_or places k 0 ≡ 16 + get_or places k 0 = omega arith in
                let back : 16 + get_or places k 0 - 16 ≡ get_or places k 0 = omega arith in
                ap (λ n. get_or (row ++ row) n 0) at ∙ get_or-append_right row row 16 (16 + get_or places k 0) 0 whole (omega arith) ∙ ap (λ n. get_or row n 0) back)
          ]
