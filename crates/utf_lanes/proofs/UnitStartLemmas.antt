-- Units that begin a piece, counted offset by offset.
use Rattle.std.proofs.Common.{◌≡◌, ℕ, ◌+◌, ◌≤◌, Bool, true, false, cond, arith, ap, sym, ◌∙◌}
use Rattle.std.proofs.lemmas.List.FromFn.{length-range_with_len, sum_by-map-range_with_len_more}
use Rattle.std.proofs.lemmas.List.Sums.{count_by-le-length, sum-map}
use Rattle.std.specs.List.{range_with_len}
use mir.Val.{bool_byte}
use Rattle.utf_lanes.specs.UnitStarts.{place_count}

-- one more offset
pub places_more : (is : ℕ → Bool) (n : ℕ) → place_count is (n + 1) ≡ place_count is n + cond (is n) 1 0
places_more is n =
    let one : ℕ → ℕ = λ k. cond {A = ℕ} (is k) 1 0 in
    sym (sum-map one (range_with_len 0 (n + 1))) ∙ sum_by-map-range_with_len_more (λ m. m) one 0 n n (omega arith) ∙ ap (λ m. m + one n) (sum-map one (range_with_len 0 n))

pub places_few : (is : ℕ → Bool) (n : ℕ) → place_count is n ≤ n
places_few is n =
    let few = count_by-le-length is (range_with_len 0 n) in
    omega (arith, length-range_with_len 0 n)

-- the count if the test at one more offset has this result
pub places_told : (is : ℕ → Bool) (n : ℕ) (told : Bool) → told ≡ is n → place_count is (n + 1) ≡ place_count is n + bool_byte told
places_told is n true e = places_more is n ∙ ap (λ b. place_count is n + cond b 1 0) (sym e)
places_told is n false e = places_more is n ∙ ap (λ b. place_count is n + cond b 1 0) (sym e)

pub told_few : (told : Bool) → bool_byte told ≤ 1
told_few true = omega arith
told_few false = omega arith
