-- The lanes of shuffled vectors.
use Rattle.std.proofs.Common.{◌≡◌, ℕ, ◌+◌, ◌-◌, ◌*◌, ◌/◌, ◌%◌, ◌<◌, ◌≤◌, cond, ltb, List, [], ◌∷◌, ◌++◌, map, length, get_or, take, drop, arith, refl, sym, ap, ap₂, ◌∙◌, inl, inr, w8, subst, length-append}
use Rattle.std.proofs.lemmas.Bool.{cases_lt, lt-ltb, le-ltb}
use Rattle.std.proofs.lemmas.List.{ext_get_or, get_or-map, length-map, get_or-take, get_or-drop, get_or_append_left, get_or-append_right, length-drop, length-take-le, take_all}
use Rattle.std.proofs.lemmas.List.FromFn.{get_or-map-range_with_len}
use Rattle.std.proofs.lemmas.Simd.{Each1-from_get_or, SwzOk, SwzOk-from_below, swz_l, length-swz_l, get_or-swz_l_below, get_or-chunk, length-chunk, pick_l_left, pick_l-range_with_len}
use Rattle.std.specs.List.{range_with_len}
use lib.Lanes.{chunk, pick_l}
use Rattle.utf_lanes.specs.Lanes.{half_place, pair_of_lanes}

-- n lanes, each of which is the element at some offset
abbrev pub picked : List ℕ → (ℕ → ℕ) → ℕ → List ℕ
picked xs place n = map (λ k. get_or xs (place k) 0) (range_with_len 0 n)

pub picked_at : (xs : List ℕ) (place : ℕ → ℕ) (n k : ℕ) → k < n → get_or (picked xs place n) k 0 ≡ get_or xs (place k) 0
picked_at xs place n k lt = get_or-map-range_with_len (λ k. get_or xs (place k) 0) 0 n k k 0 lt (omega arith)

-- Each lane one offset later.

abbrev place_before : ℕ → ℕ → ℕ
place_before n k = cond (ltb k 1) (n - 1) (k - 1)

pub later_at : (n : ℕ) (xs : List ℕ) → length xs ≡ n → (k : ℕ) → k + 1 < n → get_or (picked (xs ++ xs) (place_before n) n) (k + 1) 0 ≡ get_or xs k 0
later_at n xs long k lt =
    let at : place_before n (k + 1) ≡ k = rw (le-ltb (k + 1) 1 (omega arith)) (omega arith) in
    picked_at (xs ++ xs) (place_before n) n (k + 1) lt ∙ ap (λ j. get_or (xs ++ xs) j 0) at ∙ get_or_append_left xs xs 0 k (omega (arith, long))

-- Each lane of thirty-two one offset earlier.

abbrev place_after : ℕ → ℕ
place_after k = cond (ltb k 31) (k + 1) (k - 31)

pub earlier_at : (xs : List ℕ) → length xs ≡ 32 → (k : ℕ) → k < 31 → get_or (picked (xs ++ xs) place_after 32) k 0 ≡ get_or xs (k + 1) 0
earlier_at xs long k lt =
    let at : place_after k ≡ k + 1 = rw (lt-ltb k 31 lt) refl in
    picked_at (xs ++ xs) place_after 32 k (omega arith) ∙ ap (λ j. get_or (xs ++ xs) j 0) at ∙ get_or_append_left xs xs 0 (k + 1) (omega (arith, long))

-- The halves of thirty-two lanes.

pub first_half : (xs : List ℕ) → length xs ≡ 32 → pick_l 0 (xs ++ xs) (range_with_len 0 16) ≡ take 16 xs
first_half xs long = pick_l_left 0 xs xs 32 (range_with_len 0 16) long tt ∙ pick_l-range_with_len 0 xs 0 16 (omega (arith, long))

pub second_half : (xs : List ℕ) → length xs ≡ 32 → pick_l 0 (xs ++ xs) (range_with_len 16 16) ≡ drop 16 xs
second_half xs long =
    pick_l_left 0 xs xs 32 (range_with_len 16 16) long tt ∙ pick_l-range_with_len 0 xs 16 16 (omega (arith, long)) ∙ take_all 16 (drop 16 xs) (omega (arith, length-drop 16 xs, long))

-- Either half in pairs of both vectors, from one lane of it on.

abbrev pub pair_place : ℕ → ℕ → ℕ
pair_place o k = k / 16 * 16 + o + k % 16 / 2 + k % 2 * 32

module _ (xs ys : List ℕ) (p : length xs ≡ 32) (q : length ys ≡ 32) (o : ℕ) (few : o ≤ 8) where
  abbrev pairs : List ℕ
  pairs = picked (xs ++ ys) (pair_place o) 32

  of_first : (k j : ℕ) → k < 32 → j < 32 → pair_place o k ≡ j → get_or pairs k 0 ≡ get_or xs j 0
  of_first k j lt less at = picked_at (xs ++ ys) (pair_place o) 32 k lt ∙ ap (λ i. get_or (xs ++ ys) i 0) at ∙ get_or_append_left xs ys 0 j (omega (arith, p))

  of_second : (k j : ℕ) → k < 32 → pair_place o k ≡ 32 + j → get_or pairs k 0 ≡ get_or ys j 0
  of_second k j lt at =
      let back : 32 + j - 32 ≡ j = omega arith in
      picked_at (xs ++ ys) (pair_place o) 32 k lt ∙ ap (λ i. get_or (xs ++ ys) i 0) at ∙ get_or-append_right xs ys 32 (32 + j) 0 p (omega arith) ∙ ap (λ i. get_or ys i 0) back

  pub front_pairs : (k : ℕ) → k < 8 → get_or (take 16 pairs) (2 * k) 0 ∷ get_or (take 16 pairs) (2 * k + 1) 0 ∷ [] ≡ pair_of_lanes (take 16 xs) (take 16 ys) (o + k)
  front_pairs k lt =
      let first : get_or (take 16 pairs) (2 * k) 0 ≡ get_or (take 16 xs) (o + k) 0
      = get_or-take 16 pairs (2 * k) 0 (omega arith) ∙ of_first (2 * k) (o + k) (omega arith) (omega arith) (omega arith) ∙ sym (get_or-take 16 xs (o + k) 0 (omega arith)) in
      let second : get_or (take 16 pairs) (2 * k + 1) 0 ≡ get_or (take 16 ys) (o + k) 0
      = get_or-take 16 pairs (2 * k + 1) 0 (omega arith) ∙ of_second (2 * k + 1) (o + k) (omega arith) (omega arith) ∙ sym (get_or-take 16 ys (o + k) 0 (omega arith)) in
      ap₂ (λ a b. a ∷ b ∷ []) first second

  pub back_pairs : (k : ℕ) → k < 8 → get_or (drop 16 pairs) (2 * k) 0 ∷ get_or (drop 16 pairs) (2 * k + 1) 0 ∷ [] ≡ pair_of_lanes (drop 16 xs) (drop 16 ys) (o + k)
  back_pairs k lt =
      let first : get_or (drop 16 pairs) (2 * k) 0 ≡ get_or (drop 16 xs) (o + k) 0
      = get_or-drop 16 pairs (2 * k) 0 ∙ of_first (16 + 2 * k) (16 + (o + k)) (omega arith) (omega arith) (omega arith) ∙ sym (get_or-drop 16 xs (o + k) 0) in
      let second : get_or (drop 16 pairs) (2 * k + 1) 0 ≡ get_or (drop 16 ys) (o + k) 0
      = get_or-drop 16 pairs (2 * k + 1) 0 ∙ of_second (16 + (2 * k + 1)) (16 + (o + k)) (omega arith) (omega arith) ∙ sym (get_or-drop 16 ys (o + k) 0) in
      ap₂ (λ a b. a ∷ b ∷ []) first second

-- Either half at offsets of its own.
module _ (v js more : List ℕ) (long : length js ≡ 16) (more_long : length more ≡ 16) (below : (k : ℕ) → k < 16 → get_or js k 0 < 16) (more_below : (k : ℕ) → k < 16 → get_or more k 0 < 16) where
  both_len : length (js ++ more) ≡ 32
  both_len = omega (arith, length-append js more, long, more_long)

  in_front : (k : ℕ) → k < 16 → get_or (js ++ more) k 0 ≡ get_or js k 0
  in_front k lt = get_or_append_left js more 0 k (omega (arith, long))

  in_back : (k : ℕ) → k < 16 → get_or (js ++ more) (16 + k) 0 ≡ get_or more k 0
  in_back k lt = let back : 16 + k - 16 ≡ k = omega arith in get_or-append_right js more 16 (16 + k) 0 long (omega arith) ∙ ap (λ i. get_or more i 0) back

  each_below_16 : (k : ℕ) → k < 32 → get_or (js ++ more) k 0 < 16
  each_below_16 k lt =
      elim (cases_lt k 16) [
        | inl less ↦ rw (in_front k less) (below k less)
        | inr least ↦ (let at : 16 + (k - 16) ≡ k = omega arith in subst (λ i. get_or (js ++ more) i 0 < 16) at (rw (in_back (k - 16) (omega arith)) (more_below (k - 16) (omega arith))))
      ]

  pub in_halves : SwzOk w8 16 32 0 (js ++ more)
  in_halves = SwzOk-from_below w8 16 2 32 0 (js ++ more) refl (omega (arith, both_len)) (Each1-from_get_or (λ j. j < 16) (js ++ more) 0 (λ k lt. each_below_16 k (omega (arith, both_len))))

  abbrev kept : List ℕ
  kept = swz_l w8 16 v 0 (js ++ more)

  kept_len : length kept ≡ 32
  kept_len = length-swz_l w8 16 v 0 (js ++ more) ∙ both_len

  pub front_at_places : take 16 kept ≡ map (λ j. get_or (take 16 v) j 0) js
  front_at_places =
      let wide : length (take 16 kept) ≡ 16 = length-take-le 16 kept (omega (arith, kept_len)) in
      ext_get_or 0 (take 16 kept) (map (λ j. get_or (take 16 v) j 0) js) (wide ∙ sym (length-map js (λ j. get_or (take 16 v) j 0) ∙ long))
      (λ k lt.
      let few : k < 16 = omega (arith, wide) in
      let at : 16 * ((0 + k) / 16) + get_or (js ++ more) k 0 ≡ get_or js k 0 = omega (arith, in_front k few) in
      get_or-take 16 kept k 0 few ∙ get_or-swz_l_below w8 16 v 0 (js ++ more) k (omega (arith, both_len)) (each_below_16 k (omega arith)) ∙ ap (λ i. get_or v i 0) at
      ∙ sym (get_or-take 16 v (get_or js k 0) 0 (below k few)) ∙ sym (get_or-map (λ j. get_or (take 16 v) j 0) js k 0 0 (omega (arith, long))))

  pub back_at_places : drop 16 kept ≡ map (λ j. get_or (drop 16 v) j 0) more
  back_at_places =
      let wide : length (drop 16 kept) ≡ 16 = omega (arith, length-drop 16 kept, kept_len) in
      ext_get_or 0 (drop 16 kept) (map (λ j. get_or (drop 16 v) j 0) more) (wide ∙ sym (length-map more (λ j. get_or (drop 16 v) j 0) ∙ more_long))
      (λ k lt.
      let few : k < 16 = omega (arith, wide) in
      let at : 16 * ((0 + (16 + k)) / 16) + get_or (js ++ more) (16 + k) 0 ≡ 16 + get_or more k 0 = omega (arith, in_back k few) in
      get_or-drop 16 kept k 0 ∙ get_or-swz_l_below w8 16 v 0 (js ++ more) (16 + k) (omega (arith, both_len)) (each_below_16 (16 + k) (omega arith)) ∙ ap (λ i. get_or v i 0) at
      ∙ sym (get_or-drop 16 v (get_or more k 0) 0) ∙ sym (get_or-map (λ j. get_or (drop 16 v) j 0) more k 0 0 (omega (arith, more_long))))

-- 64 bytes by four loads, of which the first and the third make one vector and the others another.
module _ (xs : List ℕ) (enough : 64 ≤ length xs) where
  abbrev part : ℕ → List ℕ
  part i = chunk i 16 xs

  of_part : (i k : ℕ) → i ≤ 48 → k < 16 → get_or (part i) k 0 ≡ get_or xs (i + k) 0
  of_part i k le lt = get_or-chunk i 16 xs k 0 lt

  front_len : length (part 0 ++ part 32) ≡ 32
  front_len = omega (arith, length-append (part 0) (part 32), length-chunk 0 16 xs (omega arith), length-chunk 32 16 xs (omega arith))

  two_at : (a b k : ℕ) → a ≤ 48 → b ≤ 48 → k < 32 → get_or (part a ++ part b) k 0 ≡ get_or xs (cond (ltb k 16) (a + k) (b + (k - 16))) 0
  two_at a b k la lb lt =
      let long : length (part a) ≡ 16 = length-chunk a 16 xs (omega arith) in
      elim (cases_lt k 16) [
        | inl less ↦ rw (lt-ltb k 16 less) (get_or_append_left (part a) (part b) 0 k (omega (arith, long)) ∙ of_part a k la less)
        | inr more ↦ rw (le-ltb k 16 more) (get_or-append_right (part a) (part b) 16 k 0 long more ∙ of_part b (k - 16) lb (omega arith))
      ]

  pub parts_at : (j : ℕ) → j < 64 → get_or ((part 0 ++ part 32) ++ (part 16 ++ part 48)) (half_place j) 0 ≡ get_or xs j 0
  parts_at j lt =
      elim (cases_lt (half_place j) 32) [
        | inl less ↦ get_or_append_left (part 0 ++ part 32) (part 16 ++ part 48) 0 (half_place j) (omega (arith, front_len)) ∙ two_at 0 32 (half_place j) (omega arith) (omega arith) less ∙ ap (λ i. get_or xs i 0) (front_place less)
        | inr more ↦ get_or-append_right (part 0 ++ part 32) (part 16 ++ part 48) 32 (half_place j) 0 front_len more ∙ two_at 16 48 (half_place j - 32) (omega arith) (omega arith) (omega arith) ∙ ap (λ i. get_or xs i 0) (back_place more)
      ]
    where
      front_place : half_place j < 32 → cond (ltb (half_place j) 16) (0 + half_place j) (32 + (half_place j - 16)) ≡ j
      front_place less = elim (cases_lt (half_place j) 16) [ inl a ↦ rw (lt-ltb (half_place j) 16 a) (omega arith) | inr a ↦ rw (le-ltb (half_place j) 16 a) (omega arith) ]

      back_place : 32 ≤ half_place j → cond (ltb (half_place j - 32) 16) (16 + (half_place j - 32)) (48 + (half_place j - 32 - 16)) ≡ j
      back_place more = elim (cases_lt (half_place j - 32) 16) [ inl a ↦ rw (lt-ltb (half_place j - 32) 16 a) (omega arith) | inr a ↦ rw (le-ltb (half_place j - 32) 16 a) (omega arith) ]
