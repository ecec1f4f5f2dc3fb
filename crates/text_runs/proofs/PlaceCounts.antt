-- The pieces of a list, counted by the offsets at which one begins: those that no code covers. Generic in the
-- code.
use Rattle.std.proofs.Common.{◌≡◌, ℕ, zero, suc, ◌+◌, ◌<◌, ◌≤◌, Bool, true, false, cond, List, length, get_or, map, arith, refl, ap, sym, ◌∙◌, subst, ⊎_elim, Some, None, Option, Ok}
use Rattle.std.proofs.lemmas.Bool.{cases_lt}
use Rattle.std.proofs.lemmas.List.{get_or-map, length-map}
use Rattle.std.proofs.lemmas.Option.{slice_get-get_or, slice_get_past}
use Rattle.std.specs.Prelude.{option_map, slice_get}
use Rattle.utf_base.specs.Code.{IsCode}
use Rattle.utf_base.specs.Piece.{Inside, Piece, IsPieceAt}
use Rattle.utf_base.proofs.Cuts.{Finds, piece_begins}
use Rattle.utf_lanes.specs.UnitStarts.{place_count}
use Rattle.utf_lanes.proofs.UnitStartLemmas.{places_more}
use Rattle.text_runs.specs.Items.{IsRun, Placed, piece_of}
use Rattle.text_runs.specs.Tables.{IsSplitAt}
use Rattle.text_runs.proofs.SplitNumbers.{begins_outside_of}

-- A test that decides of each offset of the list whether no code covers it.
pub record TellsOutside (code : ℕ → List ℕ) (xs : List ℕ) (is : ℕ → Bool) : Type 0 where
  pub outside : (p : ℕ) → p < length xs → is p ≡ true → Inside code xs p → ⊥
  pub inside : (p : ℕ) → p < length xs → is p ≡ false → Inside code xs p

module _ {E : Type 0} (code : ℕ → List ℕ) (c : IsCode code) (finds : Finds code) (kind : List ℕ → Option E) (xs : List ℕ) (items : List (Placed E)) (run : IsRun code kind xs items) (is : ℕ → Bool) (tells : TellsOutside code xs is) where
  len : length (map piece_of items) ≡ length items
  len = length-map items piece_of

  piece_at : (n : ℕ) (d : Placed E) → n < length items → get_or (map piece_of items) n (piece_of d) ≡ piece_of (get_or items n d)
  piece_at n d lt = get_or-map piece_of items n d (piece_of d) lt

  in_order : (n m : ℕ) (d : Placed E) → n < m → m < length items → (get_or items n d).0 < (get_or items m d).0
  in_order n m d lt within =
      let pairs = run.cut.in_order n m (piece_of d) lt (omega (arith, len)) in
      rw (piece_at n d (omega arith), piece_at m d within) at pairs

  -- if no piece begins at an offset, as many begin before the next offset
  split_inside : (m k : ℕ) → m < length xs → is m ≡ false → IsSplitAt items m k → IsSplitAt items (m + 1) k
  split_inside m k lt lacking h = record {
    within = h.within;
    before = λ n d lo hi. let earlier = h.before n d lo hi in omega arith;
    following = λ n d lo hi.
        let x = get_or items n d in
        let later = h.following n d lo hi in
        let piece : IsPieceAt code xs x.0 x.2 (piece_of x).char = rw (piece_at n d hi) at ((run.cut.pieces n (piece_of d) (omega (arith, len))).0) in
        ⊎_elim
        (λ (over : m < x.0). omega arith)
        (λ (here : x.0 ≤ m).
        let same : m ≡ x.0 = omega arith in
        absurd (begins_outside_of code c xs x.0 x.2 (piece_of x).char piece (rw same at (tells.inside m lt lacking))))
        (cases_lt m x.0);
  }

  -- if one begins there, it is the next
  split_outside : (m k : ℕ) → m < length xs → is m ≡ true → IsSplitAt items m k → IsSplitAt items (m + 1) (k + 1)
  split_outside m k lt held h =
      let begins = piece_begins code c finds xs m (tells.outside m lt held) lt in
      let start = begins.start in
      let (n, fits, is_first) = run.cut.all begins.first begins.is_piece (omega arith) (omega arith) in
      let some : Placed E = (0, Ok 0, 0) in
      let here : (d : Placed E) → (get_or items n d).0 ≡ m = λ d. ap (λ (x : Piece). x.start) (sym (get_or-map piece_of items n d begins.first (omega (arith, len))) ∙ is_first) ∙ start in
      let first = here some in
      let most : k ≤ n = ⊎_elim (λ (early : n < k). let before = h.before n some (omega arith) early in absurd (omega arith)) (λ (le : k ≤ n). le) (cases_lt n k) in
      let least : n ≤ k =
      ⊎_elim
      (λ (late : k < n).
      let before = in_order k n some late (omega (arith, len)) in
      let later = h.following k some (omega arith) (omega (arith, len)) in
      absurd (omega arith))
      (λ (le : n ≤ k). le)
      (cases_lt k n) in
      let same : n ≡ k = omega arith in
      record {
        within = omega (arith, len);
        before = λ j d lo hi.
            ⊎_elim
            (λ (early : j < k). let before = h.before j d lo early in omega arith)
            (λ (late : k ≤ j).
            let at : j ≡ n = omega arith in
            let place = here d in
            rw at (omega arith))
            (cases_lt j k);
        following = λ j d lo hi. let after = in_order k j d (omega arith) hi in let later = h.following k d (omega arith) (omega arith) in omega arith;
      }

  split_more : (m k : ℕ) → m < length xs → (b : Bool) → is m ≡ b → IsSplitAt items m k → IsSplitAt items (m + 1) (k + cond {A = ℕ} b 1 0)
  split_more m k lt true e h = split_outside m k lt e h
  split_more m k lt false e h = let none : k ≡ k + 0 = omega arith in subst (IsSplitAt items (m + 1)) none (split_inside m k lt e h)

  -- As many pieces begin before an offset as there are such offsets before it.
  pub split_at : (m : ℕ) → m ≤ length xs → IsSplitAt items m (place_count is m)
  split_at zero le = record { within = omega arith; before = λ n d lo hi. absurd (omega arith); following = λ n d lo hi. omega arith }
  split_at (suc m) le = by (is m) refl (split_at m (omega arith))
    where
      on : m + 1 ≡ suc m
      on = omega arith

      by : (b : Bool) → is m ≡ b → IsSplitAt items m (place_count is m) → IsSplitAt items (suc m) (place_count is (suc m))
      by b e before =
          let count : place_count is m + cond {A = ℕ} b 1 0 ≡ place_count is (suc m) = ap (λ b. place_count is m + cond {A = ℕ} b 1 0) (sym e) ∙ sym (places_more is m) ∙ ap (place_count is) on in
          subst (λ j. IsSplitAt items j (place_count is (suc m))) on (subst (IsSplitAt items (m + 1)) count (split_more m (place_count is m) (omega arith) b e before))

  -- all pieces are as many as all such offsets
  pub places_counted : length items ≡ place_count is (length xs)
  places_counted =
      let k = place_count is (length xs) in
      let split = split_at (length xs) (omega arith) in
      let within : k ≤ length items = split.within in
      ⊎_elim
      (λ (lt : k < length items).
      let some : Placed E = (0, Ok 0, 0) in
      let later = split.following k some (omega arith) lt in
      let start : (get_or (map piece_of items) k (piece_of some)).start ≡ (get_or items k some).0 = ap (λ (x : Piece). x.start) (piece_at k some lt) in
      let fits = (run.cut.pieces k (piece_of some) (omega (arith, len))).2 in
      absurd (omega arith))
      (λ (ge : length items ≤ k). omega arith)
      (cases_lt k (length items))

  -- the piece with a number begins at the offset with that number
  pub place_numbered : (number p : ℕ) → p < length xs → is p ≡ true → place_count is p ≡ number → Some p ≡ option_map (λ (x : Placed E). x.0) (slice_get items number)
  place_numbered number p lt held count =
      let some : Placed E = (0, Ok 0, 0) in
      let more : place_count is (p + 1) ≡ number + 1 = places_more is p ∙ ap (λ b. place_count is p + cond {A = ℕ} b 1 0) held ∙ ap (λ n. n + 1) count in
      let from : IsSplitAt items p number = subst (IsSplitAt items p) count (split_at p (omega arith)) in
      let to : IsSplitAt items (p + 1) (number + 1) = subst (IsSplitAt items (p + 1)) more (split_at (p + 1) (omega arith)) in
      let fits : number + 1 ≤ length items = to.within in
      let least = from.following number some (omega arith) (omega arith) in
      let most = to.before number some (omega arith) (omega arith) in
      let here : p ≡ (get_or items number some).0 = omega arith in
      ap Some here ∙ sym (ap (option_map (λ (x : Placed E). x.0)) (slice_get-get_or items number some (omega arith)))

  pub none_numbered : (number : ℕ) → place_count is (length xs) ≤ number → None ≡ option_map (λ (x : Placed E). x.0) (slice_get items number)
  none_numbered number le = sym (ap (option_map (λ (x : Placed E). x.0)) (slice_get_past items number (omega (arith, places_counted))))
