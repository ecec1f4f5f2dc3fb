-- A walk gives each piece once: its results from the front and from the end are two cuts, with the window
-- between.
use Rattle.std.proofs.Common.{◌≡◌, ◌≢◌, ℕ, zero, suc, ◌+◌, ◌<◌, ◌≤◌, List, [], ◌∷◌, ◌++◌, length, arith, ap, sym, subst, ◌∙◌, Option, Some, None, append_assoc}
use Rattle.std.proofs.lemmas.List.Elements.{All-append}
use Rattle.std.proofs.lemmas.List.Kept.{AllPairs-cons}
use Rattle.std.proofs.lemmas.List.Sorted.{All-permutation, IsPermutation-refl, IsPermutation-sym, IsPermutation-trans, IsPermutation-cons, IsPermutation-to_front}
use Rattle.std.specs.Prelude.{All, AllPairs, Contains, IsPermutation}
use Rattle.std.specs.Result.{result_ok}
use Rattle.utf_base.specs.Code.{IsCode}
use Rattle.utf_base.specs.Piece.{Piece, IsPiece, IsCut, IsCutBetween, end_of}
use Rattle.utf_base.specs.Walk.{Encoding, Side, from_front, from_back, Placed, piece_of, Walks, answered}
use Rattle.utf_base.specs.WalkLaws.{WalkGivesEachOnce}
use Rattle.utf_base.proofs.Cuts.{piece_some, cut_none, cut_one, cut_append, cut_unique}
use Rattle.utf_base.proofs.Walks.{IsOpen, open_whole, open_front, open_back, stays_open}

record Gathers (code : ℕ → List ℕ) (xs : List ℕ) (i j k l : ℕ) (ps : List Piece) : Type 0 where
  pub fronts : List Piece
  pub backs : List Piece
  pub up : i ≤ k
  pub down : l ≤ j
  pub fronts_cut : IsCutBetween code xs i k fronts
  pub backs_cut : IsCutBetween code xs l j backs
  pub shuffled : IsPermutation ps (fronts ++ backs)

gathers_front : (code : ℕ → List ℕ) → IsCode code → (xs : List ℕ) (i j k l : ℕ) (x : Piece) (ps : List Piece) → IsPiece code xs x → x.start ≡ i
    → Gathers code xs (end_of x) j k l ps → Gathers code xs i j k l (x ∷ ps)
gathers_front code c xs i j k l x ps h e g =
    let up = g.up in
    record {
      fronts = x ∷ g.fronts;
      backs = g.backs;
      up = omega arith;
      down = g.down;
      fronts_cut = cut_append code xs i (end_of x) k (x ∷ []) g.fronts (omega arith) up (subst (λ p. IsCutBetween code xs p (end_of x) (x ∷ [])) e (cut_one code c xs x h)) g.fronts_cut;
      backs_cut = g.backs_cut;
      shuffled = IsPermutation-cons x ps (g.fronts ++ g.backs) g.shuffled;
    }

gathers_back : (code : ℕ → List ℕ) → IsCode code → (xs : List ℕ) (i j k l : ℕ) (x : Piece) (ps : List Piece) → IsPiece code xs x → end_of x ≡ j
    → Gathers code xs i x.start k l ps → Gathers code xs i j k l (x ∷ ps)
gathers_back code c xs i j k l x ps h e g =
    let down = g.down in
    let last : IsPermutation (x ∷ (g.fronts ++ g.backs)) ((g.fronts ++ g.backs) ++ x ∷ []) = IsPermutation-sym _ _ (IsPermutation-to_front (g.fronts ++ g.backs) x) in
    record {
      fronts = g.fronts;
      backs = g.backs ++ x ∷ [];
      up = g.up;
      down = omega arith;
      fronts_cut = g.fronts_cut;
      backs_cut = cut_append code xs l x.start j g.backs (x ∷ []) down (omega arith) g.backs_cut (subst (λ p. IsCutBetween code xs x.start p (x ∷ [])) e (cut_one code c xs x h));
      shuffled = subst (IsPermutation (x ∷ ps)) (append_assoc g.fronts g.backs (x ∷ []))
          (IsPermutation-trans _ _ _ (IsPermutation-cons x ps (g.fronts ++ g.backs) g.shuffled) last);
    }

module _ {E : Type 0} where
  gathers : (e : Encoding E) → IsCode e.code → (xs : List ℕ) (i j : ℕ) (word : List Side) (answers : List (Option (Placed E))) (k l : ℕ)
      → Walks e xs i j word answers k l → Gathers e.code xs i j k l (answered answers)
  gathers e c xs i j [] [] k l w = rw (w.0, w.1) (record {
    fronts = [];
    backs = [];
    up = omega arith;
    down = omega arith;
    fronts_cut = cut_none e.code xs i;
    backs_cut = cut_none e.code xs j;
    shuffled = IsPermutation-refl [];
  })
  gathers e c xs i j (s ∷ word) (None ∷ answers) k l w = gathers e c xs i j word answers k l w.1
  gathers e c xs i j (from_front ∷ word) (Some x ∷ answers) k l w =
      gathers_front e.code c xs i j k l (piece_of x) (answered answers) w.0.piece w.0.begins (gathers e c xs (x.0 + x.2) j word answers k l w.1)
  gathers e c xs i j (from_back ∷ word) (Some x ∷ answers) k l w =
      gathers_back e.code c xs i j k l (piece_of x) (answered answers) w.0.piece w.0.ends (gathers e c xs i x.0 word answers k l w.1)
  gathers e c xs i j _ _ k l w = absurd w

  -- the pieces that a walk returns are within its first window
  all_within : (e : Encoding E) → IsCode e.code → (xs : List ℕ) (i j : ℕ) (word : List Side) (answers : List (Option (Placed E))) (k l : ℕ)
      → IsOpen e.code xs i j → Walks e xs i j word answers k l → All (λ p. IsPiece e.code xs p × (i ≤ p.start) × (p.start < j)) (answered answers)
  all_within e c xs i j word answers k l o w =
      let g = gathers e c xs i j word answers k l w in
      let ordered = (stays_open e c xs i j word answers k l o w).ordered in
      let Within : Piece → Type 0 = λ p. IsPiece e.code xs p × (i ≤ p.start) × (p.start < j) in
      All-permutation Within (g.fronts ++ g.backs) (answered answers) (IsPermutation-sym _ _ g.shuffled)
      (All-append Within g.fronts g.backs
      (λ n d lt. let h = g.fronts_cut.pieces n d lt in (h.0, h.1, omega (arith, h.2)))
      (λ n d lt. let h = g.backs_cut.pieces n d lt in (h.0, omega (arith, h.1), h.2)))

  each_once : (e : Encoding E) → IsCode e.code → (xs : List ℕ) (i j : ℕ) (word : List Side) (answers : List (Option (Placed E))) (k l : ℕ)
      → IsOpen e.code xs i j → Walks e xs i j word answers k l → AllPairs (λ x y. x ≢ y) (answered answers)
  each_once e c xs i j [] [] k l o w = λ m n d lt h. absurd (omega arith)
  each_once e c xs i j (s ∷ word) (None ∷ answers) k l o w = each_once e c xs i j word answers k l o w.1
  each_once e c xs i j (from_front ∷ word) (Some x ∷ answers) k l o w =
      let rest = open_front e c xs i j x o w.0 in
      let some = piece_some e.code c xs x.0 x.2 (result_ok x.1) w.0.piece in
      let others = all_within e c xs (x.0 + x.2) j word answers k l rest w.1 in
      AllPairs-cons (λ x y. x ≢ y) (piece_of x) (answered answers)
      (λ n d lt same. let place = ap (λ p. p.start) same in omega (arith, (others n d lt).1))
      (each_once e c xs (x.0 + x.2) j word answers k l rest w.1)
  each_once e c xs i j (from_back ∷ word) (Some x ∷ answers) k l o w =
      let rest = open_back e c xs i j x o w.0 in
      let others = all_within e c xs i x.0 word answers k l rest w.1 in
      AllPairs-cons (λ x y. x ≢ y) (piece_of x) (answered answers)
      (λ n d lt same. let place = ap (λ p. p.start) same in omega (arith, (others n d lt).2))
      (each_once e c xs i x.0 word answers k l rest w.1)
  each_once e c xs i j _ _ k l o w = absurd w

  -- if there was no piece the window is empty, and stays so

  empty_stays : (e : Encoding E) (xs : List ℕ) (i j : ℕ) (word : List Side) (answers : List (Option (Placed E))) (k l : ℕ)
      → i ≡ j → Walks e xs i j word answers k l → k ≡ l
  empty_stays e xs i j [] [] k l none w = w.0 ∙ none ∙ sym w.1
  empty_stays e xs i j (s ∷ word) (None ∷ answers) k l none w = empty_stays e xs i j word answers k l none w.1
  empty_stays e xs i j (from_front ∷ word) (Some x ∷ answers) k l none w = let some = w.0.some in absurd (omega arith)
  empty_stays e xs i j (from_back ∷ word) (Some x ∷ answers) k l none w = let some = w.0.some in absurd (omega arith)
  empty_stays e xs i j _ _ k l none w = absurd w

  none_left : (e : Encoding E) (xs : List ℕ) (i j : ℕ) (word : List Side) (answers : List (Option (Placed E))) (k l : ℕ)
      → Walks e xs i j word answers k l → Contains answers None → k ≡ l
  none_left e xs i j [] [] k l w (n, lt, is) = absurd (omega arith)
  none_left e xs i j [] (a ∷ answers) k l w h = absurd w
  none_left e xs i j (s ∷ word) [] k l w h = absurd w
  none_left e xs i j (s ∷ word) (None ∷ answers) k l w h = empty_stays e xs i j word answers k l w.0 w.1
  none_left e xs i j (s ∷ word) (Some x ∷ answers) k l w (zero, lt, is) = absurd (cc is)
  none_left e xs i j (from_front ∷ word) (Some x ∷ answers) k l w (suc n, lt, is) = none_left e xs (x.0 + x.2) j word answers k l w.1 (n, omega arith, is)
  none_left e xs i j (from_back ∷ word) (Some x ∷ answers) k l w (suc n, lt, is) = none_left e xs i x.0 word answers k l w.1 (n, omega arith, is)

  all_answered : (e : Encoding E) → IsCode e.code → (xs : List ℕ) (answers : List (Option (Placed E))) (k l : ℕ) (ps : List Piece)
      → k ≡ l → Gathers e.code xs 0 (length xs) k l (answered answers) → IsCut e.code xs ps → IsPermutation (answered answers) ps
  all_answered e c xs answers k l ps none g h =
      let whole = cut_append e.code xs 0 k (length xs) g.fronts g.backs g.up (rw none g.down) g.fronts_cut (rw none g.backs_cut) in
      subst (IsPermutation (answered answers)) (cut_unique e.code c xs 0 (length xs) (g.fronts ++ g.backs) ps whole h) g.shuffled

  pub walk_gives_each_once : (e : Encoding E) → IsCode e.code → WalkGivesEachOnce e
  walk_gives_each_once e c xs word answers w =
      let whole = open_whole e.code xs in
      let within = all_within e c xs 0 (length xs) word answers w.front w.back whole w.walks in
      record {
        pieces = λ n d lt. (within n d lt).0;
        once = each_once e c xs 0 (length xs) word answers w.front w.back whole w.walks;
        all = λ none ps h.
            all_answered e c xs answers w.front w.back ps (none_left e xs 0 (length xs) word answers w.front w.back w.walks none)
            (gathers e c xs 0 (length xs) word answers w.front w.back w.walks) h;
      }
