-- The windows of walks: their ends stay outside of codes, and they decide each result.
use Rattle.std.proofs.Common.{◌≡◌, ℕ, zero, suc, ◌+◌, ◌<◌, ◌≤◌, ⊎_elim, List, [], ◌∷◌, ◌++◌, length, take, arith, refl, ap, ap₂, sym, ◌∙◌, Option, Some, None, Result, Ok, Err}
use Rattle.std.proofs.lemmas.Bool.{cases_lt}
use Rattle.std.specs.Prelude.{slice_range, IfErr}
use Rattle.std.specs.Result.{result_ok}
use Rattle.utf_base.specs.Code.{IsCode}
use Rattle.utf_base.specs.Piece.{Inside, IsPieceAt}
use Rattle.utf_base.specs.Walk.{Encoding, Side, from_front, from_back, Placed, piece_of, AnswersFront, AnswersBack, Walks}
use Rattle.utf_base.specs.WalkLaws.{WalkIsUnique, WalkStaysOutside}
use Rattle.utf_base.proofs.Cuts.{one_piece_begins, one_piece_ends}
use Rattle.utf_base.proofs.CutChanges.{piece_ends_outside}
use Rattle.utf_base.proofs.Standing.{not_inside, outside_end, outside_front}

-- A piece begins and ends outside of every code, and covers no other such offset.

piece_front : (code : ℕ → List ℕ) → IsCode code → (xs : List ℕ) (p n : ℕ) (a : Option ℕ) → IsPieceAt code xs p n a → Inside code xs p → ⊥
piece_front code c xs p n (Some s) h v = not_inside code c xs p s h.0 v
piece_front code c xs p n None h v = h.2 (record { from = v.from; char = v.char; stands = v.stands; begins = omega (arith, v.begins); ends = v.ends })

pub piece_over : (code : ℕ → List ℕ) (xs : List ℕ) (p n : ℕ) (a : Option ℕ) (j : ℕ) → IsPieceAt code xs p n a → (Inside code xs j → ⊥) → p < j → p + n ≤ j
piece_over code xs p n a j h out lt = ⊎_elim (λ (over : j < p + n). absurd (by_char code xs p n a j h out lt over)) (λ (fits : p + n ≤ j). fits) (cases_lt j (p + n))
  where
    by_char : (code : ℕ → List ℕ) (xs : List ℕ) (p n : ℕ) (a : Option ℕ) (j : ℕ) → IsPieceAt code xs p n a → (Inside code xs j → ⊥) → p < j → j < p + n → ⊥
    by_char code xs p n (Some s) j h out lt over = let len = h.1 in out (record { from = p; char = s; stands = h.0; begins = lt; ends = omega arith })
    by_char code xs p n None j h out lt over = let one = h.1 in omega arith

-- A window whose ends lie inside no standing code.
pub record IsOpen (code : ℕ → List ℕ) (xs : List ℕ) (i j : ℕ) : Type 0 where
  pub ordered : i ≤ j
  pub within : j ≤ length xs
  pub front : Inside code xs i → ⊥
  pub back : Inside code xs j → ⊥

pub open_whole : (code : ℕ → List ℕ) (xs : List ℕ) → IsOpen code xs 0 (length xs)
open_whole code xs = record { ordered = omega arith; within = omega arith; front = outside_front code xs; back = outside_end code xs }

module _ {E : Type 0} where
  -- One result removes its piece from such a window and leaves another such window.

  pub open_front : (e : Encoding E) → IsCode e.code → (xs : List ℕ) (i j : ℕ) (x : Placed E) → IsOpen e.code xs i j → AnswersFront e xs i j x
      → IsOpen e.code xs (x.0 + x.2) j
  open_front e c xs i j x o a =
      record {
        ordered = piece_over e.code xs x.0 x.2 (result_ok x.1) j a.piece o.back (omega arith);
        within = o.within;
        front = piece_ends_outside e.code c xs x.0 x.2 (result_ok x.1) a.piece;
        back = o.back;
      }

  pub open_back : (e : Encoding E) → IsCode e.code → (xs : List ℕ) (i j : ℕ) (x : Placed E) → IsOpen e.code xs i j → AnswersBack e xs i j x
      → IsOpen e.code xs i x.0
  open_back e c xs i j x o a =
      let within = o.within in
      record {
        ordered = ⊎_elim
            (λ (lt : x.0 < i). let over : x.0 + x.2 ≤ i = piece_over e.code xs x.0 x.2 (result_ok x.1) i a.piece o.front lt in absurd (omega arith))
            (λ (ge : i ≤ x.0). ge)
            (cases_lt x.0 i);
        within = omega arith;
        front = o.front;
        back = piece_front e.code c xs x.0 x.2 (result_ok x.1) a.piece;
      }

  pub stays_open : (e : Encoding E) → IsCode e.code → (xs : List ℕ) (i j : ℕ) (word : List Side) (answers : List (Option (Placed E))) (k l : ℕ)
      → IsOpen e.code xs i j → Walks e xs i j word answers k l → IsOpen e.code xs k l
  stays_open e c xs i j [] [] k l o w = rw (w.0, w.1) o
  stays_open e c xs i j (s ∷ word) (None ∷ answers) k l o w = stays_open e c xs i j word answers k l o w.1
  stays_open e c xs i j (from_front ∷ word) (Some x ∷ answers) k l o w = stays_open e c xs (x.0 + x.2) j word answers k l (open_front e c xs i j x o w.0) w.1
  stays_open e c xs i j (from_back ∷ word) (Some x ∷ answers) k l o w = stays_open e c xs i x.0 word answers k l (open_back e c xs i j x o w.0) w.1
  stays_open e c xs i j _ _ k l o w = absurd w

  -- the walk of the first letters
  record Reaches (e : Encoding E) (xs : List ℕ) (i j : ℕ) (word : List Side) (answers : List (Option (Placed E))) : Type 0 where
    pub front : ℕ
    pub back : ℕ
    pub walks : Walks e xs i j word answers front back

  first_letters : (e : Encoding E) (xs : List ℕ) (n i j : ℕ) (word : List Side) (answers : List (Option (Placed E))) (k l : ℕ)
      → Walks e xs i j word answers k l → Reaches e xs i j (take n word) (take n answers)
  first_letters e xs zero i j word answers k l w = record { front = i; back = j; walks = (refl, refl) }
  first_letters e xs (suc n) i j [] [] k l w = record { front = i; back = j; walks = (refl, refl) }
  first_letters e xs (suc n) i j (s ∷ word) (None ∷ answers) k l w =
      let r = first_letters e xs n i j word answers k l w.1 in
      record { front = r.front; back = r.back; walks = (w.0, r.walks) }
  first_letters e xs (suc n) i j (from_front ∷ word) (Some x ∷ answers) k l w =
      let r = first_letters e xs n (x.0 + x.2) j word answers k l w.1 in
      record { front = r.front; back = r.back; walks = (w.0, r.walks) }
  first_letters e xs (suc n) i j (from_back ∷ word) (Some x ∷ answers) k l w =
      let r = first_letters e xs n i x.0 word answers k l w.1 in
      record { front = r.front; back = r.back; walks = (w.0, r.walks) }
  first_letters e xs (suc n) i j _ _ k l w = absurd w

  pub walk_stays_outside : (e : Encoding E) → IsCode e.code → WalkStaysOutside e
  walk_stays_outside e c xs word answers w n =
      let r = first_letters e xs n 0 (length xs) word answers w.front w.back w.walks in
      let o = stays_open e c xs 0 (length xs) (take n word) (take n answers) r.front r.back (open_whole e.code xs) r.walks in
      (record { front = r.front; back = r.back; walks = r.walks }, o.ordered, o.front, o.back)

  -- one walk after another
  pub Walks-append : (e : Encoding E) (xs : List ℕ) (i j : ℕ) (word : List Side) (answers : List (Option (Placed E))) (k l : ℕ) (more : List Side) (others : List (Option (Placed E))) (m n : ℕ)
      → Walks e xs i j word answers k l → Walks e xs k l more others m n → Walks e xs i j (word ++ more) (answers ++ others) m n
  Walks-append e xs i j [] [] k l more others m n w v = rw (← w.0, ← w.1) v
  Walks-append e xs i j (s ∷ word) (None ∷ answers) k l more others m n w v = (w.0, Walks-append e xs i j word answers k l more others m n w.1 v)
  Walks-append e xs i j (from_front ∷ word) (Some x ∷ answers) k l more others m n w v = (w.0, Walks-append e xs (x.0 + x.2) j word answers k l more others m n w.1 v)
  Walks-append e xs i j (from_back ∷ word) (Some x ∷ answers) k l more others m n w v = (w.0, Walks-append e xs i x.0 word answers k l more others m n w.1 v)
  Walks-append e xs i j _ _ k l more others m n w v = absurd w

  -- The window decides each result.

  same_result : (r q : Result ℕ E) (k : Option E) → result_ok r ≡ result_ok q → IfErr r (λ a. k ≡ Some a) → IfErr q (λ a. k ≡ Some a) → r ≡ q
  same_result (Ok s) (Ok t) k o h g = let same : s ≡ t = cc in ap Ok same
  same_result (Ok s) (Err b) k o h g = absurd (cc o)
  same_result (Err a) (Ok t) k o h g = absurd (cc o)
  same_result (Err a) (Err b) k o h g = let same : a ≡ b = cc in ap Err same

  as_some : (r : Result ℕ E) (k : E) → IfErr r (λ a. k ≡ a) → IfErr r (λ a. Some k ≡ Some a)
  as_some (Ok s) k h = tt
  as_some (Err a) k h = ap Some h

  same_answer : (x y : Placed E) (k : Option E) → piece_of x ≡ piece_of y → IfErr x.1 (λ a. k ≡ Some a) → IfErr y.1 (λ a. k ≡ Some a) → x ≡ y
  same_answer x y k e h g =
      let place : x.0 ≡ y.0 = ap (λ p. p.start) e in
      let len : x.2 ≡ y.2 = ap (λ p. p.len) e in
      let result : x.1 ≡ y.1 = same_result x.1 y.1 k (ap (λ p. p.char) e) h g in
      ap (λ p. (p, x.1, x.2)) place ∙ ap (λ r. (y.0, r, x.2)) result ∙ ap (λ n. (y.0, y.1, n)) len

  same_front : (e : Encoding E) → IsCode e.code → (xs : List ℕ) (i j : ℕ) (x y : Placed E) → AnswersFront e xs i j x → AnswersFront e xs i j y → x ≡ y
  same_front e c xs i j x y a b = same_answer x y (e.forward (slice_range xs i j)) (one_piece_begins e.code c xs (piece_of x) (piece_of y) a.piece b.piece (a.begins ∙ sym b.begins)) a.kind b.kind

  same_back : (e : Encoding E) → IsCode e.code → (xs : List ℕ) (i j : ℕ) (x y : Placed E) → AnswersBack e xs i j x → AnswersBack e xs i j y → x ≡ y
  same_back e c xs i j x y a b =
      same_answer x y _ (one_piece_ends e.code c xs (piece_of x) (piece_of y) a.piece b.piece (a.ends ∙ sym b.ends)) (as_some x.1 _ a.kind) (as_some y.1 _ b.kind)

  same_walk : (e : Encoding E) → IsCode e.code → (xs : List ℕ) (i j : ℕ) (word : List Side) (answers others : List (Option (Placed E))) (k l m n : ℕ)
      → Walks e xs i j word answers k l → Walks e xs i j word others m n → answers ≡ others
  same_walk e c xs i j [] [] [] k l m n w v = refl
  same_walk e c xs i j [] (a ∷ answers) others k l m n w v = absurd w
  same_walk e c xs i j [] [] (b ∷ others) k l m n w v = absurd v
  same_walk e c xs i j (s ∷ word) [] others k l m n w v = absurd w
  same_walk e c xs i j (s ∷ word) (a ∷ answers) [] k l m n w v = absurd v
  same_walk e c xs i j (s ∷ word) (None ∷ answers) (None ∷ others) k l m n w v = ap (λ l. None ∷ l) (same_walk e c xs i j word answers others k l m n w.1 v.1)
  same_walk e c xs i j (from_front ∷ word) (None ∷ answers) (Some y ∷ others) k l m n w v = let none = w.0 in let some = v.0.some in absurd (omega arith)
  same_walk e c xs i j (from_back ∷ word) (None ∷ answers) (Some y ∷ others) k l m n w v = let none = w.0 in let some = v.0.some in absurd (omega arith)
  same_walk e c xs i j (from_front ∷ word) (Some x ∷ answers) (None ∷ others) k l m n w v = let none = v.0 in let some = w.0.some in absurd (omega arith)
  same_walk e c xs i j (from_back ∷ word) (Some x ∷ answers) (None ∷ others) k l m n w v = let none = v.0 in let some = w.0.some in absurd (omega arith)
  same_walk e c xs i j (from_front ∷ word) (Some x ∷ answers) (Some y ∷ others) k l m n w v =
      let same = same_front e c xs i j x y w.0 v.0 in
      let rest : Walks e xs (x.0 + x.2) j word others m n = rw same v.1 in
      ap₂ (λ a l. Some a ∷ l) same (same_walk e c xs (x.0 + x.2) j word answers others k l m n w.1 rest)
  same_walk e c xs i j (from_back ∷ word) (Some x ∷ answers) (Some y ∷ others) k l m n w v =
      let same = same_back e c xs i j x y w.0 v.0 in
      let rest : Walks e xs i x.0 word others m n = rw same v.1 in
      ap₂ (λ a l. Some a ∷ l) same (same_walk e c xs i x.0 word answers others k l m n w.1 rest)

  pub walk_is_unique : (e : Encoding E) → IsCode e.code → WalkIsUnique e
  walk_is_unique e c xs word answers others w v = same_walk e c xs 0 (length xs) word answers others w.front w.back v.front v.back w.walks v.walks
