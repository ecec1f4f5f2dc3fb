-- A decoder gives from the end what it gives from the front, in reverse order: the pieces of both are the one
-- cut.
use Rattle.std.proofs.Common.{◌≡◌, ℕ, zero, suc, ◌+◌, ◌-◌, ◌<◌, ◌≤◌, ⊎_elim, ◌⊎◌, inl, inr, List, [], ◌∷◌, ◌++◌, length, map, arith, refl, ap, sym, subst, ◌∙◌, Ok, Err, Result}
use Rattle.std.proofs.lemmas.Bool.{cases_lt}
use Rattle.std.proofs.lemmas.Grind.{reverse_onto}
use Rattle.std.proofs.lemmas.List.{reverse-reverse}
use Rattle.std.proofs.lemmas.List.Sums.{sum_by-cons, sum_by_push}
use Rattle.std.specs.List.{count_by, sum_by}
use Rattle.std.specs.Prelude.{cond, is_err, is_none, reverse, slice_range}
use Rattle.std.specs.Result.{result_ok}
use Rattle.utf_base.specs.Back.{decoded_end, end_fault}
use Rattle.utf_base.specs.Code.{IsCode, utf8}
use Rattle.utf_base.specs.declared.errors.Utf8ErrorKind.{Utf8ErrorKind}
use Rattle.utf_base.specs.Ends.{EndsWith, NoCodeEnds}
use Rattle.utf_base.specs.Piece.{Inside, IsCutBetween, IsPiece, Piece, Stands}
use Rattle.utf_base.specs.Walk.{piece_of}
use Rattle.utf_base.proofs.BackLemmas.{answer_of_end, decoded_end_code}
use Rattle.utf_base.proofs.Cuts.{Finds, back_char, back_fault, cut_is_unique, cut_none, cut_push}
use Rattle.utf_base.proofs.FrontLemmas.{utf8_finds}
use Rattle.utf_base.proofs.Standing.{outside_end, outside_front, same_char, stands_in_part, stands_in_whole}
use Rattle.utf_base.proofs.Utf8Code.{utf8_is_code}
use Rattle.encode_unicode.specs.BackPieces.{AreTurned, ending_at, pieces_back, pieces_back_by}
use Rattle.encode_unicode.specs.Pieces.{pieces}
use Rattle.encode_unicode.specs.Window.{Item, as_piece}
use Rattle.encode_unicode.proofs.ForCallers.{back_more, back_none, some_end_bytes}
use Rattle.text_runs.proofs.ForwardRuns.{pieces_are_the_run}

-- the last piece of what is left
record Last (code : ℕ → List ℕ) (xs : List ℕ) (i j : ℕ) (x : Piece) : Type 0 where
  pub piece : IsPiece code xs x
  pub ends : x.start + x.len ≡ j
  pub within : i ≤ x.start
  pub some : 0 < x.len
  pub outside : Inside code xs x.start → ⊥

module _ {E : Type 0} (code : ℕ → List ℕ) (c : IsCode code) where
  -- a result is the character that ends some elements, or a fault if none does
  abbrev pub TellsEnd : List ℕ → Result ℕ E → ℕ → Type 0
  TellsEnd w (Ok s) n = EndsWith code w s n
  TellsEnd w (Err k) n = NoCodeEnds code w × (n ≡ 1)

  last_of_left : (xs : List ℕ) (i j : ℕ) (r : Result ℕ E) (n : ℕ) → (Inside code xs i → ⊥) → (Inside code xs j → ⊥) → i < j → j ≤ length xs → TellsEnd (slice_range xs i j) r n
      → Last code xs i j (record { start = j - n; len = n; char = result_ok r })
  last_of_left xs i j (Ok s) n lo hi lt le h =
      let b = back_char code c xs i j s n (omega arith) le h in
      let some = c.some s h.0.scalar in
      let short = b.2 in
      let len = b.1 in
      record { piece = (b.0.0, b.1); ends = omega arith; within = omega arith; some = omega arith; outside = b.3 }
  last_of_left xs i j (Err k) n lo hi lt le (none, one) =
      let b = back_fault code xs i j lo hi lt le none in
      rw one (record { piece = b.0; ends = omega arith; within = omega arith; some = omega arith; outside = b.1 })

  -- the pieces from the end, turned about, are the cut
  back_cut : (answer : List ℕ → Result (ℕ × ℕ) E) → ((w : List ℕ) → 1 ≤ (as_piece (answer w)).1) → (xs : List ℕ)
      → ((i j : ℕ) → i < j → j ≤ length xs → TellsEnd (slice_range xs i j) (as_piece (answer (slice_range xs i j))).0 (as_piece (answer (slice_range xs i j))).1)
      → (n i j : ℕ) → j ≤ i + n → i ≤ j → j ≤ length xs → (Inside code xs i → ⊥) → (Inside code xs j → ⊥)
      → IsCutBetween code xs i j (reverse (map piece_of (pieces_back_by answer n xs i j)))
  back_cut answer some xs tells zero i j few lo le out hi =
      let same : j ≡ i = omega arith in
      rw (back_none answer some xs zero i j (omega arith), same) (cut_none code xs i)
  back_cut answer some xs tells (suc n) i j few lo le out hi =
      ⊎_elim
      (λ (lt : i < j).
      let a = as_piece (answer (slice_range xs i j)) in
      let last = last_of_left xs i j a.0 a.1 out hi lt le (tells i j lt le) in
      let long = last.some in
      let ends = last.ends in
      let within = last.within in
      let rest = back_cut answer some xs tells n i (j - a.1) (omega arith) within (omega arith) out last.outside in
      let ps : List Piece = map piece_of (pieces_back_by answer n xs i (j - a.1)) in
      let whole : IsCutBetween code xs i j (reverse ps ++ piece_of (ending_at j a) ∷ []) =
      subst (λ k. IsCutBetween code xs i k (reverse ps ++ piece_of (ending_at j a) ∷ [])) ends (cut_push code c xs i (reverse ps) (piece_of (ending_at j a)) within last.piece rest) in
      rw (back_more answer some xs n i j lt) (rw (reverse_onto ps (piece_of (ending_at j a)) []) whole))
      (λ (ge : j ≤ i).
      let same : j ≡ i = omega arith in
      rw (back_none answer some xs (suc n) i j ge, same) (cut_none code xs i))
      (cases_lt i j)

-- A character ends some elements, or none does.
module _ (code : ℕ → List ℕ) (c : IsCode code) (find : Finds code) (w : List ℕ) where
  -- no character that begins at the offset p or after it ends them
  abbrev NoneFrom : ℕ → Type 0
  NoneFrom p = (q s : ℕ) → p ≤ q → Stands code w q s → q + length (code s) ≡ length w → ⊥

  abbrev Found : Type 0
  Found = (s : ℕ) × (n : ℕ) × EndsWith code w s n

  -- what a character at an offset implies for those that end there
  from_code : (p s : ℕ) → Stands code w p s → NoneFrom (p + 1) → Found ⊎ NoneFrom p
  from_code p s h none =
      let within = h.within in
      ⊎_elim
      (λ (short : p + length (code s) < length w).
      inr (λ q t le g e.
      ⊎_elim
      (λ (at : q < p + 1).
      let place : q ≡ p = omega arith in
      let same : t ≡ s = same_char code c w p t s (rw place at g) h in
      let len : length (code t) ≡ length (code s) = ap (λ x. length (code x)) same in
      absurd (omega arith))
      (λ (later : p + 1 ≤ q). none q t later g e)
      (cases_lt q (p + 1))))
      (λ (ends : length w ≤ p + length (code s)).
      let place : p ≡ length w - length (code s) = omega arith in
      inl (s, length (code s), (rw place at h, refl)))
      (cases_lt (p + length (code s)) (length w))

  from_none : (p : ℕ) → ((s : ℕ) → Stands code (slice_range w p (length w)) 0 s → ⊥) → NoneFrom (p + 1) → NoneFrom p
  from_none p out none q s le h e =
      ⊎_elim
      (λ (at : q < p + 1).
      let place : p + 0 ≡ q = omega arith in
      out s (stands_in_part code w p (length w) 0 q s place (omega arith) h (omega arith)))
      (λ (later : p + 1 ≤ q). none q s later h e)
      (cases_lt q (p + 1))

  found_from : (k p : ℕ) → p + k ≡ length w → Found ⊎ NoneFrom p
  found_from zero p e = inr (λ q s le h f. let some = c.some s h.scalar in absurd (omega arith))
  found_from (suc k) p e =
      ⊎_elim
      (λ (found : Found). inl found)
      (λ (none : NoneFrom (p + 1)).
      ⊎_elim
      (λ (h : (s : ℕ) × Stands code (slice_range w p (length w)) 0 s).
      from_code p h.0 (stands_in_whole code w p (length w) 0 p h.0 (omega arith) (omega arith) (omega arith) h.1).0 none)
      (λ (out : (s : ℕ) → Stands code (slice_range w p (length w)) 0 s → ⊥). inr (from_none p out none))
      (find (slice_range w p (length w))))
      (found_from k (p + 1) (omega arith))

  pub ends_or_none : Found ⊎ NoCodeEnds code w
  ends_or_none =
      ⊎_elim
      (λ (found : Found). inl found)
      (λ (none : NoneFrom 0). inr (λ s n h. let within = h.0.within in let len = h.1 in none (length w - n) s (omega arith) h.0 (omega (arith, c.some s h.0.scalar))))
      (found_from (length w) 0 (omega arith))

-- Bytes.

bytes_tell : (w : List ℕ) → TellsEnd utf8 utf8_is_code w (as_piece (decoded_end w)).0 (as_piece (decoded_end w)).1
bytes_tell w =
    ⊎_elim
    (λ (h : (s : ℕ) × (n : ℕ) × EndsWith utf8 w s n). rw (decoded_end_code w h.0 h.1 h.2) h.2)
    (λ (none : NoCodeEnds utf8 w). rw (← answer_of_end w (Err (end_fault w)) (none, refl)) (none, refl))
    (ends_or_none utf8 utf8_is_code utf8_finds w)

pub turned : (xs : List ℕ) → AreTurned (pieces_back xs) (pieces xs)
turned xs =
    let back : List Piece = map piece_of (pieces_back xs) in
    let cut : IsCutBetween utf8 xs 0 (length xs) (reverse back) =
    back_cut utf8 utf8_is_code decoded_end some_end_bytes xs (λ i j lt le. bytes_tell (slice_range xs i j)) (length xs - 0) 0 (length xs) (omega arith) (omega arith) (omega arith)
    (outside_front utf8 xs) (outside_end utf8 xs) in
    let same : reverse back ≡ map piece_of (pieces xs) = cut_is_unique utf8 utf8_is_code xs (reverse back) (map piece_of (pieces xs)) cut (pieces_are_the_run xs).cut in
    sym (reverse-reverse back) ∙ ap reverse same

-- Faults are counted alike.

counted_reverse : (xs : List Piece) → count_by (λ (x : Piece). is_none x.char) (reverse xs) ≡ count_by (λ (x : Piece). is_none x.char) xs
counted_reverse [] = refl
counted_reverse (x ∷ xs) =
    let f : Piece → ℕ = λ (y : Piece). cond {A = ℕ} (is_none y.char) 1 0 in
    let rest = counted_reverse xs in
    let one = sum_by_push f (reverse xs) x in
    let first = sum_by-cons f x xs in
    ap (sum_by f) (reverse_onto xs x []) ∙ one ∙ omega (arith, rest, first)

faults_of : (items : List Item) → count_by (λ (x : Item). is_err x.1) items ≡ count_by (λ (x : Piece). is_none x.char) (map piece_of items)
faults_of [] = refl
faults_of (x ∷ items) =
    sum_by-cons (λ (y : Item). cond {A = ℕ} (is_err y.1) 1 0) x items ∙ both (by_answer x.1) (faults_of items)
    ∙ sym (sum_by-cons (λ (y : Piece). cond {A = ℕ} (is_none y.char) 1 0) (piece_of x) (map piece_of items))
  where
    by_answer : (r : Result ℕ Utf8ErrorKind) → cond {A = ℕ} (is_err r) 1 0 ≡ cond {A = ℕ} (is_none (result_ok r)) 1 0
    by_answer (Ok s) = refl
    by_answer (Err k) = refl

    both : {a b m n : ℕ} → a ≡ b → m ≡ n → a + m ≡ b + n
    both e f = omega arith

pub faults_turned : (xs : List ℕ) → count_by (λ (x : Item). is_err x.1) (pieces_back xs) ≡ count_by (λ (x : Item). is_err x.1) (pieces xs)
faults_turned xs =
    let back : List Piece = map piece_of (pieces_back xs) in
    faults_of (pieces_back xs) ∙ ap (count_by (λ (x : Piece). is_none x.char)) (turned xs) ∙ counted_reverse (map piece_of (pieces xs)) ∙ sym (faults_of (pieces xs))
