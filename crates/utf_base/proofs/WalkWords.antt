-- Each word has a walk: in each window a piece begins, and one ends, and has its result.
use Rattle.std.proofs.Common.{◌≡◌, ℕ, suc, ◌+◌, ◌<◌, ◌≤◌, ⊎_elim, List, [], ◌∷◌, length, arith, refl, Option, Some, None, Ok, Err}
use Rattle.std.proofs.lemmas.Bool.{cases_lt}
use Rattle.std.specs.Prelude.{slice_range, All}
use Rattle.utf_base.specs.Code.{IsCode}
use Rattle.utf_base.specs.CutLaws.{Follow}
use Rattle.utf_base.specs.Piece.{Stands, Inside, Piece, IsPieceAt, IsPiece, end_of}
use Rattle.utf_base.specs.Walk.{Encoding, Side, from_front, from_back, Placed, AnswersFront, AnswersBack, Walks, IsWalk}
use Rattle.utf_base.proofs.Cuts.{Finds, piece_begins, cut_exists, cuts_follow}
use Rattle.utf_base.proofs.Standing.{stands_in_whole}
use Rattle.utf_base.proofs.Walks.{IsOpen, open_whole, open_front, open_back, piece_over}

-- A piece ends at each offset that lies inside no standing code.

piece_at_end : (code : ℕ → List ℕ) (xs : List ℕ) (ps : List Piece) (i m j : ℕ) → All (IsPiece code xs) ps → Follow i ps m → i < j → j ≤ m
    → (x : Piece) × IsPiece code xs x × (x.start < j) × (j ≤ end_of x)
piece_at_end code xs [] i m j h f lt le = absurd (omega arith)
piece_at_end code xs (x ∷ ps) i m j h f lt le =
    ⊎_elim
    (λ (more : end_of x < j). piece_at_end code xs ps (end_of x) m j (λ n d g. h (suc n) d (omega arith)) f.1 more le)
    (λ (here : j ≤ end_of x). (x, h 0 x (omega arith), omega arith, here))
    (cases_lt (end_of x) j)

pub piece_ends : (code : ℕ → List ℕ) → IsCode code → Finds code → (xs : List ℕ) (j : ℕ) → (Inside code xs j → ⊥) → 0 < j → j ≤ length xs
    → (x : Piece) × IsPiece code xs x × (end_of x ≡ j)
piece_ends code c find xs j out some le =
    let cut = cut_exists code c find xs in
    let x = piece_at_end code xs cut.0 0 (length xs) j (λ n d lt. (cut.1.pieces n d lt).0) (cuts_follow code c find xs cut.0 cut.1) some le in
    let over : end_of x.0 ≤ j = piece_over code xs x.0.start x.0.len x.0.char j x.1 out x.2 in
    (x.0, x.1, omega (arith, x.3))

-- each window that no code begins has a forward kind
abbrev pub HasKinds : {E : Type 0} → Encoding E → List ℕ → Type 0
HasKinds {E} e xs =
    (i j : ℕ) → i < j → j ≤ length xs → ((s : ℕ) → Stands e.code (slice_range xs i j) 0 s → ⊥)
    → (k : E) × (e.forward (slice_range xs i j) ≡ Some k)

module _ {E : Type 0} where
  front_answer : (e : Encoding E) → IsCode e.code → (xs : List ℕ) → HasKinds e xs → (i j : ℕ) → i < j → j ≤ length xs → (p n : ℕ) (a : Option ℕ)
      → IsPieceAt e.code xs p n a → p ≡ i → (x : Placed E) × AnswersFront e xs i j x
  front_answer e c xs judge i j lt le p n (Some s) h begins = ((p, Ok s, n), record { some = lt; piece = h; begins = begins; kind = tt })
  front_answer e c xs judge i j lt le p n None h begins =
      let k = judge i j lt le (λ s st.
      let w = stands_in_whole e.code xs i j 0 i s (omega arith) (omega arith) le st in
      h.2 (record { from = i; char = s; stands = w.0; begins = omega arith; ends = omega (arith, c.some s st.scalar) })) in
      ((p, Err k.0, n), record { some = lt; piece = h; begins = begins; kind = k.1 })

  back_answer : (e : Encoding E) (xs : List ℕ) (i j : ℕ) → i < j → (p n : ℕ) (a : Option ℕ)
      → IsPieceAt e.code xs p n a → p + n ≡ j → (x : Placed E) × AnswersBack e xs i j x
  back_answer e xs i j lt p n (Some s) h ends = ((p, Ok s, n), record { some = lt; piece = h; ends = ends; kind = tt })
  back_answer e xs i j lt p n None h ends = ((p, Err (e.backward _), n), record { some = lt; piece = h; ends = ends; kind = refl })

  record HasWalk (e : Encoding E) (xs : List ℕ) (i j : ℕ) (word : List Side) : Type 0 where
    pub answers : List (Option (Placed E))
    pub front : ℕ
    pub back : ℕ
    pub walks : Walks e xs i j word answers front back

  -- one letter before a word that has a walk from any window
  one_letter : (e : Encoding E) → IsCode e.code → Finds e.code → (xs : List ℕ) → HasKinds e xs → (s : Side) (word : List Side)
      → ((k l : ℕ) → IsOpen e.code xs k l → HasWalk e xs k l word) → (i j : ℕ) → IsOpen e.code xs i j → i < j → HasWalk e xs i j (s ∷ word)
  one_letter e c find xs judge from_front word rest i j o lt =
      let b = piece_begins e.code c find xs i o.front (omega (arith, o.within)) in
      let x = front_answer e c xs judge i j lt o.within b.first.start b.first.len b.first.char b.is_piece b.start in
      let w = rest (x.0.0 + x.0.2) j (open_front e c xs i j x.0 o x.1) in
      record { answers = Some x.0 ∷ w.answers; front = w.front; back = w.back; walks = (x.1, w.walks) }
  one_letter e c find xs judge from_back word rest i j o lt =
      let p = piece_ends e.code c find xs j o.back (omega arith) o.within in
      let x = back_answer e xs i j lt p.0.start p.0.len p.0.char p.1 p.2 in
      let w = rest i x.0.0 (open_back e c xs i j x.0 o x.1) in
      record { answers = Some x.0 ∷ w.answers; front = w.front; back = w.back; walks = (x.1, w.walks) }

  has_walk : (e : Encoding E) → IsCode e.code → Finds e.code → (xs : List ℕ) → HasKinds e xs → (word : List Side) (i j : ℕ) → IsOpen e.code xs i j → HasWalk e xs i j word
  has_walk e c find xs judge [] i j o = record { answers = []; front = i; back = j; walks = (refl, refl) }
  has_walk e c find xs judge (s ∷ word) i j o =
      ⊎_elim
      (λ (lt : i < j). one_letter e c find xs judge s word (has_walk e c find xs judge word) i j o lt)
      (λ (ge : j ≤ i).
      let rest = has_walk e c find xs judge word i j o in
      record { answers = None ∷ rest.answers; front = rest.front; back = rest.back; walks = (omega (arith, o.ordered), rest.walks) })
      (cases_lt i j)

  pub walk_exists : (e : Encoding E) → IsCode e.code → Finds e.code → (xs : List ℕ) → HasKinds e xs → (word : List Side)
      → (answers : List (Option (Placed E))) × IsWalk e xs word answers
  walk_exists e c find xs judge word =
      let w = has_walk e c find xs judge word 0 (length xs) (open_whole e.code xs) in
      (w.answers, record { front = w.front; back = w.back; walks = w.walks })
