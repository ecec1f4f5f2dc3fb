-- From one result on a window to the pieces of the whole list, and the cut that the pieces make.
use Rattle.std.proofs.Common.{mul-suc, ◌*◌, ◌≡◌, ℕ, zero, suc, ◌+◌, ◌-◌, ◌<◌, ◌≤◌, ◌⊎◌, inl, inr, List, [], ◌∷◌, ◌++◌, length, get_or, arith, refl, ap, ap₂, sym, ◌∙◌, subst, ⊎_elim, Some, None, Option, lit<, length-append}
use Rattle.std.proofs.lemmas.Bool.{cases_lt}
use Rattle.std.proofs.lemmas.List.{get_or_append_left, get_or-append_right}
use Rattle.std.proofs.lemmas.List.Elements.{All-append, All-cons, All-nil, Contains-append_left, Contains-append_right}
use Rattle.std.specs.Prelude.{slice_range, All, Contains}
use Rattle.utf_base.specs.Code.{IsCode}
use Rattle.utf_base.specs.Ends.{EndsWith, NoCodeEnds}
use Rattle.utf_base.specs.Piece.{IsCut, Stands, Covered, Inside, Piece, IsPieceAt, IsPiece, IsCutBetween, end_of}
use Rattle.utf_base.specs.CutLaws.{PiecesNeverOverlap, OnePieceBegins, OnePieceEnds, Follow, CutsFollow, CutExists, CutIsUnique}
use Rattle.utf_base.proofs.Ending.{ends_in_part, ends_in_whole}
use Rattle.utf_base.proofs.Standing.{not_inside, same_char, outside_after, outside_end, outside_front, stands_in_part, stands_in_whole}

abbrev pub char_at : (ℕ → List ℕ) → ℕ → ℕ → Piece
char_at code p s = record { start = p; len = length (code s); char = Some s }

abbrev pub fault_at : ℕ → Piece
fault_at p = record { start = p; len = 1; char = None }

-- A code that begins a window is a piece of the list, and no code covers its end.
pub front_char : (code : ℕ → List ℕ) → IsCode code → (xs : List ℕ) (i j s : ℕ) → i ≤ j → j ≤ length xs → Stands code (slice_range xs i j) 0 s
    → IsPiece code xs (char_at code i s) × (i + length (code s) ≤ j) × (Inside code xs (i + length (code s)) → ⊥)
front_char code c xs i j s lo le h =
    let w = stands_in_whole code xs i j 0 i s (omega arith) lo le h in
    ((w.0, refl), w.1, outside_after code c xs i s w.0)

-- If no code begins a window whose ends lie inside no standing code, its first element is a fault of the list.
pub front_fault : (code : ℕ → List ℕ) (xs : List ℕ) (i j : ℕ) → (Inside code xs i → ⊥) → (Inside code xs j → ⊥) → i < j → j ≤ length xs
    → ((s : ℕ) → Stands code (slice_range xs i j) 0 s → ⊥) → IsPiece code xs (fault_at i) × (Inside code xs (i + 1) → ⊥)
front_fault code xs i j lo hi lt le none =
    let at_front : (s : ℕ) → Stands code xs i s → ⊥ = λ s h.
    ⊎_elim
    (λ out. hi (record { from = i; char = s; stands = h; begins = lt; ends = out }))
    (λ fits. none s (stands_in_part code xs i j 0 i s (omega arith) le h fits))
    (cases_lt j (i + length (code s))) in
    let covered : Covered code xs i → ⊥ = λ v.
    ⊎_elim
    (λ before. lo (record { from = v.from; char = v.char; stands = v.stands; begins = before; ends = v.ends }))
    (λ ge. let e : v.from ≡ i = omega arith in at_front v.char (rw e at v.stands))
    (cases_lt v.from i) in (
      (omega arith, refl, covered),
      λ v. covered (record { from = v.from; char = v.char; stands = v.stands; begins = omega arith; ends = omega arith }),
    )

-- A code that ends a window is a piece of the list, and no code covers its front.
pub back_char : (code : ℕ → List ℕ) → IsCode code → (xs : List ℕ) (i j s n : ℕ) → i ≤ j → j ≤ length xs → EndsWith code (slice_range xs i j) s n
    → IsPiece code xs (char_at code (j - n) s) × (n ≡ length (code s)) × (i + n ≤ j) × (Inside code xs (j - n) → ⊥)
back_char code c xs i j s n lo le h =
    let w = ends_in_whole code xs i j s n lo le h in
    ((w.0, refl), w.1, w.2, λ v. not_inside code c xs (j - n) s w.0 v)

-- If no code ends a window whose ends lie inside no standing code, its last element is a fault of the list.
pub back_fault : (code : ℕ → List ℕ) (xs : List ℕ) (i j : ℕ) → (Inside code xs i → ⊥) → (Inside code xs j → ⊥) → i < j → j ≤ length xs
    → NoCodeEnds code (slice_range xs i j) → IsPiece code xs (fault_at (j - 1)) × (Inside code xs (j - 1) → ⊥)
back_fault code xs i j lo hi lt le none =
    let covered : Covered code xs (j - 1) → ⊥ = λ v.
    ⊎_elim
    (λ (out : j < v.from + length (code v.char)). hi (record { from = v.from; char = v.char; stands = v.stands; begins = omega (arith, v.begins); ends = out }))
    (λ (fits : v.from + length (code v.char) ≤ j).
    ⊎_elim
    (λ (before : v.from < i). lo (record { from = v.from; char = v.char; stands = v.stands; begins = before; ends = omega (arith, v.ends) }))
    (λ (ge : i ≤ v.from). none v.char (length (code v.char)) (ends_in_part code xs i j v.from v.char ge le v.stands (omega (arith, v.ends))))
    (cases_lt v.from i))
    (cases_lt j (v.from + length (code v.char))) in (
      (omega arith, refl, covered),
      λ v. covered (record { from = v.from; char = v.char; stands = v.stands; begins = omega (arith, v.begins); ends = v.ends }),
    )

-- no piece begins within another
no_piece_within : (code : ℕ → List ℕ) → IsCode code → (xs : List ℕ) (p n q m : ℕ) (a b : Option ℕ)
    → IsPieceAt code xs p n a → IsPieceAt code xs q m b → p < q → q < p + n → ⊥
no_piece_within code c xs p n q m (Some s) (Some t) h g lt out = not_inside code c xs q t g.0 (record { from = p; char = s; stands = h.0; begins = lt; ends = omega arith })
no_piece_within code c xs p n q m (Some s) None h g lt out = g.2 (record { from = p; char = s; stands = h.0; begins = omega arith; ends = omega arith })
no_piece_within code c xs p n q m None b h g lt out = omega arith

same_parts : (code : ℕ → List ℕ) → IsCode code → (xs : List ℕ) (p n q m : ℕ) (a b : Option ℕ)
    → IsPieceAt code xs p n a → IsPieceAt code xs q m b → p ≡ q → (n ≡ m) × (a ≡ b)
same_parts code c xs p n q m (Some s) (Some t) h g e =
    let w = same_char code c xs p s t h.0 (rw e g.0) in
    (h.1 ∙ ap (λ x. length (code x)) w ∙ sym g.1, ap Some w)
same_parts code c xs p n q m (Some s) None h g e =
    let some = c.some s h.0.scalar in
    absurd (g.2 (record { from = p; char = s; stands = h.0; begins = omega arith; ends = omega arith }))
same_parts code c xs p n q m None (Some t) h g e =
    let some = c.some t g.0.scalar in
    absurd (h.2 (record { from = q; char = t; stands = g.0; begins = omega arith; ends = omega arith }))
same_parts code c xs p n q m None None h g e = (h.1 ∙ sym g.1, refl)

abbrev make : ℕ → ℕ → Option ℕ → Piece
make p n a = record { start = p; len = n; char = a }

pub one_piece_begins : (code : ℕ → List ℕ) → IsCode code → OnePieceBegins code
one_piece_begins code c xs x y h g e =
    let r = same_parts code c xs x.start x.len y.start y.len x.char y.char h g e in
    ap (λ n. make x.start n x.char) r.0 ∙ ap (λ p. make p y.len x.char) e ∙ ap (λ a. make y.start y.len a) r.1

-- a piece has at least one element, and ends in the list
pub piece_some : (code : ℕ → List ℕ) → IsCode code → (xs : List ℕ) (p n : ℕ) (a : Option ℕ) → IsPieceAt code xs p n a
    → (0 < n) × (p + n ≤ length xs)
piece_some code c xs p n (Some s) h = let some = c.some s h.0.scalar in let w = h.0.within in (omega arith, omega arith)
piece_some code c xs p n None h = (omega arith, omega arith)

pub pieces_never_overlap : (code : ℕ → List ℕ) → IsCode code → PiecesNeverOverlap code
pieces_never_overlap code c xs x y h g = (
  one_piece_begins code c xs x y h g,
  λ lt.
      ⊎_elim
      (λ (over : y.start < end_of x). absurd (no_piece_within code c xs x.start x.len y.start y.len x.char y.char h g lt over))
      (λ (fits : end_of x ≤ y.start). fits)
      (cases_lt y.start (end_of x)),
)

pub one_piece_ends : (code : ℕ → List ℕ) → IsCode code → OnePieceEnds code
one_piece_ends code c xs x y h g e =
    let of_x = piece_some code c xs x.start x.len x.char h in
    let of_y = piece_some code c xs y.start y.len y.char g in
    let first = (pieces_never_overlap code c xs x y h g).1 in
    let last = (pieces_never_overlap code c xs y x g h).1 in
    let same : x.start ≡ y.start = grind arith in
    one_piece_begins code c xs x y h g same

pub cut_none : (code : ℕ → List ℕ) (xs : List ℕ) (i : ℕ) → IsCutBetween code xs i i []
cut_none code xs i = record { pieces = λ k d h. absurd (omega arith); all = λ x h lo hi. absurd (omega arith); in_order = λ i j d h g. absurd (omega arith) }

-- a piece is the cut of its offsets
pub cut_one : (code : ℕ → List ℕ) → IsCode code → (xs : List ℕ) (x : Piece) → IsPiece code xs x → IsCutBetween code xs x.start (end_of x) (x ∷ [])
cut_one code c xs x h =
    let some = piece_some code c xs x.start x.len x.char h in
    record {
      pieces =
          All-cons (λ y. IsPiece code xs y × (x.start ≤ y.start) × (y.start < end_of x)) x [] (h, omega arith, omega arith)
          (All-nil (λ y. IsPiece code xs y × (x.start ≤ y.start) × (y.start < end_of x)));
      all = λ y g lo hi.
          ⊎_elim
          (λ lt. absurd (no_piece_within code c xs x.start x.len y.start y.len x.char y.char h g lt hi))
          (λ ge. (0, lit< tt, one_piece_begins code c xs x y h g (omega arith)))
          (cases_lt x.start y.start);
      in_order = λ i j d l g. absurd (omega arith);
    }

-- two cuts that meet are one
pub cut_append : (code : ℕ → List ℕ) (xs : List ℕ) (i j k : ℕ) (ps qs : List Piece) → i ≤ j → j ≤ k
    → IsCutBetween code xs i j ps → IsCutBetween code xs j k qs → IsCutBetween code xs i k (ps ++ qs)
cut_append code xs i j k ps qs lo hi a b = record {
  pieces =
      All-append (λ x. IsPiece code xs x × (i ≤ x.start) × (x.start < k)) ps qs
      (λ n d h. let w = a.pieces n d h in (w.0, w.1, omega arith))
      (λ n d h. let w = b.pieces n d h in (w.0, omega arith, w.2));
  all = λ x h l g. ⊎_elim (λ lt. Contains-append_left ps qs x (a.all x h l lt)) (λ ge. Contains-append_right ps qs x (b.all x h ge g)) (cases_lt x.start j);
  in_order = λ m n d lt h.
      ⊎_elim
      (λ (inner : n < length ps). rw (get_or_append_left ps qs d n inner, get_or_append_left ps qs d m (omega arith)) (a.in_order m n d lt inner))
      (λ (past : length ps ≤ n).
      let in_qs : n - length ps < length qs = omega (arith, length-append ps qs) in
      ⊎_elim
      (λ (first : m < length ps).
      let before : (get_or ps m d).start < j = (a.pieces m d first).2 in
      let from : j ≤ (get_or qs (n - length ps) d).start = (b.pieces (n - length ps) d in_qs).1 in
      rw (get_or-append_right ps qs (length ps) n d refl past, get_or_append_left ps qs d m first) (omega arith))
      (λ (both : length ps ≤ m).
      let following : m - length ps < n - length ps = omega arith in
      rw (get_or-append_right ps qs (length ps) n d refl past, get_or-append_right ps qs (length ps) m d refl both)
      (b.in_order (m - length ps) (n - length ps) d following in_qs))
      (cases_lt m (length ps)))
      (cases_lt n (length ps));
}

-- one more piece after a cut
pub cut_push : (code : ℕ → List ℕ) → IsCode code → (xs : List ℕ) (i : ℕ) (ps : List Piece) (x : Piece) → i ≤ x.start → IsPiece code xs x
    → IsCutBetween code xs i x.start ps → IsCutBetween code xs i (end_of x) (ps ++ x ∷ [])
cut_push code c xs i ps x le h a = cut_append code xs i x.start (end_of x) ps (x ∷ []) le (omega arith) a (cut_one code c xs x h)

Contains-tail : (x y : Piece) (ps : List Piece) → Contains (x ∷ ps) y → (x ≡ y) ⊎ Contains ps y
Contains-tail x y ps (zero, h, e) = inl e
Contains-tail x y ps (suc k, h, e) = inr (k, omega arith, e)

cut_tail : (code : ℕ → List ℕ) (xs : List ℕ) (i j : ℕ) (x : Piece) (ps : List Piece) → IsCutBetween code xs i j (x ∷ ps) → IsCutBetween code xs (x.start + 1) j ps
cut_tail code xs i j x ps a = record {
  pieces = λ k d h.
      let w = a.pieces (suc k) d (omega arith) in
      let l = a.in_order 0 (suc k) d (omega arith) (omega arith) in
      (w.0, omega arith, w.2);
  all = λ y h lo hi.
      let w = a.pieces 0 x (omega arith) in
      ⊎_elim
      (λ e. let f : x.start ≡ y.start = ap (λ z. z.start) e in absurd (omega arith))
      (λ r. r)
      (Contains-tail x y ps (a.all y h (omega arith) hi));
  in_order = λ m n d lt h. a.in_order (suc m) (suc n) d (omega arith) (omega arith);
}

-- a cut begins with the first of its pieces
cut_least : (code : ℕ → List ℕ) (xs : List ℕ) (i j : ℕ) (x y : Piece) (ps : List Piece) → IsCutBetween code xs i j (x ∷ ps) → IsPiece code xs y
    → i ≤ y.start → y.start < j → x.start ≤ y.start
cut_least code xs i j x y ps a h lo hi =
    ⊎_elim
    (λ e. let f : x.start ≡ y.start = ap (λ z. z.start) e in omega arith)
    (λ r. let l = a.in_order 0 (suc r.0) y (omega arith) (omega arith) in let f : (get_or ps r.0 y).start ≡ y.start = ap (λ z. z.start) r.2 in omega arith)
    (Contains-tail x y ps (a.all y h lo hi))

-- there is at most one cut between two offsets
pub cut_unique : (code : ℕ → List ℕ) → IsCode code → (xs : List ℕ) (i j : ℕ) (ps qs : List Piece)
    → IsCutBetween code xs i j ps → IsCutBetween code xs i j qs → ps ≡ qs
cut_unique code c xs i j [] [] a b = refl
cut_unique code c xs i j [] (y ∷ qs) a b = let w = b.pieces 0 y (omega arith) in let r = a.all y w.0 w.1 w.2 in absurd (omega arith)
cut_unique code c xs i j (x ∷ ps) [] a b = let w = a.pieces 0 x (omega arith) in let r = b.all x w.0 w.1 w.2 in absurd (omega arith)
cut_unique code c xs i j (x ∷ ps) (y ∷ qs) a b =
    let of_x = a.pieces 0 x (omega arith) in
    let of_y = b.pieces 0 y (omega arith) in
    let le = cut_least code xs i j x y ps a of_y.0 of_y.1 of_y.2 in
    let ge = cut_least code xs i j y x qs b of_x.0 of_x.1 of_x.2 in
    let start : x.start ≡ y.start = omega arith in
    let same = one_piece_begins code c xs x y of_x.0 of_y.0 start in
    let tail = cut_unique code c xs (x.start + 1) j ps qs (cut_tail code xs i j x ps a) (rw start (cut_tail code xs i j y qs b)) in
    ap₂ (λ z zs. z ∷ zs) same tail

pub cut_is_unique : (code : ℕ → List ℕ) → IsCode code → CutIsUnique code
cut_is_unique code c xs ps qs a b = cut_unique code c xs 0 (length xs) ps qs a b

-- A test for a code at the front.
abbrev pub Finds : (ℕ → List ℕ) → Type 0
Finds code = (w : List ℕ) → ((s : ℕ) × Stands code w 0 s) ⊎ ((s : ℕ) → Stands code w 0 s → ⊥)

-- A piece begins at each offset that lies inside no standing code, and ends at another such offset.
pub record Begins (code : ℕ → List ℕ) (xs : List ℕ) (i : ℕ) : Type 0 where
  pub first : Piece
  pub is_piece : IsPiece code xs first
  pub start : first.start ≡ i
  pub outside : Inside code xs (end_of first) → ⊥

pub piece_begins : (code : ℕ → List ℕ) → IsCode code → Finds code → (xs : List ℕ) (i : ℕ) → (Inside code xs i → ⊥) → i < length xs → Begins code xs i
piece_begins code c find xs i b lt =
    ⊎_elim
    (λ (h : (s : ℕ) × Stands code (slice_range xs i (length xs)) 0 s).
    let f = front_char code c xs i (length xs) h.0 (omega arith) (omega arith) h.1 in
    record { first = char_at code i h.0; is_piece = f.0; start = refl; outside = f.2 })
    (λ (h : (s : ℕ) → Stands code (slice_range xs i (length xs)) 0 s → ⊥).
    let f = front_fault code xs i (length xs) b (outside_end code xs) lt (omega arith) h in
    record { first = fault_at i; is_piece = f.0; start = refl; outside = f.1 })
    (find (slice_range xs i (length xs)))

-- the cut from an offset to the end, whose pieces follow each other
pub record CutFrom (code : ℕ → List ℕ) (xs : List ℕ) (i : ℕ) : Type 0 where
  pub pieces : List Piece
  pub cut : IsCutBetween code xs i (length xs) pieces
  pub follow : Follow i pieces (length xs)

cut_from_end : (code : ℕ → List ℕ) (xs : List ℕ) (i : ℕ) → i ≡ length xs → CutFrom code xs i
cut_from_end code xs i e = record { pieces = []; cut = rw e (cut_none code xs (length xs)); follow = e }

cut_from : (code : ℕ → List ℕ) → IsCode code → Finds code → (fuel : ℕ) (xs : List ℕ) (i : ℕ) → (Inside code xs i → ⊥) → i ≤ length xs → length xs ≤ i + fuel → CutFrom code xs i
cut_from code c find zero xs i b le f = cut_from_end code xs i (omega arith)
cut_from code c find (suc fuel) xs i b le f =
    ⊎_elim
    (λ (lt : i < length xs).
    let n = piece_begins code c find xs i b lt in
    let start = n.start in
    let some = piece_some code c xs n.first.start n.first.len n.first.char n.is_piece in
    let rest = cut_from code c find fuel xs (end_of n.first) n.outside (omega arith) (omega arith) in
    let one : IsCutBetween code xs i (end_of n.first) (n.first ∷ []) = subst (λ p. IsCutBetween code xs p (end_of n.first) (n.first ∷ [])) n.start (cut_one code c xs n.first n.is_piece) in
    record {
      pieces = n.first ∷ rest.pieces;
      cut = cut_append code xs i (end_of n.first) (length xs) (n.first ∷ []) rest.pieces (omega arith) (omega arith) one rest.cut;
      follow = (n.start, rest.follow);
    })
    (λ (ge : length xs ≤ i). cut_from_end code xs i (omega arith))
    (cases_lt i (length xs))

whole_cut : (code : ℕ → List ℕ) → IsCode code → Finds code → (xs : List ℕ) → CutFrom code xs 0
whole_cut code c find xs = cut_from code c find (length xs) xs 0 (outside_front code xs) (omega arith) (omega arith)

pub cut_exists : (code : ℕ → List ℕ) → IsCode code → Finds code → CutExists code
cut_exists code c find xs = let w = whole_cut code c find xs in (w.pieces, w.cut)

pub cuts_follow : (code : ℕ → List ℕ) → IsCode code → Finds code → CutsFollow code
cuts_follow code c find xs ps h =
    let w = whole_cut code c find xs in
    rw (cut_unique code c xs 0 (length xs) ps w.pieces h w.cut) w.follow

piece_short : (code : ℕ → List ℕ) (m : ℕ) → ((s : ℕ) → length (code s) ≤ m) → 0 < m → (xs : List ℕ) (p n : ℕ) (a : Option ℕ) → IsPieceAt code xs p n a → n ≤ m
piece_short code m short some xs p n (Some s) h = let le = short s in omega (arith, h.1)
piece_short code m short some xs p n None h = omega (arith, h.1)

-- bounds of the number of pieces that follow each other from i to j, if no code is longer than m
record CountBounds (m i j count : ℕ) : Type 0 where
  pub ordered : i ≤ j
  pub most : i + count ≤ j
  pub least : j ≤ i + m * count

bounds_more : (m i j k count n : ℕ) → 0 < n → n ≤ m → k ≡ i + n → CountBounds m k j count → CountBounds m i j (suc count)
bounds_more m i j k count n some short e b =
    let ordered = b.ordered in
    let most = b.most in
    let least = b.least in
    let times : m * suc count ≡ m * count + m = mul-suc m count in
    record { ordered = omega arith; most = omega arith; least = omega arith }

pieces_count : (code : ℕ → List ℕ) → IsCode code → (m : ℕ) → ((s : ℕ) → length (code s) ≤ m) → 0 < m → (xs : List ℕ) (i j : ℕ) (ps : List Piece)
    → All (IsPiece code xs) ps → Follow i ps j → CountBounds m i j (length ps)
pieces_count code c m short positive xs i j [] a f = record { ordered = omega arith; most = omega arith; least = omega arith }
pieces_count code c m short positive xs i j (x ∷ ps) a f =
    let first = a 0 x (omega arith) in
    let some = piece_some code c xs x.start x.len x.char first in
    let le = piece_short code m short positive xs x.start x.len x.char first in
    let rest = pieces_count code c m short positive xs (end_of x) j ps (λ k d h. a (suc k) d (omega arith)) f.1 in
    let e : end_of x ≡ i + x.len = ap (λ p. p + x.len) f.0 in
    bounds_more m i j (end_of x) (length ps) x.len some.0 le e rest

-- a list has at most as many pieces as elements, and at least as many as codes of m elements fill it
pub count_of_cut : (code : ℕ → List ℕ) → IsCode code → Finds code → (m : ℕ) → ((s : ℕ) → length (code s) ≤ m) → 0 < m → (xs : List ℕ) (ps : List Piece) → IsCut code xs ps
    → (length ps ≤ length xs) × (length xs ≤ m * length ps)
count_of_cut code c find m short positive xs ps h =
    let b = pieces_count code c m short positive xs 0 (length xs) ps (λ k d lt. (h.pieces k d lt).0) (cuts_follow code c find xs ps h) in
    let most = b.most in
    let least = b.least in
    (omega arith, omega arith)
