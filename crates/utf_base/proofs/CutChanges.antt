-- Parts of a cut, and how they change if some elements of the list change.
use Rattle.std.proofs.Common.{◌≡◌, ℕ, ◌+◌, ◌-◌, ◌<◌, ◌≤◌, List, length, get_or, take, drop, map, arith, ap, subst, ◌∙◌, ⊎_elim, Some, None, Option, length-take, length-drop}
use Rattle.std.proofs.lemmas.Bool.{cases_lt}
use Rattle.std.proofs.lemmas.List.{get_or-take, get_or-drop, get_or-map, length-map}
use Rattle.std.specs.List.{AllWithin}
use Rattle.std.specs.Prelude.{◌↔◌, All}
use Rattle.utf_base.specs.Code.{IsCode}
use Rattle.utf_base.specs.Piece.{Inside, Piece, IsPieceAt, IsPiece, IsCutBetween}
use Rattle.utf_base.proofs.Cuts.{piece_some}
use Rattle.utf_base.proofs.Standing.{outside_after}

-- the end of a piece lies inside no standing code
pub piece_ends_outside : (code : ℕ → List ℕ) → IsCode code → (xs : List ℕ) (p n : ℕ) (char : Option ℕ) → IsPieceAt code xs p n char → Inside code xs (p + n) → ⊥
piece_ends_outside code c xs p n (Some s) h i = outside_after code c xs p s h.0 (rw h.1 at i)
piece_ends_outside code c xs p n None h i =
    let begins = i.begins in
    let ends = i.ends in
    h.2 (record { from = i.from; char = i.char; stands = i.stands; begins = omega (arith, h.1); ends = omega (arith, h.1) })

-- The k pieces before an offset, and those from it on.
pub record IsParted (m k : ℕ) (ps : List Piece) : Type 0 where
  pub within : k ≤ length ps
  pub before : AllWithin (λ x. x.start < m) ps 0 k
  pub following : AllWithin (λ x. m ≤ x.start) ps k (length ps)

pub cut_before : (code : ℕ → List ℕ) (xs : List ℕ) (i m j k : ℕ) (ps : List Piece) → m ≤ j → IsParted m k ps → IsCutBetween code xs i j ps → IsCutBetween code xs i m (take k ps)
cut_before code xs i m j k ps le p a =
    let len = length-take k ps in
    record {
      pieces = λ n d lt.
          let first : n < k = omega arith in
          let w = a.pieces n d (omega arith) in
          rw (get_or-take k ps n d first) (w.0, w.1, p.before n d (omega arith) first);
      all = λ x h lo hi.
          let w = a.all x h lo (omega arith) in
          let start = ap (λ z. z.start) w.2 in
          ⊎_elim
          (λ (first : w.0 < k). (w.0, omega arith, get_or-take k ps w.0 x first ∙ w.2))
          (λ (later : k ≤ w.0). let b = p.following w.0 x later w.1 in absurd (omega arith))
          (cases_lt w.0 k);
      in_order = λ n o d lt h.
          let last : o < k = omega arith in
          let first : n < k = omega arith in
          rw (get_or-take k ps n d first, get_or-take k ps o d last) (a.in_order n o d lt (omega arith));
    }

pub cut_from_place : (code : ℕ → List ℕ) (xs : List ℕ) (i m j k : ℕ) (ps : List Piece) → i ≤ m → IsParted m k ps → IsCutBetween code xs i j ps → IsCutBetween code xs m j (drop k ps)
cut_from_place code xs i m j k ps le p a =
    let len = length-drop k ps in
    record {
      pieces = λ n d lt.
          let w = a.pieces (k + n) d (omega arith) in
          rw (get_or-drop k ps n d) (w.0, p.following (k + n) d (omega arith) (omega arith), w.2);
      all = λ x h lo hi.
          let w = a.all x h (omega arith) hi in
          let start = ap (λ z. z.start) w.2 in
          ⊎_elim
          (λ (first : w.0 < k). let b = p.before w.0 x (omega arith) first in absurd (omega arith))
          (λ (later : k ≤ w.0).
          let e : k + (w.0 - k) ≡ w.0 = omega arith in
          (w.0 - k, omega arith, get_or-drop k ps (w.0 - k) x ∙ (ap (λ n. get_or ps n x) e ∙ w.2)))
          (cases_lt w.0 k);
      in_order = λ n o d lt h. rw (get_or-drop k ps n d, get_or-drop k ps o d) (a.in_order (k + n) (k + o) d (omega arith) (omega arith));
    }

-- Other ends of a cut.

-- an offset further in front, if no piece begins in between
pub cut_from_before : (code : ℕ → List ℕ) (xs : List ℕ) (i k j : ℕ) (ps : List Piece) → i ≤ k → ((x : Piece) → IsPiece code xs x → i ≤ x.start → x.start < k → ⊥)
    → IsCutBetween code xs k j ps → IsCutBetween code xs i j ps
cut_from_before code xs i k j ps le none a = record {
  pieces = λ n d h. let w = a.pieces n d h in (w.0, omega arith, w.2);
  all = λ x h lo hi. ⊎_elim (λ (before : x.start < k). absurd (none x h lo before)) (λ (from : k ≤ x.start). a.all x h from hi) (cases_lt x.start k);
  in_order = a.in_order;
}

-- an offset before which its pieces begin, if none begins in between
pub cut_up_to : (code : ℕ → List ℕ) (xs : List ℕ) (i k j : ℕ) (ps : List Piece) → All (λ x. x.start < j) ps → ((x : Piece) → IsPiece code xs x → k ≤ x.start → x.start < j → ⊥)
    → IsCutBetween code xs i k ps → IsCutBetween code xs i j ps
cut_up_to code xs i k j ps before none a = record {
  pieces = λ n d h. let w = a.pieces n d h in (w.0, w.1, before n d h);
  all = λ x h lo hi. ⊎_elim (λ (first : x.start < k). a.all x h lo first) (λ (later : k ≤ x.start). absurd (none x h later hi)) (cases_lt x.start k);
  in_order = a.in_order;
}

-- the end of the list for an offset after it
pub cut_to_end : (code : ℕ → List ℕ) → IsCode code → (xs : List ℕ) (i j : ℕ) (ps : List Piece) → length xs ≤ j → IsCutBetween code xs i j ps → IsCutBetween code xs i (length xs) ps
cut_to_end code c xs i j ps le a =
    cut_up_to code xs i j (length xs) ps
    (λ n d h. let x = get_or ps n d in let some = piece_some code c xs x.start x.len x.char (a.pieces n d h).0 in omega arith)
    (λ x h lo hi. omega arith) a

-- The pieces before a change, and those after it.

pub cut_stays : (code : ℕ → List ℕ) (xs ys : List ℕ) (i j : ℕ) (ps : List Piece) → ((p : ℕ) → p < j → (n : ℕ) (char : Option ℕ) → IsPieceAt code xs p n char ↔ IsPieceAt code ys p n char)
    → IsCutBetween code xs i j ps → IsCutBetween code ys i j ps
cut_stays code xs ys i j ps same a = record {
  pieces = λ n d h. let w = a.pieces n d h in let x = get_or ps n d in ((same x.start w.2 x.len x.char).0 w.0, w.1, w.2);
  all = λ x h lo hi. a.all x ((same x.start hi x.len x.char).1 h) lo hi;
  in_order = a.in_order;
}

-- a piece whose offset is moved from a to b
abbrev pub moved : ℕ → ℕ → Piece → Piece
moved a b x = record x { start = b + (x.start - a) }

moved_piece : (code : ℕ → List ℕ) (xs ys : List ℕ) (a b i p n : ℕ) (char : Option ℕ)
    → ((p : ℕ) → i ≤ p → (n : ℕ) (char : Option ℕ) → IsPieceAt code xs (a + p) n char ↔ IsPieceAt code ys (b + p) n char)
    → a + i ≤ p → IsPieceAt code xs p n char → IsPieceAt code ys (b + (p - a)) n char
moved_piece code xs ys a b i p n char same le h =
    let e : p ≡ a + (p - a) = omega arith in
    (same (p - a) (omega arith) n char).0 (subst (λ q. IsPieceAt code xs q n char) e h)

pub cut_moves : (code : ℕ → List ℕ) → IsCode code → (xs ys : List ℕ) (a b i j : ℕ) (ps : List Piece)
    → ((p : ℕ) → i ≤ p → (n : ℕ) (char : Option ℕ) → IsPieceAt code xs (a + p) n char ↔ IsPieceAt code ys (b + p) n char)
    → length ys ≤ j → IsCutBetween code xs (a + i) (length xs) ps → IsCutBetween code ys (b + i) j (map (moved a b) ps)
cut_moves code c xs ys a b i j ps same le cut =
    let len = length-map ps (moved a b) in
    record {
      pieces = λ n d lt.
          let within : n < length ps = omega arith in
          let w = cut.pieces n d within in
          let x = get_or ps n d in
          let h = moved_piece code xs ys a b i x.start x.len x.char same w.1 w.0 in
          let some = piece_some code c ys (b + (x.start - a)) x.len x.char h in
          rw (get_or-map (moved a b) ps n d d within) (h, omega arith, omega arith);
      all = λ x h lo hi.
          let flip : (p : ℕ) → i ≤ p → (n : ℕ) (char : Option ℕ) → IsPieceAt code ys (b + p) n char ↔ IsPieceAt code xs (a + p) n char
          = λ p q n char. let s = same p q n char in (s.1, s.0) in
          let g = moved_piece code ys xs b a i x.start x.len x.char flip lo h in
          let some = piece_some code c xs (a + (x.start - b)) x.len x.char g in
          let w = cut.all (moved b a x) g (omega arith) (omega arith) in
          let back : b + (a + (x.start - b) - a) ≡ x.start = omega arith in
          (w.0, omega arith, get_or-map (moved a b) ps w.0 (moved b a x) x w.1 ∙ (ap (moved a b) w.2 ∙ ap (λ p. record x { start = p }) back));
      in_order = λ n o d lt h.
          let last : o < length ps = omega arith in
          let first : n < length ps = omega arith in
          let order = cut.in_order n o d lt last in
          let of_first = (cut.pieces n d first).1 in
          rw (get_or-map (moved a b) ps n d d first, get_or-map (moved a b) ps o d d last) (omega arith);
    }
