-- The offsets of codes: at most one code is at an offset, and none begins inside another.
use Rattle.std.proofs.Common.{◌≡◌, ℕ, ◌+◌, ◌-◌, ◌<◌, ◌≤◌, List, [], ◌++◌, length, get_or, drop, arith, refl, ap, sym, ◌∙◌, ⊎_elim, length-append}
use Rattle.std.proofs.lemmas.Grind.{common_steps}
use Rattle.std.proofs.lemmas.List.{get_or-drop, get_or-take, drop-take, drop-drop, take-take, take_at, append-nil}
use Rattle.std.proofs.lemmas.Bool.{cases_lt}
use Rattle.std.specs.Prelude.{slice_range}
use Rattle.utf_base.specs.Scalar.{IsScalar}
use Rattle.utf_base.specs.Code.{IsCode}
use Rattle.utf_base.specs.Front.{IsOneCode}
use Rattle.utf_base.specs.Piece.{Stands, Inside}
use Rattle.utf_base.specs.CutLaws.{CodesNeverOverlap}

-- an element of a standing code is the list's
pub Stands-at : (code : ℕ → List ℕ) (xs : List ℕ) (p s k j : ℕ) → p + k ≡ j → Stands code xs p s → k < length (code s)
    → get_or xs j 0 ≡ get_or (code s) k 0
Stands-at code xs p s k j e h q =
    let lt : k < p + length (code s) - p = omega arith in
    ap (λ i. get_or xs i 0) (sym e)
    ∙ sym (get_or-drop p xs k 0)
    ∙ sym (get_or-take (p + length (code s) - p) (drop p xs) k 0 lt)
    ∙ ap (λ l. get_or l k 0) h.equal

-- no standing code begins inside another
pub not_inside : (code : ℕ → List ℕ) → IsCode code → (xs : List ℕ) (p s : ℕ) → Stands code xs p s → Inside code xs p → ⊥
not_inside code c xs p s h i =
    let first = Stands-at code xs p s 0 p (omega arith) h (c.some s h.scalar) in
    let inner = Stands-at code xs i.from i.char (p - i.from) p (omega arith) i.stands (omega arith) in
    c.apart i.char s (p - i.from) i.stands.scalar h.scalar (omega arith) (omega arith) (sym inner ∙ first)

-- at most one code is at an offset
pub same_char : (code : ℕ → List ℕ) → IsCode code → (xs : List ℕ) (p s t : ℕ) → Stands code xs p s → Stands code xs p t → s ≡ t
same_char code c xs p s t h g =
    let of_s = Stands-at code xs p s 0 p (omega arith) h (c.some s h.scalar) in
    let of_t = Stands-at code xs p t 0 p (omega arith) g (c.some t g.scalar) in
    let len : length (code s) ≡ length (code t) = c.sized s t h.scalar g.scalar (sym of_s ∙ of_t) in
    c.injective s t h.scalar g.scalar (sym h.equal ∙ ap (λ n. slice_range xs p (p + n)) len ∙ g.equal)

pub codes_never_overlap : (code : ℕ → List ℕ) → IsCode code → CodesNeverOverlap code
codes_never_overlap code c xs p q s t h g = (
  λ e. same_char code c xs q s t (rw e at h) g,
  λ lt.
      ⊎_elim
      (λ (over : q < p + length (code s)). absurd (not_inside code c xs q t g (record { from = p; char = s; stands = h; begins = lt; ends = over })))
      (λ (fits : p + length (code s) ≤ q). fits)
      (cases_lt q (p + length (code s))),
)

-- the end of a standing code lies inside none
pub outside_after : (code : ℕ → List ℕ) → IsCode code → (xs : List ℕ) (p s : ℕ) → Stands code xs p s → Inside code xs (p + length (code s)) → ⊥
outside_after code c xs p s h i =
    let some = c.some s h.scalar in
    let first = (codes_never_overlap code c xs p i.from s i.char h i.stands).1 in
    let last = (codes_never_overlap code c xs i.from p i.char s i.stands h).1 in
    let same : p ≡ i.from → length (code s) ≡ length (code i.char) = λ e. ap (λ n. length (code n)) ((codes_never_overlap code c xs p i.from s i.char h i.stands).0 e) in
    grind arith

-- no code covers the end of a list
pub outside_end : (code : ℕ → List ℕ) (xs : List ℕ) → Inside code xs (length xs) → ⊥
outside_end code xs i = let within = i.stands.within in let ends = i.ends in omega arith

-- no code covers the front of a list
pub outside_front : (code : ℕ → List ℕ) (xs : List ℕ) → Inside code xs 0 → ⊥
outside_front code xs i = let begins = i.begins in omega arith

-- a part of a part
range_of_range : (xs : List ℕ) (i j p n : ℕ) → i + (p + n) ≤ j → slice_range (slice_range xs i j) p (p + n) ≡ slice_range xs (i + p) (i + p + n)
range_of_range xs i j p n h =
    let m : j - i ≡ p + (j - i - p) = omega arith in
    let of_part : p + n - p ≡ n = omega arith in
    let of_whole : i + p + n - (i + p) ≡ n = omega arith in
    let le : n ≤ j - i - p = omega arith in
    rw (of_part, of_whole, m, drop-take, drop-drop) (take-take n (j - i - p) (drop (i + p) xs) le)

-- a code in a list is in a part of it that holds all of the code
pub stands_in_part : (code : ℕ → List ℕ) (xs : List ℕ) (i j p q s : ℕ) → i + p ≡ q → j ≤ length xs → Stands code xs q s → q + length (code s) ≤ j
    → Stands code (slice_range xs i j) p s
stands_in_part code xs i j p q s e le h fits = record {
  scalar = h.scalar;
  within = grind (arith, common_steps);
  equal = range_of_range xs i j p (length (code s)) (omega arith) ∙ ap (λ k. slice_range xs k (k + length (code s))) e ∙ h.equal;
}

-- a code in a part of a list is in the list, and ends in the part
pub stands_in_whole : (code : ℕ → List ℕ) (xs : List ℕ) (i j p q s : ℕ) → i + p ≡ q → i ≤ j → j ≤ length xs → Stands code (slice_range xs i j) p s
    → Stands code xs q s × (q + length (code s) ≤ j)
stands_in_whole code xs i j p q s e lo le h =
    let len : length (slice_range xs i j) ≡ j - i = grind (arith, common_steps) in
    let w = h.within in (
      record {
        scalar = h.scalar;
        within = omega arith;
        equal = ap (λ k. slice_range xs k (k + length (code s))) (sym e) ∙ sym (range_of_range xs i j p (length (code s)) (omega arith)) ∙ h.equal;
      },
      omega arith,
    )

-- a code is at the front of a list that begins with it
pub stands_first : (code : ℕ → List ℕ) (xs ys : List ℕ) (s : ℕ) → IsScalar s → xs ≡ code s ++ ys → Stands code xs 0 s
stands_first code xs ys s h e =
    let span : 0 + length (code s) - 0 ≡ length (code s) = omega arith in
    record {
      scalar = h;
      within = rw e (omega (arith, length-append (code s) ys));
      equal = rw e (rw span (take_at (code s) ys _ refl));
    }

-- a code is at the front of itself
pub stands_alone : (code : ℕ → List ℕ) (xs : List ℕ) → (h : IsOneCode code xs) → Stands code xs 0 h.0
stands_alone code xs h = stands_first code xs [] h.0 h.1 (h.2 ∙ sym (append-nil (code h.0)))
