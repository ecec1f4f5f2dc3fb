-- The code that ends a list: there is at most one, and it is in each list of which that one is a part.
use Rattle.std.proofs.Common.{◌≡◌, ℕ, ◌+◌, ◌-◌, ◌≤◌, List, length, arith, refl, ap, sym, ◌∙◌}
use Rattle.std.proofs.lemmas.Grind.{common_steps}
use Rattle.std.specs.Prelude.{slice_range}
use Rattle.utf_base.specs.Code.{IsCode}
use Rattle.utf_base.specs.CutLaws.{OneCodeEnds}
use Rattle.utf_base.specs.Ends.{EndsWith, NoCodeEnds}
use Rattle.utf_base.specs.Front.{BeginsWith, IsFrontLen}
use Rattle.utf_base.specs.Piece.{Stands}
use Rattle.utf_base.proofs.Standing.{codes_never_overlap, stands_in_part, stands_in_whole}

-- a code whose end is the end of the list ends the list
pub ends_with : (code : ℕ → List ℕ) (xs : List ℕ) (p s : ℕ) → Stands code xs p s → p + length (code s) ≡ length xs → EndsWith code xs s (length (code s))
ends_with code xs p s h e =
    let place : p ≡ length xs - length (code s) = omega arith in
    (rw place at h, refl)

-- the offset of the code that ends a list
pub ends_at : (code : ℕ → List ℕ) (xs : List ℕ) (s n : ℕ) → EndsWith code xs s n → length xs - n + length (code s) ≡ length xs
ends_at code xs s n h = let within = h.0.within in let len = h.1 in omega arith

-- a code ends a list if and only if it begins the last elements, as many as it has

pub ends_by_last : (code : ℕ → List ℕ) (xs : List ℕ) (s n : ℕ) → BeginsWith code (slice_range xs (length xs - n) (length xs)) s n → EndsWith code xs s n
ends_by_last code xs s n h =
    let whole = stands_in_whole code xs (length xs - n) (length xs) 0 (length xs - n) s (omega arith) (omega arith) (omega arith) h.0 in
    (whole.0, h.1)

pub last_of_end : (code : ℕ → List ℕ) (xs : List ℕ) (s n : ℕ) → EndsWith code xs s n → BeginsWith code (slice_range xs (length xs - n) (length xs)) s n
last_of_end code xs s n h =
    (stands_in_part code xs (length xs - n) (length xs) 0 (length xs - n) s (omega arith) (omega arith) h.0 (omega arith), h.1)

-- no code ends a list without an element
pub no_code_ends-empty : (code : ℕ → List ℕ) → IsCode code → (xs : List ℕ) → length xs ≡ 0 → NoCodeEnds code xs
no_code_ends-empty code c xs e s n h = let some = c.some s h.0.scalar in let within = h.0.within in omega arith

pub one_code_ends : (code : ℕ → List ℕ) → IsCode code → OneCodeEnds code
one_code_ends code c xs s t n m h g =
    let some_s = c.some s h.0.scalar in
    let some_t = c.some t g.0.scalar in
    let end_s = ends_at code xs s n h in
    let end_t = ends_at code xs t m g in
    let first = (codes_never_overlap code c xs (length xs - n) (length xs - m) s t h.0 g.0).1 in
    let last = (codes_never_overlap code c xs (length xs - m) (length xs - n) t s g.0 h.0).1 in
    let same_place : length xs - n ≡ length xs - m = grind arith in
    let same : s ≡ t = (codes_never_overlap code c xs (length xs - n) (length xs - m) s t h.0 g.0).0 same_place in
    (same, h.1 ∙ ap (λ x. length (code x)) same ∙ sym g.1)

-- A code ends a part of a list if and only if it is in the list and ends at the part's end.

pub ends_in_part : (code : ℕ → List ℕ) (xs : List ℕ) (i j p s : ℕ) → i ≤ p → j ≤ length xs → Stands code xs p s → p + length (code s) ≡ j
    → EndsWith code (slice_range xs i j) s (length (code s))
ends_in_part code xs i j p s lo le h e =
    let len : length (slice_range xs i j) ≡ j - i = grind (arith, common_steps) in
    ends_with code (slice_range xs i j) (p - i) s (stands_in_part code xs i j (p - i) p s (omega arith) le h (omega arith)) (omega arith)

pub ends_in_whole : (code : ℕ → List ℕ) (xs : List ℕ) (i j s n : ℕ) → i ≤ j → j ≤ length xs → EndsWith code (slice_range xs i j) s n
    → Stands code xs (j - n) s × (n ≡ length (code s)) × (i + n ≤ j)
ends_in_whole code xs i j s n lo le h =
    let len : length (slice_range xs i j) ≡ j - i = grind (arith, common_steps) in
    let end = ends_at code (slice_range xs i j) s n h in
    let w = stands_in_whole code xs i j (length (slice_range xs i j) - n) (j - n) s (omega arith) lo le h.0 in
    (w.0, h.1, omega arith)

-- The lengths of codes, if none is longer than m.

pub front_len : (code : ℕ → List ℕ) (m : ℕ) → IsCode code → ((s : ℕ) → length (code s) ≤ m) → (w : List ℕ) (s n : ℕ) → BeginsWith code w s n → IsFrontLen m w n
front_len code m c short w s n h =
    let some = c.some s h.0.scalar in
    let most = short s in
    (omega arith, omega arith, omega arith)

pub end_len : (code : ℕ → List ℕ) (m : ℕ) → IsCode code → ((s : ℕ) → length (code s) ≤ m) → (w : List ℕ) (s n : ℕ) → EndsWith code w s n → IsFrontLen m w n
end_len code m c short w s n h =
    let some = c.some s h.0.scalar in
    let most = short s in
    (omega arith, omega arith, omega arith)
