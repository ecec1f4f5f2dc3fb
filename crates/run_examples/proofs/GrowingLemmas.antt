-- Pieces of a text to whose end bytes are added.
use Rattle.std.proofs.Common.{◌≡◌, ℕ, ◌+◌, ◌-◌, ◌≤◌, ◌<◌, ◌⊎◌, inl, inr, ⊎_elim, List, ◌++◌, length, take, drop, min, arith, refl, ap, ap₂, sym, ◌∙◌, length-drop}
use Rattle.std.proofs.lemmas.Bool.{cases_lt}
use Rattle.std.proofs.lemmas.List.{drop-take, length-take-le, take_all, take-append-le}
use Rattle.std.specs.List.{splice}
use Rattle.std.specs.Prelude.{slice_range}
use Rattle.encode_unicode.specs.Code.{utf8}
use Rattle.encode_unicode.specs.Piece.{Inside}
use Rattle.encode_unicode.specs.Pieces.{pieces}
use Rattle.encode_unicode.specs.Window.{Item}
use Rattle.cuts.specs.declared.buffers.changes.Change.{Change}
use Rattle.cuts.specs.declared.buffers.counts.Counts.{Counts}
use Rattle.cuts.specs.Changes.{IsChange}
use Rattle.cuts.specs.Tables.{IsSplitAt}
use Rattle.cuts.proofs.SplitNumbers.{bytes_counted, bytes_split}
use Rattle.cuts.proofs.SplicedPlaces.{stays_outside_before}
use Rattle.cuts.proofs.TableRuns.{splits_in_order}

-- The number of an offset between two pieces.
number_at : (xs : List ℕ) (p k : ℕ) → p ≤ length xs → (Inside utf8 xs p → ⊥) → IsSplitAt (pieces xs) p k → k ≡ length (pieces (take p xs))
number_at xs p k le out split =
    let other : IsSplitAt (pieces xs) p (length (pieces (take p xs))) = bytes_split xs p le out p (inl (omega arith)) (λ n lo hi. absurd (omega arith)) in
    let few : k ≤ length (pieces (take p xs)) = splits_in_order (pieces xs) p p k (length (pieces (take p xs))) (omega arith) split other in
    let many : length (pieces (take p xs)) ≤ k = splits_in_order (pieces xs) p p (length (pieces (take p xs))) k (omega arith) other split in
    omega arith

-- If bytes are added at the end, all pieces from the number of the change on are new.
pub all_came : (xs ys new : List ℕ) (c : Change) → ys ≡ splice xs (length xs) (length xs) new → IsChange xs ys (length xs) (length xs) c
    → length (pieces ys) ≡ c.number + c.come.pieces
all_came xs ys new c is change =
    let p = c.offset in
    let window = change.window in
    let before : p ≤ length xs - 3 = window.begins.before in
    let within : p + c.gone.bytes ≤ length xs = window.ends.between.within in
    let reached : min (length xs) (length xs + 3) ≤ p + c.gone.bytes = window.ends.after in
    let long = window.long in
    let near : (p ≡ 0) ⊎ (p + 3 ≤ length xs) = ⊎_elim (λ (short : length xs < 3). inl (omega arith)) (λ (far : 3 ≤ length xs). inr (omega arith)) (cases_lt (length xs) 3) in
    let out : Inside utf8 ys p → ⊥
    = λ i. stays_outside_before xs new (length xs) (length xs) (omega arith) (omega arith) p near window.begins.between.outside (rw is at i) in
    let all : drop p ys ≡ slice_range ys p (p + c.come.bytes) = sym (take_all (p + c.come.bytes - p) (drop p ys) (omega (arith, length-drop p ys))) in
    let front : take p ys ≡ take p xs
    = ap (take p) is ∙ (take-append-le p (take (length xs) xs) (new ++ drop (length xs) xs) (omega (arith, length-take-le (length xs) xs (omega arith))) ∙ ap (take p) (take_all (length xs) xs (omega arith))) in
    let number : c.number ≡ length (pieces (take p xs)) = number_at xs p c.number (omega arith) window.begins.between.outside change.number in
    bytes_counted ys p (omega arith) out
    ∙ ap₂ (λ m n. m + n) (ap (λ zs. length (pieces zs)) front ∙ sym number) (ap (λ zs. length (pieces zs)) all ∙ sym (ap (λ (k : Counts). k.pieces) window.came))

-- The scalars of a front that stays.
pub shown_stay : (olds news : List Item) (first n : ℕ) → take n news ≡ take n olds → take (n - first) (drop (min first n) news) ≡ take (n - first) (drop first olds)
shown_stay olds news first n same =
    ⊎_elim
    (λ (none : n < first).
    let zero : n - first ≡ 0 = omega arith in
    rw zero refl)
    (λ (some : first ≤ n).
    let least : min first n ≡ first = omega arith in
    let whole : first + (n - first) ≡ n = omega arith in
    rw least (sym (drop-take first (n - first) news) ∙ (ap (λ k. drop first (take k news)) whole ∙ (ap (drop first) same ∙ (ap (λ k. drop first (take k olds)) (sym whole) ∙ drop-take first (n - first) olds)))))
    (cases_lt n first)
