-- Pieces whose offsets are moved by a constant, and those that stay if a text is edited.
use Rattle.std.proofs.Common.{◌≡◌, ℕ, ◌+◌, ◌-◌, ◌<◌, ◌≤◌, arith, ap, subst, sym, ◌∙◌, length, length-take, take, ⊎_elim}
use Rattle.std.proofs.lemmas.Bool.{cases_lt}
use Rattle.std.proofs.lemmas.List.{take-take, take_all}
use Rattle.std.specs.Prelude.{◌↔◌, Contains, List}
use Rattle.encode_unicode.specs.Window.{Item}
use Rattle.cuts.specs.Tables.{StayAround, moved_item}

-- the items that stay after a change, found among the items of the new text
pub stays_after : (items others : List Item) (s e t : ℕ) → StayAround items others s e t → (x : Item) → t + 3 ≤ x.0
    → Contains others x ↔ Contains items (moved_item t e x)
stays_after items others s e t around x le =
    let place : t + (e + (x.0 - t) - e) ≡ x.0 = omega arith in
    let both = (around (moved_item t e x)).1 (omega arith) in
    let back : moved_item e t (moved_item t e x) ≡ x = ap (λ p. (p, x.1, x.2)) place in
    let same = subst (λ y. Contains items (moved_item t e x) ↔ Contains others y) back both in
    (same.1, same.0)

-- As many elements of a front are kept as another list has in common with it.
pub kept_front : {X : Type 0} (kept now was is : List X) (n : ℕ) → kept ≡ take (length kept) was → now ≡ take n kept → take n is ≡ take n was → now ≡ take (length now) is
kept_front kept now was is n of_kept cut same =
    let len : length now ≡ length (take n kept) = ap length cut in
    let most = length-take n kept in
    let first : now ≡ take (length now) was =
    ⊎_elim
    (λ (short : n < length kept).
    let count : length now ≡ n = omega arith in
    rw count (cut ∙ (ap (take n) of_kept ∙ take-take n (length kept) was (omega arith))))
    (λ (all : length kept ≤ n).
    let e : now ≡ kept = cut ∙ take_all n kept all in
    e ∙ (of_kept ∙ ap (λ k. take k was) (sym (ap length e))))
    (cases_lt n (length kept)) in
    first ∙ (sym (take-take (length now) n was (omega arith)) ∙ (ap (take (length now)) (sym same) ∙ take-take (length now) n is (omega arith)))
