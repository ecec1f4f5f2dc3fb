-- A front of a list and the next part of it are a longer front.
use Rattle.std.proofs.Common.{◌≡◌, ℕ, ◌+◌, ◌-◌, ◌≤◌, List, ◌++◌, take, drop, sym, ap, ◌∙◌, subst, arith, length}
use Rattle.std.specs.Prelude.{Option}
use Rattle.std.proofs.lemmas.Grind.{common_steps}
use Rattle.std.specs.Io.KnownBytes.{Appends}
use Rattle.std.proofs.KnownBytes.{Appends-trans}
use Rattle.std.proofs.lemmas.List.{take-append-drop, drop-take, take-take}

-- the front of a + n elements is the front of a, and then n more
pub take_plus : (a n : ℕ) (xs : List ℕ) → take (a + n) xs ≡ take a xs ++ take n (drop a xs)
take_plus a n xs =
    let whole = take-append-drop a (take (a + n) xs) in
    let front : take a (take (a + n) xs) ≡ take a xs = grind (arith, take-take) in
    sym whole ∙ (ap (λ ys. ys ++ drop a (take (a + n) xs)) front ∙ ap (λ ys. take a xs ++ ys) (drop-take a n xs))

-- what was sent grows by the front of `&xs[a..]`
pub sent_more : (old mid new : Option (List ℕ)) (xs : List ℕ) (a n : ℕ)
    → Appends old mid (take a xs) → Appends mid new (take n (take (length xs - a) (drop a xs)))
    → Appends old new (take (a + n) xs)
sent_more old mid new xs a n first then =
    let whole : take (length xs - a) (drop a xs) ≡ drop a xs = grind (arith, common_steps) in
    subst (λ ys. Appends old new ys) (ap (λ ys. take a xs ++ take n ys) whole ∙ sym (take_plus a n xs))
    (Appends-trans old mid new (take a xs) (take n (take (length xs - a) (drop a xs))) first then)

-- the list after a write of ys from a on keeps its front, and then has a front of ys
pub take_past : (xs ys zs : List ℕ) (a n : ℕ) → a ≤ length xs → n ≤ length ys
    → take (a + n) (take a xs ++ (ys ++ zs)) ≡ take a xs ++ take n ys
take_past xs ys zs a n within short = grind (arith, common_steps, take_plus)
