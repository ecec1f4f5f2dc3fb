-- Parts of lists, and the piece that begins bytes that others follow.
use Rattle.std.proofs.Common.{◌≡◌, ℕ, ◌+◌, ◌-◌, ◌≤◌, List, ◌++◌, take, drop, arith, ap, ap₂, sym, ◌∙◌, append_assoc, length-append, take-append-drop}
use Rattle.std.proofs.lemmas.List.{drop-take, take-take, drop-append-le}
use Rattle.recoding.specs.NextScalars.{Decides}

pub cut_part : (n m : ℕ) (xs : List ℕ) → n ≤ m → take (m - n) (drop n xs) ≡ drop n (take m xs)
cut_part n m xs le =
    let whole : n + (m - n) ≡ m = omega arith in
    rw whole at (sym (drop-take n (m - n) xs))

-- a slice is one of the front
pub cut_front : (n end len : ℕ) (xs : List ℕ) → n ≤ len → end ≤ len → take (end - n) (drop n xs) ≡ take (end - n) (drop n (take len xs))
cut_front n end len xs le within = sym (take-take (end - n) (len - n) (drop n xs) (omega arith)) ∙ ap (take (end - n)) (cut_part n len xs le)

pub take_more : (n m : ℕ) (xs : List ℕ) → take n xs ++ take m (drop n xs) ≡ take (n + m) xs
take_more n m xs = sym (ap₂ (λ ys zs. ys ++ zs) (take-take n (n + m) xs (omega arith)) (drop-take n m xs)) ∙ take-append-drop n (take (n + m) xs)

-- what some bytes decide is decided whatever follows them
pub Decides-more : (reads : List ℕ → List ℕ → Type 0) (w x : List ℕ) (s n : ℕ) → Decides reads w s n → Decides reads (w ++ x) s n
Decides-more reads w x s n d =
    let within = d.within in
    record {
      some = d.some;
      within = omega (arith, length-append w x);
      scalar = d.scalar;
      wide = d.wide;
      first = λ later ss h.
          let e : drop n (w ++ x) ++ later ≡ drop n w ++ (x ++ later) = ap (λ xs. xs ++ later) (drop-append-le n w x within) ∙ append_assoc (drop n w) x later in
          rw (sym (append_assoc w x later)) at (d.first (x ++ later) ss (rw e at h));
    }
