-- Known bytes that grow by a front of a list.
use Rattle.std.proofs.Common.{◌≡◌, ℕ, ◌+◌, ◌≤◌, List, ◌++◌, Option, length, take, refl, sym, ◌∙◌, subst, arith, ⊎_elim}
use Rattle.std.proofs.lemmas.Bool.{cases_lt}
use Rattle.std.proofs.lemmas.List.{take-append-le}
use Rattle.std.proofs.lemmas.Grind.{common_steps}
use Rattle.std.proofs.Math.Seq.{take-append-add, take-length}
use Rattle.std.specs.Io.KnownBytes.{Appends}
use Rattle.std.proofs.KnownBytes.{Appends-nil, Appends-trans}
use Rattle.text_runs.specs.Failures.{AppendsFront}

-- nothing is a front
pub AppendsFront-none : (held : Option (List ℕ)) (xs : List ℕ) → AppendsFront held held xs
AppendsFront-none held xs = (0, Appends-nil held)

-- the whole is a front
pub AppendsFront-all : (old new : Option (List ℕ)) (xs : List ℕ) → Appends old new xs → AppendsFront old new xs
AppendsFront-all old new xs h = (length xs, rw take-length h)

-- a front may be taken to be no longer than the list
front_within : (n : ℕ) (xs : List ℕ) → (m : ℕ) × (m ≤ length xs) × (take m xs ≡ take n xs)
front_within n xs =
    ⊎_elim
    (λ lt. (n, omega arith, refl))
    (λ (long : length xs ≤ n). (length xs, omega arith, grind (arith, common_steps)))
    (cases_lt n (length xs))

-- a front of a list is one of a longer list
pub AppendsFront-first : (old new : Option (List ℕ)) (xs ys : List ℕ) → AppendsFront old new xs → AppendsFront old new (xs ++ ys)
AppendsFront-first old new xs ys h =
    let within = front_within h.0 xs in
    (within.0, subst (λ zs. Appends old new zs) (sym within.2 ∙ sym (take-append-le within.0 xs ys within.1)) h.1)

-- the whole of a list, and then a front of another
pub AppendsFront-then : (old mid new : Option (List ℕ)) (xs ys : List ℕ) → Appends old mid xs → AppendsFront mid new ys → AppendsFront old new (xs ++ ys)
AppendsFront-then old mid new xs ys first h =
    (length xs + h.0, subst (λ zs. Appends old new zs) (sym (take-append-add xs ys h.0)) (Appends-trans old mid new xs (take h.0 ys) first h.1))
