-- The list that a run gives is the one that determines the results of `all`, `any`, `find`, `position`, `last`, `nth`
-- and `take`.
use Rattle.std.proofs.Common.{◌≡◌, ℕ, zero, suc, ◌-◌, ◌<◌, ◌≤◌, Bool, true, false, List, [], ◌∷◌, length, get_or, reverse, Option, Some, None, take, take_all, ⊎_elim, refl, ap, sym, subst, ◌∙◌, arith}
use Rattle.std.specs.List.{find, last_or, list_all, list_any, prefix_len}
use Rattle.std.specs.Prelude.{IfSome, IsSomeAnd, slice_get}
use Rattle.std.specs.Iterator.Runs.{Run, ItemsAre, ItemsAreReversed, AllItems, AllItemsBelow, AnyItem}
use Rattle.std.proofs.iter.runs.Lists.{Everywhere, none-some, same_Some, nth_last, nth_read, slice_get_within}
use Rattle.std.proofs.iter.runs.Made.{at-is, each_of}
use Rattle.std.proofs.lemmas.Bool.{cases_lt}
use Rattle.std.proofs.lemmas.Grind.{common_steps}
use Rattle.std.proofs.lemmas.List.{get_or-reverse, length-reverse}
use Rattle.encode_unicode.specs.RunTests.{Tells, TellsAll, TellsAny, TellsFind, TellsPlace, TellsLast, TellsNth, TellsTake}

module _ {A : Type 0} (test : A → Bool) where
  all_pass : (xs : List A) → Everywhere xs (λ x. test x ≡ true) → list_all test xs ≡ true
  all_pass [] h = refl
  all_pass (x ∷ xs) h = rw (h 0, all_pass xs (λ k. h (suc k))) refl

  one_fails : (xs : List A) (k : ℕ) (x : A) → slice_get xs k ≡ Some x → test x ≡ false → list_all test xs ≡ false
  one_fails [] k x e fails = absurd (none-some x e)
  one_fails (y ∷ ys) zero x e fails = rw (same_Some y x e, fails) refl
  one_fails (y ∷ ys) (suc k) x e fails = let rest = one_fails ys k x e fails in grind (arith, common_steps)

  none_pass : (xs : List A) → Everywhere xs (λ x. test x ≡ false) → (list_any test xs ≡ false) × (find test xs ≡ None)
  none_pass [] h = (refl, refl)
  none_pass (x ∷ xs) h = let rest = none_pass xs (λ k. h (suc k)) in (rw (h 0, rest.0) refl, rw (h 0, rest.1) refl)

  one_passes : (xs : List A) (k : ℕ) (x : A) → slice_get xs k ≡ Some x → test x ≡ true → list_any test xs ≡ true
  one_passes [] k x e passes = absurd (none-some x e)
  one_passes (y ∷ ys) zero x e passes = rw (same_Some y x e, passes) refl
  one_passes (y ∷ ys) (suc k) x e passes = let rest = one_passes ys k x e passes in grind (arith, common_steps)

  first_passes : (xs : List A) (k : ℕ) (x : A) → slice_get xs k ≡ Some x → test x ≡ true → ((j : ℕ) → j < k → IsSomeAnd (slice_get xs j) (λ y. test y ≡ false)) → find test xs ≡ Some x
  first_passes [] k x e passes before = absurd (none-some x e)
  first_passes (y ∷ ys) zero x e passes before = rw (same_Some y x e, passes) refl
  first_passes (y ∷ ys) (suc k) x e passes before = rw (before 0 (omega arith)) (first_passes ys k x e passes (λ j l. before (suc j) (omega arith)))

  all_before : (xs : List A) → Everywhere xs (λ x. test x ≡ true) → prefix_len test xs ≡ length xs
  all_before [] h = refl
  all_before (x ∷ xs) h = rw (h 0, all_before xs (λ k. h (suc k))) (omega arith)

  before_first : (xs : List A) (k : ℕ) (x : A) → slice_get xs k ≡ Some x → test x ≡ false → ((j : ℕ) → j < k → IsSomeAnd (slice_get xs j) (λ y. test y ≡ true)) → prefix_len test xs ≡ k
  before_first [] k x e fails before = absurd (none-some x e)
  before_first (y ∷ ys) zero x e fails before = rw (same_Some y x e, fails) refl
  before_first (y ∷ ys) (suc k) x e fails before = rw (before 0 (omega arith), before_first ys k x e fails (λ j l. before (suc j) (omega arith))) (omega arith)

last_none : {A : Type 0} (xs : List A) → length xs ≡ 0 → last_or None xs ≡ None
last_none [] e = refl
last_none (x ∷ xs) e = absurd (omega arith)

last_there : {A : Type 0} (xs : List A) → 0 < length xs → last_or None xs ≡ slice_get xs (length xs - 1)
last_there [] some = absurd (omega arith)
last_there (x ∷ xs) some = let e : suc (length xs) - 1 ≡ length xs = omega arith in rw e (sym (nth_last x xs))

none_after : {A : Type 0} (xs : List A) (k : ℕ) → length xs ≤ k → slice_get xs k ≡ None
none_after [] k le = refl
none_after (x ∷ xs) zero le = absurd (omega arith)
none_after (x ∷ xs) (suc k) le = none_after xs k (omega arith)

pub first_of : {A : Type 0} (ys xs : List A) (n : ℕ) → length ys ≡ n → ((k : ℕ) (x : A) → slice_get ys k ≡ Some x → slice_get xs k ≡ Some x) → ys ≡ take n xs
first_of [] xs zero len same = refl
first_of [] xs (suc n) len same = absurd (omega arith)
first_of (y ∷ ys) xs zero len same = absurd (omega arith)
first_of (y ∷ ys) [] (suc n) len same = absurd (none-some y (same 0 y refl))
first_of (y ∷ ys) (x ∷ xs) (suc n) len same =
    let rest = first_of ys xs n (omega arith) (λ k z e. same (suc k) z e) in
    rw (same_Some x y (same 0 y refl), ← rest) refl

some_there : {A : Type 0} (o : Option A) (P : A → Type 0) → IsSomeAnd o P → (x : A) × (o ≡ Some x) × P x
some_there None P h = absurd h
some_there (Some x) P h = (x, refl, h)

-- A run whose items are at their indices in the list, and are all of it if the run is whole.
module _ {S A : Type 0} {steps : S → Option A → S → Type 0} (p : Run steps) (xs : List A) (all : p.whole ≡ true → p.items ≡ xs) (placed : (k : ℕ) (x : A) → p.at k ≡ Some x → slice_get xs k ≡ Some x) where
  everywhere : (P : A → Type 0) → p.whole ≡ true → AllItems p P → Everywhere xs P
  everywhere P whole h = subst (λ ys. Everywhere ys P) (all whole) (each_of p P h)

  below : (P : A → Type 0) (k : ℕ) → AllItemsBelow p k P → (j : ℕ) → j < k → IsSomeAnd (slice_get xs j) P
  below P k h j l = let item = some_there (p.at j) P (h j l) in rw (placed j item.0 item.1) item.2

  any_item : (P : A → Type 0) → AnyItem p P → (k : ℕ) × (x : A) × (slice_get xs k ≡ Some x) × P x
  any_item P h = let item = some_there (p.at h.0) P h.2 in (h.0, item.0, placed h.0 item.0 item.1, item.2)

  tells_all : TellsAll p xs
  tells_all = (
    λ test whole h. all_pass test xs (everywhere (λ x. test x ≡ true) whole h),
    λ test h. let item = any_item (λ x. test x ≡ false) h in one_fails test xs item.0 item.1 item.2 item.3,
  )

  tells_any : TellsAny p xs
  tells_any = (
    λ test whole h. (none_pass test xs (everywhere (λ x. test x ≡ false) whole h)).0,
    λ test h. let item = any_item (λ x. test x ≡ true) h in one_passes test xs item.0 item.1 item.2 item.3,
  )

  tells_find : TellsFind p xs
  tells_find = (
    λ test whole h. (none_pass test xs (everywhere (λ x. test x ≡ false) whole h)).1,
    λ test k x e passes before. first_passes test xs k x (placed k x e) passes (below (λ y. test y ≡ false) k before),
  )

  tells_place : TellsPlace p xs
  tells_place = (
    λ test whole h. all_before test xs (everywhere (λ x. test x ≡ true) whole h),
    λ test k x e fails before. (before_first test xs k x (placed k x e) fails (below (λ y. test y ≡ true) k before), slice_get_within xs k x (placed k x e)),
  )

  last_item : p.whole ≡ true → last_or None xs ≡ last_or None p.items
  last_item whole = ap (last_or None) (sym (all whole))

  tells_last : TellsLast p xs
  tells_last = (
    λ whole none. last_item whole ∙ last_none p.items (sym p.long ∙ none),
    λ whole some. last_item whole ∙ last_there p.items (omega (arith, p.long)) ∙ ap (λ n. slice_get p.items (n - 1)) (sym p.long) ∙ sym (at-is p (p.len - 1)),
  )

  tells_nth : TellsNth p xs
  tells_nth = (placed, λ k whole le. rw (← all whole) (none_after p.items k (omega (arith, p.long))))

  tells_take : TellsTake p xs
  tells_take n le ends =
      ⊎_elim
      (λ (less : p.len < n). rw (← all (ends less)) (sym (take_all n p.items (omega (arith, p.long)))))
      (λ (ge : n ≤ p.len). first_of p.items xs n (omega (arith, p.long)) (λ k x e. placed k x (at-is p k ∙ e)))
      (cases_lt p.len n)

  tells_placed : Tells p xs
  tells_placed = (tells_all, tells_any, tells_find, tells_place, tells_last, tells_nth, tells_take)

within_run : {S A : Type 0} {steps : S → Option A → S → Type 0} (p : Run steps) (k : ℕ) (x : A) → p.at k ≡ Some x → k < p.len
within_run p k x e = omega (arith, p.long, slice_get_within p.items k x (sym (at-is p k) ∙ e))

there : {A : Type 0} (o : Option A) (x : A) (P : A → Type 0) → o ≡ Some x → IfSome o P → P x
there o x P e h = rw e at h

pub tells : {S A : Type 0} {steps : S → Option A → S → Type 0} (p : Run steps) (xs : List A) → ItemsAre p xs → Tells p xs
tells {S} {A} p xs items = tells_placed p xs items.4 placed
  where
    placed : (k : ℕ) (x : A) → p.at k ≡ Some x → slice_get xs k ≡ Some x
    placed k x e =
        let same : x ≡ get_or xs k x = there (p.at k) x _ e (items.3 k) x in
        nth_read xs k x (omega (arith, within_run p k x e, items.0)) ∙ ap Some (sym same)

-- The list in reverse order determines these results for a run from the end.
pub tells_back : {S A : Type 0} {steps : S → Option A → S → Type 0} (p : Run steps) (xs : List A) → ItemsAreReversed p xs → Tells p (reverse xs)
tells_back {S} {A} p xs items = tells_placed p (reverse xs) items.4 placed
  where
    placed : (k : ℕ) (x : A) → p.at k ≡ Some x → slice_get (reverse xs) k ≡ Some x
    placed k x e =
        let within : k < length xs = omega (arith, within_run p k x e, items.0) in
        let same : x ≡ get_or xs (length xs - 1 - k) x = there (p.at k) x _ e (items.3 k) x in
        nth_read (reverse xs) k x (rw (length-reverse xs) within) ∙ ap Some (get_or-reverse xs k x within ∙ sym same)
