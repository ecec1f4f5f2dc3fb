-- What a run implies for its list: the results of `all`, `any`, `find`, `position`, `last`, `nth` and `take`,
-- for any test.
use Rattle.std.specs.Prelude.{◌≡◌, ℕ, ◌-◌, ◌<◌, ◌≤◌, Bool, true, false, List, Option, Some, None, length, slice_get, take}
use Rattle.std.specs.List.{find, last_or, list_all, list_any, prefix_len}
use Rattle.std.specs.Iterator.Runs.{Run, AllItems, AllItemsBelow, AnyItem}

module _ {S A : Type 0} {steps : S → Option A → S → Type 0} (p : Run steps) (xs : List A) where
  -- `all`: each element passes if each item of a whole run does, and not all pass if some item fails
  abbrev pub TellsAll : Type 0
  TellsAll = ((test : A → Bool) → p.whole ≡ true → AllItems p (λ x. test x ≡ true) → list_all test xs ≡ true)
      × ((test : A → Bool) → AnyItem p (λ x. test x ≡ false) → list_all test xs ≡ false)

  -- `any`: some element passes if some item does, and none if each item of a whole run fails
  abbrev pub TellsAny : Type 0
  TellsAny = ((test : A → Bool) → p.whole ≡ true → AllItems p (λ x. test x ≡ false) → list_any test xs ≡ false)
      × ((test : A → Bool) → AnyItem p (λ x. test x ≡ true) → list_any test xs ≡ true)

  -- `find`: the first element that passes is the first item that does, and there is none if each item of a
  -- whole run fails
  abbrev pub TellsFind : Type 0
  TellsFind = ((test : A → Bool) → p.whole ≡ true → AllItems p (λ x. test x ≡ false) → find test xs ≡ None)
      × ((test : A → Bool) (k : ℕ) (x : A) → p.at k ≡ Some x → test x ≡ true → AllItemsBelow p k (λ y. test y ≡ false) → find test xs ≡ Some x)

  -- `position`: as many elements precede the first that fails as items do, and all if each item of a whole
  -- run passes
  abbrev pub TellsPlace : Type 0
  TellsPlace = ((test : A → Bool) → p.whole ≡ true → AllItems p (λ x. test x ≡ true) → prefix_len test xs ≡ length xs)
      × ((test : A → Bool) (k : ℕ) (x : A) → p.at k ≡ Some x → test x ≡ false → AllItemsBelow p k (λ y. test y ≡ true) → (prefix_len test xs ≡ k) × (k < length xs))

  -- `last`: the last element is the last item of a whole run
  abbrev pub TellsLast : Type 0
  TellsLast = (p.whole ≡ true → p.len ≡ 0 → last_or None xs ≡ None) × (p.whole ≡ true → 0 < p.len → last_or None xs ≡ p.at (p.len - 1))

  -- `nth`: an item is at its index in the list, and after a whole run there is no more
  abbrev pub TellsNth : Type 0
  TellsNth = ((k : ℕ) (x : A) → p.at k ≡ Some x → slice_get xs k ≡ Some x) × ((k : ℕ) → p.whole ≡ true → p.len ≤ k → slice_get xs k ≡ None)

  -- `take`: the first n items, or all of a whole run, are the first n elements
  abbrev pub TellsTake : Type 0
  TellsTake = (n : ℕ) → p.len ≤ n → (p.len < n → p.whole ≡ true) → p.items ≡ take n xs

  -- a run determines the results of all these calls
  abbrev pub Tells : Type 0
  Tells = TellsAll × TellsAny × TellsFind × TellsPlace × TellsLast × TellsNth × TellsTake
