-- Bytes that may each follow the three before them, after a place at which those before ask for no more.
use Rattle.std.proofs.Common.{◌≡◌, ℕ, ◌+◌, ◌-◌, ◌<◌, ◌≤◌, List, ◌∷◌, get_or, drop, arith, refl, ap, ◌∙◌, inl, inr, subst, sym}
use Rattle.std.proofs.lemmas.Bool.{cases_lt, cases_eq}
use Rattle.std.proofs.lemmas.List.{get_or-drop}
use Rattle.utf_lanes.specs.TextBlocks.{AllMayFollow, EndsCharacter, Follows}
use Rattle.utf_lanes.proofs.FewBytes.{at_byte}

-- what a byte may follow where fewer of those before it are seen
none_seen : (a b c d : ℕ) → Follows a b c d → a < 0xF0 → b < 0xE0 → c < 0xC0 → Follows 0 0 0 d
none_seen a b c d f low middle high =
    let may = f.early low middle in
    record {
      early = λ _ _. record { first = λ _. may.first high; second = λ ge. absurd (omega arith) };
      third = λ ge. absurd (omega arith);
      fourth = λ ge. absurd (omega arith);
    }

one_seen : (a b c d : ℕ) → Follows a b c d → a < 0xF0 → b < 0xE0 → Follows 0 0 c d
one_seen a b c d f low middle = record { early = λ _ _. f.early low middle; third = λ ge. absurd (omega arith); fourth = λ ge. absurd (omega arith) }

two_seen : (a b c d : ℕ) → Follows a b c d → a < 0xF0 → Follows 0 b c d
two_seen a b c d f low = record { early = λ _. f.early low; third = f.third; fourth = λ ge. absurd (omega arith) }

same_bytes : {a b c d p q r s : ℕ} → a ≡ p → b ≡ q → c ≡ r → d ≡ s → Follows p q r s → Follows a b c d
same_bytes e f g h follows = rw (e, f, g, h) follows

module _ (xs : List ℕ) (start end : ℕ) (three : 3 ≤ start) (closed : EndsCharacter xs start) (all : AllMayFollow xs start end) where
  abbrev past : List ℕ
  past = 0 ∷ 0 ∷ 0 ∷ drop start xs

  -- the byte at k after three NULs, which stands in the list at j
  here : (k j : ℕ) → 3 ≤ k → start + k ≡ j + 3 → get_or past k 0 ≡ get_or xs j 0
  here k j ge e =
      let at : k ≡ k - 3 + 3 = omega arith in
      let there : start + (k - 3) ≡ j = omega arith in
      ap (λ n. get_or past n 0) at ∙ at_byte (drop start xs) (k - 3) ∙ get_or-drop start xs (k - 3) 0 ∙ ap (λ n. get_or xs n 0) there

  given : (a b c d : ℕ) → a + 1 ≡ b → a + 2 ≡ c → a + 3 ≡ d → start ≤ a + 3 → a + 3 < end → Follows (get_or xs a 0) (get_or xs b 0) (get_or xs c 0) (get_or xs d 0)
  given a b c d one two three least most = rw (← one, ← two, ← three) (all a least most)

  before : (a b c : ℕ) → a + 3 ≡ start → a + 1 ≡ b → a + 2 ≡ c → (get_or xs a 0 < 0xF0) × (get_or xs b 0 < 0xE0) × (get_or xs c 0 < 0xC0)
  before a b c at one two = rw (← one, ← two) (closed a at)

  -- the byte at k + 3 follows
  abbrev FollowsAt : ℕ → Type 0
  FollowsAt k = Follows (get_or past k 0) (get_or past (k + 1) 0) (get_or past (k + 2) 0) (get_or past (k + 3) 0)

  first : start < end → FollowsAt 0
  first lt =
      let (low, middle, high) = before (start - 3) (start - 2) (start - 1) (omega arith) (omega arith) (omega arith) in
      same_bytes refl refl refl (here 3 start (omega arith) (omega arith)) (none_seen _ _ _ _ (given (start - 3) (start - 2) (start - 1) start (omega arith) (omega arith) (omega arith) (omega arith) (omega arith)) low middle high)

  second : start + 1 < end → FollowsAt 1
  second lt =
      let (low, middle, high) = before (start - 3) (start - 2) (start - 1) (omega arith) (omega arith) (omega arith) in
      same_bytes refl refl (here 3 start (omega arith) (omega arith)) (here 4 (start + 1) (omega arith) (omega arith))
      (one_seen _ _ _ _ (given (start - 2) (start - 1) start (start + 1) (omega arith) (omega arith) (omega arith) (omega arith) (omega arith)) (omega arith) (omega arith))

  third : start + 2 < end → FollowsAt 2
  third lt =
      let (low, middle, high) = before (start - 3) (start - 2) (start - 1) (omega arith) (omega arith) (omega arith) in
      same_bytes refl (here 3 start (omega arith) (omega arith)) (here 4 (start + 1) (omega arith) (omega arith)) (here 5 (start + 2) (omega arith) (omega arith))
      (two_seen _ _ _ _ (given (start - 1) start (start + 1) (start + 2) (omega arith) (omega arith) (omega arith) (omega arith) (omega arith)) (omega arith))

  later : (k : ℕ) → 3 ≤ k → start + k < end → FollowsAt k
  later k ge lt =
      same_bytes (here k (start + k - 3) ge (omega arith)) (here (k + 1) (start + k - 2) (omega arith) (omega arith)) (here (k + 2) (start + k - 1) (omega arith) (omega arith)) (here (k + 3) (start + k) (omega arith) (omega arith))
      (given (start + k - 3) (start + k - 2) (start + k - 1) (start + k) (omega arith) (omega arith) (omega arith) (omega arith) (omega arith))

  pub later_follow : AllMayFollow (0 ∷ 0 ∷ 0 ∷ drop start xs) 3 (end - start + 3)
  later_follow k least most =
      elim (cases_lt k 3) [
        | inr ge ↦ later k ge (omega arith)
        | inl less ↦ elim (cases_eq k 0) [
          | inl e ↦ subst FollowsAt (sym e) (first (omega arith))
          | inr more ↦ elim (cases_eq k 1) [
            | inl e ↦ subst FollowsAt (sym e) (second (omega arith))
            | inr other ↦ (let e : 2 ≡ k = omega arith in subst FollowsAt e (third (omega arith)))
          ]
        ]
      ]
