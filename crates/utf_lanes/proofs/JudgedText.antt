-- Bytes that each may follow the three before them are text, from one first byte of a code to another.
use Rattle.std.proofs.Common.{◌≡◌, ℕ, zero, suc, ◌+◌, ◌-◌, ◌*◌, ◌<◌, ◌≤◌, ◌⊎◌, List, length, get_or, take, drop, arith, refl, sym, ◌∙◌, subst, ap, true, false, lit<, ◌&&◌, inl, inr, length-drop, IsUtf8, take-add}
use Rattle.std.proofs.lemmas.Bool.{cases_lt, cases_eq}
use Rattle.std.proofs.lemmas.Grind.{common_steps}
use Rattle.std.proofs.lemmas.List.{get_or-drop}
use Rattle.std.proofs.lemmas.Str.{IsUtf8-append}
use Rattle.utf_base.specs.Code.{utf8}
use Rattle.utf_base.specs.Front.{BeginsWith}
use Rattle.utf_base.specs.Kinds.{is_continuation}
use Rattle.utf_base.specs.Scalar.{IsScalar}
use Rattle.utf_base.proofs.FrontLemmas.{least_value-below_3, least_value-3, least_value-4}
use Rattle.utf_base.proofs.KindCases.{Asks-2, Asks-3, Asks-4, Sums-2, Sums-3, Sums-4, begins_with, begins_with-1}
use Rattle.utf_base.proofs.StdText.{utf8_is_text}
use Rattle.utf_lanes.specs.TextBlocks.{IsContinuation, MayBegin, Follows, AllMayFollow}

-- a code of n bytes begins the list
abbrev pub Front : List ℕ → ℕ → Type 0
Front w n = (s : ℕ) × BeginsWith utf8 w s n

continuation : (b : ℕ) → IsContinuation b → is_continuation b ≡ true
continuation b h = grind (arith, common_steps)

pub front-2 : (w : List ℕ) → 2 ≤ length w → MayBegin (get_or w 0 0) (get_or w 1 0) → get_or w 0 0 < 0xE0 → Front w 2
front-2 w enough b top =
    let v = (get_or w 0 0 - 0xC0) * 64 + (get_or w 1 0 - 0x80) in
    let least = b.least in
    let second = b.second in
    let sums = Sums-2 w v (Asks-2 w (omega arith) b.least top) enough (continuation _ b.second) refl in
    let any : 0 ≤ v = omega arith in
    let scalar : IsScalar v = record { below = omega arith; no_surrogate = λ g. omega arith } in
    (v, begins_with w 2 v sums (rw (least_value-below_3 2 (lit< tt)) any) scalar)

-- the rule at one byte, as cases
at_byte : {P : Type 0} (c n : ℕ) → (c ≡ n → P) → ((c ≡ n) × P) ⊎ (c ≡ n → ⊥)
at_byte c n f = elim (cases_eq c n) [ inl e ↦ inl (e, f e) | inr other ↦ inr other ]

pub front-3 : (w : List ℕ) → 3 ≤ length w → MayBegin (get_or w 0 0) (get_or w 1 0) → IsContinuation (get_or w 2 0) → 0xE0 ≤ get_or w 0 0 → get_or w 0 0 < 0xF0 → Front w 3
front-3 w enough b third low top =
    let v = (get_or w 0 0 - 0xE0) * 4096 + (get_or w 1 0 - 0x80) * 64 + (get_or w 2 0 - 0x80) in
    let second = b.second in
    let three = at_byte (get_or w 0 0) 0xE0 b.three in
    let surrogate = at_byte (get_or w 0 0) 0xED b.surrogate in
    let both : (is_continuation (get_or w 1 0) && is_continuation (get_or w 2 0)) ≡ true = rw (continuation _ b.second, continuation _ third) refl in
    let sums = Sums-3 w v (Asks-3 w (omega arith) low top) enough both refl in
    let least : 0x800 ≤ v = omega arith in
    let scalar : IsScalar v = record { below = omega arith; no_surrogate = λ g. omega arith } in
    (v, begins_with w 3 v sums (rw least_value-3 least) scalar)

pub front-4 : (w : List ℕ) → 4 ≤ length w → MayBegin (get_or w 0 0) (get_or w 1 0) → IsContinuation (get_or w 2 0) → IsContinuation (get_or w 3 0) → 0xF0 ≤ get_or w 0 0 → Front w 4
front-4 w enough b third fourth low =
    let v = (get_or w 0 0 - 0xF0) * 262144 + (get_or w 1 0 - 0x80) * 4096 + (get_or w 2 0 - 0x80) * 64 + (get_or w 3 0 - 0x80) in
    let second = b.second in
    let most = b.most in
    let four = at_byte (get_or w 0 0) 0xF0 b.four in
    let high = at_byte (get_or w 0 0) 0xF4 b.high in
    let all : (is_continuation (get_or w 1 0) && is_continuation (get_or w 2 0) && is_continuation (get_or w 3 0)) ≡ true
    = rw (continuation _ b.second, continuation _ third, continuation _ fourth) refl in
    let sums = Sums-4 w v (Asks-4 w (omega arith) low b.most) enough all refl in
    let least : 0x1_0000 ≤ v = omega arith in
    let scalar : IsScalar v = record { below = omega arith; no_surrogate = λ g. omega arith } in
    (v, begins_with w 4 v sums (rw least_value-4 least) scalar)

-- text continues with one more code
pub text_step : (xs : List ℕ) (p s n : ℕ) → IsUtf8 (take p xs) → BeginsWith utf8 (drop p xs) s n → IsUtf8 (take (p + n) xs)
text_step xs p s n text (h, e) =
    let all : 0 + length (utf8 s) - 0 ≡ n = omega (arith, e) in
    let code : take n (drop p xs) ≡ utf8 s = rw all at h.equal in
    rw (take-add, code) (IsUtf8-append (take p xs) (utf8 s) text (utf8_is_text s h.scalar))

-- the byte at the offset is no continuation byte
abbrev pub Begins : List ℕ → ℕ → Type 0
Begins xs p = 0x80 ≤ get_or xs p 0 → 0xC0 ≤ get_or xs p 0

closed_before : (a b c d : ℕ) → Follows a b c d → (0x80 ≤ d → 0xC0 ≤ d) → (a < 0xF0) × (b < 0xE0) × (c < 0xC0)
closed_before a b c d f begins =
    let low : a < 0xF0 = elim (cases_lt a 0xF0) [ inl lt ↦ lt | inr ge ↦ (let g = (f.fourth ge).1 in absurd (omega arith)) ] in
    let middle : b < 0xE0 = elim (cases_lt b 0xE0) [ inl lt ↦ lt | inr ge ↦ (let g = (f.third ge).1 in absurd (omega arith)) ] in
    let may = f.early low middle in
    (low, middle, elim (cases_lt c 0xC0) [ inl lt ↦ lt | inr ge ↦ (let m = may.second ge in let g = m.second in absurd (omega arith)) ])

begun : (a b c d : ℕ) → Follows a b c d → 0xC0 ≤ c → MayBegin c d
begun a b c d f high =
    let low : a < 0xF0 = elim (cases_lt a 0xF0) [ inl lt ↦ lt | inr ge ↦ (let g = (f.fourth ge).0 in absurd (omega arith)) ] in
    let middle : b < 0xE0 = elim (cases_lt b 0xE0) [ inl lt ↦ lt | inr ge ↦ (let g = (f.third ge).0 in absurd (omega arith)) ] in
    let may = f.early low middle in
    may.second high

begins_after : (a b c d : ℕ) → Follows a b c d → a < 0xF0 → b < 0xE0 → c < 0xC0 → 0x80 ≤ d → 0xC0 ≤ d
begins_after a b c d f low middle high = let may = f.early low middle in may.first high

pub begins_from : (xs : List ℕ) (p : ℕ) → is_continuation (get_or xs p 0) ≡ false → Begins xs p
begins_from xs p e high = grind (arith, common_steps)

module _ (xs : List ℕ) (i e : ℕ) (end : e < length xs) (last : Begins xs e) (all : AllMayFollow xs i (e + 1)) where
  judged : (k l m n : ℕ) → k + 1 ≡ l → k + 2 ≡ m → k + 3 ≡ n → i ≤ n → n ≤ e → Follows (get_or xs k 0) (get_or xs l 0) (get_or xs m 0) (get_or xs n 0)
  judged k l m n one two three least most = rw (← one, ← two, ← three) (all k (omega arith) (omega arith))

  not_last : (j : ℕ) → j ≤ e → IsContinuation (get_or xs j 0) → j < e
  not_last j le h =
      elim (cases_lt j e) [
        | inl lt ↦ lt
        | inr ge ↦ (let at : e ≡ j = omega arith in let first : Begins xs j = subst (Begins xs) at last in absurd (omega arith))
      ]

  -- one code from the offset k + 3 on: its bytes are there, and after them another byte begins one
  record OneCode (k : ℕ) : Type 0 where
    len : ℕ
    some : 0 < len
    within : k + 3 + len ≤ e
    front : Front (drop (k + 3) xs) len
    next : Begins xs (k + 3 + len)

  module _ (k : ℕ) (least : i ≤ k + 3) (lt : k + 3 < e) (first : Begins xs (k + 3)) where
    here : (j m : ℕ) → k + 3 + j ≡ m → get_or (drop (k + 3) xs) j 0 ≡ get_or xs m 0
    here j m at = get_or-drop (k + 3) xs j 0 ∙ ap (λ n. get_or xs n 0) at

    enough : (n : ℕ) → k + 3 + n ≤ e → n ≤ length (drop (k + 3) xs)
    enough n within = omega (arith, length-drop (k + 3) xs)

    before : (get_or xs k 0 < 0xF0) × (get_or xs (k + 1) 0 < 0xE0) × (get_or xs (k + 2) 0 < 0xC0)
    before = closed_before _ _ _ _ (judged k (k + 1) (k + 2) (k + 3) refl refl refl least (omega arith)) first

    small : get_or xs (k + 3) 0 < 0xC0 → get_or xs (k + 3) 0 < 0x80
    small low = elim (cases_lt (get_or xs (k + 3) 0) 0x80) [ inl lt ↦ lt | inr ge ↦ (let g = first ge in absurd (omega arith)) ]

    -- a code of `len` bytes, if neither the bytes before it nor its own ask for the byte after it
    of_len : (len j l m : ℕ) → 0 < len → k + len ≡ j → j + 1 ≡ l → j + 2 ≡ m → k + 3 + len ≤ e → Front (drop (k + 3) xs) len
        → get_or xs j 0 < 0xF0 → get_or xs l 0 < 0xE0 → get_or xs m 0 < 0xC0 → OneCode k
    of_len len j l m some at one two within front low middle high = record {
      len = len;
      some = some;
      within = within;
      front = front;
      next = λ more. begins_after _ _ _ _ (judged j l m (k + 3 + len) one two (omega arith) (omega arith) (omega arith)) low middle high more;
    }

    ascii : get_or xs (k + 3) 0 < 0xC0 → OneCode k
    ascii low =
        let byte = begins_with-1 (drop (k + 3) xs) (enough 1 (omega arith)) (rw (here 0 (k + 3) (omega arith)) (small low)) in
        let front : Front (drop (k + 3) xs) 1 = (get_or xs (k + 3) 0, rw (here 0 (k + 3) (omega arith)) at byte) in
        of_len 1 (k + 1) (k + 2) (k + 3) (lit< tt) refl (omega arith) (omega arith) (omega arith) front (omega (arith, before.1)) (omega (arith, before.2)) low

    lead : 0xC0 ≤ get_or xs (k + 3) 0 → MayBegin (get_or xs (k + 3) 0) (get_or xs (k + 4) 0)
    lead high = begun _ _ _ _ (judged (k + 1) (k + 2) (k + 3) (k + 4) (omega arith) (omega arith) (omega arith) (omega arith) (omega arith)) high

    two : MayBegin (get_or xs (k + 3) 0) (get_or xs (k + 4) 0) → k + 4 < e → get_or xs (k + 3) 0 < 0xE0 → OneCode k
    two b more low =
        let front = front-2 (drop (k + 3) xs) (enough 2 (omega arith)) (rw (here 0 (k + 3) (omega arith), here 1 (k + 4) (omega arith)) b) (rw (here 0 (k + 3) (omega arith)) low) in
        of_len 2 (k + 2) (k + 3) (k + 4) (lit< tt) refl (omega arith) (omega arith) (omega arith) front (omega (arith, before.2)) low (b.second.1)

    three : MayBegin (get_or xs (k + 3) 0) (get_or xs (k + 4) 0) → IsContinuation (get_or xs (k + 5) 0) → k + 5 < e → 0xE0 ≤ get_or xs (k + 3) 0 → get_or xs (k + 3) 0 < 0xF0 → OneCode k
    three b third more low top =
        let front = front-3 (drop (k + 3) xs) (enough 3 (omega arith)) (rw (here 0 (k + 3) (omega arith), here 1 (k + 4) (omega arith)) b) (rw (here 2 (k + 5) (omega arith)) third)
        (rw (here 0 (k + 3) (omega arith)) low) (rw (here 0 (k + 3) (omega arith)) top) in
        of_len 3 (k + 3) (k + 4) (k + 5) (lit< tt) refl (omega arith) (omega arith) (omega arith) front top (omega (arith, b.second.1)) (third.1)

    four : MayBegin (get_or xs (k + 3) 0) (get_or xs (k + 4) 0) → IsContinuation (get_or xs (k + 5) 0) → IsContinuation (get_or xs (k + 6) 0) → k + 6 < e → 0xF0 ≤ get_or xs (k + 3) 0 → OneCode k
    four b third fourth more low =
        let front = front-4 (drop (k + 3) xs) (enough 4 (omega arith)) (rw (here 0 (k + 3) (omega arith), here 1 (k + 4) (omega arith)) b) (rw (here 2 (k + 5) (omega arith)) third)
        (rw (here 3 (k + 6) (omega arith)) fourth) (rw (here 0 (k + 3) (omega arith)) low) in
        of_len 4 (k + 4) (k + 5) (k + 6) (lit< tt) refl (omega arith) (omega arith) (omega arith) front (omega (arith, b.second.1)) (omega (arith, third.1)) (fourth.1)

    longer : MayBegin (get_or xs (k + 3) 0) (get_or xs (k + 4) 0) → k + 4 < e → 0xE0 ≤ get_or xs (k + 3) 0 → OneCode k
    longer b more low =
        let third = ((judged (k + 2) (k + 3) (k + 4) (k + 5) (omega arith) (omega arith) (omega arith) (omega arith) (omega arith)).third low).1 in
        let inside = not_last (k + 5) (omega arith) third in
        elim (cases_lt (get_or xs (k + 3) 0) 0xF0) [
          | inl top ↦ three b third inside low top
          | inr high ↦
              let fourth = ((judged (k + 3) (k + 4) (k + 5) (k + 6) (omega arith) (omega arith) (omega arith) (omega arith) (omega arith)).fourth high).1 in
              four b third fourth (not_last (k + 6) (omega arith) fourth) high
        ]

    one_code : OneCode k
    one_code =
        elim (cases_lt (get_or xs (k + 3) 0) 0xC0) [
          | inl low ↦ ascii low
          | inr high ↦
              let b = lead high in
              let more = not_last (k + 4) (omega arith) b.second in
              elim (cases_lt (get_or xs (k + 3) 0) 0xE0) [ inl short ↦ two b more short | inr long ↦ longer b more long ]
        ]

  to_last : (fuel p k : ℕ) → p ≡ k + 3 → e ≤ p + fuel → p ≤ e → i ≤ p → IsUtf8 (take p xs) → Begins xs p → IsUtf8 (take e xs)
  to_last zero p k at few le least text first = let same : p ≡ e = omega arith in subst (λ n. IsUtf8 (take n xs)) same text
  to_last (suc fuel) p k at few le least text first =
      elim (cases_lt p e) [
        | inr ge ↦ (let same : p ≡ e = omega arith in subst (λ n. IsUtf8 (take n xs)) same text)
        | inl lt ↦
            let step = one_code k (omega arith) (omega arith) (subst (Begins xs) at first) in
            let len = step.len in
            let same : k + 3 + len ≡ p + len = omega arith in
            to_last fuel (p + len) (k + len) (omega arith) (omega arith) (omega arith) (omega arith)
            (text_step xs p step.front.0 len text (subst (λ n. BeginsWith utf8 (drop n xs) step.front.0 len) (sym at) step.front.1)) (subst (Begins xs) same step.next)
      ]

-- from one first byte of a code to another
pub judged_text : (xs : List ℕ) (p e : ℕ) → 3 ≤ p → p ≤ e → e < length xs → IsUtf8 (take p xs) → Begins xs p → Begins xs e → AllMayFollow xs p (e + 1) → IsUtf8 (take e xs)
judged_text xs p e three le end text first last all = to_last xs p e end last all e p (p - 3) (omega arith) (omega arith) le (omega arith) text first
