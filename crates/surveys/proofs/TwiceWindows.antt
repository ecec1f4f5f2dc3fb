-- Windows in which no sequence that was encoded twice begins, and sums of what windows have.
use Rattle.std.proofs.Common.{◌≡◌, ℕ, zero, suc, ◌+◌, ◌-◌, ◌/◌, ◌<◌, ◌≤◌, Bool, true, false, cond, eqb, leb, ltb, ◌&&◌, ◌||◌, if◌then◌else◌, List, [], ◌∷◌, length, get_or, take, drop, min, max, bit_and, bit_or, refl, sym, ap, ◌∙◌, inl, inr, arith, lit≤, add_assoc, add-zero, eqb-true, leb-true, ltb-true, Option, Some, None, lit<, zero-add, true≢false, length-drop}
use Rattle.std.specs.Int.{bit_at}
use Rattle.std.specs.List.{list_any}
use Rattle.std.proofs.lemmas.Bool.{and_parts, cases_lt}
use Rattle.std.proofs.lemmas.Bool.Decides.{nat_tests}
use Rattle.std.proofs.lemmas.List.{get_or-drop, get_or-take}
use Rattle.std.proofs.lemmas.Nat.Bits.{bit_at-zero, bit_at_and, bit_at_or}
use Rattle.std.proofs.lemmas.Simd.{get_or-chunk, length-chunk}
use lib.Lanes.{chunk}
use Rattle.utf_lanes.proofs.LaneLemmas.{reach_bits, reach_mask}
use Rattle.utf_lanes.proofs.PassedLanes.{passed_bits, passed_mask}
use Rattle.utf_base.specs.Code.{utf8}
use Rattle.utf_base.specs.Decoded.{decoded}
use Rattle.utf_base.specs.Kinds.{asked, fault_kind, is_continuation, value}
use Rattle.utf_base.specs.declared.errors.Utf8ErrorKind.{Utf8ErrorKind}
use Rattle.utf_base.proofs.FrontLemmas.{code_where_no_fault}
use Rattle.utf_base.proofs.Utf8Code.{utf8-2, utf8-3, utf8-4}
use Rattle.surveys.specs.SurveyCounts.{window_sum, wrapped}
use Rattle.surveys.specs.SurveyTwice.{may_be_twice}
use Rattle.surveys.specs.SurveyWindows.{are_shown, is_shown, shown_len, signs, twice_len}
use Rattle.surveys.proofs.CharWindows.{first_of}
use Rattle.surveys.proofs.Counting.{wrapped-add}
use Rattle.surveys.proofs.FedUnits.{one_at}
use Rattle.surveys.proofs.FrontLens.{are_shown-more}
use Rattle.surveys.proofs.WindowSums.{window_sum-few, window_sum-more}

-- The bits of a test.

none_of : (p q r : Bool) → min (cond p 1 0) (max (cond q 1 0) (cond r 1 0)) ≡ 0 → (p && (q || r)) ≡ false
none_of false q r e = refl
none_of true true true e = absurd (omega arith)
none_of true true false e = absurd (omega arith)
none_of true false true e = absurd (omega arith)
none_of true false false e = refl

pub none_may : (bytes : List ℕ) (i : ℕ) → i + 37 ≤ length bytes
    → bit_and (passed_mask 32 eqb (chunk (i + 3) 32 bytes) 0xC3) (bit_or (passed_mask 32 eqb (chunk (i + 5) 32 bytes) 0xC2) (reach_mask 32 0xC5 (chunk (i + 5) 32 bytes))) ≡ 0
    → (k : ℕ) → k < 32 → may_be_twice (drop (i + k) bytes) ≡ false
unfolding may_be_twice
none_may bytes i within none k lt =
    let first = chunk (i + 3) 32 bytes in
    let next = chunk (i + 5) 32 bytes in
    let few : 32 ≤ 64 = lit≤ tt in
    let first_len : length first ≡ 32 = length-chunk (i + 3) 32 bytes (omega arith) in
    let next_len : length next ≡ 32 = length-chunk (i + 5) 32 bytes (omega arith) in
    let a = passed_mask 32 eqb first 0xC3 in
    let b = passed_mask 32 eqb next 0xC2 in
    let c = reach_mask 32 0xC5 next in
    let p : bit_at a k ≡ cond (eqb (get_or first k 0) 0xC3) 1 0 = passed_bits few eqb first 0xC3 first_len k lt in
    let q : bit_at b k ≡ cond (eqb (get_or next k 0) 0xC2) 1 0 = passed_bits few eqb next 0xC2 next_len k lt in
    let r : bit_at c k ≡ cond (leb 0xC5 (get_or next k 0)) 1 0 = reach_bits 0xC5 next few next_len k lt in
    let bits : min (bit_at a k) (max (bit_at b k) (bit_at c k)) ≡ 0
    = ap (min (bit_at a k)) (sym (bit_at_or b c k)) ∙ sym (bit_at_and a (bit_or b c) k) ∙ ap (λ n. bit_at n k) none ∙ bit_at-zero k in
    let three : i + 3 + k ≡ i + k + 3 = omega arith in
    let five : i + 5 + k ≡ i + k + 5 = omega arith in
    let x : get_or first k 0 ≡ get_or (drop (i + k) bytes) 3 0 = get_or-chunk (i + 3) 32 bytes k 0 lt ∙ ap (λ j. get_or bytes j 0) three ∙ sym (get_or-drop (i + k) bytes 3 0) in
    let y : get_or next k 0 ≡ get_or (drop (i + k) bytes) 5 0 = get_or-chunk (i + 5) 32 bytes k 0 lt ∙ ap (λ j. get_or bytes j 0) five ∙ sym (get_or-drop (i + k) bytes 5 0) in
    rw (x, y) at (none_of (eqb (get_or first k 0) 0xC3) (eqb (get_or next k 0) 0xC2) (leb 0xC5 (get_or next k 0)) (rw (p, q, r) at bits))

low_next : (b : ℕ) → b < 0xC2 → (eqb b 0xC2 || leb 0xC5 b) ≡ false
low_next b lt = grind (arith, nat_tests)

-- no lead byte comes two bytes after C3
pub none_after : (bytes : List ℕ) (i most : ℕ) → i + 272 ≤ length bytes
    → ((k : ℕ) → k < 256 → get_or (take 258 (drop (i + 3) bytes)) k 0 ≡ 0xC3 → get_or (take 258 (drop (i + 3) bytes)) (k + 2) 0 ≤ most) → most < 0xC2 → (k : ℕ) → k < 256
    → may_be_twice (drop (i + k) bytes) ≡ false
unfolding may_be_twice
none_after bytes i most within all low k lt =
    let three : i + 3 + k ≡ i + k + 3 = omega arith in
    let five : i + 3 + (k + 2) ≡ i + k + 5 = omega arith in
    let x : get_or (take 258 (drop (i + 3) bytes)) k 0 ≡ get_or (drop (i + k) bytes) 3 0
    = get_or-take 258 (drop (i + 3) bytes) k 0 (omega arith) ∙ get_or-drop (i + 3) bytes k 0 ∙ ap (λ j. get_or bytes j 0) three ∙ sym (get_or-drop (i + k) bytes 3 0) in
    let y : get_or (take 258 (drop (i + 3) bytes)) (k + 2) 0 ≡ get_or (drop (i + k) bytes) 5 0
    = get_or-take 258 (drop (i + 3) bytes) (k + 2) 0 (omega arith) ∙ get_or-drop (i + 3) bytes (k + 2) 0 ∙ ap (λ j. get_or bytes j 0) five ∙ sym (get_or-drop (i + k) bytes 5 0) in
    by_first (eqb (get_or (drop (i + k) bytes) 3 0) 0xC3) refl (λ is. rw y at (all k lt (x ∙ is)))
  where
    by_first : (b : Bool) → eqb (get_or (drop (i + k) bytes) 3 0) 0xC3 ≡ b → (get_or (drop (i + k) bytes) 3 0 ≡ 0xC3 → get_or (drop (i + k) bytes) 5 0 ≤ most)
        → (eqb (get_or (drop (i + k) bytes) 3 0) 0xC3 && (eqb (get_or (drop (i + k) bytes) 5 0) 0xC2 || leb 0xC5 (get_or (drop (i + k) bytes) 5 0))) ≡ false
    by_first false e few = rw e refl
    by_first true e few =
        let next : get_or (drop (i + k) bytes) 5 0 ≤ most = few (eqb-true (get_or (drop (i + k) bytes) 3 0) 0xC3 e) in
        rw (e, low_next (get_or (drop (i + k) bytes) 5 0) (omega arith)) refl

-- The first byte of a character that a continuation byte becomes.

at_least : List ℕ → Bool
at_least [] = true
at_least (x ∷ xs) = leb 0x152 x && at_least xs

any_least : (s : ℕ) (xs : List ℕ) → at_least xs ≡ true → list_any (λ t. eqb t s) xs ≡ true → 0x152 ≤ s
unfolding at_least
any_least s [] all any = absurd (true≢false (sym any))
any_least s (x ∷ xs) all any =
    let parts = and_parts (leb 0x152 x) (at_least xs) all in
    by_first (eqb x s) refl (leb-true 0x152 x parts.0) (λ rest. any_least s xs parts.1 rest)
  where
    by_first : (b : Bool) → eqb x s ≡ b → 0x152 ≤ x → (list_any (λ t. eqb t s) xs ≡ true → 0x152 ≤ s) → 0x152 ≤ s
    by_first true e least rest = let same : x ≡ s = eqb-true x s e in omega arith
    by_first false e least rest = rest (rw e at any)

data IsShown (s : ℕ) : Type 0 where
  of_half : 0x80 ≤ s → s < 0xC0 → IsShown s
  of_sign : 0x152 ≤ s → IsShown s

shown_is : (s : ℕ) → is_shown s ≡ true → IsShown s
unfolding is_shown at_least
shown_is s e = by_low (leb 0x80 s && ltb s 0xC0) refl
  where
    by_low : (b : Bool) → (leb 0x80 s && ltb s 0xC0) ≡ b → IsShown s
    by_low true h = let parts = and_parts (leb 0x80 s) (ltb s 0xC0) h in of_half (leb-true 0x80 s parts.0) (ltb-true s 0xC0 parts.1)
    by_low false h = of_sign (any_least s signs refl (rw h at e))

-- the first byte of such a character
abbrev IsFirst : ℕ → Type 0
IsFirst b = (eqb b 0xC2 || leb 0xC5 b) ≡ true

first_high : (b : ℕ) → 0xC5 ≤ b → IsFirst b
first_high b ge = grind (arith, nat_tests)

first_is : (s : ℕ) → IsShown s → IsFirst (get_or (utf8 s) 0 0)
first_is s (of_half ge lt) =
    let two : s / 64 ≡ 2 = omega arith in
    rw (utf8-2 s ge (omega arith), two) refl
first_is s (of_sign ge) = elim (cases_lt s 0x800) [
  | inl two ↦ rw (utf8-2 s (omega arith) two) (first_high (0xC0 + s / 64) (omega arith))
  | inr more ↦ elim (cases_lt s 0x1_0000) [
    | inl three ↦ rw (utf8-3 s more three) (first_high (0xE0 + s / 4096) (omega arith))
    | inr four ↦ rw (utf8-4 s four) (first_high (0xF0 + s / 262144) (omega arith))
  ]
]

shown_first : (y : List ℕ) → 0 < shown_len y → IsFirst (get_or y 0 0)
unfolding shown_len decoded
shown_first y some = by_kind (fault_kind y) refl
  where
    by_shown : (b : Bool) → is_shown (value y) ≡ b → fault_kind y ≡ None → IsFirst (get_or y 0 0)
    by_shown true h e =
        let found = code_where_no_fault y e in
        let stands = found.0 in
        let first : get_or y 0 0 ≡ get_or (utf8 (value y)) 0 0 = first_of y (value y) stands in
        rw first (first_is (value y) (shown_is (value y) h))
    by_shown false h e = let none : 0 < 0 = rw (e, h) at some in absurd (omega arith)

    by_kind : (k : Option Utf8ErrorKind) → fault_kind y ≡ k → IsFirst (get_or y 0 0)
    by_kind None e = by_shown (is_shown (value y)) refl e
    by_kind (Some k) e = let none : 0 < 0 = rw e at some in absurd (omega arith)

not_one : (b : ℕ) → 0x80 ≤ b → asked b ≡ 1 → ⊥
unfolding asked
not_one b high one = grind (arith, nat_tests)

pub none_twice : (w : List ℕ) → may_be_twice w ≡ false → twice_len w ≡ 0
unfolding twice_len may_be_twice
none_twice w none = by_test (eqb (get_or w 3 0) 0xC3 && is_continuation (get_or w 4 0) && are_shown (asked (get_or w 4 0 + 0x40) - 1) (drop 5 w)) refl
  where
    a : ℕ
    a = asked (get_or w 4 0 + 0x40)

    by_shown : eqb (get_or w 3 0) 0xC3 ≡ true → is_continuation (get_or w 4 0) ≡ true → are_shown (a - 1) (drop 5 w) ≡ true → a ≡ 0
    by_shown three cont shown = elim (cases_lt a 2) [
      | inl few ↦ elim (cases_lt a 1) [
        | inl none_asked ↦ omega arith
        | inr one ↦ (let high : 0x80 ≤ get_or w 4 0 = leb-true 0x80 (get_or w 4 0) (and_parts (leb 0x80 (get_or w 4 0)) (ltb (get_or w 4 0) 0xC0) cont).0 in
            absurd (not_one (get_or w 4 0 + 0x40) (omega arith) (omega arith)))
      ]
      | inr more ↦ (let step = are_shown-more (a - 1) (a - 2) (drop 5 w) (omega arith) in
          let both : (ltb 0 (shown_len (drop 5 w)) && are_shown (a - 2) (drop (shown_len (drop 5 w)) (drop 5 w))) ≡ true = sym step ∙ shown in
          let some : 0 < shown_len (drop 5 w) = ltb-true 0 (shown_len (drop 5 w)) (and_parts (ltb 0 (shown_len (drop 5 w))) (are_shown (a - 2) (drop (shown_len (drop 5 w)) (drop 5 w))) both).0 in
          let first = rw (get_or-drop 5 w 0 0) at (shown_first (drop 5 w) some) in
          absurd (true≢false (rw (three, first) at none)))
    ]

    by_test : (b : Bool) → (eqb (get_or w 3 0) 0xC3 && is_continuation (get_or w 4 0) && are_shown (a - 1) (drop 5 w)) ≡ b
        → (if eqb (get_or w 3 0) 0xC3 && is_continuation (get_or w 4 0) && are_shown (a - 1) (drop 5 w) then a else 0) ≡ 0
    by_test false e = rw e refl
    by_test true e =
        let outer = and_parts (eqb (get_or w 3 0) 0xC3 && is_continuation (get_or w 4 0)) (are_shown (a - 1) (drop 5 w)) e in
        let inner = and_parts (eqb (get_or w 3 0) 0xC3) (is_continuation (get_or w 4 0)) outer.0 in
        rw e (by_shown inner.0 inner.1 outer.1)

-- Sums over windows.

-- a window more
pub sum_one : (f : List ℕ → ℕ) (bytes : List ℕ) (i a n : ℕ) → i + 17 ≤ length bytes → n ≡ f (take 17 (drop i bytes)) → wrapped (wrapped (a + n) + window_sum f (drop (i + 1) bytes)) ≡ wrapped (a + window_sum f (drop i bytes))
sum_one f bytes i a n within e =
    let here : drop i bytes ≡ get_or bytes i 0 ∷ drop (i + 1) bytes = one_at bytes i (omega arith) in
    let long : 17 ≤ length (get_or bytes i 0 ∷ drop (i + 1) bytes) = omega (arith, length-drop (i + 1) bytes) in
    let more : window_sum f (drop i bytes) ≡ n + window_sum f (drop (i + 1) bytes)
    = ap (window_sum f) here ∙ window_sum-more f (get_or bytes i 0) (drop (i + 1) bytes) long ∙ ap (λ m. m + window_sum f (drop (i + 1) bytes)) (ap (λ z. f (take 17 z)) (sym here) ∙ sym e) in
    wrapped-add (a + n) (window_sum f (drop (i + 1) bytes)) ∙ ap wrapped (add_assoc a n (window_sum f (drop (i + 1) bytes)) ∙ ap (λ m. a + m) (sym more))

-- n windows that add nothing
pub sum_skip : (f : List ℕ → ℕ) (bytes : List ℕ) (i n : ℕ) → i + n + 16 ≤ length bytes → ((k : ℕ) → k < n → f (take 17 (drop (i + k) bytes)) ≡ 0) → window_sum f (drop (i + n) bytes) ≡ window_sum f (drop i bytes)
sum_skip f bytes i zero within none = ap (λ k. window_sum f (drop k bytes)) (add-zero i)
sum_skip f bytes i (suc n) within none =
    let here : drop (i + n) bytes ≡ get_or bytes (i + n) 0 ∷ drop (i + n + 1) bytes = one_at bytes (i + n) (omega arith) in
    let long : 17 ≤ length (get_or bytes (i + n) 0 ∷ drop (i + n + 1) bytes) = omega (arith, length-drop (i + n + 1) bytes) in
    let next : i + suc n ≡ i + n + 1 = omega arith in
    let one : f (take 17 (get_or bytes (i + n) 0 ∷ drop (i + n + 1) bytes)) ≡ 0 = ap (λ z. f (take 17 z)) (sym here) ∙ none n (omega arith) in
    rw next
    (sym (ap (window_sum f) here ∙ window_sum-more f (get_or bytes (i + n) 0) (drop (i + n + 1) bytes) long ∙ ap (λ m. m + window_sum f (drop (i + n + 1) bytes)) one ∙ zero-add (window_sum f (drop (i + n + 1) bytes)))
    ∙ sum_skip f bytes i n (omega arith) (λ k lt. none k (omega arith)))

-- the window of an offset at which none begins
pub none_twice-at : (bytes : List ℕ) (j : ℕ) → may_be_twice (drop j bytes) ≡ false → twice_len (take 17 (drop j bytes)) ≡ 0
unfolding may_be_twice
none_twice-at bytes j none = none_twice (take 17 (drop j bytes)) (same (drop j bytes) none)
  where
    same : (w : List ℕ) → may_be_twice w ≡ false → may_be_twice (take 17 w) ≡ false
    same w e = rw (get_or-take 17 w 3 0 (lit< tt), get_or-take 17 w 5 0 (lit< tt)) e

pub sum_ended : (f : List ℕ → ℕ) (bytes : List ℕ) (i a : ℕ) → length bytes < i + 17 → wrapped (a + window_sum f (drop i bytes)) ≡ wrapped a
sum_ended f bytes i a few = ap wrapped (ap (λ m. a + m) (window_sum-few f (drop i bytes) (omega (arith, length-drop i bytes))) ∙ add-zero a)
