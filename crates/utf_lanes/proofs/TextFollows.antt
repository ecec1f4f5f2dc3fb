-- Each byte of text may follow the three before it, and the last three ask for no more.
use Rattle.std.proofs.Common.{◌≡◌, ℕ, zero, suc, ◌+◌, ◌/◌, ◌%◌, ◌<◌, ◌≤◌, true, List, [], ◌∷◌, ◌++◌, length, get_or, take, replicate, take_all, arith, sym, ap, subst, ◌∙◌, lit<, inl, inr, IsUtf8, length-take}
use Rattle.std.proofs.lemmas.Bool.{and_parts, cases_lt}
use Rattle.std.proofs.lemmas.List.{get_or-take}
use Rattle.std.proofs.lemmas.Str.{IsUtf8-append, IsUtf8-from_ascii}
use Rattle.std.specs.Char.{IsScalar as IsStdScalar}
use Rattle.std.specs.Prelude.{encode_utf8_all}
use Rattle.std.specs.Str.{all_scalars}
use Rattle.utf_base.specs.Code.{utf8}
use Rattle.utf_base.specs.Scalar.{IsScalar}
use Rattle.utf_base.proofs.StdText.{scalar_from_std, utf8_is_std}
use Rattle.utf_base.proofs.Utf8Code.{utf8-1, utf8-2, utf8-3, utf8-4}
use Rattle.utf_lanes.specs.TextBlocks.{IsContinuation, MayBegin, Follows, AllMayFollow, EndsCharacter}
use Rattle.utf_lanes.proofs.FewBytes.{at_byte, nuls_ascii}

-- three bytes that ask for no more
record AreClosed (a b c : ℕ) : Type 0 where
  first : a < 0xF0
  second : b < 0xE0
  third : c < 0xC0

-- each of some bytes may follow the three before it, if a, b and c precede the first, and the last three ask
-- for no more
AreAfter : ℕ → ℕ → ℕ → List ℕ → Type 0
AreAfter a b c [] = AreClosed a b c
AreAfter a b c (d ∷ ds) = Follows a b c d × AreAfter b c d ds

-- Each byte of a code.

begins : (a b c d : ℕ) → AreClosed a b c → (0x80 ≤ d → 0xC0 ≤ d) → Follows a b c d
begins a b c d closed first =
    let low = closed.first in
    let middle = closed.second in
    let high = closed.third in
    record {
      early = λ _ _. record { first = λ _ more. first more; second = λ more. absurd (omega arith) };
      third = λ more. absurd (omega arith);
      fourth = λ more. absurd (omega arith);
    }

second : (b c d e : ℕ) → b < 0xE0 → c < 0xC0 → 0xC0 ≤ d → MayBegin d e → Follows b c d e
second b c d e low middle high may = record {
  early = λ _ _. record { first = λ less _. absurd (omega arith); second = λ _. may };
  third = λ more. absurd (omega arith);
  fourth = λ more. absurd (omega arith);
}

third : (c d e f : ℕ) → c < 0xC0 → 0xE0 ≤ d → IsContinuation e → IsContinuation f → Follows c d e f
third c d e f low high x y = record { early = λ _ less. absurd (omega arith); third = λ _. (x, y); fourth = λ more. absurd (omega arith) }

fourth : (d e f g : ℕ) → e < 0xC0 → 0xF0 ≤ d → IsContinuation f → IsContinuation g → Follows d e f g
fourth d e f g low high x y = record { early = λ less _. absurd (omega arith); third = λ more. absurd (omega arith); fourth = λ _. (x, y) }

-- The bytes after a code follow the three bytes before them, which ask for no more.
abbrev FollowsCodes : List ℕ → Type 0
FollowsCodes rest = (x y z : ℕ) → AreClosed x y z → AreAfter x y z rest

module _ (a b c s : ℕ) (rest : List ℕ) (closed : AreClosed a b c) (others : FollowsCodes rest) where
  low : a < 0xF0
  low = closed.first

  middle : b < 0xE0
  middle = closed.second

  high : c < 0xC0
  high = closed.third

  of_one : s < 0x80 → AreAfter a b c (utf8 s ++ rest)
  unfolding AreAfter
  of_one lt = rw (utf8-1 s lt) (begins a b c s closed (λ more. absurd (omega arith)), others b c s (record { first = omega (arith, middle); second = omega (arith, high); third = omega arith }))

  of_two : 0x80 ≤ s → s < 0x800 → AreAfter a b c (utf8 s ++ rest)
  unfolding AreAfter
  of_two least lt =
      let d = 0xC0 + s / 64 in
      let e = 0x80 + s % 64 in
      let may : MayBegin d e = record {
        least = omega arith;
        most = omega arith;
        second = (omega arith, omega arith);
        three = λ at. absurd (omega arith);
        surrogate = λ at. absurd (omega arith);
        four = λ at. absurd (omega arith);
        high = λ at. absurd (omega arith);
      } in
      rw (utf8-2 s least lt) (
        begins a b c d closed (λ _. omega arith),
        (second b c d e middle high (omega arith) may, others c d e (record { first = omega (arith, high); second = omega arith; third = omega arith })),
      )

  of_three : 0x800 ≤ s → s < 0x1_0000 → IsScalar s → AreAfter a b c (utf8 s ++ rest)
  unfolding AreAfter
  of_three least lt scalar =
      let d = 0xE0 + s / 4096 in
      let e = 0x80 + s / 64 % 64 in
      let f = 0x80 + s % 64 in
      let may : MayBegin d e = record {
        least = omega arith;
        most = omega arith;
        second = (omega arith, omega arith);
        three = λ at. omega arith;
        surrogate = λ at. elim (cases_lt s 0xD800) [ inl less ↦ omega arith | inr more ↦ (let g = scalar.no_surrogate more in absurd (omega arith)) ];
        four = λ at. absurd (omega arith);
        high = λ at. absurd (omega arith);
      } in
      rw (utf8-3 s least lt) (
        begins a b c d closed (λ _. omega arith),
        (
          second b c d e middle high (omega arith) may,
          (third c d e f high (omega arith) (omega arith, omega arith) (omega arith, omega arith), others d e f (record { first = omega arith; second = omega arith; third = omega arith })),
        ),
      )

  of_four : 0x1_0000 ≤ s → IsScalar s → AreAfter a b c (utf8 s ++ rest)
  unfolding AreAfter
  of_four least scalar =
      let below = scalar.below in
      let d = 0xF0 + s / 262144 in
      let e = 0x80 + s / 4096 % 64 in
      let f = 0x80 + s / 64 % 64 in
      let g = 0x80 + s % 64 in
      let may : MayBegin d e = record {
        least = omega arith;
        most = omega arith;
        second = (omega arith, omega arith);
        three = λ at. absurd (omega arith);
        surrogate = λ at. absurd (omega arith);
        four = λ at. omega arith;
        high = λ at. omega arith;
      } in
      rw (utf8-4 s least) (
        begins a b c d closed (λ _. omega arith),
        (
          second b c d e middle high (omega arith) may,
          (
            third c d e f high (omega arith) (omega arith, omega arith) (omega arith, omega arith),
            (fourth d e f g (omega arith) (omega arith) (omega arith, omega arith) (omega arith, omega arith), others e f g (record { first = omega arith; second = omega arith; third = omega arith })),
          ),
        ),
      )

  code_after : IsScalar s → AreAfter a b c (utf8 s ++ rest)
  code_after scalar = elim (cases_lt s 0x80) [
    | inl one ↦ of_one one
    | inr more ↦ elim (cases_lt s 0x800) [
      | inl two ↦ of_two more two
      | inr longer ↦ elim (cases_lt s 0x1_0000) [ inl three ↦ of_three longer three scalar | inr four ↦ of_four four scalar ]
    ]
  ]

codes_after : (cs : List ℕ) → all_scalars cs ≡ true → FollowsCodes (encode_utf8_all cs)
unfolding AreAfter
codes_after [] all x y z closed = closed
codes_after (s ∷ cs) all x y z closed =
    let parts = and_parts _ (all_scalars cs) all in
    let scalar : IsStdScalar s = parts.0 in
    rw (utf8_is_std s) (code_after x y z s (encode_utf8_all cs) closed (codes_after cs parts.1) (scalar_from_std s scalar))

text_after : (text : List ℕ) → IsUtf8 text → AreAfter 0 0 0 text
text_after text (cs, (all, e)) = subst (AreAfter 0 0 0) e (codes_after cs all 0 0 0 (record { first = lit< tt; second = lit< tt; third = lit< tt }))

-- The byte at each offset.

follows_at : (a b c : ℕ) (w : List ℕ) → AreAfter a b c w → (k : ℕ) → k < length w → Follows (get_or (a ∷ b ∷ c ∷ w) k 0) (get_or (b ∷ c ∷ w) k 0) (get_or (c ∷ w) k 0) (get_or w k 0)
unfolding AreAfter
follows_at a b c [] after k lt = absurd (omega arith)
follows_at a b c (d ∷ ds) after zero lt = after.0
follows_at a b c (d ∷ ds) after (suc k) lt = follows_at b c d ds after.1 k (omega arith)

closed_at : (a b c : ℕ) (w : List ℕ) → AreAfter a b c w → AreClosed (get_or (a ∷ b ∷ c ∷ w) (length w) 0) (get_or (b ∷ c ∷ w) (length w) 0) (get_or (c ∷ w) (length w) 0)
unfolding AreAfter
closed_at a b c [] after = after
closed_at a b c (d ∷ ds) after = closed_at b c d ds after.1

module _ (xs : List ℕ) where
  -- a front that is text, with three NULs before it
  pub text_follows : (n : ℕ) → n ≤ length xs → IsUtf8 (take n xs) → AllMayFollow (0 ∷ 0 ∷ 0 ∷ xs) 3 (n + 3)
  text_follows n within text k least most =
      let one : k + 1 ≡ suc k = omega arith in
      let two : k + 2 ≡ suc (suc k) = omega arith in
      let three : k + 3 ≡ suc (suc (suc k)) = omega arith in
      let at = follows_at 0 0 0 (take n xs) (text_after (take n xs) text) k (omega (arith, length-take n xs)) in
      rw (one, two, three) (rw (← get_or-take (suc (suc (suc n))) (0 ∷ 0 ∷ 0 ∷ xs) k 0 (omega arith), ← get_or-take (suc (suc n)) (0 ∷ 0 ∷ xs) k 0 (omega arith), ← get_or-take (suc n) (0 ∷ xs) k 0 (omega arith), ← get_or-take n xs k 0 (omega arith)) at)

  -- after text no byte is asked for
  pub text_closes : IsUtf8 xs → EndsCharacter xs (length xs)
  text_closes text k at =
      let closed = closed_at 0 0 0 xs (text_after xs text) in
      let first : length xs ≡ suc (suc (suc k)) = omega arith in
      let all : AreClosed (get_or xs k 0) (get_or xs (suc k) 0) (get_or xs (suc (suc k)) 0) = rw first at closed in
      let one : k + 1 ≡ suc k = omega arith in
      let two : k + 2 ≡ suc (suc k) = omega arith in
      rw (one, two) (all.first, all.second, all.third)

-- text after NULs, sixteen bytes in all
pub padded_follows : (here bytes : List ℕ) (j : ℕ) → here ≡ replicate j 0 ++ bytes → length here ≡ 16 → IsUtf8 bytes → AllMayFollow (0 ∷ 0 ∷ 0 ∷ here) 3 19
padded_follows here bytes j e long text =
    let whole : IsUtf8 here = subst IsUtf8 (sym e) (IsUtf8-append (replicate j 0) bytes (IsUtf8-from_ascii (replicate j 0) (nuls_ascii j)) text) in
    let all : take 16 here ≡ here = take_all 16 here (omega arith) in
    text_follows here 16 (omega arith) (rw all whole)

-- no four bytes in a row continue
pub last_begin_near : (xs : List ℕ) (p end : ℕ) → AllMayFollow (0 ∷ 0 ∷ 0 ∷ xs) 3 (end + 3) → ((k : ℕ) → p < k → k < end → IsContinuation (get_or xs k 0)) → end ≤ p + 4
last_begin_near xs p end all each = elim (cases_lt (p + 4) end) [
  | inr ge ↦ ge
  | inl lt ↦
      let at = λ (k j : ℕ) (e : k + 3 ≡ j). ap (λ n. get_or (0 ∷ 0 ∷ 0 ∷ xs) n 0) (sym e) ∙ at_byte xs k in
      let follows : Follows (get_or xs (p + 1) 0) (get_or xs (p + 2) 0) (get_or xs (p + 3) 0) (get_or xs (p + 4) 0)
      = rw (at (p + 1) (p + 4) (omega arith), at (p + 2) (p + 4 + 1) (omega arith), at (p + 3) (p + 4 + 2) (omega arith), at (p + 4) (p + 4 + 3) (omega arith)) at (all (p + 4) (omega arith) (omega arith)) in
      let a = each (p + 1) (omega arith) (omega arith) in
      let b = each (p + 2) (omega arith) (omega arith) in
      let c = each (p + 3) (omega arith) (omega arith) in
      let d = each (p + 4) (omega arith) (omega arith) in
      let may = follows.early (omega (arith, a.1)) (omega (arith, b.1)) in
      let high = may.first c.1 d.0 in
      absurd (omega (arith, d.1, high))
]
