-- Inner bytes: there are as many pieces as other bytes.
use Rattle.std.proofs.Common.{◌≡◌, ℕ, zero, suc, ◌+◌, ◌-◌, ◌<◌, ◌≤◌, List, length, get_or, take, drop, arith, refl, ap, ap₂, sym, ◌∙◌, ⊎_elim, inl, Ok, Err, Some, None, Option, length-drop}
use Rattle.std.proofs.lemmas.Bool.{cases_lt}
use Rattle.std.proofs.lemmas.List.{drop-drop, drop-take, get_or-drop, get_or-take, take-take, take_all}
use Rattle.utf_base.specs.Code.{utf8}
use Rattle.utf_base.specs.Kinds.{asked, asked_by, fault_kind, value}
use Rattle.utf_base.specs.declared.errors.Utf8ErrorKind.{Utf8ErrorKind}
use Rattle.utf_base.proofs.FrontLemmas.{asked-0, code_where_no_fault, decodes_from_none, no_fault_where_code}
use Rattle.utf_base.specs.Piece.{Stands}
use Rattle.utf_base.proofs.Standing.{same_char}
use Rattle.utf_base.proofs.Utf8Code.{utf8_is_code}
use Rattle.utf_base.proofs.KindLemmas.{four_bytes_decide}
use Rattle.encode_unicode.specs.Pieces.{pieces}
use Rattle.text_runs.specs.InnerBytes.{inner_after, inner_before, inner_of}
use Rattle.text_runs.specs.PieceSteps.{IsCountedTo}
use Rattle.text_runs.proofs.StepLemmas.{counted_none, counted_on, one_piece}

inner_few : (o : Option Utf8ErrorKind) (n : ℕ) → inner_of o n ≤ n - 1
inner_few None n = omega arith
inner_few (Some k) n = omega arith

-- a first byte that asks for no more has none
pub inner_none : (w : List ℕ) → asked_by w ≤ 1 → inner_after w ≡ 0
unfolding inner_after
inner_none w few = let le = inner_few (fault_kind w) (asked_by w) in omega arith

pub inner_fault : (w : List ℕ) (k : Utf8ErrorKind) → fault_kind w ≡ Some k → inner_after w ≡ 0
unfolding inner_after
inner_fault w k e = ap (λ o. inner_of o (asked_by w)) e

pub inner_code : (w : List ℕ) → fault_kind w ≡ None → inner_after w ≡ asked_by w - 1
unfolding inner_after
inner_code w e = ap (λ o. inner_of o (asked_by w)) e

-- a code has as many bytes as its first asks for
pub asked_len : (w : List ℕ) (s n : ℕ) → Stands utf8 w 0 s → n ≡ length (utf8 s) → n ≡ asked_by w
asked_len w s n stands len =
    let code = code_where_no_fault w (no_fault_where_code w s stands) in
    let same = same_char utf8 utf8_is_code w 0 (value w) s code.0 stands in
    len ∙ (ap (λ t. length (utf8 t)) (sym same) ∙ sym code.1)

-- four bytes decide
inner_four : (w : List ℕ) → inner_after (take 4 w) ≡ inner_after w
unfolding inner_after
inner_four w = ap₂ inner_of (four_bytes_decide w) (ap asked (get_or-take 4 w 0 0 (omega arith)))

pub inner_front : (m : ℕ) (w : List ℕ) → 4 ≤ m → inner_after (take m w) ≡ inner_after w
inner_front m w far = sym (inner_four (take m w)) ∙ (ap inner_after (take-take 4 m w far) ∙ inner_four w)

pub inner_zero : (xs : List ℕ) → inner_before xs 0 ≡ 0
unfolding inner_before
inner_zero xs = refl

pub inner_more : (xs : List ℕ) (n : ℕ) → inner_before xs (n + 1) ≡ inner_before xs n + inner_after (drop n xs)
unfolding inner_before
inner_more xs n = let e : n + 1 ≡ suc n = omega arith in rw e refl

-- the inner bytes of a part of the bytes, up to three bytes before its end
pub inner_of_part : (xs : List ℕ) (p m n : ℕ) → n + 3 ≤ m → inner_before (take m (drop p xs)) n + inner_before xs p ≡ inner_before xs (p + n)
inner_of_part xs p m zero far = let e : p + 0 ≡ p = omega arith in rw e (omega (arith, inner_zero (take m (drop p xs))))
inner_of_part xs p m (suc n) far =
    let w = take m (drop p xs) in
    let left = m - n in
    let all : n + left ≡ m = omega arith in
    let here : drop n w ≡ take left (drop (p + n) xs) = ap (λ k. drop n (take k (drop p xs))) (sym all) ∙ (drop-take n left (drop p xs) ∙ ap (take left) (drop-drop n p xs)) in
    let same : inner_after (drop n w) ≡ inner_after (drop (p + n) xs) = ap inner_after here ∙ inner_front left (drop (p + n) xs) (omega arith) in
    let before = inner_of_part xs p m n (omega arith) in
    let one : suc n ≡ n + 1 = omega arith in
    let next : p + suc n ≡ p + n + 1 = omega arith in
    rw (next, one) (omega (arith, inner_more w n, inner_more xs (p + n)))

-- the number of inner bytes before an offset grows with it
pub inner_grows : (xs : List ℕ) (p n : ℕ) → inner_before xs p ≤ inner_before xs (p + n)
inner_grows xs p zero = let e : p + 0 ≡ p = omega arith in rw e (omega arith)
inner_grows xs p (suc n) =
    let e : p + suc n ≡ p + n + 1 = omega arith in
    rw e (omega (arith, inner_grows xs p n, inner_more xs (p + n)))

-- A code has as many inner bytes as it has bytes after its first.
none_inside : (xs : List ℕ) (p n : ℕ) → ((k : ℕ) → 0 < k → k < n → inner_after (drop (p + k) xs) ≡ 0) → 0 < n → inner_before xs (p + n) ≡ inner_before xs p + inner_after (drop p xs)
none_inside xs p zero none some = absurd (omega arith)
none_inside xs p (suc zero) none some = inner_more xs p
none_inside xs p (suc (suc n)) none some =
    let before = none_inside xs p (suc n) (λ k lo hi. none k lo (omega arith)) (omega arith) in
    let e : p + suc (suc n) ≡ p + suc n + 1 = omega arith in
    rw e (omega (arith, inner_more xs (p + suc n), none (suc n) (omega arith) (omega arith)))

-- one more piece
module _ (xs : List ℕ) (p c : ℕ) (h : IsCountedTo xs p c) (sum : c + inner_before xs p ≡ p) (some : p < length xs) where
  abbrev w : List ℕ
  w = drop p xs

  -- an offset after the piece, up to which the count is known too
  pub record Next : Type 0 where
    pub len : ℕ
    pub positive : 0 < len
    pub counted : IsCountedTo xs (p + len) (c + 1)
    pub inner : c + 1 + inner_before xs (p + len) ≡ p + len

  pub next : Next
  next = by_kind (fault_kind w) refl
    where
      by_kind : (o : Option Utf8ErrorKind) → fault_kind w ≡ o → Next
      by_kind None e =
          let code = code_where_no_fault w e in
          let told = decodes_from_none w e in
          let n = asked_by w in
          let many = told.asks in
          let step = one_piece w n (Ok (value w)) (omega (arith, length-drop p xs)) code in
          let follow : (k : ℕ) → 0 < k → k < n → inner_after (drop (p + k) xs) ≡ 0
          = λ k lo hi.
          let byte = told.follow k lo hi in
          let same : get_or (drop (p + k) xs) 0 0 ≡ get_or w k 0 = get_or-drop (p + k) xs 0 0 ∙ (ap (λ i. get_or xs i 0) (omega arith) ∙ sym (get_or-drop p xs k 0)) in
          let none : asked (get_or (drop (p + k) xs) 0 0) ≡ 0 = ap asked same ∙ asked-0 (get_or w k 0) (inl (byte.0, omega (arith, byte.1))) in
          inner_none (drop (p + k) xs) (omega arith) in
          record {
            len = n;
            positive = many;
            counted = counted_on xs p c h _ _ step.all;
            inner = omega (arith, none_inside xs p n follow many, inner_code w e);
          }
      by_kind (Some k) e =
          let step = one_piece w 1 (Err k) (omega (arith, length-drop p xs)) (e, refl) in
          record { len = 1; positive = omega arith; counted = counted_on xs p c h _ _ step.all; inner = omega (arith, inner_more xs p, inner_fault w k e) }

counted_end : (xs : List ℕ) (p c : ℕ) → IsCountedTo xs p c → c + inner_before xs p ≡ p → length xs ≤ p → length (pieces xs) + inner_before xs (length xs) ≡ length xs
counted_end xs p c h sum end =
    let within = h.within in
    let same : p ≡ length xs = omega arith in
    let all : take p xs ≡ xs = take_all p xs end in
    omega (arith, h.counted, ap (λ ys. length (pieces ys)) all, ap (inner_before xs) same)

counted_up : (fuel : ℕ) (xs : List ℕ) (p c : ℕ) → IsCountedTo xs p c → c + inner_before xs p ≡ p → length xs ≤ p + fuel → length (pieces xs) + inner_before xs (length xs) ≡ length xs
counted_up zero xs p c h sum far = counted_end xs p c h sum (omega arith)
counted_up (suc fuel) xs p c h sum far =
    ⊎_elim
    (λ (some : p < length xs).
    let more = next xs p c h sum some in
    let positive = more.positive in
    counted_up fuel xs (p + more.len) (c + 1) more.counted more.inner (omega arith))
    (λ (end : length xs ≤ p). counted_end xs p c h sum end)
    (cases_lt p (length xs))

-- Every byte that is not inner begins a piece.
pub others_begin : (xs : List ℕ) → length (pieces xs) + inner_before xs (length xs) ≡ length xs
others_begin xs = counted_up (length xs) xs 0 0 (counted_none xs) (omega (arith, inner_zero xs)) (omega arith)

pub inner_within : (xs : List ℕ) (p : ℕ) → p ≤ length xs → inner_before xs p ≤ length xs
inner_within xs p le =
    let all : p + (length xs - p) ≡ length xs = omega arith in
    omega (arith, inner_grows xs p (length xs - p), ap (inner_before xs) all, others_begin xs)
