-- The code that ends some bytes: where a scan from their end finds it, and that the last four of them decide.
use Rattle.std.proofs.Common.{◌≡◌, ℕ, zero, suc, ◌+◌, ◌-◌, ◌<◌, ◌≤◌, ⊎_elim, List, length, get_or, arith, refl, ap, sym, ◌∙◌, true, false, Option, Some, None, Result, Ok, Err, eqb, lit<}
use Rattle.std.proofs.lemmas.Grind.{common_steps}
use Rattle.std.proofs.lemmas.Bool.{cases_Bool, cases_lt}
use Rattle.utf_base.specs.declared.errors.Utf8ErrorKind.{Utf8ErrorKind}
use Rattle.utf_base.specs.declared.errors.Utf8ErrorKind.TheVariants.{TooFewBytes}
use Rattle.utf_base.specs.Back.{DecodesEnd, IsWholeCode, EndsInContinuationBytes, last_bytes, is_one_code, end_len, decoded_end, end_fault}
use Rattle.utf_base.specs.Code.{utf8}
use Rattle.utf_base.specs.Ends.{last_of, EndsWith, NoCodeEnds}
use Rattle.utf_base.specs.Front.{as_scalar, BeginsWith, IsFrontLen}
use Rattle.utf_base.specs.Kinds.{asked_by, back_kind, fault_kind, is_continuation, value}
use Rattle.utf_base.proofs.Ending.{end_len as end_len_of, no_code_ends-empty, ends_in_part, ends_in_whole, one_code_ends}
use Rattle.utf_base.proofs.FrontLemmas.{code_where_no_fault, no_code_where_fault, no_fault_where_code, decodes_from_stands}
use Rattle.utf_base.proofs.Standing.{Stands-at, same_char, stands_in_part, stands_in_whole}
use Rattle.utf_base.proofs.Utf8Code.{utf8_is_code, utf8-first, utf8-continuation_byte, length_utf8}

-- The scan.

continues : (b : ℕ) → is_continuation b ≡ true → (0x80 ≤ b) × (b < 0xC0)
continues b h = grind (arith, common_steps)

continues_not : (b : ℕ) → is_continuation b ≡ false → 0x80 ≤ b → b < 0xC0 → ⊥
continues_not b h p q = grind (arith, common_steps)

-- a code that ends the bytes has one byte more than the continuation bytes that the scan has read
end_len_of_scan : (w : List ℕ) (t s n : ℕ) → EndsInContinuationBytes w t → EndsWith utf8 w s n → n ≡ t + 1
end_len_of_scan w t s n scan h =
    let some = utf8_is_code.some s h.0.scalar in
    let most = length_utf8 s in
    ⊎_elim
    (λ (short : n < t + 1).
    let place : length w - n ≡ length w - 1 - (n - 1) = omega arith in
    let first = Stands-at utf8 w (length w - n) s 0 (length w - n) (omega arith) h.0 some in
    let seen = continues (get_or w (length w - 1 - (n - 1)) 0) (scan.continuation_bytes (n - 1) (omega arith)) in
    let same : get_or w (length w - n) 0 ≡ get_or w (length w - 1 - (n - 1)) 0 = ap (λ i. get_or w i 0) place in
    absurd (⊎_elim (λ (a : get_or (utf8 s) 0 0 < 0x80). omega (arith, seen)) (λ (a : 0xC2 ≤ get_or (utf8 s) 0 0). omega (arith, seen)) (utf8-first s h.0.scalar)))
    (λ (long : t + 1 ≤ n).
    ⊎_elim
    (λ (longer : t + 1 < n).
    let at = Stands-at utf8 w (length w - n) s (n - 1 - t) (length w - 1 - t) (omega arith) h.0 (omega arith) in
    let follows = utf8-continuation_byte s (n - 1 - t) h.0.scalar (omega arith) (omega arith) in
    absurd (continues_not (get_or w (length w - 1 - t) 0) (scan.stops (omega arith) (omega arith)) (omega (arith, follows)) (omega (arith, follows))))
    (λ (same : n ≤ t + 1). omega arith)
    (cases_lt (t + 1) n))
    (cases_lt n (t + 1))

-- the last n bytes are n bytes, if there are at least n
length-last_bytes : (w : List ℕ) (n : ℕ) → n ≤ length w → length (last_bytes n w) ≡ n
length-last_bytes w n le = grind (arith, common_steps)

-- if the last n bytes are one code, it ends the bytes
pub end_found : (w : List ℕ) (s n : ℕ) → n ≤ length w → IsWholeCode (last_bytes n w) (Some s) → EndsWith utf8 w s n
end_found w s n le h =
    let len = length-last_bytes w n le in
    ((stands_in_whole utf8 w (length w - n) (length w) 0 (length w - n) s (omega arith) (omega arith) (omega arith) h.0).0, sym len ∙ h.1)

-- if the bytes that the scan has read are no code, none ends the bytes
pub end_missed : (w : List ℕ) (t : ℕ) → EndsInContinuationBytes w t → IsWholeCode (last_bytes (t + 1) w) None → NoCodeEnds utf8 w
end_missed w t scan none s n h =
    let len : n ≡ t + 1 = end_len_of_scan w t s n scan h in
    let part = length-last_bytes w (t + 1) (omega arith) in
    let place : length w - (t + 1) + 0 ≡ length w - n = omega arith in
    none s (stands_in_part utf8 w (length w - (t + 1)) (length w) 0 (length w - n) s place (omega arith) h.0 (omega arith), part ∙ sym len ∙ h.1)

-- if the scan has reached the front of the bytes, no code ends them either
pub end_missed-all : (w : List ℕ) (t : ℕ) → EndsInContinuationBytes w t → length w ≤ t → NoCodeEnds utf8 w
end_missed-all w t scan all s n h =
    let len : n ≡ t + 1 = end_len_of_scan w t s n scan h in
    omega arith

pub end_missed-empty : (w : List ℕ) → length w ≡ 0 → NoCodeEnds utf8 w
end_missed-empty w e = no_code_ends-empty utf8 utf8_is_code w e

-- The fault if no code ends the bytes.

pub end_fault-empty : (w : List ℕ) → length w ≡ 0 → end_fault w ≡ TooFewBytes
end_fault-empty w e = rw e refl

pub end_fault-some : (w : List ℕ) → 0 < length w → end_fault w ≡ back_kind (last_of w)
end_fault-some w some = let not_empty : eqb (length w) 0 ≡ false = grind (arith, common_steps) in rw not_empty refl

-- All of the bytes are no code if a fault, or a code of another length, begins them.

pub no_whole_by_fault : (x : List ℕ) (k : Utf8ErrorKind) → fault_kind x ≡ Some k → IsWholeCode x None
no_whole_by_fault x k e s h = no_code_where_fault x k s e h.0

pub no_whole_by_len : (x : List ℕ) (t n : ℕ) → BeginsWith utf8 x t n → (n ≡ length x → ⊥) → IsWholeCode x None
no_whole_by_len x t n g other s h = other (g.1 ∙ ap (λ c. length (utf8 c)) (same_char utf8 utf8_is_code x 0 t s g.0 h.0) ∙ sym h.1)

-- The last four bytes.

pub last_four_decide : (w : List ℕ) (r : Result (ℕ × ℕ) Utf8ErrorKind) → DecodesEnd as_scalar (last_bytes 4 w) r → DecodesEnd as_scalar w r
last_four_decide w (Ok (s, n)) h =
    let e = ends_in_whole utf8 w (length w - 4) (length w) s n (omega arith) (omega arith) h in
    (e.0, e.1)
last_four_decide w (Err k) h = (
  λ s n g.
      let most = length_utf8 s in
      h.0 s (length (utf8 s)) (ends_in_part utf8 w (length w - 4) (length w) (length w - n) s (omega arith) (omega arith) g.0 (omega arith)),
  h.1 ∙ same_fault w,
)
  where
    same_fault : (w : List ℕ) → end_fault (last_bytes 4 w) ≡ end_fault w
    same_fault w =
        let empty : eqb (length (last_bytes 4 w)) 0 ≡ eqb (length w) 0 = grind (arith, common_steps) in
        let last : 0 < length w → get_or (last_bytes 4 w) (length (last_bytes 4 w) - 1) 0 ≡ get_or w (length w - 1) 0 = λ some. grind (arith, common_steps) in
        ⊎_elim
        (λ (some : 0 < length w). rw (empty, last some) refl)
        (λ (none : length w ≤ 0). let zero : eqb (length w) 0 ≡ true = grind (arith, common_steps) in rw (empty, zero) refl)
        (cases_lt 0 (length w))

-- The code that ends the bytes, as a function.

one_code_cases : (x : List ℕ) → is_one_code x ≡ true → (fault_kind x ≡ None) × (asked_by x ≡ length x)
one_code_cases x h = by_kind (fault_kind x) refl
  where
    by_kind : (k : Option Utf8ErrorKind) → fault_kind x ≡ k → (fault_kind x ≡ None) × (asked_by x ≡ length x)
    by_kind None e = (e, grind (arith, common_steps))
    by_kind (Some k) e = absurd (grind (arith, common_steps))

-- the last bytes, if they are one code, end the bytes
one_code_ends_with : (w : List ℕ) (n : ℕ) → is_one_code (last_bytes n w) ≡ true → EndsWith utf8 w (value (last_bytes n w)) (length (last_bytes n w))
one_code_ends_with w n h =
    let one = one_code_cases (last_bytes n w) h in
    let code = code_where_no_fault (last_bytes n w) one.0 in
    let len : length (last_bytes n w) ≡ length w - (length w - n) = grind (arith, common_steps) in
    let size : length (last_bytes n w) ≡ length (utf8 (value (last_bytes n w))) = sym one.1 ∙ code.1 in
    let whole = stands_in_whole utf8 w (length w - n) (length w) 0 (length w - length (last_bytes n w)) (value (last_bytes n w)) (omega arith) (omega arith) (omega arith) code.0 in
    (whole.0, size)

-- what ends the bytes is one code
ends_with_one_code : (w : List ℕ) (s n : ℕ) → EndsWith utf8 w s n → (is_one_code (last_bytes n w) ≡ true) × (value (last_bytes n w) ≡ s)
ends_with_one_code w s n h =
    let n_is = h.1 in
    let part = stands_in_part utf8 w (length w - n) (length w) 0 (length w - n) s (omega arith) (omega arith) h.0 (omega arith) in
    let none = no_fault_where_code (last_bytes n w) s part in
    let char : value (last_bytes n w) ≡ s = (decodes_from_stands (last_bytes n w) s part).1 in
    let len : length (last_bytes n w) ≡ n = grind (arith, common_steps) in
    let asks : asked_by (last_bytes n w) ≡ length (last_bytes n w) = (code_where_no_fault (last_bytes n w) none).1 ∙ ap (λ c. length (utf8 c)) char ∙ sym n_is ∙ sym len in
    (rw (none, asks) (grind (arith, common_steps)), char)

-- no smaller number of last bytes is a code, and no number is if no code ends them
not_shorter : (w : List ℕ) (s n m : ℕ) → EndsWith utf8 w s n → m < n → is_one_code (last_bytes m w) ≡ false
not_shorter w s n m h lt =
    ⊎_elim
    (λ e.
    let len : length (last_bytes m w) ≡ m = grind (arith, common_steps) in
    let same : n ≡ length (last_bytes m w) = (one_code_ends utf8 utf8_is_code w s (value (last_bytes m w)) n (length (last_bytes m w)) h (one_code_ends_with w m e)).1 in
    absurd (omega arith))
    (λ e. e)
    (cases_Bool (is_one_code (last_bytes m w)))

not_any : (w : List ℕ) (m : ℕ) → NoCodeEnds utf8 w → is_one_code (last_bytes m w) ≡ false
not_any w m none = ⊎_elim (λ e. absurd (none _ _ (one_code_ends_with w m e))) (λ e. e) (cases_Bool (is_one_code (last_bytes m w)))

end_len_is : (w : List ℕ) (s n : ℕ) → EndsWith utf8 w s n → end_len w ≡ n
unfolding end_len
end_len_is w s n h =
    let some = utf8_is_code.some s h.0.scalar in
    by_len n (omega (arith, h.1)) (omega (arith, h.1, length_utf8 s)) (ends_with_one_code w s n h).0 (λ m lt. not_shorter w s n m h lt)
  where
    by_len : (n : ℕ) → 0 < n → n ≤ 4 → is_one_code (last_bytes n w) ≡ true → ((m : ℕ) → m < n → is_one_code (last_bytes m w) ≡ false) → end_len w ≡ n
    by_len (suc zero) some most code shorter = rw code refl
    by_len (suc (suc zero)) some most code shorter = rw (shorter 1 (lit< tt), code) refl
    by_len (suc (suc (suc zero))) some most code shorter = rw (shorter 1 (lit< tt), shorter 2 (lit< tt), code) refl
    by_len (suc (suc (suc (suc zero)))) some most code shorter = rw (shorter 1 (lit< tt), shorter 2 (lit< tt), shorter 3 (lit< tt), code) refl
    by_len _ some most code shorter = absurd (omega arith)

end_len_none : (w : List ℕ) → NoCodeEnds utf8 w → end_len w ≡ 0
unfolding end_len
end_len_none w none = rw (not_any w 1 none, not_any w 2 none, not_any w 3 none, not_any w 4 none) refl

pub answer_of_end : (w : List ℕ) (r : Result (ℕ × ℕ) Utf8ErrorKind) → DecodesEnd as_scalar w r → r ≡ decoded_end w
unfolding decoded_end
answer_of_end w (Ok (s, n)) h =
    let some = utf8_is_code.some s h.0.scalar in
    let len = end_len_is w s n h in
    let not_zero : eqb n 0 ≡ false = grind (arith, common_steps) in
    rw (len, not_zero, (ends_with_one_code w s n h).1) refl
answer_of_end w (Err k) h = rw (end_len_none w h.0, h.1) refl

pub decoded_end_code : (w : List ℕ) (s n : ℕ) → EndsWith utf8 w s n → decoded_end w ≡ Ok (s, n)
decoded_end_code w s n h = sym (answer_of_end w (Ok (s, n)) h)

pub end_len_utf8 : (w : List ℕ) (s n : ℕ) → EndsWith utf8 w s n → IsFrontLen 4 w n
end_len_utf8 = end_len_of utf8 4 utf8_is_code length_utf8
