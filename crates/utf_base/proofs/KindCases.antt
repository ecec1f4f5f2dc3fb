-- The forward kind, case by case, in the terms in which code tests for it.
use Rattle.std.proofs.Common.{◌≡◌, ℕ, ◌+◌, ◌-◌, ◌*◌, ◌<◌, ◌≤◌, List, length, get_or, arith, refl, sym, ◌∙◌, ap, Some, None, true, false, not, eqb, ltb, leb, ◌&&◌, if◌then◌else◌}
use Rattle.std.proofs.lemmas.Grind.{common_steps}
use Rattle.utf_base.specs.declared.errors.Utf8ErrorKind.TheVariants.{TooFewBytes, NonUtf8Byte, UnexpectedContinuationByte, InterruptedSequence, OverlongEncoding, Utf16ReservedCodepoint, TooHighCodepoint}
use Rattle.utf_base.specs.Scalar.{IsScalar}
use Rattle.utf_base.specs.Code.{utf8}
use Rattle.utf_base.specs.Front.{BeginsWith}
use Rattle.utf_base.specs.Kinds.{fault_kind, value_fault, asked_by, value, payload, least_value, is_continuation, all_continue}
use Rattle.utf_base.proofs.FrontLemmas.{asked-2, asked-3, asked-4, value-2, value-3, value-4, code_where_no_fault}
use Rattle.utf_base.proofs.KindLemmas.{ascii_stands_alone}

pub kind-empty : (w : List ℕ) → length w ≡ 0 → fault_kind w ≡ Some TooFewBytes
unfolding fault_kind
kind-empty w e = rw e refl

pub kind-continuation : (w : List ℕ) → 0 < length w → 0x80 ≤ get_or w 0 0 → get_or w 0 0 < 0xC0 → fault_kind w ≡ Some UnexpectedContinuationByte
unfolding fault_kind
kind-continuation w some low high =
    let not_empty : eqb (length w) 0 ≡ false = grind (arith, common_steps) in
    let first : is_continuation (get_or w 0 0) ≡ true = grind (arith, common_steps) in
    rw (not_empty, first) refl

-- a first byte that no code has, or a continuation byte
pub kind-never : (w : List ℕ) → 0 < length w → asked_by w ≡ 0 → is_continuation (get_or w 0 0) ≡ false → fault_kind w ≡ Some NonUtf8Byte
unfolding fault_kind
kind-never w some none first =
    let not_empty : eqb (length w) 0 ≡ false = grind (arith, common_steps) in
    rw (not_empty, first, none) refl

-- A first byte that asks for n.
pub record Asks (w : List ℕ) (n : ℕ) : Type 0 where
  pub some : 0 < length w
  pub first : is_continuation (get_or w 0 0) ≡ false
  pub asks : asked_by w ≡ n
  pub positive : 0 < n

pub Asks-2 : (w : List ℕ) → 0 < length w → 0xC2 ≤ get_or w 0 0 → get_or w 0 0 < 0xE0 → Asks w 2
Asks-2 w some low high = record { some = some; first = grind (arith, common_steps); asks = asked-2 (get_or w 0 0) low high; positive = omega arith }

pub Asks-3 : (w : List ℕ) → 0 < length w → 0xE0 ≤ get_or w 0 0 → get_or w 0 0 < 0xF0 → Asks w 3
Asks-3 w some low high = record { some = some; first = grind (arith, common_steps); asks = asked-3 (get_or w 0 0) low high; positive = omega arith }

pub Asks-4 : (w : List ℕ) → 0 < length w → 0xF0 ≤ get_or w 0 0 → get_or w 0 0 < 0xF5 → Asks w 4
Asks-4 w some low high = record { some = some; first = grind (arith, common_steps); asks = asked-4 (get_or w 0 0) low high; positive = omega arith }

-- a first byte that asks for others is no fault without the bytes after it
kind-begun : (w : List ℕ) (n : ℕ) → Asks w n
    → fault_kind w ≡ (if ltb (length w) n then Some TooFewBytes else if not (all_continue w) then Some InterruptedSequence else value_fault w)
unfolding fault_kind
kind-begun w n a =
    let not_empty : eqb (length w) 0 ≡ false = grind (arith, common_steps) in
    let occurs : eqb n 0 ≡ false = grind (arith, common_steps) in
    rw (not_empty, a.first, a.asks, occurs) refl

pub kind-few : (w : List ℕ) (n : ℕ) → Asks w n → length w < n → fault_kind w ≡ Some TooFewBytes
kind-few w n a few = let short : ltb (length w) n ≡ true = grind (arith, common_steps) in kind-begun w n a ∙ rw short refl

kind-continued : (w : List ℕ) (n : ℕ) → Asks w n → n ≤ length w → fault_kind w ≡ (if not (all_continue w) then Some InterruptedSequence else value_fault w)
kind-continued w n a enough = let short : ltb (length w) n ≡ false = grind (arith, common_steps) in kind-begun w n a ∙ rw short refl

-- All bytes that the first asks for are there and continue, and v is their value.
pub record Sums (w : List ℕ) (n v : ℕ) : Type 0 where
  pub asks : Asks w n
  pub enough : n ≤ length w
  pub follow : all_continue w ≡ true
  pub sum : value w ≡ v

pub Sums-2 : (w : List ℕ) (v : ℕ) → Asks w 2 → 2 ≤ length w → is_continuation (get_or w 1 0) ≡ true
    → v ≡ (get_or w 0 0 - 0xC0) * 64 + payload w 1 → Sums w 2 v
Sums-2 w v a enough e sum = record { asks = a; enough = enough; follow = rw (a.asks, e) refl; sum = value-2 w a.asks ∙ sym sum }

pub Sums-3 : (w : List ℕ) (v : ℕ) → Asks w 3 → 3 ≤ length w → (is_continuation (get_or w 1 0) && is_continuation (get_or w 2 0)) ≡ true
    → v ≡ (get_or w 0 0 - 0xE0) * 4096 + payload w 1 * 64 + payload w 2 → Sums w 3 v
Sums-3 w v a enough e sum = record { asks = a; enough = enough; follow = rw (a.asks, e) refl; sum = value-3 w a.asks ∙ sym sum }

pub Sums-4 : (w : List ℕ) (v : ℕ) → Asks w 4 → 4 ≤ length w
    → (is_continuation (get_or w 1 0) && is_continuation (get_or w 2 0) && is_continuation (get_or w 3 0)) ≡ true
    → v ≡ (get_or w 0 0 - 0xF0) * 262144 + payload w 1 * 4096 + payload w 2 * 64 + payload w 3 → Sums w 4 v
Sums-4 w v a enough e sum = record { asks = a; enough = enough; follow = rw (a.asks, e) refl; sum = value-4 w a.asks ∙ sym sum }

-- if all bytes are there and continue, only the value decides
kind-value : (w : List ℕ) (n v : ℕ) → Sums w n v → fault_kind w
    ≡ (if ltb v (least_value n) then Some OverlongEncoding
    else if leb 0xD800 v && ltb v 0xE000 then Some Utf16ReservedCodepoint
    else if ltb 0x10_FFFF v then Some TooHighCodepoint
    else None)
kind-value w n v s =
    let a = s.asks in
    kind-continued w n a s.enough ∙ rw (s.follow, s.sum, a.asks) refl

pub kind-overlong : (w : List ℕ) (n v : ℕ) → Sums w n v → v < least_value n → fault_kind w ≡ Some OverlongEncoding
kind-overlong w n v s h =
    let short : ltb v (least_value n) ≡ true = grind (arith, common_steps) in
    kind-value w n v s ∙ rw short refl

pub kind-surrogate : (w : List ℕ) (n v : ℕ) → Sums w n v → least_value n ≤ v → 0xD800 ≤ v → v < 0xE000 → fault_kind w ≡ Some Utf16ReservedCodepoint
kind-surrogate w n v s h low high =
    let long : ltb v (least_value n) ≡ false = grind (arith, common_steps) in
    let from : leb 0xD800 v ≡ true = grind (arith, common_steps) in
    let to : ltb v 0xE000 ≡ true = grind (arith, common_steps) in
    kind-value w n v s ∙ rw (long, from, to) refl

pub kind-too_high : (w : List ℕ) (n v : ℕ) → Sums w n v → least_value n ≤ v → 0x11_0000 ≤ v → fault_kind w ≡ Some TooHighCodepoint
kind-too_high w n v s h high =
    let long : ltb v (least_value n) ≡ false = grind (arith, common_steps) in
    let from : leb 0xD800 v ≡ true = grind (arith, common_steps) in
    let to : ltb v 0xE000 ≡ false = grind (arith, common_steps) in
    let above : ltb 0x10_FFFF v ≡ true = grind (arith, common_steps) in
    kind-value w n v s ∙ rw (long, from, to, above) refl

pub kind-none : (w : List ℕ) (n v : ℕ) → Sums w n v → least_value n ≤ v → IsScalar v → fault_kind w ≡ None
kind-none w n v s h scalar =
    let long : ltb v (least_value n) ≡ false = grind (arith, common_steps) in
    let gap : (leb 0xD800 v && ltb v 0xE000) ≡ false = grind (arith, common_steps) in
    let low : ltb 0x10_FFFF v ≡ false = grind (arith, common_steps) in
    kind-value w n v s ∙ rw (long, gap, low) refl

-- a scalar that is the value of the bytes, in no more of them than it needs, begins them
pub begins_with : (w : List ℕ) (n v : ℕ) → Sums w n v → least_value n ≤ v → IsScalar v → BeginsWith utf8 w v n
begins_with w n v s h scalar =
    let a = s.asks in
    let r = code_where_no_fault w (kind-none w n v s h scalar) in
    (rw s.sum at r.0, sym a.asks ∙ r.1 ∙ ap (λ x. length (utf8 x)) s.sum)

pub begins_with-1 : (w : List ℕ) → 0 < length w → get_or w 0 0 < 0x80 → BeginsWith utf8 w (get_or w 0 0) 1
begins_with-1 w some low = ascii_stands_alone w 0 some low
