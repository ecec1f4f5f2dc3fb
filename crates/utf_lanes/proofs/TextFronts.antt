-- The value of a code at the front of bytes, and the cases in which none begins there.
use Rattle.std.proofs.Common.{◌≡◌, ℕ, ◌+◌, ◌-◌, ◌*◌, ◌/◌, ◌%◌, ◌≤◌, ◌<◌, ◌&&◌, List, length, get_or, true, arith, refl, lit<, false}
use Rattle.std.proofs.lemmas.Grind.{common_steps}
use Rattle.std.specs.Int.Bits.{bit_and}
use Rattle.std.proofs.lemmas.Nat.{and_mask}
use Rattle.utf_base.specs.Kinds.{is_continuation, asked, asked_by, least_value}
use Rattle.utf_base.proofs.KindCases.{Asks-3, Asks-4, Sums, Sums-3, Sums-4}
use Rattle.utf_base.specs.Code.{utf8}
use Rattle.utf_base.specs.Front.{NoneBegins}
use Rattle.utf_base.specs.Scalar.{IsScalar}
use Rattle.utf_base.proofs.FrontLemmas.{asked-3, asked-4, decodes_from_stands, least_value-4, value-3, value-4}

pub three_sum : (w : List ℕ) (front v : ℕ) → 4 ≤ length w → 0xE0 ≤ get_or w 0 0 → get_or w 0 0 < 0xF0 → is_continuation (get_or w 1 0) ≡ true → is_continuation (get_or w 2 0) ≡ true
    → front ≡ bit_and (get_or w 0 0) 0x0F * 64 + (get_or w 1 0 - 0x80) → v ≡ front * 64 + (get_or w 2 0 - 0x80) → Sums w 3 v × (v < 0x1_0000) × (v / 2048 ≡ front / 32)
three_sum w front v enough low high second third begun whole =
    let first : bit_and (get_or w 0 0) 0x0F ≡ get_or w 0 0 % 16 = and_mask (get_or w 0 0) 4 in
    let sum : v ≡ (get_or w 0 0 - 0xE0) * 4096 + (get_or w 1 0 - 0x80) * 64 + (get_or w 2 0 - 0x80) = omega arith in
    let both : (is_continuation (get_or w 1 0) && is_continuation (get_or w 2 0)) ≡ true = rw (second, third) refl in
    (Sums-3 w v (Asks-3 w (omega arith) low high) (omega arith) both sum, grind (arith, common_steps), grind (arith, common_steps))

pub four_sum : (w : List ℕ) (front middle v : ℕ) → 4 ≤ length w → 0xF0 ≤ get_or w 0 0 → get_or w 0 0 < 0xF5 → is_continuation (get_or w 1 0) ≡ true → is_continuation (get_or w 2 0) ≡ true
    → is_continuation (get_or w 3 0) ≡ true → front ≡ bit_and (get_or w 0 0) 0x0F * 64 + (get_or w 1 0 - 0x80) → middle ≡ front * 64 + (get_or w 2 0 - 0x80)
    → v ≡ middle * 64 + (get_or w 3 0 - 0x80) → Sums w 4 v × (front * 4096 ≤ v) × (v < front * 4096 + 4096)
four_sum w front middle v enough low high second third fourth begun more whole =
    let first : bit_and (get_or w 0 0) 0x0F ≡ get_or w 0 0 % 16 = and_mask (get_or w 0 0) 4 in
    let sum : v ≡ (get_or w 0 0 - 0xF0) * 262144 + (get_or w 1 0 - 0x80) * 4096 + (get_or w 2 0 - 0x80) * 64 + (get_or w 3 0 - 0x80) = omega arith in
    let all : (is_continuation (get_or w 1 0) && is_continuation (get_or w 2 0) && is_continuation (get_or w 3 0)) ≡ true = rw (second, third, fourth) refl in
    (Sums-4 w v (Asks-4 w (omega arith) low high) enough all sum, grind (arith, common_steps), grind (arith, common_steps))

-- the first byte asks for one that does not continue
pub none_by_continuation_byte : (w : List ℕ) (k : ℕ) → 0 < k → k < asked_by w → is_continuation (get_or w k 0) ≡ false → NoneBegins utf8 w
none_by_continuation_byte w k some lt e s h =
    let continues = (decodes_from_stands w s h).0.follow k some lt in
    grind (arith, common_steps)

-- a first byte of more than one
begins_many : (b : ℕ) → 0x80 ≤ b → 0 < asked b → (0xC2 ≤ b) × (b < 0xF5) × (1 < asked b)
unfolding asked
begins_many b high asks = (grind (arith, common_steps), grind (arith, common_steps), grind (arith, common_steps))

pub none_by_second : (w : List ℕ) → 0x80 ≤ get_or w 0 0 → is_continuation (get_or w 1 0) ≡ false → NoneBegins utf8 w
none_by_second w high e s h =
    let many = begins_many (get_or w 0 0) high (decodes_from_stands w s h).0.asks in
    none_by_continuation_byte w 1 (omega arith) many.2 e s h

pub none_by_first : (w : List ℕ) → 0x80 ≤ get_or w 0 0 → (0xC2 ≤ get_or w 0 0 → get_or w 0 0 < 0xF5 → ⊥) → NoneBegins utf8 w
none_by_first w high other s h =
    let many = begins_many (get_or w 0 0) high (decodes_from_stands w s h).0.asks in
    other many.0 many.1

-- the value of the bytes is no scalar, or one that needs fewer
pub none_by_value : (w : List ℕ) (n v : ℕ) → Sums w n v → (least_value n ≤ v → IsScalar v → ⊥) → NoneBegins utf8 w
none_by_value w n v sums other s h =
    let d = (decodes_from_stands w s h).0 in
    other (rw (sums.asks.asks, sums.sum) at d.least) (rw sums.sum at d.scalar)

-- the payload bits of the first two bytes of three are those that all surrogates begin with
pub none_by_surrogate : (w : List ℕ) (front : ℕ) → 0xE0 ≤ get_or w 0 0 → get_or w 0 0 < 0xF0
    → front ≡ bit_and (get_or w 0 0) 0x0F * 64 + (get_or w 1 0 - 0x80) → front / 32 ≡ 27 → NoneBegins utf8 w
none_by_surrogate w front low high begun surrogate s h =
    let d = (decodes_from_stands w s h).0 in
    let asks = asked-3 _ low high in
    let first : bit_and (get_or w 0 0) 0x0F ≡ get_or w 0 0 % 16 = and_mask (get_or w 0 0) 4 in
    let second = d.follow 1 (lit< tt) (omega arith) in
    let third = d.follow 2 (lit< tt) (omega arith) in
    let sum = value-3 w asks in
    let after = d.scalar.no_surrogate (omega arith) in
    omega arith

-- the payload bits of the first two bytes of four leave no scalar from 0x10000 on, or only numbers that are
-- too high
pub none_by_front_of_four : (w : List ℕ) (front : ℕ) → 0xF0 ≤ get_or w 0 0
    → front ≡ bit_and (get_or w 0 0) 0x0F * 64 + (get_or w 1 0 - 0x80) → (16 ≤ front → front ≤ 271 → ⊥) → NoneBegins utf8 w
none_by_front_of_four w front low begun other s h =
    let d = (decodes_from_stands w s h).0 in
    let many = begins_many (get_or w 0 0) (omega arith) d.asks in
    let asks = asked-4 _ low many.1 in
    let first : bit_and (get_or w 0 0) 0x0F ≡ get_or w 0 0 % 16 = and_mask (get_or w 0 0) 4 in
    let second = d.follow 1 (lit< tt) (omega arith) in
    let third = d.follow 2 (lit< tt) (omega arith) in
    let fourth = d.follow 3 (lit< tt) (omega arith) in
    let sum = value-4 w asks in
    let least = rw (asks, least_value-4) at d.least in
    let below = d.scalar.below in
    other (omega arith) (omega arith)
