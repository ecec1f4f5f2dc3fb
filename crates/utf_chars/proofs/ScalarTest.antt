-- An exclusive or with 0xD800 maps the surrogates below 0x800 and leaves the scalars below 0x110000, so that one
-- comparison tests for a scalar.
use Rattle.std.proofs.Common.{◌≡◌, ℕ, ◌+◌, ◌*◌, ◌/◌, ◌%◌, ◌<◌, nat_lt, arith, ap, sym, ◌∙◌, lit<}
use Rattle.std.proofs.lemmas.Grind.{common_steps}
use Rattle.std.proofs.lemmas.Nat.{xor_block, xor_lt, xor_of_32}
use Rattle.std.specs.Int.Bits.{bit_xor, xor_zero_r, xor_self, xor_assoc}
use Rattle.std.specs.Prelude.{◌↔◌, IsTrue}
use Rattle.utf_base.specs.Scalar.{IsScalar}

-- The upper bits, without the lowest 11. Those of a surrogate are 27.
record Upper (h k : ℕ) : Type 0 where
  zero_from : k ≡ 0 → h ≡ 27
  zero_to : h ≡ 27 → k ≡ 0
  block : k / 32 ≡ h / 32

upper : (h : ℕ) → Upper h (bit_xor h 27)
upper h =
    let whole : h / 32 * 32 + h % 32 ≡ h = omega arith in
    let parts : bit_xor h 27 ≡ h / 32 * 32 + bit_xor (h % 32) 27
    = ap (λ x. bit_xor x 27) (sym whole) ∙ xor_block 5 (h / 32) 0 (h % 32) 27 (omega arith) (lit< tt)
    ∙ ap (λ x. x * 32 + bit_xor (h % 32) 27) (xor_zero_r (h / 32)) in
    let below : bit_xor (h % 32) 27 < 32 = xor_lt 5 (h % 32) 27 (omega arith) (lit< tt) in
    record {
      zero_from = λ e. sym (xor_zero_r h) ∙ ap (bit_xor h) (sym (xor_self 27)) ∙ sym (xor_assoc h 27 27) ∙ ap (λ x. bit_xor x 27) e;
      zero_to = λ e. ap (λ x. bit_xor x 27) e ∙ xor_self 27;
      block = omega arith;
    }

by_parts : (n : ℕ) → bit_xor n 0xD800 ≡ bit_xor (n / 2048) 27 * 2048 + n % 2048
by_parts n =
    let whole : n / 2048 * 2048 + n % 2048 ≡ n = omega arith in
    ap (λ x. bit_xor x 0xD800) (sym whole) ∙ xor_block 11 (n / 2048) 27 (n % 2048) 0 (omega arith) (lit< tt)
    ∙ ap (λ x. bit_xor (n / 2048) 27 * 2048 + x) (xor_zero_r (n % 2048))

-- The subtraction wraps at 32 bits.
pub scalar_test : (n : ℕ) → n < 4294967296 → IsTrue (nat_lt ((bit_xor n 0xD800 + 4294965248) % 4294967296) 0x10_F800) ↔ IsScalar n
scalar_test n fits =
    let parts = by_parts n in
    let part = upper (n / 2048) in
    let small = xor_of_32 n 0xD800 fits (lit< tt) in
    (λ h. record { below = grind (arith, common_steps); no_surrogate = λ g. grind (arith, common_steps) }, λ s. grind (arith, common_steps))
