-- Bytes and their number, in one word.
use Rattle.std.proofs.Common.{◌≡◌, ℕ, ◌+◌, ◌-◌, ◌*◌, ◌/◌, ◌%◌, ◌<◌, ◌≤◌, [], ◌∷◌, length, take, ⊎_elim, refl, arith, ap, sym, ◌∙◌}
use Rattle.std.proofs.lemmas.Bool.{cases_lt}
use Rattle.encode_unicode.specs.HeldWord.{held_bytes_of, count_of}

-- the bytes of the word, by their number
pub holds : (w n : ℕ) → count_of w ≡ n → held_bytes_of w ≡ take n (w % 256 ∷ w / 256 % 256 ∷ w / 0x1_0000 % 256 ∷ [])
unfolding held_bytes_of
holds w n count = rw count refl

pub holds_none : (w : ℕ) → w < 0x100_0000 → held_bytes_of w ≡ []
holds_none w h = holds w 0 (omega arith)

-- a word of known bytes
pub one_byte : (w a : ℕ) → a < 256 → w ≡ 0x100_0000 + a → held_bytes_of w ≡ a ∷ []
one_byte w a fits e = let first : w % 256 ≡ a = omega arith in holds w 1 (omega arith) ∙ rw first refl

pub two_bytes : (w a b : ℕ) → a < 256 → b < 256 → w ≡ 0x200_0000 + b * 256 + a → held_bytes_of w ≡ a ∷ b ∷ []
two_bytes w a b fits fits' e =
    let first : w % 256 ≡ a = omega arith in
    let second : w / 256 % 256 ≡ b = omega arith in
    holds w 2 (omega arith) ∙ rw (first, second) refl

pub three_bytes : (w a b c : ℕ) → a < 256 → b < 256 → c < 256 → w ≡ 0x300_0000 + c * 0x1_0000 + b * 256 + a → held_bytes_of w ≡ a ∷ b ∷ c ∷ []
three_bytes w a b c fits fits' fits'' e =
    let first : w % 256 ≡ a = omega arith in
    let second : w / 256 % 256 ≡ b = omega arith in
    let third : w / 0x1_0000 % 256 ≡ c = omega arith in
    holds w 3 (omega arith) ∙ rw (first, second, third) refl

-- a count of 0 to 3
by_count : (P : ℕ → Type 0) (n : ℕ) → n ≤ 3 → (n ≡ 0 → P n) → (n ≡ 1 → P n) → (n ≡ 2 → P n) → (n ≡ 3 → P n) → P n
by_count P n le none one two three =
    ⊎_elim (λ (a : n < 1). none (omega arith))
    (λ (a : 1 ≤ n). ⊎_elim (λ (b : n < 2). one (omega arith)) (λ (b : 2 ≤ n). ⊎_elim (λ (c : n < 3). two (omega arith)) (λ (c : 3 ≤ n). three (omega arith)) (cases_lt n 3)) (cases_lt n 2))
    (cases_lt n 1)

pub length_bytes : (w : ℕ) → count_of w ≤ 3 → length (held_bytes_of w) ≡ count_of w
length_bytes w le =
    by_count (λ n. length (held_bytes_of w) ≡ n) (count_of w) le
    (λ n. ap length (holds w 0 n) ∙ sym n) (λ n. ap length (holds w 1 n) ∙ sym n) (λ n. ap length (holds w 2 n) ∙ sym n) (λ n. ap length (holds w 3 n) ∙ sym n)

-- a word that holds nothing is below the first that holds some
pub holds_some : (w : ℕ) → count_of w ≤ 3 → held_bytes_of w ≡ [] → w < 0x100_0000
holds_some w le none =
    let len = length_bytes w le in
    let zero : length (held_bytes_of w) ≡ 0 = ap length none in
    omega arith

-- the word without the only one
pub only_of_word : (w : ℕ) → 0x100_0000 ≤ w → w < 0x200_0000 → held_bytes_of w ≡ w % 256 ∷ held_bytes_of 0
unfolding held_bytes_of
only_of_word w low high = holds w 1 (omega arith)

-- the word without its first byte
pub first_of_word : (w v n : ℕ) → count_of w ≡ n + 1 → n ≤ 2 → v ≡ (w / 0x100_0000 - 1) * 0x100_0000 + w / 256 % 0x1_0000 → held_bytes_of w ≡ w % 256 ∷ held_bytes_of v
first_of_word w v n count le e =
    let less : count_of v ≡ n = omega arith in
    let second : w / 256 % 256 ≡ v % 256 = omega arith in
    let third : w / 0x1_0000 % 256 ≡ v / 256 % 256 = omega arith in
    by_count (λ _. held_bytes_of w ≡ w % 256 ∷ held_bytes_of v) n (omega arith)
    (λ z. holds w 1 (omega arith) ∙ ap (λ bs. w % 256 ∷ bs) (sym (holds v 0 (omega arith))))
    (λ z. holds w 2 (omega arith) ∙ rw second refl ∙ ap (λ bs. w % 256 ∷ bs) (sym (holds v 1 (omega arith))))
    (λ z. holds w 3 (omega arith) ∙ rw (second, third) refl ∙ ap (λ bs. w % 256 ∷ bs) (sym (holds v 2 (omega arith))))
    (λ z. absurd (omega arith))
