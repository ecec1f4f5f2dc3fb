-- Units validated by two masks, and the bytes of their lanes.
use Rattle.std.proofs.Common.{◌≡◌, ℕ, zero, suc, ◌+◌, ◌-◌, ◌*◌, ◌/◌, ◌%◌, ◌^◌, ◌<◌, ◌≤◌, Bool, true, false, cond, eqb, List, [], ◌∷◌, ◌++◌, length, get_or, take, arith, refl, sym, ap, ◌∙◌, inl, inr, append_assoc, length-append}
use Rattle.std.proofs.lemmas.Bool.{cases_lt}
use Rattle.std.proofs.lemmas.Grind.{common_steps}
use Rattle.std.proofs.lemmas.List.{take_at}
use Rattle.std.proofs.lemmas.Nat.{div-add-mod', mod-pow-add, mod_below, pow_pos}
use Rattle.std.proofs.Math.Nat.{mod-eq_of_lt}
use Rattle.std.proofs.Math.Pow.{pow-lt}
use Rattle.std.proofs.lemmas.Nat.Bits.{bit_at-lt, bit_at-suc, bit_at_lowest, bit_at_cat_low, bit_at_above}
use Rattle.std.specs.Int.{bit_at}
use Rattle.utf_base.specs.Units.{is_leading_surrogate, is_trailing_surrogate, is_surrogate}
use Rattle.utf_lanes.specs.Utf8ToUtf16.{concat_range}
use Rattle.utf_lanes.specs.UnitCodes.{lane_unit, unit_code, code_at, AreText, lane_bytes, slot_at, first_byte, middle_byte, last_byte, lead_byte, second_byte, first_in_text, middle_in_text, last_in_text, nonzero_lead, lanes_at, Writes, WritesUnits}
use Rattle.utf_lanes.proofs.Joined.{joined_add, joined_same, joined_moved, joined_1}
use Rattle.utf_lanes.proofs.UnitBytes.{not_both, ascii_code, leading_code}
use Rattle.utf_lanes.proofs.UnitSlots.{leading_is, surrogate_is}

-- Masks.

pub trailing_is : (h l : ℕ) → l < 256 → eqb (h / 4) 0x37 ≡ is_trailing_surrogate (h * 256 + l)
trailing_is h l L = grind (arith, common_steps)

bit_true : (b : Bool) → cond {A = ℕ} b 1 0 ≡ 1 → b ≡ true
bit_true true e = refl
bit_true false e = absurd (omega arith)

bit_false : (b : Bool) → cond {A = ℕ} b 1 0 ≡ 0 → b ≡ false
bit_false true e = absurd (omega arith)
bit_false false e = refl

same_bit : (a b : Bool) → cond {A = ℕ} a 1 0 ≡ cond b 1 0 → a ≡ b
same_bit true b e = sym (bit_true b (sym e))
same_bit false b e = sym (bit_false b (sym e))

below_power : (m n i : ℕ) → i < n → bit_at (m % 2 ^ n) i ≡ bit_at m i
below_power m n i lt = sym (bit_at_cat_low (m / 2 ^ n) n (m % 2 ^ n) i lt) ∙ ap (λ j. bit_at j i) (div-add-mod' m (2 ^ n))

next_bit : (n m k : ℕ) → k + 1 < n → bit_at (m * 2 % 2 ^ n) (k + 1) ≡ bit_at m k
next_bit n m k lt =
    let at : suc k ≡ k + 1 = omega arith in
    let half : m * 2 / 2 ≡ m = omega arith in
    below_power (m * 2) n (k + 1) lt ∙ ap (bit_at (m * 2)) (sym at) ∙ bit_at-suc (m * 2) k ∙ ap (λ j. bit_at j k) half

first_bit : (n m : ℕ) → 0 < n → bit_at (m * 2 % 2 ^ n) 0 ≡ 0
first_bit n m lt = below_power (m * 2) n 0 lt ∙ bit_at_lowest (m * 2) ∙ omega arith

high_bit : (n m : ℕ) → m < 2 ^ (1 + n) → 2 ^ n ≤ m → bit_at m n ≡ 1
high_bit n m most least =
    let whole : m % 2 ^ (1 + n) ≡ m = mod-eq_of_lt most in
    let parts : m ≡ bit_at m n * 2 ^ n + m % 2 ^ n = sym whole ∙ mod-pow-add m 1 n in
    let rest : m % 2 ^ n < 2 ^ n = mod_below m (2 ^ n) (pow_pos n) in
    either (bit_at m n) refl (bit_at-lt m n) parts rest
  where
    either : (b : ℕ) → bit_at m n ≡ b → b < 2 → m ≡ b * 2 ^ n + m % 2 ^ n → m % 2 ^ n < 2 ^ n → bit_at m n ≡ 1
    either zero e lt parts rest = absurd (omega arith)
    either (suc zero) e lt parts rest = e
    either (suc (suc b)) e lt parts rest = absurd (omega arith)

no_high_bit : (n m : ℕ) → m < 2 ^ n → bit_at m n ≡ 0
no_high_bit n m most = bit_at_above m n n most (omega arith)

one_shifted : (n : ℕ) → n ≤ 32 → 1 * 2 ^ n % 2 ^ 64 ≡ 2 ^ n
one_shifted n few = let one : 1 * 2 ^ n ≡ 2 ^ n = omega arith in let below : n < 64 = omega arith in ap (λ m. m % 2 ^ 64) one ∙ mod-eq_of_lt (pow-lt {j = 64} below)

-- Units among which each leading surrogate is before a trailing one, and each trailing one after a leading one.
module _ (n : ℕ) (some : 2 ≤ n) (few : n ≤ 32) (low high : List ℕ) (lead trail : ℕ) (fits : (k : ℕ) → k < n → get_or low k 0 < 256) (most : lead < 2 ^ n)
    (leads : (k : ℕ) → k < n → bit_at lead k ≡ cond (eqb (get_or high k 0 / 4) 0x36) 1 0)
    (trails : (k : ℕ) → k < n → bit_at trail k ≡ cond (eqb (get_or high k 0 / 4) 0x37) 1 0)
    (match : trail ≡ lead * 2 % (1 * 2 ^ n % 2 ^ 64)) where
  leads_at : (k : ℕ) → k < n → bit_at lead k ≡ cond (is_leading_surrogate (lane_unit low high k)) 1 0
  leads_at k lt = leads k lt ∙ ap (λ (b : Bool). cond {A = ℕ} b 1 0) (leading_is (get_or high k 0) (get_or low k 0) (fits k lt))

  trails_at : (k : ℕ) → k < n → bit_at (lead * 2 % 2 ^ n) k ≡ cond (is_trailing_surrogate (lane_unit low high k)) 1 0
  trails_at k lt =
      ap (λ m. bit_at m k) (sym (match ∙ ap (λ m. lead * 2 % m) (one_shifted n few))) ∙ trails k lt
      ∙ ap (λ (b : Bool). cond {A = ℕ} b 1 0) (trailing_is (get_or high k 0) (get_or low k 0) (fits k lt))

  follows : (k : ℕ) → k + 1 < n → is_trailing_surrogate (lane_unit low high (k + 1)) ≡ is_leading_surrogate (lane_unit low high k)
  follows k lt = same_bit _ _ (sym (trails_at (k + 1) lt) ∙ next_bit n lead k lt ∙ leads_at k (omega arith))

  starts : is_trailing_surrogate (lane_unit low high 0) ≡ false
  starts = bit_false _ (sym (trails_at 0 (omega arith)) ∙ first_bit n lead (omega arith))

  pub text_whole : lead < 1 * 2 ^ (n - 1) % 2 ^ 64 → AreText (lane_unit low high) n
  text_whole below = record {
    first = λ some. starts;
    leading = λ k lt yes. elim (cases_lt (k + 1) n) [
      | inl less ↦ (less, follows k less ∙ yes)
      | inr last ↦ (
          let at : k ≡ n - 1 = omega arith in
          let last_yes : is_leading_surrogate (lane_unit low high (n - 1)) ≡ true = rw at at yes in
          let none : is_leading_surrogate (lane_unit low high (n - 1)) ≡ false
          = bit_false _ (sym (leads_at (n - 1) (omega arith)) ∙ no_high_bit (n - 1) lead (rw (one_shifted (n - 1) (omega arith)) at below)) in
          absurd cc)
    ];
    trailing = λ k lt yes. sym (follows k lt) ∙ yes;
  }

  pub last_leads : 1 * 2 ^ (n - 1) % 2 ^ 64 ≤ lead → is_leading_surrogate (lane_unit low high (n - 1)) ≡ true
  last_leads above =
      let whole : 1 + (n - 1) ≡ n = omega arith in
      bit_true _ (sym (leads_at (n - 1) (omega arith)) ∙ high_bit (n - 1) lead (rw whole most) (rw (one_shifted (n - 1) (omega arith)) at above))

  pub text_short : 1 * 2 ^ (n - 1) % 2 ^ 64 ≤ lead → AreText (lane_unit low high) (n - 1)
  text_short above = record {
    first = λ some. starts;
    leading = λ k lt yes. elim (cases_lt (k + 1) (n - 1)) [
      | inl less ↦ (less, follows k (omega arith) ∙ yes)
      | inr last ↦ (
          let at : k + 1 ≡ n - 1 = omega arith in
          let trail_last : is_trailing_surrogate (lane_unit low high (n - 1)) ≡ true = rw at at (follows k (omega arith) ∙ yes) in
          absurd (not_both (lane_unit low high (n - 1)) (last_leads above) trail_last))
    ];
    trailing = λ k lt yes. sym (follows k (omega arith)) ∙ yes;
  }

-- The bytes of those lanes.

any_before : (p q u : ℕ) → is_trailing_surrogate u ≡ false → middle_in_text p u ≡ middle_in_text q u
any_before p q u none = grind (arith, common_steps)

low_before : (h l u : ℕ) → middle_in_text l u ≡ middle_in_text (h * 256 + l) u
low_before h l u = let at : l % 4 ≡ (h * 256 + l) % 4 = omega arith in ap (λ n. cond (is_leading_surrogate u) (lead_byte u) (cond (is_surrogate u) (0x80 + n * 16 + u / 64 % 16) (middle_byte u))) at

module _ {n : ℕ} (low high before firsts middles lasts : List ℕ) (start : is_trailing_surrogate (lane_unit low high 0) ≡ false)
    (later : (k : ℕ) → k + 1 < n → get_or before (k + 1) 0 ≡ get_or low k 0)
    (first : (k : ℕ) → k < n → get_or firsts k 0 ≡ first_in_text (lane_unit low high k))
    (middle : (k : ℕ) → k < n → get_or middles k 0 ≡ middle_in_text (get_or before k 0) (lane_unit low high k))
    (last : (k : ℕ) → k < n → get_or lasts k 0 ≡ last_in_text (lane_unit low high k)) where
  middle_at : (k : ℕ) → k < n → get_or middles k 0 ≡ middle_in_text (lane_unit low high (k - 1)) (lane_unit low high k)
  middle_at zero lt = middle 0 lt ∙ any_before (get_or before 0 0) (lane_unit low high (0 - 1)) (lane_unit low high 0) start
  middle_at (suc k) lt =
      let at : k + 1 ≡ suc k = omega arith in
      let back : suc k - 1 ≡ k = omega arith in
      let low_one : get_or before (suc k) 0 ≡ get_or low k 0 = rw at at (later k (omega arith)) in
      rw back (middle (suc k) lt ∙ ap (λ n. middle_in_text n (lane_unit low high (suc k))) low_one ∙ low_before (get_or high k 0) (get_or low k 0) (lane_unit low high (suc k)))

  code_is : (k : ℕ) → k < n → slot_at firsts middles lasts k ≡ code_at (lane_unit low high) k
  code_is k lt = rw (first k lt, middle_at k lt, last k lt) refl

  pub text_codes : concat_range (slot_at firsts middles lasts) 0 n ≡ concat_range (code_at (lane_unit low high)) 0 n
  text_codes = joined_same (slot_at firsts middles lasts) (code_at (lane_unit low high)) 0 n (λ i ge lt. code_is i (omega arith))

-- All but the last of some units, if that is a leading surrogate.
module _ (n m : ℕ) (one : n ≡ m + 1) (u : ℕ → ℕ) (old new : List ℕ) (last : is_leading_surrogate (u m) ≡ true) (items : new ≡ old ++ concat_range (code_at u) 0 n) where
  abbrev pair : List ℕ
  pair = lead_byte (u m) ∷ second_byte (u m) ∷ []

  split : new ≡ (old ++ concat_range (code_at u) 0 m) ++ pair
  split =
      let at : 0 + m ≡ m = omega arith in
      items ∙ ap (λ k. old ++ concat_range (code_at u) 0 k) one
      ∙ ap (λ xs. old ++ xs) (joined_add (code_at u) 0 m 1 ∙ ap (λ k. concat_range (code_at u) 0 m ++ concat_range (code_at u) k 1) at
      ∙ ap (λ xs. concat_range (code_at u) 0 m ++ xs) (joined_1 (code_at u) m ∙ leading_code (u (m - 1)) (u m) last))
      ∙ sym (append_assoc old (concat_range (code_at u) 0 m) pair)

  new_len : length new ≡ length (old ++ concat_range (code_at u) 0 m) + 2
  new_len = ap length split ∙ length-append (old ++ concat_range (code_at u) 0 m) pair

  pub two_more : 2 ≤ length new
  two_more = omega (arith, new_len)

  pub without_last : take (length new - 2) new ≡ old ++ concat_range (code_at u) 0 m
  without_last =
      let at : length new - 2 ≡ length (old ++ concat_range (code_at u) 0 m) = omega (arith, new_len) in
      rw at (ap (take (length (old ++ concat_range (code_at u) 0 m))) split ∙ take_at (old ++ concat_range (code_at u) 0 m) pair (length (old ++ concat_range (code_at u) 0 m)) refl)

-- bytes of all units, written into a buffer
pub WritesUnits-all : {n : ℕ} {low high old new bytes : List ℕ} {at end : ℕ} → AreText (lane_unit low high) n → Writes old new at end bytes
    → bytes ≡ concat_range (code_at (lane_unit low high)) 0 n → end ≤ at + 3 * n → WritesUnits n low high old new at n end
WritesUnits-all {old = old} {at = at} text written codes fits = record {
  most = omega arith;
  text = text;
  len = written.len;
  bytes = written.front ∙ ap (λ xs. take at old ++ xs) codes;
  short = omega arith;
  fits = fits;
}

-- Units that are characters.

characters_text : (u : ℕ → ℕ) (n : ℕ) → ((k : ℕ) → k < n → is_surrogate (u k) ≡ false) → AreText u n
characters_text u n none = record {
  first = λ some. no_trail (u 0) (none 0 some);
  leading = λ k lt yes. let no = no_lead (u k) (none k lt) in absurd cc;
  trailing = λ k lt yes. let no = no_trail (u (k + 1)) (none (k + 1) lt) in absurd cc;
}
  where
    no_trail : (u : ℕ) → is_surrogate u ≡ false → is_trailing_surrogate u ≡ false
    no_trail u e = grind (arith, common_steps)

    no_lead : (u : ℕ) → is_surrogate u ≡ false → is_leading_surrogate u ≡ false
    no_lead u e = grind (arith, common_steps)

code_of : (p u : ℕ) → is_surrogate u ≡ false → lane_bytes (first_byte u) (middle_byte u) (last_byte u) ≡ unit_code p u
code_of p u e = let f : is_leading_surrogate u ≡ false = grind (arith, common_steps) in rw (e, f) refl

module _ {n : ℕ} (low high : List ℕ) (fits : (k : ℕ) → k < n → get_or low k 0 < 256) (none : (k : ℕ) → k < n → eqb (get_or high k 0 / 8) 0x1B ≡ false) where
  no_surrogates : (k : ℕ) → k < n → is_surrogate (lane_unit low high k) ≡ false
  no_surrogates k lt = sym (surrogate_is (get_or high k 0) (get_or low k 0) (fits k lt)) ∙ none k lt

  pub characters_are_text : AreText (lane_unit low high) n
  characters_are_text = characters_text (lane_unit low high) n no_surrogates

  module _ (firsts middles lasts : List ℕ)
      (first : (k : ℕ) → k < n → get_or firsts k 0 ≡ first_byte (lane_unit low high k))
      (middle : (k : ℕ) → k < n → get_or middles k 0 ≡ middle_byte (lane_unit low high k))
      (last : (k : ℕ) → k < n → get_or lasts k 0 ≡ last_byte (lane_unit low high k)) where
    pub character_codes : concat_range (slot_at firsts middles lasts) 0 n ≡ concat_range (code_at (lane_unit low high)) 0 n
    character_codes =
        joined_same (slot_at firsts middles lasts) (code_at (lane_unit low high)) 0 n
        (λ i ge more. let lt : i < n = omega arith in rw (first i lt, middle i lt, last i lt) (code_of (lane_unit low high (i - 1)) (lane_unit low high i) (no_surrogates i lt)))

-- Units that have one byte or two in UTF-8.

module _ {n : ℕ} (low high : List ℕ) (fits : (k : ℕ) → k < n → get_or low k 0 < 256) (short : (k : ℕ) → k < n → get_or high k 0 < 8) where
  unit_short : (k : ℕ) → k < n → lane_unit low high k < 0x800
  unit_short k lt = let l = fits k lt in let h = short k lt in omega arith

  below_surrogates : (u : ℕ) → u < 0x800 → is_surrogate u ≡ false
  below_surrogates u h = grind (arith, common_steps)

  pub short_text : AreText (lane_unit low high) n
  short_text = characters_text (lane_unit low high) n (λ k lt. below_surrogates (lane_unit low high k) (unit_short k lt))

  short_code : (p u : ℕ) → u < 0x800 → nonzero_lead (middle_byte u) ++ (last_byte u ∷ []) ≡ unit_code p u
  short_code p u h =
      let none : first_byte u ≡ 0 = grind (arith, common_steps) in
      sym (ap (λ n. lane_bytes n (middle_byte u) (last_byte u)) none) ∙ code_of p u (below_surrogates u h)

  module _ (middles lasts : List ℕ)
      (middle : (k : ℕ) → k < n → get_or middles k 0 ≡ middle_byte (lane_unit low high k))
      (last : (k : ℕ) → k < n → get_or lasts k 0 ≡ last_byte (lane_unit low high k)) where
    pub short_codes : concat_range (lanes_at true middles lasts) 0 n ≡ concat_range (code_at (lane_unit low high)) 0 n
    short_codes =
        joined_same (lanes_at true middles lasts) (code_at (lane_unit low high)) 0 n
        (λ i ge more. let lt : i < n = omega arith in rw (middle i lt, last i lt) (short_code (lane_unit low high (i - 1)) (lane_unit low high i) (unit_short i lt)))

-- Units of ASCII.

listed : (xs : List ℕ) → concat_range (λ i. get_or xs i 0 ∷ []) 0 (length xs) ≡ xs
unfolding concat_range
listed [] = refl
listed (x ∷ xs) =
    ap (λ ys. x ∷ ys)
    (joined_moved (λ i. get_or (x ∷ xs) i 0 ∷ []) (λ i. get_or xs i 0 ∷ []) 1 0 (length xs) (λ i lt.
    let a : 1 + i ≡ suc i = omega arith in
    let b : 0 + i ≡ i = omega arith in
    rw (a, b) refl)
    ∙ listed xs)

module _ {n : ℕ} (low high : List ℕ) (long : length low ≡ n) (ascii : (k : ℕ) → k < n → lane_unit low high k < 0x80) where
  pub ascii_text : AreText (lane_unit low high) n
  ascii_text = characters_text (lane_unit low high) n (λ k lt. let h = ascii k lt in grind (arith, common_steps))

  low_is : (k : ℕ) → k < n → lane_unit low high k ≡ get_or low k 0
  low_is k lt = let h = ascii k lt in omega arith

  pub ascii_codes : low ≡ concat_range (code_at (lane_unit low high)) 0 n
  ascii_codes =
      sym (listed low) ∙ ap (concat_range (λ i. get_or low i 0 ∷ []) 0) long
      ∙ joined_same (λ i. get_or low i 0 ∷ []) (code_at (lane_unit low high)) 0 n
      (λ i ge more. let lt : i < n = omega arith in sym (ascii_code (lane_unit low high (i - 1)) (lane_unit low high i) (ascii i lt) ∙ ap (λ n. n ∷ []) (low_is i lt)))
