-- The window of an ASCII character adds nothing to the counts of bytes that may be UTF-8.
use Rattle.std.proofs.Common.{◌≡◌, ℕ, ◌<◌, ◌≤◌, false, List, length, get_or, drop, refl, sym, ap, ◌∙◌, arith}
use Rattle.std.proofs.lemmas.Grind.{common_steps}
use Rattle.utf_base.proofs.DecodedLemmas.{decoded_code}
use Rattle.utf_base.proofs.KindLemmas.{ascii_stands_alone}
use Rattle.surveys.specs.SurveyWindows.{front_len, len_of, is_char, is_fault, is_surrogate, twice_len}
use Rattle.surveys.specs.SurveyCounts.{nothing, seen}

pub front_len-ascii : (w : List ℕ) → 0 < length w → get_or w 0 0 < 0x80 → front_len w ≡ 1
unfolding front_len
front_len-ascii w some low =
    let alone = ascii_stands_alone w 0 some low in
    ap len_of (decoded_code w (get_or w 0 0) alone.0) ∙ sym alone.1

-- the fourth byte of a window is the first from there on
fourth : (w : List ℕ) → 17 ≤ length w → get_or w 3 0 < 0x80 → front_len (drop 3 w) ≡ 1
fourth w long low =
    let some : 0 < length (drop 3 w) = grind (arith, common_steps) in
    let first : get_or (drop 3 w) 0 0 < 0x80 = grind (arith, common_steps) in
    front_len-ascii (drop 3 w) some first

is_fault-ascii : (w : List ℕ) → front_len (drop 3 w) ≡ 1 → is_fault w ≡ false
unfolding is_fault
is_fault-ascii w one = rw one refl

is_char-ascii : (w : List ℕ) → front_len (drop 3 w) ≡ 1 → is_char w ≡ false
unfolding is_char
is_char-ascii w one = rw one refl

is_surrogate-ascii : (w : List ℕ) → get_or w 3 0 < 0x80 → is_surrogate w ≡ false
unfolding is_surrogate
is_surrogate-ascii w low = grind (arith, common_steps)

pub twice_len-ascii : (w : List ℕ) → get_or w 3 0 < 0x80 → twice_len w ≡ 0
unfolding twice_len
twice_len-ascii w low = grind (arith, common_steps)

pub seen-ascii : (w : List ℕ) → 17 ≤ length w → get_or w 3 0 < 0x80 → seen w ≡ nothing
seen-ascii w long low =
    let one = fourth w long low in
    rw (is_fault-ascii w one, is_char-ascii w one, is_surrogate-ascii w low, twice_len-ascii w low) refl
