-- An odd last byte in parts: it belongs to the subpart of a leading surrogate before it.
use Rattle.std.proofs.Common.{◌≡◌, ℕ, suc, ◌+◌, ◌*◌, ◌/◌, ◌%◌, ◌-◌, ◌<◌, ◌≤◌, ⊎_elim, Bool, true, false, List, [], ◌∷◌, ◌++◌, length, drop, flat_map, arith, refl, ap, ◌∙◌, append_assoc}
use Rattle.std.specs.Prelude.{All}
use Rattle.std.proofs.lemmas.Bool.{cases_Bool, cases_lt}
use Rattle.std.proofs.lemmas.Grind.{common_steps}
use Rattle.std.proofs.lemmas.List.Concat.{flat_map-append}
use Rattle.utf_base.specs.Code.{utf16}
use Rattle.utf_base.specs.Scalar.{IsScalar}
use Rattle.utf_base.specs.Units.{is_leading_surrogate}
use Rattle.utf_base.proofs.Utf16Code.{utf16-1, utf16-2}
use Rattle.utf_lanes.specs.BytePairs.{bytes_of, unit_of}
use Rattle.recoding.specs.Lossy.{odd_part}
use Rattle.recoding.proofs.FrontBytes.{first_unit}

-- an odd byte is a part of its own after a unit that is no leading surrogate, or that another unit follows
after_other : (high : Bool) (a b : ℕ) (w : List ℕ) → is_leading_surrogate (unit_of high a b) ≡ false → odd_part high (a ∷ b ∷ w) ≡ odd_part high w
after_other high a b [] e = refl
after_other high a b (c ∷ []) e = rw e refl
after_other high a b (c ∷ d ∷ w) e = refl

before_more : (high : Bool) (a b : ℕ) (w : List ℕ) → 2 ≤ length w → odd_part high (a ∷ b ∷ w) ≡ odd_part high w
before_more high a b [] two = absurd (omega arith)
before_more high a b (c ∷ []) two = absurd (omega arith)
before_more high a b (c ∷ d ∷ w) two = refl

longer : (w later : List ℕ) → 2 ≤ length w → 2 ≤ length (w ++ later)
longer [] later two = absurd (omega arith)
longer (a ∷ []) later two = absurd (omega arith)
longer (a ∷ b ∷ w) later two = omega arith

pub odd_part_two : (high : Bool) (w later : List ℕ) → 2 ≤ length w → (is_leading_surrogate (first_unit high w) ≡ true → 4 ≤ length w)
    → odd_part high (w ++ later) ≡ odd_part high (drop 2 w ++ later)
odd_part_two high [] later two more = absurd (omega arith)
odd_part_two high (a ∷ []) later two more = absurd (omega arith)
odd_part_two high (a ∷ b ∷ w) later two more =
    ⊎_elim
    (λ (yes : is_leading_surrogate (unit_of high a b) ≡ true). let four = more yes in before_more high a b (w ++ later) (longer w later (omega arith)))
    (λ (no : is_leading_surrogate (unit_of high a b) ≡ false). after_other high a b (w ++ later) no)
    (cases_Bool (is_leading_surrogate (unit_of high a b)))

-- An odd byte is a part of its own after text.

scalar_is_none : (s : ℕ) → IsScalar s → is_leading_surrogate s ≡ false
scalar_is_none s h = let none = h.no_surrogate in grind (arith, common_steps)

trailing_is_none : (k : ℕ) → is_leading_surrogate (0xDC00 + k % 1024) ≡ false
trailing_is_none k = grind (arith, common_steps)

after_unit : (high : Bool) (u : ℕ) (later : List ℕ) → is_leading_surrogate u ≡ false → odd_part high (bytes_of high u ++ later) ≡ odd_part high later
after_unit true u later e = let whole : u / 256 * 256 + u % 256 ≡ u = omega arith in after_other true (u / 256) (u % 256) later (rw whole e)
after_unit false u later e = let whole : u / 256 * 256 + u % 256 ≡ u = omega arith in after_other false (u % 256) (u / 256) later (rw whole e)

after_two : (high : Bool) (u v : ℕ) (later : List ℕ) → is_leading_surrogate v ≡ false → odd_part high (bytes_of high u ++ (bytes_of high v ++ later)) ≡ odd_part high later
after_two true u v later e = before_more true (u / 256) (u % 256) (bytes_of true v ++ later) (omega arith) ∙ after_unit true v later e
after_two false u v later e = before_more false (u % 256) (u / 256) (bytes_of false v ++ later) (omega arith) ∙ after_unit false v later e

after_code : (high : Bool) (s : ℕ) (later : List ℕ) → IsScalar s → odd_part high (flat_map (bytes_of high) (utf16 s) ++ later) ≡ odd_part high later
after_code true s later scalar =
    ⊎_elim
    (λ (low : s < 0x1_0000). rw (utf16-1 s low) (after_unit true s later (scalar_is_none s scalar)))
    (λ (high : 0x1_0000 ≤ s).
    rw (utf16-2 s high) (after_two true (0xD800 + (s - 0x1_0000) / 1024) (0xDC00 + (s - 0x1_0000) % 1024) later (trailing_is_none (s - 0x1_0000))))
    (cases_lt s 0x1_0000)
after_code false s later scalar =
    ⊎_elim
    (λ (low : s < 0x1_0000). rw (utf16-1 s low) (after_unit false s later (scalar_is_none s scalar)))
    (λ (high : 0x1_0000 ≤ s).
    rw (utf16-2 s high) (after_two false (0xD800 + (s - 0x1_0000) / 1024) (0xDC00 + (s - 0x1_0000) % 1024) later (trailing_is_none (s - 0x1_0000))))
    (cases_lt s 0x1_0000)

pub odd_part_of_text : (high : Bool) (cs later : List ℕ) → All IsScalar cs → odd_part high (flat_map (bytes_of high) (flat_map utf16 cs) ++ later) ≡ odd_part high later
odd_part_of_text high [] later all = refl
odd_part_of_text high (s ∷ cs) later all =
    let rest = flat_map (bytes_of high) (flat_map utf16 cs) in
    ap (λ xs. odd_part high (xs ++ later)) (flat_map-append (bytes_of high) (utf16 s) (flat_map utf16 cs))
    ∙ ap (odd_part high) (append_assoc (flat_map (bytes_of high) (utf16 s)) rest later)
    ∙ after_code high s (rest ++ later) (all 0 s (omega arith))
    ∙ odd_part_of_text high cs later (λ j d lt. all (suc j) d (omega arith))
