-- Bytes of which, besides counts of UTF-8, only that of unpaired units takes any.
use Rattle.std.proofs.Common.{◌≡◌, ℕ, suc, ◌+◌, ◌*◌, ◌<◌, ◌≤◌, Bool, true, false, ◌||◌, leb, ltb, bit_xor, List, [], ◌∷◌, count_by, length, refl, ◌∙◌, arith, inl, inr, zero-add}
use Rattle.std.proofs.lemmas.Bool.{cases_lt}
use Rattle.std.proofs.lemmas.Bool.Decides.{nat_tests}
use Rattle.utf_lanes.proofs.PairTables.{at_each}
use Rattle.utf_lanes.specs.BytePairs.{unit_of, units_of}
use Rattle.surveys.specs.SurveyEnds.{is_control, is_nul}
use Rattle.surveys.specs.SurveyOrdinary.{AreAll, is_uncontrolled}
use Rattle.surveys.specs.SurveyUnits.{is_plain, is_stray}
use Rattle.surveys.proofs.ClassCounts.{counted_cons}

shown : ℕ → Bool
shown b = ltb (bit_xor b 0x17) 0x1A || (leb 0xFF b || is_uncontrolled b)

pub uncontrolled_shown : (b least most : ℕ) → b < 256 → least ≤ bit_xor b 0x17 → b ≤ most → 0x1A ≤ least → most < 0xFF → is_uncontrolled b ≡ true
unfolding shown is_uncontrolled
uncontrolled_shown b least most fits low high l m =
    third (ltb (bit_xor b 0x17) 0x1A) (leb 0xFF b) (is_uncontrolled b) (at_each shown 256 refl b fits) (grind (arith, nat_tests)) (grind (arith, nat_tests))
  where
    third : (p q r : Bool) → (p || (q || r)) ≡ true → p ≡ false → q ≡ false → r ≡ true
    third p q r e f g = rw (f, g) at e

-- What such a byte is not.
pub record IsUncontrolled (b : ℕ) : Type 0 where
  pub least : 7 ≤ b
  pub most : b < 0xFF
  pub no_control : 14 ≤ b → 32 ≤ b

pub uncontrolled : (b : ℕ) → is_uncontrolled b ≡ true → IsUncontrolled b
unfolding is_uncontrolled
uncontrolled b e = record { least = grind (arith, nat_tests); most = grind (arith, nat_tests); no_control = λ h. grind (arith, nat_tests) }

-- all bytes of a list are so
abbrev pub AllUncontrolled : List ℕ → Type 0
AllUncontrolled xs = AreAll is_uncontrolled xs 0 (length xs)

pub rest_is : (x : ℕ) (xs : List ℕ) → AllUncontrolled (x ∷ xs) → AllUncontrolled xs
rest_is x xs all k ge lt = all (suc k) (omega arith) (omega arith)

pub front_is : (x : ℕ) (xs : List ℕ) → AllUncontrolled (x ∷ xs) → IsUncontrolled x
front_is x xs all = uncontrolled x (all 0 (omega arith) (omega arith))

no_nul : (b : ℕ) → IsUncontrolled b → is_nul b ≡ false
no_nul b o = let least = o.least in grind (arith, nat_tests)

no_control : (b : ℕ) → IsUncontrolled b → is_control b ≡ false
no_control b o =
    let least = o.least in
    elim (cases_lt b 14) [
      | inl few ↦ grind (arith, nat_tests)
      | inr more ↦ (let past = o.no_control more in grind (arith, nat_tests))
    ]

pub no_nuls : (xs : List ℕ) → AllUncontrolled xs → count_by is_nul xs ≡ 0
no_nuls [] all = refl
no_nuls (x ∷ xs) all = counted_cons is_nul x xs ∙ rw (no_nul x (front_is x xs all)) (zero-add (count_by is_nul xs) ∙ no_nuls xs (rest_is x xs all))

pub no_controls : (xs : List ℕ) → AllUncontrolled xs → count_by is_control xs ≡ 0
no_controls [] all = refl
no_controls (x ∷ xs) all = counted_cons is_control x xs ∙ rw (no_control x (front_is x xs all)) (zero-add (count_by is_control xs) ∙ no_controls xs (rest_is x xs all))

-- Units of such bytes.

not_plain : (high low : ℕ) → IsUncontrolled high → IsUncontrolled low → is_plain (high * 256 + low) ≡ false
unfolding is_plain
not_plain high low h l =
    let a = h.least in
    let b = h.most in
    let c = l.least in
    let d = l.most in
    grind (arith, nat_tests)

not_stray : (high low : ℕ) → IsUncontrolled high → IsUncontrolled low → is_stray (high * 256 + low) ≡ false
unfolding is_stray
not_stray high low h l =
    let a = h.least in
    let b = h.most in
    let c = l.least in
    let d = l.most in
    grind (arith, nat_tests)

pub unit_not_plain : (high_first : Bool) (a b : ℕ) → IsUncontrolled a → IsUncontrolled b → is_plain (unit_of high_first a b) ≡ false
unit_not_plain true a b x y = not_plain a b x y
unit_not_plain false a b x y = not_plain b a y x

pub unit_not_stray : (high_first : Bool) (a b : ℕ) → IsUncontrolled a → IsUncontrolled b → is_stray (unit_of high_first a b) ≡ false
unit_not_stray true a b x y = not_stray a b x y
unit_not_stray false a b x y = not_stray b a y x

pub no_plain : (high_first : Bool) (xs : List ℕ) → AllUncontrolled xs → count_by is_plain (units_of high_first xs) ≡ 0
no_plain high_first [] all = refl
no_plain high_first (a ∷ []) all = refl
no_plain high_first (a ∷ b ∷ xs) all =
    let more = rest_is a (b ∷ xs) all in
    counted_cons is_plain (unit_of high_first a b) (units_of high_first xs)
    ∙ rw (unit_not_plain high_first a b (front_is a (b ∷ xs) all) (front_is b xs more)) (zero-add (count_by is_plain (units_of high_first xs)) ∙ no_plain high_first xs (rest_is b xs more))

pub no_stray : (high_first : Bool) (xs : List ℕ) → AllUncontrolled xs → count_by is_stray (units_of high_first xs) ≡ 0
no_stray high_first [] all = refl
no_stray high_first (a ∷ []) all = refl
no_stray high_first (a ∷ b ∷ xs) all =
    let more = rest_is a (b ∷ xs) all in
    counted_cons is_stray (unit_of high_first a b) (units_of high_first xs)
    ∙ rw (unit_not_stray high_first a b (front_is a (b ∷ xs) all) (front_is b xs more)) (zero-add (count_by is_stray (units_of high_first xs)) ∙ no_stray high_first xs (rest_is b xs more))
