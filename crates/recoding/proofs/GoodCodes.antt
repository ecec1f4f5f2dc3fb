-- Codes at the front of a list have no fault: units, and text.
use Rattle.std.proofs.Common.{◌≡◌, ℕ, suc, ◌+◌, ◌-◌, ◌≤◌, List, [], ◌∷◌, ◌++◌, length, take, drop, flat_map, arith, ap, refl, sym, ◌∙◌, subst, append_assoc, length-append, length-take, take-append-drop, IsUtf8}
use Rattle.std.proofs.Math.Seq.{take-append_seam, drop-append_seam}
use Rattle.std.proofs.lemmas.List.{drop-drop}
use Rattle.std.specs.Prelude.{All}
use Rattle.utf_base.specs.Code.{IsCode, utf8, utf16}
use Rattle.utf_base.specs.Scalar.{IsScalar}
use Rattle.utf_base.proofs.Standing.{stands_first}
use Rattle.utf_base.proofs.Utf8Code.{utf8_is_code}
use Rattle.utf_base.proofs.Utf16Code.{utf16_is_code}
use Rattle.utf_lanes.specs.UnitBlocks.{AreCodes}
use Rattle.recoding.proofs.FirstFaults.{IsGoodTo, good_front, good_step}
use Rattle.utf_base.proofs.TextScalars.{joined_from_text}

module _ (code : ℕ → List ℕ) (is_code : IsCode code) where
  good_codes : (cs xs : List ℕ) (i n : ℕ) → IsGoodTo code xs i → All IsScalar cs → n ≤ length (drop i xs) → take n (drop i xs) ≡ flat_map code cs → IsGoodTo code xs (i + n)
  good_codes [] xs i n g all within e =
      let none : length (take n (drop i xs)) ≡ 0 = ap length e in
      let at : i ≡ i + n = omega (arith, length-take n (drop i xs)) in
      subst (IsGoodTo code xs) at g
  good_codes (s ∷ rest) xs i n g all within e =
      let w = drop i xs in
      let first = code s in
      let codes = flat_map code rest in
      let m = length first in
      let whole : w ≡ first ++ (codes ++ drop n w) = sym (take-append-drop n w) ∙ ap (λ ys. ys ++ drop n w) e ∙ append_assoc first codes (drop n w) in
      let count : length (take n w) ≡ m + length codes = ap length e ∙ length-append first codes in
      let sum : n ≡ m + length codes = omega (arith, length-take n w) in
      let left : drop (i + m) xs ≡ codes ++ drop n w = sym (drop-drop m i xs) ∙ ap (drop m) whole ∙ drop-append_seam first (codes ++ drop n w) in
      let few : n - m ≡ length codes = omega arith in
      let next : take (n - m) (drop (i + m) xs) ≡ codes = rw (left, few) (take-append_seam codes (drop n w)) in
      let room : n - m ≤ length (drop (i + m) xs) = rw left (omega (arith, length-append codes (drop n w))) in
      let at : i + m + (n - m) ≡ i + n = omega arith in
      let good = good_step code is_code xs i s m g (stands_first code w (codes ++ drop n w) s (all 0 s (omega arith)) whole, refl) in
      subst (IsGoodTo code xs) at (good_codes rest xs (i + m) (n - m) good (λ k d lt. all (suc k) d (omega arith)) room next)

  pub good_codes_front : (cs xs : List ℕ) (n : ℕ) → n ≤ length xs → All IsScalar cs → take n xs ≡ flat_map code cs → IsGoodTo code xs n
  good_codes_front cs xs n within all e = let at : 0 + n ≡ n = omega arith in subst (IsGoodTo code xs) at (good_codes cs xs 0 n (good_front code xs) all within e)

pub good_front_codes : (xs : List ℕ) (n : ℕ) → n ≤ length xs → AreCodes (take n xs) → IsGoodTo utf16 xs n
good_front_codes xs n within h = good_codes_front utf16 utf16_is_code h.scalars xs n within h.all h.codes

pub good_text : (xs : List ℕ) (n : ℕ) → n ≤ length xs → IsUtf8 (take n xs) → IsGoodTo utf8 xs n
good_text xs n within text = let joined = joined_from_text (take n xs) text in good_codes_front utf8 utf8_is_code joined.0 xs n within joined.1.0 joined.1.1
