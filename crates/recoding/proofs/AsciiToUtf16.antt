-- Texts of only ASCII: their scalars, and their units.
use Rattle.std.proofs.Common.{◌≡◌, ℕ, zero, suc, ◌+◌, ◌-◌, ◌*◌, ◌/◌, ◌%◌, ◌<◌, ◌≤◌, Bool, true, false, List, [], ◌∷◌, ◌++◌, length, get_or, take, drop, flat_map, arith, refl, sym, ap, ap₂, ◌∙◌, drop-cons, take-add, take-append-drop, length-append, length-take}
use Rattle.std.proofs.lemmas.Grind.{flat_map-append}
use Rattle.std.proofs.lemmas.List.{append-nil, get_or-take, take-take, take_all}
use Rattle.std.specs.Prelude.{All, IsUtf8, slice_range}
use Rattle.utf_base.specs.Code.{utf8}
use Rattle.utf_base.specs.Scalar.{IsScalar}
use Rattle.utf_base.proofs.Utf8Code.{utf8-1, ascii_is_scalar}
use Rattle.utf_base.proofs.Utf16Code.{utf16-1}
use Rattle.recoding.specs.declared.form.Form.{Form}
use Rattle.recoding.specs.declared.form.Form.TheVariants.{Utf8}
use Rattle.recoding.specs.Recoded.{written}
use Rattle.recoding.specs.NextScalars.{HasByteOrder}
use Rattle.utf_lanes.specs.Utf8ToUtf16.{concat_range, halves, utf16_bytes}
use Rattle.recoding.specs.Strict.{PutsText}
use Rattle.utf_lanes.specs.AsciiTexts.{AreAscii}
use Rattle.recoding.specs.UnitRuns.{widened}
use Rattle.utf_lanes.proofs.Joined.{joined_add}
use Rattle.utf_lanes.proofs.AsciiTexts.{ascii_text, ascii_units_given}
use Rattle.utf_lanes.specs.BytePairs.{bytes_of}
use Rattle.recoding.proofs.CopiedUnits.{as_written}

-- The bytes that were written.

-- one after another
pub appended_twice : {O : Type 0} {appends : O → List ℕ → O → Type 0} → ((a b c : O) (xs ys : List ℕ) → appends a xs b → appends b ys c → appends a (xs ++ ys) c)
    → {a b c : O} {xs ys : List ℕ} → appends a xs b → appends b ys c → appends a (xs ++ ys) c
appended_twice more {a} {b} {c} {xs} {ys} f g = more a b c xs ys f g

-- the units of some bytes, followed by those of more
pub widened_more : (high : Bool) (xs : List ℕ) (p n : ℕ) → widened high (take p xs) ++ widened high (take n (drop p xs)) ≡ widened high (take (p + n) xs)
widened_more high xs p n = sym (flat_map-append (λ b. halves high b 0) (take p xs) (take n (drop p xs))) ∙ ap (widened high) (sym (take-add p n xs))

pub widened_rest : (high : Bool) (xs : List ℕ) (p : ℕ) → widened high (take p xs) ++ widened high (drop p xs) ≡ widened high xs
widened_rest high xs p = sym (flat_map-append (λ b. halves high b 0) (take p xs) (drop p xs)) ∙ ap (widened high) (take-append-drop p xs)

-- one byte
pub widened_one : (high : Bool) (xs : List ℕ) (p : ℕ) → p < length xs → halves high (get_or xs p 0) 0 ≡ widened high (take 1 (drop p xs))
widened_one high xs p lt =
    let next : drop p xs ≡ get_or xs p 0 ∷ drop (suc p) xs = drop-cons xs p 0 lt in
    rw next (sym (append-nil (halves high (get_or xs p 0) 0)))

length_half : (high : Bool) (b : ℕ) → length (halves high b 0) ≡ 2
length_half true b = refl
length_half false b = refl

length_widened : (high : Bool) (xs : List ℕ) → length (widened high xs) ≡ 2 * length xs
length_widened high [] = refl
length_widened high (x ∷ xs) = omega (arith, length-append (halves high x 0) (widened high xs), length_half high x, length_widened high xs)

pub few_widened : (high : Bool) (xs : List ℕ) (n : ℕ) → length (widened high (take n xs)) ≤ 2 * n
few_widened high xs n = omega (arith, length_widened high (take n xs), length-take n xs)

joined_widened : (high : Bool) (v : List ℕ) (p n : ℕ) → p + n ≤ length v → concat_range (λ k. halves high (get_or v k 0) 0) p n ≡ widened high (take n (drop p v))
unfolding concat_range
joined_widened high v p zero le = refl
joined_widened high v p (suc n) le =
    let next : drop p v ≡ get_or v p 0 ∷ drop (suc p) v = drop-cons v p 0 (omega arith) in
    rw next (ap (λ ys. halves high (get_or v p 0) 0 ++ ys) (joined_widened high v (suc p) n (omega arith)))

-- the two halves of the lanes
pub block_widened : (high : Bool) (v first second : List ℕ) (n : ℕ) → length v ≡ n + n → first ≡ concat_range (λ k. halves high (get_or v k 0) 0) 0 n
    → second ≡ concat_range (λ k. halves high (get_or v k 0) 0) n n → first ++ second ≡ widened high v
block_widened high v first second n long e f =
    let all : take (n + n) v ≡ v = take_all (n + n) v (omega (arith, long)) in
    let whole = joined_add (λ k. halves high (get_or v k 0) 0) 0 n n in
    let at : 0 + n ≡ n = omega arith in
    ap₂ (λ xs ys. xs ++ ys) e f ∙ sym (rw at at whole) ∙ joined_widened high v 0 (n + n) (omega (arith, long)) ∙ ap (widened high) all

-- the units of a text of ASCII
pub widened_ascii : (high : Bool) (xs : List ℕ) → AreAscii xs 0 (length xs) → widened high xs ≡ utf16_bytes high xs 0 (length xs)
widened_ascii high xs low =
    let all : take (length xs) xs ≡ xs = take_all (length xs) xs (omega arith) in
    let joined = joined_widened high xs 0 (length xs) (omega arith) ∙ ap (widened high) all in
    sym joined ∙ ascii_units_given high xs (λ k lt. low k (omega arith) lt)

-- The codes of ASCII bytes.

unit_bytes : (high : Bool) (b : ℕ) → b < 0x80 → flat_map (bytes_of high) (b ∷ []) ≡ halves high b 0
unit_bytes true b lt = let high_byte : b / 256 ≡ 0 = omega arith in let low_byte : b % 256 ≡ b = omega arith in rw (high_byte, low_byte) refl
unit_bytes false b lt = let high_byte : b / 256 ≡ 0 = omega arith in let low_byte : b % 256 ≡ b = omega arith in rw (high_byte, low_byte) refl

pub unit_written : (high : Bool) (to : Form) (b : ℕ) → HasByteOrder high to → b < 0x80 → written to b ≡ halves high b 0
unit_written high to b form lt = as_written high to b form ∙ rw (utf16-1 b (omega arith)) (unit_bytes high b lt)

units_written : (high : Bool) (to : Form) (xs : List ℕ) → HasByteOrder high to → AreAscii xs 0 (length xs) → flat_map (written to) xs ≡ widened high xs
units_written high to [] form low = refl
units_written high to (b ∷ bs) form low =
    ap₂ (λ ys zs. ys ++ zs) (unit_written high to b form (low 0 (omega arith) (omega arith))) (units_written high to bs form (λ k ge lt. low (suc k) (omega arith) (omega arith)))

pub ascii_codes : (xs : List ℕ) → AreAscii xs 0 (length xs) → flat_map utf8 xs ≡ xs
ascii_codes [] low = refl
ascii_codes (b ∷ bs) low =
    ap₂ (λ ys zs. ys ++ zs) (utf8-1 b (low 0 (omega arith) (omega arith))) (ascii_codes bs (λ k ge lt. low (suc k) (omega arith) (omega arith)))

pub ascii_scalars : (xs : List ℕ) → AreAscii xs 0 (length xs) → All IsScalar xs
ascii_scalars [] low k d lt = absurd (omega arith)
ascii_scalars (x ∷ xs) low zero d lt = ascii_is_scalar x (low 0 (omega arith) (omega arith))
ascii_scalars (x ∷ xs) low (suc k) d lt = ascii_scalars xs (λ j ge le. low (suc j) (omega arith) (omega arith)) k d (omega arith)

-- the first of some bytes, as far as they are ASCII
pub ascii_front : (xs : List ℕ) (n : ℕ) → AreAscii xs 0 n → AreAscii (take n xs) 0 (length (take n xs))
ascii_front xs n low k ge lt = let less : k < n = omega (arith, length-take n xs) in rw (get_or-take n xs k 0 less) (low k ge less)

-- The first n bytes of a part from an offset on are ASCII.
module _ (bytes : List ℕ) (p m n : ℕ) (within : n ≤ length (slice_range bytes p (p + m))) (low : AreAscii (slice_range bytes p (p + m)) 0 n) where
  -- these bytes
  part_front : slice_range bytes p (p + n) ≡ take n (slice_range bytes p (p + m))
  part_front =
      let few : n ≤ p + m - p = omega (arith, length-take (p + m - p) (drop p bytes)) in
      let width : p + n - p ≡ n = omega arith in
      rw width (sym (take-take n (p + m - p) (drop p bytes) few))

  pub part_text : IsUtf8 (slice_range bytes p (p + n))
  part_text = rw part_front (ascii_text (take n (slice_range bytes p (p + m))) (ascii_front (slice_range bytes p (p + m)) n low))

  pub part_units : (high : Bool) → widened high (take n (slice_range bytes p (p + m))) ≡ utf16_bytes high (slice_range bytes p (p + n)) 0 (length (slice_range bytes p (p + n)))
  part_units high = rw part_front (widened_ascii high (take n (slice_range bytes p (p + m))) (ascii_front (slice_range bytes p (p + m)) n low))

-- no text
pub none_at : (bytes : List ℕ) (p : ℕ) → slice_range bytes p p ≡ []
none_at bytes p = let width : p - p ≡ 0 = omega arith in rw width refl

-- A text of ASCII is transcoded to its units.
pub PutsText-widened : {O : Type 0} {appends : O → List ℕ → O → Type 0} {old new : O} {to : Form} {bytes : List ℕ} {n : ℕ} (high : Bool) → HasByteOrder high to → n ≤ length bytes
    → AreAscii (take n bytes) 0 (length (take n bytes)) → appends old (widened high (take n bytes)) new → PutsText appends Utf8 to bytes old new n
PutsText-widened {to} {bytes} {n} high form within low put = record {
  within = within;
  grown = widened high (take n bytes);
  appended = put;
  transcodes = record {
    scalars = take n bytes;
    all = ascii_scalars (take n bytes) low;
    codes = sym (ascii_codes (take n bytes) low);
    made = sym (units_written high to (take n bytes) form low);
  };
}
