-- Well-formed units transcoded as they are, or with the bytes of each swapped.
use Rattle.std.proofs.Common.{drop, subst, ◌≡◌, ℕ, zero, suc, ◌+◌, ◌-◌, ◌*◌, ◌/◌, ◌%◌, ◌<◌, Bool, true, false, not, List, [], ◌∷◌, ◌++◌, length, get_or, take, flat_map, refl, sym, ap, ap₂, ◌∙◌, arith, append_assoc, w8, Fits}
use Rattle.std.proofs.lemmas.List.{get_or-drop}
use Rattle.std.proofs.lemmas.List.Concat.{flat_map-append}
use Rattle.std.specs.Prelude.{All}
use Rattle.utf_base.specs.Code.{utf16}
use Rattle.utf_base.specs.Scalar.{IsScalar}
use Rattle.utf_base.specs.Shown.{Shows}
use Rattle.utf_base.proofs.Rests.{whole_code_shows_first}
use Rattle.utf_base.proofs.Utf16Code.{utf16_is_code}
use Rattle.recoding.specs.declared.form.Form.{Form}
use Rattle.recoding.proofs.Forms.{is_units}
use Rattle.recoding.specs.Recodes.{differ}
use Rattle.recoding.specs.Recoded.{written}
use Rattle.utf_lanes.specs.BytePairs.{unit_of, units_of, bytes_of, swapped, turned}
use Rattle.recoding.specs.NextScalars.{HasByteOrder}
use Rattle.utf_lanes.specs.UnitBlocks.{AreCodes}

-- Codes show their scalars.
pub codes_show : (cs later ss : List ℕ) → All IsScalar cs → Shows utf16 later ss → Shows utf16 (flat_map utf16 cs ++ later) (cs ++ ss)
codes_show [] later ss all r = r
codes_show (s ∷ cs) later ss all r =
    rw (append_assoc (utf16 s) (flat_map utf16 cs) later)
    (whole_code_shows_first utf16 utf16_is_code (utf16 s) (flat_map utf16 cs ++ later) s (cs ++ ss) (all 0 s (omega arith)) refl
    (codes_show cs later ss (λ k d lt. all (suc k) d (omega arith)) r))

-- The codes of scalars as bytes are the bytes of their units.

pub as_written : (high : Bool) (to : Form) (s : ℕ) → HasByteOrder high to → written to s ≡ flat_map (bytes_of high) (utf16 s)
as_written high to s form = rw (form, is_units high, written) refl

pub joined_bytes : (high : Bool) (cs : List ℕ) → flat_map (λ s. flat_map (bytes_of high) (utf16 s)) cs ≡ flat_map (bytes_of high) (flat_map utf16 cs)
joined_bytes high [] = refl
joined_bytes high (s ∷ cs) = ap (λ ys. flat_map (bytes_of high) (utf16 s) ++ ys) (joined_bytes high cs) ∙ sym (flat_map-append (bytes_of high) (utf16 s) (flat_map utf16 cs))

pub all_written : (high : Bool) (to : Form) (cs : List ℕ) → HasByteOrder high to → flat_map (written to) cs ≡ flat_map (bytes_of high) (flat_map utf16 cs)
all_written high to cs form = rw (form, is_units high, written) (joined_bytes high cs)

-- The bytes of a unit, as they are or swapped.

pub same_pair : (high : Bool) (a b : ℕ) → a < 256 → b < 256 → bytes_of high (unit_of high a b) ≡ a ∷ b ∷ []
same_pair true a b A B = let first : (a * 256 + b) / 256 ≡ a = omega arith in let second : (a * 256 + b) % 256 ≡ b = omega arith in ap₂ (λ x y. x ∷ y ∷ []) first second
same_pair false a b A B = let first : (b * 256 + a) % 256 ≡ a = omega arith in let second : (b * 256 + a) / 256 ≡ b = omega arith in ap₂ (λ x y. x ∷ y ∷ []) first second

other_pair : (high : Bool) (a b : ℕ) → a < 256 → b < 256 → bytes_of (not high) (unit_of high a b) ≡ b ∷ a ∷ []
other_pair true a b A B = let first : (a * 256 + b) % 256 ≡ b = omega arith in let second : (a * 256 + b) / 256 ≡ a = omega arith in ap₂ (λ x y. x ∷ y ∷ []) first second
other_pair false a b A B = let first : (b * 256 + a) / 256 ≡ b = omega arith in let second : (b * 256 + a) % 256 ≡ a = omega arith in ap₂ (λ x y. x ∷ y ∷ []) first second

pub same_order : (high : Bool) (v : List ℕ) (k : ℕ) → length v ≡ 2 * k → ((j : ℕ) → Fits w8 (get_or v j 0)) → flat_map (bytes_of high) (units_of high v) ≡ v
same_order high [] k even fits = refl
same_order high (a ∷ []) k even fits = absurd (omega arith)
same_order high (a ∷ b ∷ v) k even fits =
    ap₂ (λ xs ys. xs ++ ys) (same_pair high a b (fits 0).fits (fits 1).fits) (same_order high v (k - 1) (omega arith) (λ j. fits (suc (suc j))))

other_order : (high : Bool) (v : List ℕ) (k : ℕ) → length v ≡ 2 * k → ((j : ℕ) → Fits w8 (get_or v j 0)) → flat_map (bytes_of (not high)) (units_of high v) ≡ swapped v
other_order high [] k even fits = refl
other_order high (a ∷ []) k even fits = absurd (omega arith)
other_order high (a ∷ b ∷ v) k even fits =
    ap₂ (λ xs ys. xs ++ ys) (other_pair high a b (fits 0).fits (fits 1).fits) (other_order high v (k - 1) (omega arith) (λ j. fits (suc (suc j))))

pub in_order : (high other : Bool) (v : List ℕ) (k : ℕ) → length v ≡ 2 * k → ((j : ℕ) → Fits w8 (get_or v j 0)) → flat_map (bytes_of other) (units_of high v) ≡ turned (differ high other) v
in_order true true v k even fits = same_order true v k even fits
in_order true false v k even fits = other_order true v k even fits
in_order false true v k even fits = other_order false v k even fits
in_order false false v k even fits = same_order false v k even fits

pub front_fits : (w : List ℕ) (n : ℕ) → ((j : ℕ) → Fits w8 (get_or w j 0)) → (j : ℕ) → Fits w8 (get_or (take n w) j 0)
front_fits w zero fits j = record { fits = omega arith }
front_fits [] (suc n) fits j = record { fits = omega arith }
front_fits (x ∷ w) (suc n) fits zero = fits 0
front_fits (x ∷ w) (suc n) fits (suc j) = front_fits w n (λ i. fits (suc i)) j

-- Codes are the bytes of their units.
pub coded_bytes : (high : Bool) (from : Form) (v : List ℕ) (k : ℕ) → HasByteOrder high from → (h : AreCodes (units_of high v)) → length v ≡ 2 * k → ((j : ℕ) → Fits w8 (get_or v j 0))
    → v ≡ flat_map (written from) h.scalars
coded_bytes high from v k form h even fits =
    sym (all_written high from h.scalars form ∙ ap (flat_map (bytes_of high)) (sym h.codes) ∙ same_order high v k even fits)

pub rest_fits : (w : List ℕ) (n : ℕ) → ((j : ℕ) → Fits w8 (get_or w j 0)) → (j : ℕ) → Fits w8 (get_or (drop n w) j 0)
rest_fits w n fits j = subst (Fits w8) (sym (get_or-drop n w j 0)) (fits (n + j))
