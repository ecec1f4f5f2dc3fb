-- The length of codes, and bytes written after others.
use Rattle.std.proofs.Common.{ℕ, ◌<◌, ◌≤◌, List, [], ◌++◌, length, take, arith, refl, sym, ap, ◌∙◌, append_assoc, append-nil, length-append, length-take}
use Rattle.utf_base.specs.Code.{utf16}
use Rattle.utf_base.specs.Scalar.{IsScalar}
use Rattle.utf_base.proofs.Utf8Code.{length_utf8, utf8_is_code}
use Rattle.utf_base.proofs.Utf16Code.{length_utf16, utf16_is_code}
use Rattle.recoding.specs.declared.form.Form.{Form}
use Rattle.recoding.proofs.Forms.{by_form, is_units}
use Rattle.recoding.specs.Recoded.{written}
use Rattle.recoding.specs.Replacing.{FillsPlace, at_place}
use Rattle.recoding.proofs.Growing.{two_bytes}
use Rattle.utf_lanes.specs.UnitCodes.{code_at, lane_unit, WritesUnits}
use Rattle.utf_lanes.specs.Utf8ToUtf16.{concat_range}

-- a code has at most four bytes
pub few_written : (to : Form) (s : ℕ) → length (written to s) ≤ 4
few_written = by_form _ length_utf8 (λ high. rw (is_units high, written) (λ s. omega (arith, two_bytes high (utf16 s), length_utf16 s)))

-- a code has at least one byte
pub some_written : (to : Form) (s : ℕ) → IsScalar s → 0 < length (written to s)
some_written = by_form _ utf8_is_code.some (λ high. rw (is_units high, written) (λ s scalar. omega (arith, two_bytes high (utf16 s), utf16_is_code.some s scalar)))

-- Bytes written after others.

pub FillsPlace-none : {old : List ℕ} {place : ℕ} → place ≤ length old → FillsPlace (at_place old place) [] (at_place old place)
FillsPlace-none {old} {place} fits = record { whole = refl; fits = fits; len = omega arith; front = sym (append-nil (take place old)) }

pub FillsPlace-more : (a b c : List ℕ × ℕ) (xs ys : List ℕ) → FillsPlace a xs b → FillsPlace b ys c → FillsPlace a (xs ++ ys) c
FillsPlace-more a b c xs ys f g = record {
  whole = g.whole ∙ f.whole;
  fits = g.fits;
  len = omega (arith, f.len, g.len, length-append xs ys);
  front = g.front ∙ ap (λ zs. zs ++ ys) f.front ∙ append_assoc (take a.1 a.0) xs ys;
}

-- a block of units
pub FillsPlace-units : {old new low high : List ℕ} {width at n end : ℕ} → WritesUnits width low high old new at n end → at ≤ length old → end ≤ length old
    → FillsPlace (at_place old at) (concat_range (code_at (lane_unit low high)) 0 n) (at_place new end)
FillsPlace-units {old} {new} {low} {high} {at = at} {n} {end} put before fits =
    let same = put.len in
    let made : List ℕ = concat_range (code_at (lane_unit low high)) 0 n in
    record {
      whole = same;
      fits = omega arith;
      len = omega (arith, ap length put.bytes, length-append (take at old) made, length-take at old, length-take end new);
      front = put.bytes;
    }
