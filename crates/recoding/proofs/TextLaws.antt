-- Text is transcoded to the same text.
use Rattle.std.proofs.Common.{◌≡◌, ℕ, ◌+◌, ◌*◌, ◌/◌, ◌%◌, Bool, true, false, List, [], ◌∷◌, ◌++◌, length, flat_map, arith, refl, ap, ap₂, sym, ◌∙◌, append_assoc}
use Rattle.std.specs.Prelude.{All}
use Rattle.std.proofs.lemmas.List.Concat.{flat_map-append}
use Rattle.utf_base.specs.Code.{utf8, utf16}
use Rattle.utf_base.specs.Scalar.{IsScalar}
use Rattle.utf_lanes.specs.BytePairs.{units_of, bytes_of}
use Rattle.recoding.specs.Recoded.{Reads, ShowsUnits, odd_end, written}
use Rattle.recoding.specs.NextScalars.{ShowsEach}
use Rattle.recoding.specs.Strict.{TextIsRecoded}
use Rattle.recoding.specs.declared.form.Form.{Form}
use Rattle.recoding.specs.TextForms.{utf16_form}
use Rattle.recoding.proofs.Forms.{by_form, is_units}
use Rattle.recoding.proofs.CopiedUnits.{all_written, codes_show, joined_bytes}
use Rattle.recoding.proofs.FaultCounts.{codes_count, counts_more, units_count_more}
use Rattle.recoding.proofs.GivenRuns.{shows_each}
use Rattle.recoding.specs.Faults.{fault_count}
use Rattle.utf_base.proofs.Utf8Code.{utf8_is_code}
use Rattle.utf_base.proofs.Utf16Code.{utf16_is_code}

-- The bytes of units make these units.

pub units_of_bytes : (high : Bool) (us later : List ℕ) → units_of high (flat_map (bytes_of high) us ++ later) ≡ us ++ units_of high later
units_of_bytes high [] later = refl
units_of_bytes true (u ∷ us) later = let whole : u / 256 * 256 + u % 256 ≡ u = omega arith in ap₂ (λ x xs. x ∷ xs) whole (units_of_bytes true us later)
units_of_bytes false (u ∷ us) later = let whole : u / 256 * 256 + u % 256 ≡ u = omega arith in ap₂ (λ x xs. x ∷ xs) whole (units_of_bytes false us later)

odd_of_bytes : (high : Bool) (us later : List ℕ) → odd_end (flat_map (bytes_of high) us ++ later) ≡ odd_end later
odd_of_bytes high [] later = refl
odd_of_bytes true (u ∷ us) later = odd_of_bytes true us later
odd_of_bytes false (u ∷ us) later = odd_of_bytes false us later

-- The scalars of the units of a text are those of the text.

units_show : (high : Bool) (cs : List ℕ) → All IsScalar cs → ShowsEach (ShowsUnits high) (flat_map (bytes_of high) (flat_map utf16 cs)) cs
units_show high cs all later ss (ts, r, f) = (
  cs ++ ts,
  rw (units_of_bytes high (flat_map utf16 cs) later) (codes_show cs (units_of high later) ts all r),
  ap (λ xs. cs ++ xs) f ∙ sym (append_assoc cs ts (odd_end later)) ∙ ap (λ o. (cs ++ ts) ++ o) (sym (odd_of_bytes high (flat_map utf16 cs) later)),
)

pub text_shows : (from : Form) (cs : List ℕ) → All IsScalar cs → ShowsEach (Reads from) (flat_map (written from) cs) cs
text_shows = by_form _ shows_each (λ high. rw (is_units high, Reads, written) (λ cs all. rw (joined_bytes high cs) (units_show high cs all)))

-- codes of scalars have no fault
pub text_counts : (from : Form) (cs later : List ℕ) → All IsScalar cs → fault_count from (flat_map (written from) cs ++ later) ≡ fault_count from later
text_counts =
    by_form _
    (λ cs later all. counts_more (flat_map utf8 cs ++ later) later 0 (λ m r. let none : 0 + m ≡ m = omega arith in rw none (codes_count utf8 utf8_is_code cs later m all r)) ∙ omega arith)
    (λ high cs later all.
    rw (all_written high (utf16_form high) cs refl)
    (units_count_more high (utf16_form high) (flat_map (bytes_of high) (flat_map utf16 cs) ++ later) later 0 0 refl
    (λ m r. let none : 0 + m ≡ m = omega arith in rw (none, units_of_bytes high (flat_map utf16 cs) later) (codes_count utf16 utf16_is_code cs (units_of high later) m all r))
    (ap length (odd_of_bytes high (flat_map utf16 cs) later) ∙ omega arith) ∙ omega arith))

pub text_is_recoded : TextIsRecoded
text_is_recoded from to text out later rest t (ss, r, f) = (
  t.scalars ++ ss,
  rw t.codes (text_shows from t.scalars t.all later ss r),
  ap₂ (λ xs ys. xs ++ ys) t.made f ∙ sym (flat_map-append (written to) t.scalars ss),
)
