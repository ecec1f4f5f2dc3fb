-- The byte order mark in each encoding, and the result of a test for it.
use Rattle.std.proofs.Common.{◌≡◌, ℕ, Bool, true, false, eqb, List, [], ◌∷◌, length, take, refl, ap, sym, ◌∙◌, eqb-true, eq-eqb, true≢false}
use Rattle.std.proofs.lemmas.Slice.Eq.{slice_eq-Decides}
use lib.Pointwise.{pointwise}
use Rattle.utf_base.specs.Code.{utf8, utf16}
use Rattle.recoding.specs.declared.form.Form.{Form}
use Rattle.recoding.specs.declared.form.Form.TheVariants.{Utf8}
use Rattle.recoding.specs.TextForms.{utf16_form}
use Rattle.recoding.proofs.Forms.{by_form}
use Rattle.text_runs.specs.ByteOrderMarks.{BeginsWithMark, HasNoMark, mark_of}

pub utf8_mark : mark_of Utf8 ≡ 0xEF ∷ 0xBB ∷ 0xBF ∷ []
unfolding utf8
utf8_mark = refl

pub utf16le_mark : mark_of (utf16_form false) ≡ 0xFF ∷ 0xFE ∷ []
unfolding utf16
utf16le_mark = refl

pub utf16be_mark : mark_of (utf16_form true) ≡ 0xFE ∷ 0xFF ∷ []
unfolding utf16
utf16be_mark = refl

module _ (form : Form) (bytes mark : List ℕ) (is : mark_of form ≡ mark) (r : Bool) (test : r ≡ pointwise eqb mark (take (length mark) bytes)) where
  decides : (r ≡ true → mark ≡ take (length mark) bytes) × (mark ≡ take (length mark) bytes → r ≡ true)
  decides = slice_eq-Decides (λ a b. (eqb-true a b, eq-eqb a b)) mark (take (length mark) bytes) r test

  pub begins : r ≡ true → BeginsWithMark form bytes (length mark)
  begins holds = record { len = ap length (sym is); front = sym (decides.0 holds) ∙ sym is }

  pub begins_not : r ≡ false → take (length (mark_of form)) bytes ≡ mark_of form → ⊥
  begins_not fails front = true≢false (sym (decides.1 (sym (rw is at front))) ∙ fails)

-- no mark if none of three begins the bytes
pub has_no_mark : (bytes : List ℕ) → (take (length (mark_of Utf8)) bytes ≡ mark_of Utf8 → ⊥) → (take (length (mark_of (utf16_form false))) bytes ≡ mark_of (utf16_form false) → ⊥)
    → (take (length (mark_of (utf16_form true))) bytes ≡ mark_of (utf16_form true) → ⊥) → HasNoMark bytes
has_no_mark bytes a b c = by_form _ a by_order
  where
    by_order : (high : Bool) → take (length (mark_of (utf16_form high))) bytes ≡ mark_of (utf16_form high) → ⊥
    by_order true = c
    by_order false = b
