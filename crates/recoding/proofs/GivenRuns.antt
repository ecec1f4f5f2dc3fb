-- Text transcoded: unchanged, or to the units of its offsets, the codes in UTF-16 of its scalars.
use Rattle.std.proofs.Common.{◌≡◌, ℕ, suc, Bool, List, [], ◌∷◌, ◌++◌, length, flat_map, arith, refl, sym, ap, ◌∙◌, append_assoc}
use Rattle.std.specs.Prelude.{All}
use Rattle.utf_base.specs.Code.{utf8}
use Rattle.utf_base.specs.Scalar.{IsScalar}
use Rattle.utf_base.specs.Shown.{Shows}
use Rattle.utf_base.proofs.Rests.{whole_code_shows_first}
use Rattle.utf_base.proofs.Utf8Code.{utf8_is_code}
use Rattle.recoding.specs.declared.form.Form.{Form}
use Rattle.recoding.proofs.Forms.{is_units}
use Rattle.recoding.specs.Recoded.{written}
use Rattle.recoding.specs.NextScalars.{ShowsEach, HasByteOrder}
use Rattle.utf_lanes.specs.Utf8ToUtf16.{utf16_bytes}
use Rattle.utf_lanes.proofs.TextUnits.{text_given}

-- A text shows its characters, whatever follows.
pub shows_each : (cs : List ℕ) → All IsScalar cs → ShowsEach (Shows utf8) (flat_map utf8 cs) cs
shows_each [] all later ss h = h
shows_each (s ∷ cs) all later ss h =
    rw (append_assoc (utf8 s) (flat_map utf8 cs) later)
    (whole_code_shows_first utf8 utf8_is_code (utf8 s) (flat_map utf8 cs ++ later) s (cs ++ ss) (all 0 s (omega arith)) refl (shows_each cs (λ j d lt. all (suc j) d (omega arith)) later ss h))

-- The units of the offsets of a text are the codes of its characters.
pub given_codes : (high : Bool) (to : Form) → HasByteOrder high to → (text cs : List ℕ) → All IsScalar cs → text ≡ flat_map utf8 cs → flat_map (written to) cs ≡ utf16_bytes high text 0 (length text)
given_codes high to form text cs all e =
    rw (form, is_units high, written) (sym (text_given high cs all) ∙ ap (λ ys. utf16_bytes high ys 0 (length ys)) (sym e))
