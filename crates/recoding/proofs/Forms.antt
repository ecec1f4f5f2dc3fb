-- Properties of each encoding, and the encoding of UTF-16 for a byte order as a type.
use Rattle.std.proofs.Common.{◌≡◌, ℕ, ◌+◌, ◌/◌, ◌≤◌, Bool, true, false, flat_map, arith, refl, ap}
use Rattle.utf_base.specs.Code.{utf16}
use Rattle.utf_base.specs.declared.errors.units.Utf16PairError.TheVariants.{Incomplete}
use Rattle.utf_lanes.specs.BytePairs.{bytes_of}
use Rattle.recoding.specs.NextScalars.{HasByteOrder, fault_len}
use Rattle.recoding.specs.Recoded.{written}
use Rattle.recoding.specs.Rooms.{parts_of}
use Rattle.recoding.specs.Strict.{lacking}
pub use Rattle.recoding.specs.TextForms.{by_form}
use Rattle.recoding.specs.TextForms.{text_form, units_form, utf16_form}
use Rattle.recoding.specs.declared.form.Form.{Form}
use Rattle.recoding.specs.declared.faults.FaultKind.TheVariants as kind

-- A proof for UTF-8, and for units in any byte order, is a proof for each encoding: `by_form`. For units `rw
-- (is_units high, Reads)` unfolds `Reads` in the goal, and so other words of an encoding.
pub is_units : (high : Bool) → text_form (utf16_form high) ≡ units_form high
is_units true = refl
is_units false = refl

pub is_utf16 : (big : Bool) → HasByteOrder big (utf16_form big)
is_utf16 big = refl

pub written_utf16 : (big : Bool) (s : ℕ) → written (utf16_form big) s ≡ flat_map (bytes_of big) (utf16 s)
written_utf16 big s = ap (λ f. f.written s) (is_units big)

pub fault_of_utf16 : (big : Bool) → fault_len (utf16_form big) ≡ 2
fault_of_utf16 big = ap (λ f. f.fault_len) (is_units big)

pub parts_of_utf16 : (big : Bool) (n : ℕ) → parts_of (utf16_form big) n ≡ (n + 1) / 2
parts_of_utf16 big n = ap (λ f. f.parts_of n) (is_units big)

-- a number of bytes has no more units
pub no_more_parts : (from : Form) (n : ℕ) → parts_of from n ≤ n
no_more_parts = by_form _ (λ n. omega arith) (λ high. rw (is_units high, parts_of) (λ n. omega arith))

pub lacking_utf16 : (big : Bool) → lacking (utf16_form big) ≡ kind.Utf16 Incomplete
lacking_utf16 big = ap (λ f. f.lacking) (is_units big)
