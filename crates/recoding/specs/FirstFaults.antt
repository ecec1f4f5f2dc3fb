-- The first fault of a list.
use Rattle.std.specs.Prelude.{◌≡◌, ℕ, ◌-◌, ◌≤◌, true, false, List, [], ◌++◌, length, flat_map, All}
use Rattle.utf_base.specs.Code.{utf8}
use Rattle.utf_base.specs.Scalar.{IsScalar}
use Rattle.recoding.specs.Recoded.{Recoding, written}
use Rattle.recoding.specs.declared.faults.Fault.{Fault}
use Rattle.recoding.specs.declared.faults.Outcome.TheVariants.{AllRead, Faulty}
use Rattle.recoding.specs.declared.faults.StrictProgress.{StrictProgress}
use Rattle.recoding.specs.declared.form.Form.{Form}
use Rattle.recoding.specs.declared.form.Form.TheVariants.{Utf8}
use Rattle.recoding.specs.TextForms.{utf16_form}
pub use Rattle.recoding.specs.TextForms.{IsFirstFault, IsFirstUnitFault}

-- The first fault of bytes in that encoding. Each encoding is a case that a caller can use.
abbrev pub IsFirstFaultOf : Form → List ℕ → ℕ → Type 0
IsFirstFaultOf from bytes n =
    (from ≡ Utf8 → IsFirstFault utf8 bytes n) × (from ≡ utf16_form false → IsFirstUnitFault false bytes n) × (from ≡ utf16_form true → IsFirstUnitFault true bytes n)

-- The bytes are text, the codes of some scalars, followed by those that are carried over.
pub record IsTextAndHeld (from : Form) (bytes held : List ℕ) : Type 0 where
  pub scalars : List ℕ
  pub all : All IsScalar scalars
  pub parts : bytes ≡ flat_map (written from) scalars ++ held

-- A recoder that carried over nothing was fed a part. If the call ended at a fault, that is the first fault of the
-- part, at the distance from the end of what was read that the call returned; if all was read, the part is text
-- except for the carried-over bytes.
pub record TellsFirst (r : Recoding) (part : List ℕ) (p : StrictProgress) (s : Recoding) : Type 0 where
  pub place : r.held ≡ [] → (f : Fault) → p.outcome ≡ Faulty f → (f.back ≤ p.read) × IsFirstFaultOf r.from part (p.read - f.back)
  pub text : r.held ≡ [] → p.outcome ≡ AllRead → IsTextAndHeld s.from part s.held

-- A recoder was finished that carried over the end of some bytes, before which all is text. If the call ended at a
-- fault, that is the first of the bytes; if nothing is carried over any more, they have none.
pub record TellsFirstAtEnd (r : Recoding) (p : StrictProgress) : Type 0 where
  pub place : (bytes : List ℕ) (f : Fault) → IsTextAndHeld r.from bytes r.held → p.outcome ≡ Faulty f → (f.back ≤ length bytes) × IsFirstFaultOf r.from bytes (length bytes - f.back)
  pub none : (bytes : List ℕ) → IsTextAndHeld r.from bytes r.held → p.outcome ≡ AllRead → IsFirstFaultOf r.from bytes (length bytes)
