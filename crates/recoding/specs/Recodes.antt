-- The effect of blocks on an output.
use Rattle.std.specs.Prelude.{◌≡◌, ℕ, ◌%◌, ◌≤◌, All, Bool, not, List, [], ◌∷◌, flat_map, length, take}
use Rattle.utf_base.specs.Code.{utf16}
use Rattle.utf_base.specs.Scalar.{IsScalar}
use Rattle.recoding.specs.Recoded.{written}
use Rattle.recoding.specs.declared.form.Form.{Form}
use Rattle.std.proofs.Math.Bool.{beq}
use Rattle.recoding.specs.Rooms.{IsAmple}
use Rattle.utf_lanes.specs.BytePairs.{units_of, turned}
use Rattle.utf_lanes.specs.Utf8ToUtf16.{concat_range}
use Rattle.utf_lanes.specs.UnitBlocks.{AreCodes}
use Rattle.utf_lanes.specs.UnitCodes.{lane_unit, code_at, AreText}

-- There is capacity for the whole output for the bytes, whatever the encodings.
abbrev pub FitsAll : List ℕ → ℕ → Type 0
FitsAll bytes room = IsAmple room (length bytes)

-- The first n of sixteen units are text, and their bytes were appended.
pub record PutsUnits {O : Type 0} (appends : O → List ℕ → O → Type 0) (low high : List ℕ) (old new : O) (n : ℕ) : Type 0 where
  pub most : n ≤ 16
  pub text : AreText (lane_unit low high) n
  pub appended : appends old (concat_range (code_at (lane_unit low high)) 0 n) new

-- The first n units are the codes of some scalars, whose codes in an encoding were appended.
pub record PutsLanes {O : Type 0} (appends : O → List ℕ → O → Type 0) (to : Form) (unit : ℕ → ℕ) (old new : O) (n : ℕ) : Type 0 where
  pub scalars : List ℕ
  pub all : All IsScalar scalars
  pub codes : concat_range (λ k. unit k ∷ []) 0 n ≡ flat_map utf16 scalars
  pub appended : appends old (flat_map (written to) scalars) new

-- whether the bytes of a unit are swapped from one order to another
abbrev pub differ : Bool → Bool → Bool
differ high other = not (beq high other)

-- The first bytes are well-formed units, which were appended as they are or with the bytes of each swapped.
pub record CopiesUnits {O : Type 0} (appends : O → List ℕ → O → Type 0) (high_first swaps : Bool) (bytes : List ℕ) (old new : O) (read : ℕ) : Type 0 where
  pub within : read ≤ length bytes
  pub even : read % 2 ≡ 0
  pub codes : AreCodes (units_of high_first (take read bytes))
  pub appended : appends old (turned swaps (take read bytes)) new
