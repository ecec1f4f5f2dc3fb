-- The number of faults in some bytes, and how many of them a recoder has replaced by U+FFFD.
use Rattle.std.specs.Prelude.{◌≡◌, ◌↔◌, ℕ, ◌+◌, ◌-◌, ◌^◌, List, ◌++◌, min}
use Rattle.recoding.specs.declared.form.Form.{Form}
pub use Rattle.recoding.specs.TextForms.{HasFaults, HasUnitFaults, faults_in}
use Rattle.recoding.specs.TextForms.{text_form}
use Rattle.recoding.specs.Recoded.{Recoding}

-- the number of faults that the bytes have as text of that encoding
abbrev pub Faults : Form → List ℕ → ℕ → Type 0
Faults from = (text_form from).faults

-- the number of faults of bytes
unfoldable pub fault_count : Form → List ℕ → ℕ
fault_count from bytes = ((text_form from).faults_some bytes).0

-- bytes have that many faults, and no other number of them
abbrev pub FaultCountIsOne : Type 0
FaultCountIsOne = (from : Form) (bytes : List ℕ) (n : ℕ) → Faults from bytes n ↔ (n ≡ fault_count from bytes)

-- Whatever follows the bytes, they have n faults, and then those that the carried-over bytes have before what
-- follows.
abbrev pub CountsTo : Form → List ℕ → ℕ → List ℕ → Type 0
CountsTo from bytes n held = (later : List ℕ) → fault_count from (bytes ++ later) ≡ n + fault_count from (held ++ later)

-- the number, as far as 64 bits count
abbrev pub saturated : ℕ → ℕ
saturated n = min (2 ^ 64 - 1) n

-- A recoder was fed a part and replaced n faults: whatever follows, they and those that are still to come are the
-- faults of the carried-over bytes, the part and what follows.
abbrev pub Replaces : Recoding → List ℕ → ℕ → Recoding → Type 0
Replaces r part n s = (later : List ℕ) → fault_count r.from (r.held ++ (part ++ later)) ≡ n + fault_count s.from (s.held ++ later)

-- a recoder was finished and replaced n faults: they and those that are still to come are the faults of the
-- bytes that it carried over
abbrev pub ReplacesLast : Recoding → ℕ → Recoding → Type 0
ReplacesLast r n s = fault_count r.from r.held ≡ n + fault_count s.from s.held

-- the recoder has added the faults that it replaced to its count
abbrev pub AddsUp : Recoding → ℕ → Recoding → Type 0
AddsUp r n s = s.replaced ≡ saturated (r.replaced + n)

-- a call that replaced faults and counted them, without returning their number
abbrev pub CountsFed : Recoding → List ℕ → Recoding → Type 0
CountsFed r part s = (n : ℕ) × Replaces r part n s × AddsUp r n s

-- the count of a recoder at the end, if only these bytes are fed to it and it is finished
unfoldable pub replaced_in_all : Recoding → List ℕ → ℕ
replaced_in_all r later = saturated (r.replaced + fault_count r.from (r.held ++ later))

-- a part was fed: whatever follows it, the count at the end is that of the part and then of what follows
abbrev pub KeepsCount : Recoding → List ℕ → Recoding → Type 0
KeepsCount r part s = (later : List ℕ) → replaced_in_all s later ≡ replaced_in_all r (part ++ later)
