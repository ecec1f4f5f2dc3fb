-- The output for a whole input, for calls that are given all of it.
use Rattle.std.specs.Prelude.{◌≡◌, ℕ, ◌-◌, ◌<◌, ◌≤◌, ◌^◌, List, All, [], ◌++◌, length, take, drop, flat_map, min}
use Rattle.utf_base.specs.Scalar.{IsScalar}
use Rattle.cuts.specs.declared.Form.{Form}
use Rattle.cuts.specs.declared.Outcome.{Outcome}
use Rattle.cuts.specs.declared.Outcome.TheVariants.{AllRead, Full, Faulty}
use Rattle.cuts.specs.declared.StrictProgress.{StrictProgress}
use Rattle.cuts.specs.Recoded.{IsRecoded, written}
use Rattle.cuts.specs.Strict.{EndsInFault, IsTooLong, Transcodes}

-- the transcoded bytes are longer than that
abbrev pub IsLongerThan : Form → Form → List ℕ → ℕ → Type 0
IsLongerThan from to bytes room = (out : List ℕ) → IsRecoded from to bytes out → room < length out

-- The transcoded bytes begin with these, and continue with codes of characters: so these end after a whole
-- character.
abbrev pub IsFrontOfRecoded : Form → Form → List ℕ → List ℕ → Type 0
IsFrontOfRecoded from to bytes front = (out : List ℕ) → IsRecoded from to bytes out → (ss : List ℕ) × All IsScalar ss × (out ≡ front ++ flat_map (written to) ss)

-- the number is the length of the transcoded bytes, or has all bits set if a `usize` cannot count them
abbrev pub IsRecodedLen : Form → Form → List ℕ → ℕ → Type 0
IsRecodedLen from to bytes len = (out : List ℕ) → IsRecoded from to bytes out → len ≡ min (length out) (2 ^ 64 - 1)

-- Why a whole input was transcoded no further than to what is left: nothing is left; or the output is full;
-- or a fault begins there.
abbrev pub EndsWhole : Form → Form → Outcome → List ℕ → ℕ → Type 0
EndsWhole from to AllRead left room = left ≡ []
EndsWhole from to Full left room = IsTooLong from to left room
EndsWhole from to (Faulty f) left room = EndsInFault from left f.kind f.len × (f.back ≡ 0)

-- the number of bytes that a strict call read and did not transcode: those of the fault, if it ended at one,
-- or otherwise those that it carries over
abbrev pub unrecoded : Outcome → ℕ → ℕ
unrecoded AllRead held = held
unrecoded Full held = held
unrecoded (Faulty f) held = f.back

-- why a strict call ended, if bytes that were not transcoded count as unread
abbrev pub fault_unread : Outcome → Outcome
fault_unread AllRead = AllRead
fault_unread Full = Full
fault_unread (Faulty f) = Faulty (record { kind = f.kind; len = f.len; back = 0 })

-- The bytes of a whole input that were read are text, which is transcoded at the front of the buffer. A fault
-- is not read.
pub record RecodesStrictly (from to : Form) (bytes old new : List ℕ) (p : StrictProgress) : Type 0 where
  pub within : p.read ≤ length bytes
  pub transcodes : Transcodes from to (take p.read bytes) (take p.written new)
  pub fits : p.written ≤ length old
  pub ends : EndsWhole from to p.outcome (drop p.read bytes) (length old - p.written)
