-- The number of bytes at the end of some bytes that depend on what follows them: those that a decoder of
-- parts carries over.
use Rattle.std.specs.Prelude.{◌≡◌, ℕ, ◌-◌, ◌<◌, ◌≤◌, List, length, drop}
use Rattle.recoding.specs.Recoded.{most_held}
use Rattle.recoding.specs.declared.form.Form.{Form}
use Rattle.text_stream.specs.declared.located.LocatedPiece.{LocatedPiece}
use Rattle.text_stream.specs.Located.{IsOpen, Locates}

-- The pieces of the bytes begin with some that do not depend on what follows, and then come the pieces of the
-- rest.
abbrev pub LocatesFront : Form → ℕ → List ℕ → List ℕ → Type 0
LocatesFront form offset bytes left = (given : List LocatedPiece) × (next : ℕ) × Locates form offset bytes given next left

-- The last n bytes are undecided: whatever follows, the pieces of those before them stay, whatever the offset of the
-- bytes; and what follows decides the piece that begins the last n.
pub record IsUndecidedEnd (form : Form) (bytes : List ℕ) (n : ℕ) : Type 0 where
  pub within : n ≤ length bytes
  pub few : n ≤ most_held
  pub front : (offset : ℕ) → LocatesFront form offset bytes (drop (length bytes - n) bytes)
  pub waits : 0 < n → IsOpen form (drop (length bytes - n) bytes)

-- Whoever gives the pieces of the bytes that do not depend on what follows, and carries over the others, none of
-- which is decided, carries over n: so does a decoder that carried over nothing and was fed the bytes.
abbrev pub IsLenOfHeld : Form → List ℕ → ℕ → Type 0
IsLenOfHeld form bytes n =
    (offset next : ℕ) (given : List LocatedPiece) (held : List ℕ) → Locates form offset bytes given next held → (0 < length held → IsOpen form held) → length held ≡ n
