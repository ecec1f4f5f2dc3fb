-- The scalar at the front of some bytes.
use Rattle.std.specs.Prelude.{◌≡◌, ℕ, ◌<◌, ◌≤◌, ◌++◌, ◌∷◌, List, length, drop, Bool, Option, Some, None}
use Rattle.utf_base.specs.Scalar.{IsScalar}
use Rattle.recoding.specs.declared.form.Form.{Form}
use Rattle.recoding.specs.TextForms.{text_form}
pub use Rattle.recoding.specs.TextForms.{utf16_form}

-- The bytes begin with n bytes that show the scalar s, whatever follows.
pub record Decides (reads : List ℕ → List ℕ → Type 0) (w : List ℕ) (s n : ℕ) : Type 0 where
  pub some : 0 < n
  pub within : n ≤ length w
  pub scalar : IsScalar s
  pub wide : 0x1_0000 ≤ s → 2 ≤ n
  pub first : (later ss : List ℕ) → reads (drop n w ++ later) ss → reads (w ++ later) (s ∷ ss)

-- The bytes begin with n bytes that show the scalar s, if nothing follows.
pub record Ends (reads : List ℕ → List ℕ → Type 0) (w : List ℕ) (s n : ℕ) : Type 0 where
  pub some : 0 < n
  pub within : n ≤ length w
  pub scalar : IsScalar s
  pub wide : 0x1_0000 ≤ s → 2 ≤ n
  pub first : (ss : List ℕ) → reads (drop n w) ss → reads w (s ∷ ss)

-- The bytes begin with n bytes that show nothing, whatever follows.
pub record Passes (reads : List ℕ → List ℕ → Type 0) (w : List ℕ) (n : ℕ) : Type 0 where
  pub some : 0 < n
  pub within : n ≤ length w
  pub first : (later ss : List ℕ) → reads (drop n w ++ later) ss → reads (w ++ later) ss

-- The bytes begin with n bytes that show nothing, if nothing follows.
pub record PassesLast (reads : List ℕ → List ℕ → Type 0) (w : List ℕ) (n : ℕ) : Type 0 where
  pub some : 0 < n
  pub within : n ≤ length w
  pub first : (ss : List ℕ) → reads (drop n w) ss → reads w ss

-- The bytes begin with n bytes that show this scalar, or nothing, whatever follows.
abbrev pub Leads : (List ℕ → List ℕ → Type 0) → List ℕ → Option ℕ → ℕ → Type 0
Leads reads w (Some s) n = Decides reads w s n
Leads reads w None n = Passes reads w n

-- The bytes begin with n bytes that show this scalar, or nothing, if nothing follows.
abbrev pub LeadsLast : (List ℕ → List ℕ → Type 0) → List ℕ → Option ℕ → ℕ → Type 0
LeadsLast reads w (Some s) n = Ends reads w s n
LeadsLast reads w None n = PassesLast reads w n

-- the length of a fault in bytes, if there are as many
abbrev pub fault_len : Form → ℕ
fault_len from = (text_form from).fault_len

-- A code of three or four bytes that begins with the first byte may have this second one: table 3-7 of the Unicode standard.
pub record MayBeSecond (first second : ℕ) : Type 0 where
  pub low : 0x80 ≤ second
  pub high : second < 0xC0
  pub after_e0 : first ≡ 0xE0 → 0xA0 ≤ second
  pub after_ed : first ≡ 0xED → second < 0xA0
  pub after_f0 : first ≡ 0xF0 → 0x90 ≤ second
  pub after_f4 : first ≡ 0xF4 → second < 0x90

-- The bytes show these scalars, followed by those of what follows them.
abbrev pub ShowsEach : (List ℕ → List ℕ → Type 0) → List ℕ → List ℕ → Type 0
ShowsEach reads w ts = (later ss : List ℕ) → reads later ss → reads (w ++ later) (ts ++ ss)

-- The encoding has units, of which the high byte is the first or the second.
abbrev pub HasByteOrder : Bool → Form → Type 0
HasByteOrder high_first from = from ≡ utf16_form high_first
