-- Bytes of one encoding transcoded to another: the codes of their scalars.
use Rattle.std.specs.Prelude.{◌≡◌, ℕ, ◌≤◌, List, [], ◌∷◌, ◌++◌, length, flat_map}
use Rattle.std.specs.List.{concat}
pub use Rattle.utf_lanes.specs.BytePairs.{unit_of, bytes_of, units_of}
use Rattle.recoding.specs.declared.form.Form.{Form}
pub use Rattle.recoding.specs.TextForms.{IsProperFront, ShowsUnits, odd_end}
use Rattle.recoding.specs.TextForms.{text_form}

-- ss is the list of scalars of the bytes as text of that encoding
abbrev pub Reads : Form → List ℕ → List ℕ → Type 0
Reads from = (text_form from).reads

-- The bytes lack those that complete a code: they are empty, or the front of a code. In UTF-16 they may be a lone
-- leading surrogate, or half a unit.
abbrev pub Lacks : Form → List ℕ → Type 0
Lacks from = (text_form from).lacks

-- the code of a scalar, as bytes of that encoding
abbrev pub written : Form → ℕ → List ℕ
written from = (text_form from).written

-- `out` is the codes of the scalars of the bytes
abbrev pub IsRecoded : Form → Form → List ℕ → List ℕ → Type 0
IsRecoded from to bytes out = (ss : List ℕ) × Reads from bytes ss × (out ≡ flat_map (written to) ss)

-- Whatever follows the bytes, they are transcoded to `grown`, followed by the transcoding of the carried-over
-- bytes and what follows.
abbrev pub Continues : Form → Form → List ℕ → List ℕ → List ℕ → Type 0
Continues from to bytes grown held = (later rest : List ℕ) → IsRecoded from to (held ++ later) rest → IsRecoded from to (bytes ++ later) (grown ++ rest)

-- each list of bytes is transcoded to one list, and no other
abbrev pub RecodedOnce : Type 0
RecodedOnce =
    (from to : Form) (bytes : List ℕ)
    → (out : List ℕ) × IsRecoded from to bytes out × ((other : List ℕ) → IsRecoded from to bytes other → other ≡ out)

-- What contracts see of a recoder: the encodings, the bytes that it carries over, and how many faults it has
-- replaced.
pub record Recoding : Type 0 where
  pub from : Form
  pub to : Form
  pub held : List ℕ
  pub replaced : ℕ

-- the greatest number of carried-over bytes: those of a code of four but the last
abbrev pub most_held : ℕ
most_held = 3

-- a recoder that carries over nothing and has replaced nothing
abbrev pub fresh : Form → Form → Recoding
fresh from to = record { from = from; to = to; held = []; replaced = 0 }

-- the output has grown by the transcoded bytes, up to the carried-over ones
pub record Grows (from to : Form) (bytes old new held : List ℕ) : Type 0 where
  pub grown : List ℕ
  pub appended : new ≡ old ++ grown
  pub continues : Continues from to bytes grown held

-- one call of `feed`
pub record Feeds (r : Recoding) (part old new : List ℕ) (s : Recoding) : Type 0 where
  pub grows : Grows r.from r.to (r.held ++ part) old new s.held
  pub from : s.from ≡ r.from
  pub to : s.to ≡ r.to
  pub few : length s.held ≤ most_held

-- one call of `finish`
pub record Finishes (r : Recoding) (old new : List ℕ) : Type 0 where
  pub grown : List ℕ
  pub appended : new ≡ old ++ grown
  pub recoded : IsRecoded r.from r.to r.held grown

-- finishing writes these bytes, whatever the output had
abbrev pub FinishesWith : Recoding → List ℕ → Type 0
FinishesWith r made = (out : List ℕ) → Finishes r out (out ++ made)

-- A recoder is fed these parts one after another and then finished, and the output grows by what it writes.
abbrev pub FeedsEach : Recoding → List (List ℕ) → List ℕ → List ℕ → Type 0
FeedsEach r [] old new = Finishes r old new
FeedsEach r (part ∷ parts) old new = (s : Recoding) × (mid : List ℕ) × Feeds r part old mid s × FeedsEach s parts mid new

-- the output for some parts is the transcoding of the joined parts
abbrev pub PartsAreRecoded : Type 0
PartsAreRecoded =
    (from to : Form) (parts : List (List ℕ)) (out : List ℕ)
    → FeedsEach (fresh from to) parts [] out → IsRecoded from to (concat parts) out

-- the output for some parts does not depend on how they are cut
abbrev pub PartsDoNotMatter : Type 0
PartsDoNotMatter =
    (from to : Form) (parts others : List (List ℕ)) (out other : List ℕ) → concat parts ≡ concat others
    → FeedsEach (fresh from to) parts [] out
    → FeedsEach (fresh from to) others [] other → out ≡ other
