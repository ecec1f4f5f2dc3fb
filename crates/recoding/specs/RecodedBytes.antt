-- Bytes of one encoding transcoded to another, as one list: the word for callers that state a result.
use Rattle.std.specs.Prelude.{◌≡◌, ◌↔◌, ℕ, List, [], ◌++◌, drop, flat_map, take}
use Rattle.recoding.specs.declared.form.Form.{Form}
use Rattle.recoding.specs.TextForms.{text_form}
use Rattle.recoding.specs.Recoded.{IsRecoded, Recoding, written}

-- the scalars of bytes as text of that encoding
unfoldable pub shown_by : Form → List ℕ → List ℕ
shown_by from bytes = ((text_form from).reads_some bytes).0

-- the codes of these scalars: the transcoded bytes
unfoldable pub recoded : Form → Form → List ℕ → List ℕ
recoded from to bytes = flat_map (written to) (shown_by from bytes)

-- the final contents of an output that now has `out`, if only these bytes are fed to the recoder and it is finished
unfoldable pub outcome : Recoding → List ℕ → List ℕ → List ℕ
outcome r out later = out ++ recoded r.from r.to (r.held ++ later)

-- a part was fed: whatever follows it, the final contents are those for the part and then what follows
abbrev pub KeepsOutcome : Recoding → List ℕ → List ℕ → List ℕ → Recoding → Type 0
KeepsOutcome r old part new s = (later : List ℕ) → outcome s new later ≡ outcome r old (part ++ later)

-- the bytes were written for the part, whatever the output had: the final contents are those for the part and
-- then what follows
abbrev pub AddsOutcome : Recoding → List ℕ → List ℕ → Recoding → Type 0
AddsOutcome r part made s = (out : List ℕ) → KeepsOutcome r out part (out ++ made) s

-- the bytes were written at the end, and the rest of the final contents is still to be written
abbrev pub AddsLast : Recoding → List ℕ → Recoding → Type 0
AddsLast r made s = (out : List ℕ) → outcome s (out ++ made) [] ≡ outcome r out []

-- the bytes are all that was written at the end
abbrev pub AddsAll : Recoding → List ℕ → Type 0
AddsAll r made = (out : List ℕ) → out ++ made ≡ outcome r out []

-- bytes are transcoded to that list, and to no other
abbrev pub RecodedIsOne : Type 0
RecodedIsOne = (from to : Form) (bytes out : List ℕ) → IsRecoded from to bytes out ↔ (out ≡ recoded from to bytes)

-- the transcoding of the bytes is that of the first n, followed by that of the others
abbrev pub IsRecodedApart : Form → List ℕ → ℕ → Type 0
IsRecodedApart from bytes n = (to : Form) → recoded from to bytes ≡ recoded from to (take n bytes) ++ recoded from to (drop n bytes)
