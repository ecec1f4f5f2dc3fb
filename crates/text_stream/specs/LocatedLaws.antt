-- The laws of located pieces: they are a merger's results, do not depend on the cut into parts, and cannot be
-- given earlier.
use Rattle.std.specs.Prelude.{◌≡◌, ℕ, ◌<◌, ◌≤◌, List, [], ◌∷◌, ◌++◌, length, map}
use Rattle.std.specs.List.{concat}
use Rattle.std.specs.Result.{result_map_both}
use Rattle.encode_unicode.specs.Mergers.{merged}
use Rattle.recoding.specs.declared.faults.FaultKind.TheVariants as kind
use Rattle.recoding.specs.declared.form.Form.{Form}
use Rattle.recoding.specs.declared.form.Form.TheVariants.{Utf8}
use Rattle.text_stream.specs.declared.located.LocatedPiece.{LocatedPiece}
use Rattle.text_stream.specs.Located.{Decoding, IsOpen, Locates, located}

-- of UTF-8 they are what a merger returns for all of the bytes
abbrev pub LocatedAreMerged : Type 0
LocatedAreMerged =
    (offset : ℕ) (bytes : List ℕ) → map (λ p. p.answer) (located Utf8 offset bytes) ≡ map (λ r. result_map_both (λ s. s) kind.Utf8 r) (merged bytes)

-- The pieces of a decoder that was fed these parts, one after another, and then finished.
abbrev pub GivesParts : Decoding → List (List ℕ) → List LocatedPiece → Type 0
GivesParts d [] given = given ≡ located d.form d.offset d.held
GivesParts d (part ∷ parts) given =
    (e : Decoding) × (here : List LocatedPiece) × (later : List LocatedPiece) × Locates d.form d.offset (d.held ++ part) here e.offset e.held × (e.form ≡ d.form)
    × GivesParts e parts later × (given ≡ here ++ later)

-- The pieces of a decoder are those of the joined parts, after the carried-over bytes: however the input is
-- cut.
abbrev pub PartsAreLocated : Type 0
PartsAreLocated =
    (d : Decoding) (parts : List (List ℕ)) (given : List LocatedPiece) → GivesParts d parts given → given ≡ located d.form d.offset (d.held ++ concat parts)

-- The carried-over bytes are undecided. So no decoder whose results are right whatever follows gives one piece more.
abbrev pub NoPieceComesEarlier : Type 0
NoPieceComesEarlier =
    (form : Form) (offset next other_next : ℕ) (bytes held left : List ℕ) (given other : List LocatedPiece) → Locates form offset bytes given next held
    → (0 < length held → IsOpen form held) → Locates form offset bytes other other_next left → length other ≤ length given
