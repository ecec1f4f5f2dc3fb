-- Bytes of UTF-8 each of which is a piece, whatever follows them: ASCII, and an invalid byte before it.
use Rattle.std.proofs.Common.{◌≡◌, ℕ, suc, ◌+◌, ◌-◌, ◌<◌, ◌≤◌, true, List, [], ◌∷◌, length, drop, Ok, Err, Result, arith, refl, ap, ◌∙◌, length-append, inl, inr}
use Rattle.std.proofs.lemmas.Bool.{cases_lt}
use Rattle.std.proofs.lemmas.Grind.{common_steps}
use Rattle.std.proofs.lemmas.List.{append-nil}
use Rattle.utf_base.specs.Kinds.{asked, is_broken}
use Rattle.utf_base.specs.declared.errors.Utf8ErrorKind.TheVariants.{NonUtf8Byte, InterruptedSequence, UnexpectedContinuationByte}
use Rattle.utf_base.proofs.KindCases.{kind-continuation, kind-never}
use Rattle.utf_lanes.specs.AsciiTexts.{AreAscii}
use Rattle.recoding.specs.declared.faults.FaultKind.{FaultKind}
use Rattle.recoding.specs.declared.faults.FaultKind.TheVariants as kind
use Rattle.recoding.specs.declared.form.Form.TheVariants.{Utf8}
use Rattle.text_stream.specs.declared.located.LocatedPiece.{LocatedPiece}
use Rattle.text_stream.specs.Located.{Begins, Locates, at_offset, located, wrapped}
use Rattle.text_stream.specs.UndecidedEnds.{IsUndecidedEnd}
use Rattle.text_stream.proofs.FrontTold.{broken_begins, kind_begins}
use Rattle.text_stream.proofs.LocatedLemmas.{Locates-none, Locates-one, Locates-then, ascii_begins, located_none}
use Rattle.text_stream.proofs.UndecidedLemmas.{end_decided}
use Rattle.text_positions.specs.Positions.{piece_count}
use Rattle.text_positions.proofs.PositionLemmas.{count_of}

abbrev pub AreSingle : List ℕ → Type 0
AreSingle w = (offset : ℕ) → (given : List LocatedPiece) × (next : ℕ) × Locates Utf8 offset w given next [] × (length given ≡ length w)

single_none : AreSingle []
single_none offset = ([], offset, Locates-none Utf8 offset [], refl)

single_on : (b : ℕ) (w : List ℕ) (answer : Result ℕ FaultKind) → Begins Utf8 (b ∷ w) (answer, 1) → AreSingle w → AreSingle (b ∷ w)
single_on b w answer begins rest offset =
    let (given, next, locates, len) = rest (wrapped (offset + 1)) in
    (at_offset offset (answer, 1) ∷ given, next, Locates-then (Locates-one offset begins) locates, ap suc len)

ascii_single : (w : List ℕ) → AreAscii w 0 (length w) → AreSingle w
ascii_single [] ascii = single_none
ascii_single (b ∷ w) ascii = single_on b w (Ok b) (ascii_begins (b ∷ w) 0 (omega arith) (ascii 0 (omega arith) (omega arith))) (ascii_single w (λ k from lt. ascii (suc k) (omega arith) (omega arith)))

-- A byte that is not ASCII, and that ASCII follows, is invalid.

second_breaks : (b a : ℕ) (w : List ℕ) → 2 ≤ asked b → a < 0x80 → is_broken (b ∷ a ∷ w) ≡ true
second_breaks b a w asks low = grind (arith, common_steps)

lone_single : (b a : ℕ) (w : List ℕ) → 0x80 ≤ b → a < 0x80 → AreSingle (a ∷ w) → AreSingle (b ∷ a ∷ w)
unfolding asked
lone_single b a w high low rest = elim (cases_lt b 0xC0) [
  | inl before ↦ single_on b (a ∷ w) (Err (kind.Utf8 UnexpectedContinuationByte)) (kind_begins (b ∷ a ∷ w) _ (kind-continuation (b ∷ a ∷ w) (omega arith) high before) (λ e. absurd cc)) rest
  | inr from ↦ elim (cases_lt 0 (asked b)) [
    | inl asks ↦ single_on b (a ∷ w) (Err (kind.Utf8 InterruptedSequence)) (broken_begins (b ∷ a ∷ w) (second_breaks b a w (grind (arith, common_steps)) low)) rest
    | inr none ↦ single_on b (a ∷ w) (Err (kind.Utf8 NonUtf8Byte)) (kind_begins (b ∷ a ∷ w) _ (kind-never (b ∷ a ∷ w) (omega arith) (omega arith) (grind (arith, common_steps))) (λ e. absurd cc)) rest
  ]
]

first_single : (w : List ℕ) → 2 ≤ length w → AreAscii (drop 1 w) 0 (length (drop 1 w)) → AreSingle w
first_single [] long ascii = absurd (omega arith)
first_single (b ∷ []) long ascii = absurd (omega arith)
first_single (b ∷ a ∷ w) long ascii = elim (cases_lt b 0x80) [
  | inl low ↦ single_on b (a ∷ w) (Ok b) (ascii_begins (b ∷ a ∷ w) 0 (omega arith) low) (ascii_single (a ∷ w) ascii)
  | inr high ↦ lone_single b a w high (ascii 0 (omega arith) (omega arith)) (ascii_single (a ∷ w) ascii)
]

no_rest : (w : List ℕ) → drop (length w) w ≡ []
no_rest [] = refl
no_rest (b ∷ w) = no_rest w

pub nothing_left : (w : List ℕ) → drop (length w - 0) w ≡ []
nothing_left w = let all : length w - 0 ≡ length w = omega arith in rw all (no_rest w)

pub single_count : (w : List ℕ) → 2 ≤ length w → AreAscii (drop 1 w) 0 (length (drop 1 w)) → piece_count Utf8 w ≡ length w
single_count w long ascii =
    let (given, next, locates, len) = first_single w long ascii 0 in
    let all = ap length (locates.same []) ∙ length-append given (located Utf8 next []) ∙ ap (λ (ys : List LocatedPiece). length given + length ys) (located_none Utf8 next) in
    let here = ap (λ v. length (located Utf8 0 v)) (append-nil w) in
    let count = count_of Utf8 0 w in
    omega arith

pub single_end : (w : List ℕ) → 2 ≤ length w → AreAscii (drop 1 w) 0 (length (drop 1 w)) → IsUndecidedEnd Utf8 w 0
single_end w long ascii =
    end_decided Utf8 w (length w) (omega arith) (omega arith) (λ offset. let (given, next, locates, len) = first_single w long ascii offset in rw (no_rest w) (given, next, locates))
