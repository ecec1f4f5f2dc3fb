-- The pieces that are written of those that are given: of text no fault, and of each fault the fault itself.
use Rattle.std.proofs.Common.{◌≡◌, ℕ, suc, ◌+◌, ◌*◌, ◌^◌, ◌<◌, ◌≤◌, true, Bool, List, [], ◌∷◌, ◌++◌, length, get_or, take, drop, flat_map, is_err, Ok, Err, arith, refl, ap, sym, subst, ◌∙◌, append_assoc, length-append, length-drop, length-take, take-append-drop, Fits, w8, IsUtf8}
use Rattle.std.proofs.Math.Seq.{drop-append_seam}
use Rattle.std.proofs.lemmas.List.{drop-drop}
use Rattle.std.specs.Prelude.{All}
use Rattle.utf_base.specs.Scalar.{IsScalar}
use Rattle.utf_base.proofs.TextScalars.{joined_from_text}
use Rattle.utf_lanes.specs.BytePairs.{units_of}
use Rattle.utf_lanes.specs.UnitBlocks.{AreCodes}
use Rattle.recoding.specs.FirstFaults.{IsTextAndHeld}
use Rattle.recoding.specs.NextScalars.{HasByteOrder}
use Rattle.recoding.specs.Recoded.{written}
use Rattle.recoding.specs.declared.form.Form.{Form}
use Rattle.recoding.specs.declared.form.Form.TheVariants.{Utf8}
use Rattle.recoding.proofs.CopiedUnits.{coded_bytes, front_fits}
use Rattle.text_stream.specs.declared.located.LocatedPiece.{LocatedPiece}
use Rattle.text_stream.specs.declared.located.Spot.{Spot}
use Rattle.text_stream.specs.Located.{BeginsSomeFault, BeginsKept, Locates, PutsKept, Told, at_offset, faults_alone, wrapped}
use Rattle.text_stream.proofs.FrontTold.{code_begins}
use Rattle.text_stream.proofs.LocatedLemmas.{Locates-none, Locates-one, Locates-then, WritesPlaces-none}

-- if only faults are kept, a kept piece is a fault
pub fault_where_kept : (form : Form) (w : List ℕ) → BeginsKept faults_alone form w → BeginsSomeFault form w
fault_where_kept form w (x, b, kept) = (x, b, by x (kept 0))
  where
    by : (x : Told) → faults_alone (at_offset 0 x ∷ []) ≡ at_offset 0 x ∷ [] → is_err x.0 ≡ true
    by (Ok s, n) e = absurd (let none : 0 ≡ 1 = ap length e in omega arith)
    by (Err k, n) e = refl

-- The pieces of text.

abbrev text_pieces : Form → ℕ → List ℕ → List LocatedPiece
text_pieces form offset [] = []
text_pieces form offset (s ∷ scalars) = at_offset offset (Ok s, length (written form s)) ∷ text_pieces form (wrapped (offset + length (written form s))) scalars

no_faults : (form : Form) (offset : ℕ) (scalars : List ℕ) → faults_alone (text_pieces form offset scalars) ≡ []
no_faults form offset [] = refl
no_faults form offset (s ∷ scalars) = no_faults form (wrapped (offset + length (written form s))) scalars

text_locates : (form : Form) (offset : ℕ) (scalars later : List ℕ) → All IsScalar scalars → offset < 2 ^ 64
    → Locates form offset (flat_map (written form) scalars ++ later) (text_pieces form offset scalars) (wrapped (offset + length (flat_map (written form) scalars))) later
text_locates form offset [] later all fits =
    let same : wrapped (offset + 0) ≡ offset = omega arith in
    subst (λ n. Locates form offset later [] n later) (sym same) (Locates-none form offset later)
text_locates form offset (s ∷ scalars) later all fits =
    let n = length (written form s) in
    let codes = flat_map (written form) scalars in
    let next = wrapped (offset + n) in
    let below : next < 2 ^ 64 = omega arith in
    let one : Locates form offset (written form s ++ (codes ++ later)) (at_offset offset (Ok s, n) ∷ []) next (codes ++ later)
    = subst (λ z. Locates form offset (written form s ++ (codes ++ later)) (at_offset offset (Ok s, n) ∷ []) next z) (drop-append_seam (written form s) (codes ++ later))
    (Locates-one offset (code_begins form s (codes ++ later) (all 0 s (omega arith)))) in
    let rest = text_locates form next scalars later (λ k d lt. all (suc k) d (omega arith)) below in
    let end : wrapped (next + length codes) ≡ wrapped (offset + length (written form s ++ codes)) = omega (arith, length-append (written form s) codes) in
    rw (append_assoc (written form s) codes later, ← end) (Locates-then one rest)

-- A run for faults skips text.
pub PutsKept-text : {P : Type 0} {form : Form} {bytes : List ℕ} {room : List P} {at to : Spot} (made : LocatedPiece → P) (n : ℕ) → at.read ≤ length bytes → at.written ≤ length room → at.offset < 2 ^ 64
    → n ≤ length (drop at.read bytes) → IsTextAndHeld form (drop at.read bytes) (drop n (drop at.read bytes)) → to.read ≡ at.read + n → to.written ≡ at.written → to.offset ≡ wrapped (at.offset + n)
    → PutsKept faults_alone made form bytes room room at to
PutsKept-text {form = form} {bytes = bytes} {room = room} {at = at} {to = to} made n read_within written_within below within text read_on wrote offset_on =
    let w = drop at.read bytes in
    let codes = flat_map (written form) text.scalars in
    let left = length-drop at.read bytes in
    let len : length codes ≡ n = omega (arith, ap length text.parts, length-append codes (drop n w), length-drop n w) in
    let given = text_pieces form at.offset text.scalars in
    let located = text_locates form at.offset text.scalars (drop n w) text.all below in
    let front : Locates form at.offset w given (wrapped (at.offset + length codes)) (drop n w) = subst (λ z. Locates form at.offset z given (wrapped (at.offset + length codes)) (drop n w)) (sym text.parts) located in
    let counted : Locates form at.offset w given (wrapped (at.offset + n)) (drop n w) = subst (λ k. Locates form at.offset w given (wrapped (at.offset + k)) (drop n w)) len front in
    record {
      given = given;
      locates = rw (read_on, offset_on, ← drop-drop n at.read bytes) counted;
      writes = rw (wrote, no_faults form at.offset text.scalars) (WritesPlaces-none room at.written written_within);
      ahead = omega arith;
      within = omega arith;
    }

-- The pieces of text that was validated with SIMD.

pub text_then : (bytes : List ℕ) (n : ℕ) → IsUtf8 (take n bytes) → IsTextAndHeld Utf8 bytes (drop n bytes)
text_then bytes n text =
    let t = joined_from_text (take n bytes) text in
    record { scalars = t.0; all = t.1.0; parts = sym (take-append-drop n bytes) ∙ ap (λ ys. ys ++ drop n bytes) t.1.1 }

pub units_then : (high : Bool) (form : Form) (bytes : List ℕ) (n : ℕ) → HasByteOrder high form → 2 * n ≤ length bytes → ((j : ℕ) → Fits w8 (get_or bytes j 0))
    → AreCodes (units_of high (take (2 * n) bytes)) → IsTextAndHeld form bytes (drop (2 * n) bytes)
units_then high form bytes n order within fits codes =
    let even : length (take (2 * n) bytes) ≡ 2 * n = omega (arith, length-take (2 * n) bytes) in
    record {
      scalars = codes.scalars;
      all = codes.all;
      parts = sym (take-append-drop (2 * n) bytes) ∙ ap (λ ys. ys ++ drop (2 * n) bytes) (coded_bytes high form (take (2 * n) bytes) n order codes even (front_fits bytes (2 * n) fits));
    }
