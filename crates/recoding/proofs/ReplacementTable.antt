-- The table that has U+FFFD for each byte: by it bytes become what they become without a table.
use Rattle.std.proofs.Common.{◌≡◌, ℕ, zero, suc, ◌%◌, ◌<◌, Bool, Some, None, Option, List, [], ◌∷◌, ◌++◌, get_or, map, arith, refl, ap, ap₂, sym, ◌∙◌}
use Rattle.std.specs.Prelude.{replicate, slice_get, unwrap_or}
use Rattle.utf_base.specs.Code.{utf8, utf16}
use Rattle.utf_base.specs.Piece.{Piece}
use Rattle.utf_base.specs.Shown.{Shows, shown}
use Rattle.utf_lanes.specs.BytePairs.{units_of}
use Rattle.utf_lanes.specs.Mending.{all_shown, scalars_of, shown_as}
use Rattle.recoding.specs.declared.form.Form.{Form}
use Rattle.recoding.specs.Recoded.{IsRecoded, Reads, ShowsUnits, odd_end}
use Rattle.recoding.specs.Repaired.{IsRepaired, ReadsBy}
use Rattle.recoding.specs.RepairTables.{ShowsBy, ShowsUnitsBy, char_for, odd_end_by, unit_for}
use Rattle.recoding.proofs.Forms.{by_form, is_units}

abbrev pub replacements : List ℕ
replacements = replicate 128 0xFFFD

entry_of : (n k : ℕ) → k < n → slice_get {X = ℕ} (replicate n 0xFFFD) k ≡ Some 0xFFFD
entry_of zero k lt = absurd (omega arith)
entry_of (suc n) zero lt = refl
entry_of (suc n) (suc k) lt = entry_of n k (omega arith)

replaces_each : (b : ℕ) → char_for replacements b ≡ Some 0xFFFD
replaces_each b = let lt : b % 0x80 < 128 = omega arith in rw (entry_of 128 (b % 0x80) lt) refl

shown_alike : (f : ℕ → Option ℕ) → ((b : ℕ) → f b ≡ Some 0xFFFD) → (xs : List ℕ) (ps : List Piece) → all_shown f xs ps ≡ map shown ps
shown_alike f e xs [] = refl
shown_alike f e xs (x ∷ ps) = ap₂ (λ ys zs. ys ++ zs) (one x.char (f (get_or xs x.start 0)) (e (get_or xs x.start 0))) (shown_alike f e xs ps)
  where
    one : (a c : Option ℕ) → c ≡ Some 0xFFFD → scalars_of (shown_as a c) ≡ unwrap_or a 0xFFFD ∷ []
    one (Some s) c h = refl
    one None c h = ap scalars_of h

odd_alike : (bytes : List ℕ) → odd_end_by (Some 0xFFFD) bytes ≡ odd_end bytes
odd_alike [] = refl
odd_alike (a ∷ []) = refl
odd_alike (a ∷ b ∷ bytes) = odd_alike bytes

-- The two lists are the same, so each is read where the other is.

abbrev Alike : (List ℕ → List ℕ → Type 0) → (List ℕ → List ℕ → Type 0) → Type 0
Alike reads others = (bytes ss : List ℕ) → (reads bytes ss → others bytes ss) × (others bytes ss → reads bytes ss)

shows_alike : (f : ℕ → Option ℕ) (code : ℕ → List ℕ) → ((b : ℕ) → f b ≡ Some 0xFFFD) → Alike (ShowsBy f code) (Shows code)
shows_alike f code each xs ss = (
  (λ (ps, cut, e). (ps, cut, e ∙ shown_alike f each xs ps)),
  (λ (ps, cut, e). (ps, cut, e ∙ sym (shown_alike f each xs ps))),
)

units_alike : (high : Bool) → Alike (ShowsUnitsBy (unit_for replacements) high) (ShowsUnits high)
units_alike high bytes ss =
    let same = shows_alike (λ u. Some 0xFFFD) utf16 (λ b. refl) (units_of high bytes) in (
      (λ (ts, r, f). (ts, (same ts).0 r, f ∙ ap (λ o. ts ++ o) (odd_alike bytes))),
      (λ (ts, r, f). (ts, (same ts).1 r, f ∙ ap (λ o. ts ++ o) (sym (odd_alike bytes)))),
    )

reads_alike : (from : Form) → Alike (ReadsBy replacements from) (Reads from)
reads_alike = by_form _ (shows_alike (char_for replacements) utf8 replaces_each) (λ high. rw (is_units high, ReadsBy, Reads) (units_alike high))

pub recoded_by_table : (from to : Form) (bytes out : List ℕ) → IsRepaired replacements from to bytes out → IsRecoded from to bytes out
recoded_by_table from to bytes out (ss, r, e) = (ss, (reads_alike from bytes ss).0 r, e)

pub table_of_recoded : (from to : Form) (bytes out : List ℕ) → IsRecoded from to bytes out → IsRepaired replacements from to bytes out
table_of_recoded from to bytes out (ss, r, e) = (ss, (reads_alike from bytes ss).1 r, e)
