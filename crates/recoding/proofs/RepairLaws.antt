-- The laws of what bytes become if a table has what a fault becomes.
use Rattle.std.proofs.Common.{◌≡◌, ℕ, suc, Bool, Some, None, Option, List, [], ◌∷◌, ◌++◌, get_or, flat_map, arith, refl, ap, ap₂, sym, ◌∙◌, subst}
use Rattle.std.specs.List.{concat}
use Rattle.std.specs.Prelude.{All}
use Rattle.std.proofs.lemmas.List.{append-nil}
use Rattle.std.proofs.lemmas.List.Concat.{flat_map-append}
use Rattle.std.proofs.lemmas.List.Elements.{All-append, All-cons, All-nil}
use Rattle.utf_base.specs.Code.{utf8, utf16}
use Rattle.utf_base.specs.Piece.{IsPiece, Piece}
use Rattle.utf_base.specs.Scalar.{IsScalar}
use Rattle.utf_base.specs.Shown.{shown}
use Rattle.utf_lanes.specs.BytePairs.{units_of}
use Rattle.utf_lanes.specs.Mending.{all_shown, scalars_of, shown_as}
use Rattle.recoding.specs.declared.form.Form.{Form}
use Rattle.recoding.specs.Faults.{fault_count}
use Rattle.recoding.specs.Recoded.{Recoding, fresh, written}
use Rattle.recoding.specs.Repaired.{ReadsBy, RepairedHasNoFault, RepairedIsOne, RepairedOnceIsEnough, RepairedPartsAreOne, RepairsEach, ReplacementIsATable, TextIsKept, IsRepaired, repaired, repaired_outcome}
use Rattle.recoding.specs.Strict.{Transcodes}
use Rattle.recoding.specs.RepairTables.{ShowsBy, ShowsUnitsBy, char_for, odd_end_by, unit_for}
use Rattle.recoding.proofs.FaultCounts.{none_in_nothing}
use Rattle.recoding.proofs.Forms.{by_form, is_units}
use Rattle.recoding.proofs.RecodedLists.{same_list}
use Rattle.recoding.proofs.ReplacementTable.{recoded_by_table, replacements}
use Rattle.recoding.proofs.Repairing.{char_short, nothing_is_repaired, repaired_is, same_repaired, text_repaired, unit_short}
use Rattle.recoding.proofs.TextLaws.{text_counts}

pub repaired_is_one : RepairedIsOne
repaired_is_one table from to bytes out = (same_repaired table from to bytes out, λ e. subst (λ xs. IsRepaired table from to bytes xs) (sym e) (repaired_is table from to bytes))

repairs_each : (table : List ℕ) (r : Recoding) (parts : List (List ℕ)) (old new : List ℕ) → RepairsEach table r parts old new → new ≡ repaired_outcome table r old (concat parts)
repairs_each table r [] old new h = h
repairs_each table r (part ∷ parts) old new (s, mid, keeps, rest) = repairs_each table s parts mid new rest ∙ keeps (concat parts)

pub repaired_parts_are_one : RepairedPartsAreOne
unfolding repaired_outcome
repaired_parts_are_one table from to parts out h = repairs_each table (fresh from to) parts [] out h

pub text_is_kept : TextIsKept
text_is_kept table from to text out later t =
    let r = repaired_is table from to later in
    sym (same_repaired table from to (text ++ later) (out ++ repaired table from to later) (
      t.scalars ++ r.0,
      rw t.codes (text_repaired from table t.scalars t.all later r.0 r.1),
      ap₂ (λ xs ys. xs ++ ys) t.made r.2 ∙ sym (flat_map-append (written to) t.scalars r.0),
    ))

-- The scalars that bytes show are scalars.

option_scalars : (c : Option ℕ) → ((s : ℕ) → c ≡ Some s → IsScalar s) → All IsScalar (scalars_of c)
option_scalars None one = All-nil IsScalar
option_scalars (Some s) one = All-cons IsScalar s [] (one s refl) (All-nil IsScalar)

shown_scalar : (code : ℕ → List ℕ) (xs : List ℕ) (x : Piece) (c : Option ℕ) → IsPiece code xs x → ((s : ℕ) → c ≡ Some s → IsScalar s) → (s : ℕ) → shown_as x.char c ≡ Some s → IsScalar s
shown_scalar code xs x c piece other s e = by x.len x.char piece e
  where
    by : (n : ℕ) (a : Option ℕ) → IsPiece code xs (record { start = x.start; len = n; char = a }) → shown_as a c ≡ Some s → IsScalar s
    by n (Some t) h e = let same : t ≡ s = cc in subst IsScalar same h.0.scalar
    by n None h e = other s e

all_scalars : (shown : ℕ → Option ℕ) (code : ℕ → List ℕ) (xs : List ℕ) (ps : List Piece) → ((b s : ℕ) → shown b ≡ Some s → IsScalar s) → All (λ x. IsPiece code xs x) ps → All IsScalar (all_shown shown xs ps)
all_scalars shown code xs [] other each = All-nil IsScalar
all_scalars shown code xs (x ∷ ps) other each =
    All-append IsScalar (scalars_of (shown_as x.char (shown (get_or xs x.start 0)))) (all_shown shown xs ps)
    (option_scalars (shown_as x.char (shown (get_or xs x.start 0))) (shown_scalar code xs x (shown (get_or xs x.start 0)) (each 0 x (omega arith)) (other (get_or xs x.start 0))))
    (all_scalars shown code xs ps other (λ k d lt. each (suc k) d (omega arith)))

shows_scalars : (shown : ℕ → Option ℕ) (code : ℕ → List ℕ) → ((b s : ℕ) → shown b ≡ Some s → IsScalar s) → (xs ss : List ℕ) → ShowsBy shown code xs ss → All IsScalar ss
shows_scalars shown code other xs ss (ps, cut, e) = rw e (all_scalars shown code xs ps other (λ k d lt. (cut.pieces k d lt).0))

odd_scalars : (unit : Option ℕ) → ((s : ℕ) → unit ≡ Some s → IsScalar s) → (bytes : List ℕ) → All IsScalar (odd_end_by unit bytes)
odd_scalars unit other [] = All-nil IsScalar
odd_scalars unit other (a ∷ []) = option_scalars unit other
odd_scalars unit other (a ∷ b ∷ bytes) = odd_scalars unit other bytes

units_scalars : (unit : Option ℕ) (high : Bool) → ((s : ℕ) → unit ≡ Some s → IsScalar s) → (bytes ss : List ℕ) → ShowsUnitsBy unit high bytes ss → All IsScalar ss
units_scalars unit high other bytes ss (ts, r, e) =
    rw e (All-append IsScalar ts (odd_end_by unit bytes) (shows_scalars (λ u. unit) utf16 (λ b s. other s) (units_of high bytes) ts r) (odd_scalars unit other bytes))

reads_scalars : (from : Form) (table bytes ss : List ℕ) → ReadsBy table from bytes ss → All IsScalar ss
reads_scalars =
    by_form _ (λ table. shows_scalars (char_for table) utf8 (λ b s e. (char_short table b s e).scalar)) (λ high. rw (is_units high, ReadsBy) (λ table. units_scalars (unit_for table) high (λ s e. (unit_short table s e).scalar)))

pub repaired_has_no_fault : RepairedHasNoFault
repaired_has_no_fault table from to bytes =
    let r = repaired_is table from to bytes in
    ap (fault_count to) (r.2 ∙ sym (append-nil (flat_map (written to) r.0))) ∙ text_counts to r.0 [] (reads_scalars from table bytes r.0 r.1) ∙ none_in_nothing to

pub repaired_once_is_enough : RepairedOnceIsEnough
repaired_once_is_enough table other from to bytes =
    let r = repaired_is table from to bytes in
    let text = flat_map (written to) r.0 in
    let t : Transcodes to to text text = record { scalars = r.0; all = reads_scalars from table bytes r.0 r.1; codes = refl; made = refl } in
    let nothing : repaired other to to [] ≡ [] = nothing_is_repaired other to to in
    ap (repaired other to to) (r.2 ∙ sym (append-nil text)) ∙ text_is_kept other to to text text [] t ∙ ap (λ xs. text ++ xs) nothing ∙ append-nil text ∙ sym r.2

-- U+FFFD for each byte.

pub replacement_is_a_table : ReplacementIsATable
replacement_is_a_table from to bytes =
    same_list from to bytes (repaired replacements from to bytes) (recoded_by_table from to bytes (repaired replacements from to bytes) (repaired_is replacements from to bytes))
