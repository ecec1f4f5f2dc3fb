-- The first result of a merger, as a function of the bytes, and as a piece of the merged run.
use Rattle.std.proofs.Common.{◌≡◌, ◌<◌, ℕ, List, length, drop, refl, ap, arith, sym, ◌∙◌, Some, Ok, Err, Result, get_or}
use Rattle.std.proofs.lemmas.List.{get_or-map, length-map}
use Rattle.utf_base.specs.declared.errors.Utf8ErrorKind.{Utf8ErrorKind}
use Rattle.utf_base.specs.Code.{utf8}
use Rattle.utf_base.specs.Kinds.{asked_by, merger_kind, value}
use Rattle.utf_base.specs.Piece.{IsPiece, Stands}
use Rattle.utf_base.proofs.FrontLemmas.{code_where_no_fault, decodes_from_stands, no_fault_where_code}
use Rattle.utf_base.proofs.MergerLemmas.{merger_none_where_code}
use Rattle.encode_unicode.proofs.ForCallers.{stands_first}
use Rattle.encode_unicode.specs.Mergers.{TakesFront}
use Rattle.encode_unicode.specs.Window.{Item}
use Rattle.cuts.specs.Items.{HasKind, piece_of}
use Rattle.cuts.proofs.LastBoundaries.{stands_in_rest}
use Rattle.c_api.specs.Api.{kind_number, first_merged, merger_answer, piece_for_c, IsMergedPiece}
use Rattle.c_api.specs.declared.piece.NodyPiece.{NodyPiece}

-- if a code begins the bytes it is that scalar
merged_code : (w : List ℕ) (s : ℕ) → Stands utf8 w 0 s → merger_answer w ≡ (Ok s, length (utf8 s))
merged_code w s h =
    let none = merger_none_where_code w s h in
    let char : value w ≡ s = (decodes_from_stands w s h).1 in
    let len : asked_by w ≡ length (utf8 s) = (code_where_no_fault w (no_fault_where_code w s h)).1 ∙ ap (λ x. length (utf8 x)) char in
    rw (none, char, len) refl

-- otherwise it is the merger's kind
merged_kind : (w : List ℕ) (k : Utf8ErrorKind) → merger_kind w ≡ Some k → merger_answer w ≡ (Err k, 1)
merged_kind w k h = rw h refl

-- a merger that has read nothing returns this
pub merged_char : (w old new : List ℕ) (s : ℕ) (r : Result ℕ Utf8ErrorKind) → old ≡ w → r ≡ Ok s → TakesFront utf8 merger_kind old (Some r) new → merger_answer w ≡ (Ok s, length (utf8 s))
merged_char w old new s r all is h =
    let takes : TakesFront utf8 merger_kind w (Some (Ok s)) new = rw (is, all) at h in
    merged_code w s (stands_first utf8 w new s takes.0 takes.1)

pub merged_error : (w old new : List ℕ) (k : Utf8ErrorKind) (r : Result ℕ Utf8ErrorKind) → old ≡ w → r ≡ Err k → TakesFront utf8 merger_kind old (Some r) new → merger_answer w ≡ (Err k, 1)
merged_error w old new k r all is h =
    let takes : TakesFront utf8 merger_kind w (Some (Err k)) new = rw (is, all) at h in
    merged_kind w k takes.0

-- a piece of the merged run is the result of a merger that begins there
merged_item : (xs : List ℕ) (item : Item) → IsPiece utf8 xs (piece_of item) → HasKind merger_kind xs item → merger_answer (drop item.0 xs) ≡ (item.1, item.2)
merged_item xs (place, Ok s, n) piece kind = merged_code (drop place xs) s (stands_in_rest utf8 xs place s piece.0) ∙ ap (λ m. (Ok s, m)) (sym piece.1)
merged_item xs (place, Err k, n) piece kind = merged_kind (drop place xs) k kind ∙ ap (λ m. (Err k, m)) (sym piece.1)

pub piece_of_run : (xs : List ℕ) (place : ℕ) (x : NodyPiece) → (place < length xs → x ≡ first_merged (drop place xs)) → IsMergedPiece xs place x
piece_of_run xs place x is items run k d lt begins =
    let each = rw (get_or-map piece_of items k d (piece_of d) lt) at (run.cut.pieces k (piece_of d) (omega (arith, length-map items piece_of))) in
    let item = merged_item xs (get_or items k d) each.0 (run.kinds k d lt) in
    is (rw begins at each.2) ∙ ap (piece_for_c kind_number) (rw begins at item)
