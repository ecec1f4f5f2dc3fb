-- The pieces from one offset to another, decoded one after another.
use Rattle.std.proofs.Common.{◌≡◌, ℕ, ◌+◌, ◌-◌, ◌<◌, ◌≤◌, List, [], ◌∷◌, ◌++◌, length, map, arith}
use Rattle.std.proofs.lemmas.List.{length_push}
use Rattle.std.proofs.lemmas.List.Elements.{All-nil, All-push, All-map}
use Rattle.std.specs.Prelude.{All, slice_range}
use Rattle.utf_base.specs.Code.{utf8}
use Rattle.utf_base.specs.Kinds.{fault_kind}
use Rattle.utf_base.specs.Piece.{Inside}
use Rattle.utf_base.proofs.CutChanges.{cut_up_to}
use Rattle.utf_base.proofs.Cuts.{piece_some}
use Rattle.utf_base.proofs.FrontLemmas.{no_code_where_fault}
use Rattle.utf_base.proofs.Utf8Code.{utf8_is_code}
use Rattle.encode_unicode.specs.Window.{Item, IsFrontPiece}
use Rattle.text_runs.specs.Items.{piece_of}
use Rattle.text_runs.specs.ForwardRuns.{IsForwardRunBetween}
use Rattle.text_runs.proofs.PieceRuns.{IsRunTo, IsRunTo-none, IsRunTo-push, at_front}

-- The items are the pieces from `place` up to `next`, and each begins before `until`.
pub record IsDecodedTo (xs : List ℕ) (place until next : ℕ) (items : List Item) : Type 0 where
  pub run : IsRunTo utf8 fault_kind xs place items next
  pub before : All (λ x. x.0 < until) items
  pub few : length items ≤ until - place

pub IsDecodedTo-none : (xs : List ℕ) (place until : ℕ) → place ≤ length xs → (Inside utf8 xs place → ⊥) → IsDecodedTo xs place until place []
IsDecodedTo-none xs place until within outside = record {
  run = IsRunTo-none utf8 fault_kind xs place within outside;
  before = All-nil (λ (x : Item). x.0 < until);
  few = omega arith;
}

-- the piece at the next offset has an element
pub item_has_some : {xs : List ℕ} {place until next : ℕ} {items : List Item} (x : Item) → IsDecodedTo xs place until next items → next < length xs
    → IsFrontPiece (slice_range xs next (length xs)) x.1 x.2 → 0 < x.2
item_has_some {xs} {next} x f lt piece = (at_front utf8 fault_kind utf8_is_code no_code_where_fault xs next x.2 x.1 lt f.run.outside piece).some

-- one more piece
pub IsDecodedTo-push : {xs : List ℕ} {place until next after : ℕ} (items : List Item) (x : Item) → IsDecodedTo xs place until next items → next < until → next < length xs
    → x.0 ≡ next → IsFrontPiece (slice_range xs next (length xs)) x.1 x.2 → after ≡ next + x.2 → IsDecodedTo xs place until after (items ++ x ∷ [])
IsDecodedTo-push {xs} {place} {until} {next} items x f lt within at piece step =
    let few = f.few in
    let one = length_push items x in
    record {
      run = rw step (IsRunTo-push utf8 fault_kind utf8_is_code no_code_where_fault xs place items next x f.run at within piece);
      before = All-push (λ y. y.0 < until) items x f.before (omega arith);
      few = omega arith;
    }

-- once `until` or the end of the bytes is reached, these are all
pub IsDecodedTo-all : {xs : List ℕ} {place until next : ℕ} {items : List Item} → IsDecodedTo xs place until next items → (next < until → length xs ≤ next)
    → IsForwardRunBetween xs place until items
IsDecodedTo-all {xs} {place} {until} {next} {items} f done = record {
  cut = cut_up_to utf8 xs place next until (map piece_of items) (All-map (λ y. y.start < until) piece_of items f.before)
      (λ x h lo hi. let some = piece_some utf8 utf8_is_code xs x.start x.len x.char h in omega arith) f.run.run.cut;
  kinds = f.run.run.kinds;
}
