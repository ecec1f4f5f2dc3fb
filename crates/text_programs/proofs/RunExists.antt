-- Each layout has a run over all bytes.
use Rattle.std.proofs.Common.{◌≡◌, ℕ, List, [], ◌∷◌, map, drop, refl, sym, ap, subst, ◌∙◌, Option, Some, None, Result, Ok, Err}
use Rattle.std.proofs.lemmas.List.Elements.{All-from_recursion, recursion_from_All}
use Rattle.std.specs.List.{AllByRecursion}
use Rattle.utf_base.specs.declared.errors.Utf8ErrorKind.{Utf8ErrorKind}
use Rattle.utf_base.specs.Code.{utf8}
use Rattle.utf_base.specs.Kinds.{fault_kind, merger_kind}
use Rattle.utf_base.specs.Piece.{IsCut}
use Rattle.utf_base.proofs.MergerLemmas.{merger_none}
use Rattle.encode_unicode.specs.Window.{Item, whole_window}
use Rattle.text_runs.specs.Collected.{IsMergedRun}
use Rattle.text_runs.specs.Items.{piece_of, HasKind, answers_of}
use Rattle.text_runs.proofs.ForwardRuns.{IsRunSoFar-none, GoesOn-always}

-- a piece with the kind that a merger gives
record Merged (xs : List ℕ) (x : Item) : Type 0 where
  pub item : Item
  pub same : piece_of item ≡ piece_of x
  pub kind : HasKind merger_kind xs item

merged_fault : (xs : List ℕ) (p n : ℕ) (k : Utf8ErrorKind) → fault_kind (drop p xs) ≡ Some k → (m : Option Utf8ErrorKind) → merger_kind (drop p xs) ≡ m → Merged xs (p, Err k, n)
merged_fault xs p n k is None none = let differ : Some k ≡ None = sym is ∙ merger_none (drop p xs) none in absurd cc
merged_fault xs p n k is (Some m) some = record { item = (p, Err m, n); same = refl; kind = some }

merged_item : (xs : List ℕ) (p n : ℕ) (r : Result ℕ Utf8ErrorKind) → HasKind fault_kind xs (p, r, n) → Merged xs (p, r, n)
merged_item xs p n (Ok s) has = record { item = (p, Ok s, n); same = refl; kind = tt }
merged_item xs p n (Err k) has = merged_fault xs p n k has (merger_kind (drop p xs)) refl

-- all items with the kinds that a merger gives
record AllMerged (xs : List ℕ) (items : List Item) : Type 0 where
  pub merged : List Item
  pub same : map piece_of merged ≡ map piece_of items
  pub kinds : AllByRecursion (HasKind merger_kind xs) merged

all_merged : (xs : List ℕ) (items : List Item) → AllByRecursion (HasKind fault_kind xs) items → AllMerged xs items
all_merged xs [] has = record { merged = []; same = refl; kinds = tt }
all_merged xs (x ∷ items) has =
    let first = merged_item xs x.0 x.2 x.1 has.0 in
    let rest = all_merged xs items has.1 in
    record { merged = first.item ∷ rest.merged; same = ap (λ p. p ∷ map piece_of rest.merged) first.same ∙ ap (λ ps. piece_of x ∷ ps) rest.same; kinds = (first.kind, rest.kinds) }

pub merged_exists : (xs : List ℕ) → (answers : List (Result ℕ Utf8ErrorKind)) × IsMergedRun utf8 merger_kind xs answers
merged_exists xs =
    let forward = GoesOn-always xs [] (whole_window xs) (IsRunSoFar-none xs) in
    let all = all_merged xs forward.more (recursion_from_All (HasKind fault_kind xs) forward.more forward.run.kinds) in (
      answers_of all.merged,
      record {
        items = all.merged;
        run = record { cut = subst (λ ps. IsCut utf8 xs ps) (sym all.same) forward.run.cut; kinds = All-from_recursion (HasKind merger_kind xs) all.merged all.kinds };
        same = refl;
      },
    )
