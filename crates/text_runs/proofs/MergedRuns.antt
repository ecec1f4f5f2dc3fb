-- A run of a merger, one result after another: only from the contract of one call and the laws of cuts.
use Rattle.std.proofs.Common.{◌≡◌, ℕ, suc, ◌+◌, ◌-◌, ◌<◌, List, [], ◌∷◌, ◌++◌, length, drop, refl, ap, sym, ◌∙◌, arith, Option, Some, None, Ok, Err, Result, length-append}
use Rattle.std.proofs.lemmas.Grind.{common_steps}
use Rattle.std.proofs.lemmas.List.{map-append, take_rest, drop_at, drop-drop}
use Rattle.std.specs.Prelude.{slice_range}
use Rattle.utf_base.specs.Code.{IsCode, utf8, utf16}
use Rattle.utf_base.specs.Kinds.{merger_kind}
use Rattle.utf_base.specs.Units.{unit_fault_kind}
use Rattle.utf_base.proofs.Cuts.{Finds}
use Rattle.utf_base.proofs.FrontLemmas.{utf8_finds}
use Rattle.utf_base.proofs.MergerLemmas.{merger_none_where_code}
use Rattle.utf_base.proofs.Standing.{stands_first}
use Rattle.utf_base.proofs.UnitLemmas.{no_units_where_kind, utf16_finds}
use Rattle.utf_base.proofs.Utf8Code.{utf8_is_code}
use Rattle.utf_base.proofs.Utf16Code.{utf16_is_code}
use Rattle.encode_unicode.specs.Mergers.{TakesFront}
use Rattle.encode_unicode.specs.Window.{Placed, IsFrontOf}
use Rattle.text_runs.specs.Items.{IsRun, answers_of}
use Rattle.text_runs.specs.Collected.{IsMergedRun, IsJoinedExactly}
use Rattle.text_runs.proofs.PieceRuns.{Excludes, IsRunTo, IsRunTo-front, IsRunTo-push, IsRun-all}
use Rattle.text_runs.proofs.RunLaws.{run_unique, run_of_joined, joined_of_run}

-- The properties of a code that a merger needs: it is a code, no kind of a fault is found if a scalar is there, and a
-- scalar is found if one is there.
pub record IsMerger {E : Type 0} (code : ℕ → List ℕ) (kind : List ℕ → Option E) : Type 0 where
  pub is_code : IsCode code
  pub apart : Excludes code kind
  pub finds : Finds code

no_bytes_where_kind : Excludes utf8 merger_kind
no_bytes_where_kind w k s e h = let none = merger_none_where_code w s h in cc

pub of_bytes : IsMerger utf8 merger_kind
of_bytes = record { is_code = utf8_is_code; apart = no_bytes_where_kind; finds = utf8_finds }

pub of_units : IsMerger utf16 unit_fault_kind
of_units = record { is_code = utf16_is_code; apart = no_units_where_kind; finds = utf16_finds }

-- The results are those of the run up to an offset, from which on the elements are unread.
pub record IsMergedSoFar {E : Type 0} (code : ℕ → List ℕ) (kind : List ℕ → Option E) (xs : List ℕ) (answers : List (Result ℕ E)) (unread : List ℕ) : Type 0 where
  pub items : List (Placed E)
  pub place : ℕ
  pub run : IsRunTo code kind xs 0 items place
  pub following : unread ≡ drop place xs
  pub same : answers ≡ answers_of items

pub IsMergedSoFar-none : {E : Type 0} (code : ℕ → List ℕ) (kind : List ℕ → Option E) (xs : List ℕ) (answers : List (Result ℕ E)) (unread : List ℕ) → answers ≡ [] → unread ≡ xs
    → IsMergedSoFar code kind xs answers unread
IsMergedSoFar-none code kind xs answers unread none all = record { items = []; place = 0; run = IsRunTo-front code kind xs; following = all; same = none }

-- a step that leaves the unread elements with one result
record Taken {E : Type 0} (code : ℕ → List ℕ) (kind : List ℕ → Option E) (old : List ℕ) (r : Result ℕ E) (new : List ℕ) : Type 0 where
  pub len : ℕ
  pub front : IsFrontOf code kind old r len
  pub some : 0 < length old
  pub left : new ≡ drop len old

taken : {E : Type 0} (code : ℕ → List ℕ) (kind : List ℕ → Option E) → IsCode code → (old new : List ℕ) (r : Result ℕ E) → TakesFront code kind old (Some r) new → Taken code kind old r new
taken code kind c old new (Ok s) h =
    let some = c.some s h.0 in
    let len : length old ≡ length (code s) + length new = ap length h.1 ∙ length-append (code s) new in
    record {
      len = length (code s);
      front = (stands_first code old new s h.0 h.1, refl);
      some = omega arith;
      left = sym (ap (drop (length (code s))) h.1 ∙ drop_at (code s) new (length (code s)) refl);
    }
taken code kind c old new (Err k) h =
    let len : length old ≡ suc (length new) = ap length h.1 in
    record { len = 1; front = (h.0, refl); some = omega arith; left = sym (ap (drop 1) h.1) }

place_before : (xs : List ℕ) (i : ℕ) → 0 < length (drop i xs) → i < length xs
place_before xs i some = grind (arith, common_steps)

module _ {E : Type 0} {code : ℕ → List ℕ} {kind : List ℕ → Option E} (m : IsMerger code kind) (xs : List ℕ) (answers : List (Result ℕ E)) (old new : List ℕ) (f : IsMergedSoFar code kind xs answers old) where
  -- one more result
  pub merged_push : (r : Result ℕ E) → TakesFront code kind old (Some r) new → IsMergedSoFar code kind xs (answers ++ r ∷ []) new
  merged_push r h =
      let t = taken code kind m.is_code old new r h in
      let lt = place_before xs f.place (rw f.following at t.some) in
      let rest : old ≡ slice_range xs f.place (length xs) = f.following ∙ sym (take_rest xs f.place) in
      record {
        items = f.items ++ (f.place, r, t.len) ∷ [];
        place = f.place + t.len;
        run = IsRunTo-push code kind m.is_code m.apart xs 0 f.items f.place (f.place, r, t.len) f.run refl lt (rw (← rest) t.front);
        following = t.left ∙ ap (drop t.len) f.following ∙ drop-drop t.len f.place xs;
        same = ap (λ rs. rs ++ r ∷ []) f.same ∙ sym (map-append (λ (x : Placed E). x.1) f.items ((f.place, r, t.len) ∷ []));
      }

  -- a result represents some element
  pub merged_some : (r : Result ℕ E) → TakesFront code kind old (Some r) new → xs ≡ [] → ⊥
  merged_some r h none =
      let t = taken code kind m.is_code old new r h in
      let lt = place_before xs f.place (rw f.following at t.some) in
      let empty : length xs ≡ 0 = ap length none in
      omega arith

  -- once nothing is unread the run is whole
  pub merged_all : TakesFront code kind old None new → IsMergedRun code kind xs answers
  merged_all h =
      let end : length xs - f.place ≡ 0 = length_after xs f.place (sym f.following ∙ h.0) in
      record { items = f.items; run = IsRun-all code kind xs f.items f.place f.run (omega arith); same = f.same }
    where
      length_after : (xs : List ℕ) (i : ℕ) → drop i xs ≡ [] → length xs - i ≡ 0
      length_after xs i e = ends (drop i xs) (length xs - i) (grind (arith, common_steps)) e
        where
          ends : (ys : List ℕ) (n : ℕ) → length ys ≡ n → ys ≡ [] → n ≡ 0
          ends ys n len e = sym len ∙ ap length e

  -- a run's results are all characters if and only if the elements are joined codes
  pub merged_joined : TakesFront code kind old None new → IsJoinedExactly code xs answers
  merged_joined h =
      let run = merged_all h in
      record {
        joined = λ scalars is. run.same ∙ run_of_joined code kind m.is_code m.finds xs scalars run.items is run.run;
        only = λ scalars e. joined_of_run code kind m.is_code m.finds xs scalars run.items run.run (sym run.same ∙ e);
      }

  -- every run over the elements has the same results
  pub merged_alike : TakesFront code kind old None new → (items : List (Placed E)) → IsRun code kind xs items → answers ≡ answers_of items
  merged_alike h items is =
      let run = merged_all h in
      run.same ∙ ap answers_of (run_unique code kind m.is_code xs run.items items run.run is)
