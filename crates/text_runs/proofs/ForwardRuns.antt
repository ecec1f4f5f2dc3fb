-- A forward run, one result after another: only from the contract of one call and the laws of cuts.
use Rattle.std.proofs.Common.{◌≡◌, ℕ, zero, suc, ◌+◌, ◌<◌, ◌≤◌, ⊎_elim, List, [], ◌∷◌, ◌++◌, length, refl, ◌∙◌, arith, append-nil, append_assoc, Option, Some, None, Ok, Err, Result}
use Rattle.std.proofs.lemmas.Grind.{common_steps}
use Rattle.std.proofs.lemmas.Bool.{cases_lt}
use Rattle.std.specs.Prelude.{slice_range}
use Rattle.utf_base.specs.declared.errors.Utf8ErrorKind.{Utf8ErrorKind}
use Rattle.utf_base.specs.Code.{IsCode, utf8, utf16}
use Rattle.utf_base.specs.Decoded.{decoded, decoded_pairs}
use Rattle.utf_base.specs.Kinds.{fault_kind, value}
use Rattle.utf_base.specs.Scalar.{IsUnits}
use Rattle.utf_base.specs.Units.{unit_fault_kind, unit_value}
use Rattle.utf_base.specs.declared.errors.units.Utf16PairError.{Utf16PairError}
use Rattle.utf_base.proofs.FrontLemmas.{code_where_no_fault, no_code_where_fault}
use Rattle.utf_base.proofs.UnitLemmas.{no_units_where_kind, units_where_no_kind}
use Rattle.utf_base.proofs.UnitWalks.{part_of_units}
use Rattle.utf_base.proofs.DecodedLemmas.{answer_of_bytes, decoded_code, decoded_pairs_code, decoded_pairs_kind, front_len_utf8, front_len_utf16}
use Rattle.utf_base.proofs.Utf8Code.{utf8_is_code}
use Rattle.utf_base.proofs.Utf16Code.{utf16_is_code}
use Rattle.encode_unicode.specs.Window.{Window, Placed, Item, UnitItem, elements, whole_window, without_front, GivesFrontOf, GivesFront, GivesFrontUnits, GivesNone, IsFrontOf}
use Rattle.encode_unicode.specs.Pieces.{pieces, pieces_left, unit_pieces, unit_pieces_left}
use Rattle.utf_base.proofs.FrontCodes.{begins_taken, begins_there}
use Rattle.encode_unicode.proofs.Listed.{decoder_listed, unit_decoder_listed}
use Rattle.text_runs.specs.Items.{IsRun}
use Rattle.text_runs.specs.ForwardRuns.{IsForwardRun}
use Rattle.text_runs.proofs.PieceRuns.{Excludes, IsRunTo, IsRunTo-front, IsRunTo-push, IsRun-all}

-- The items are the run up to the window's front, and the rest of the list is in the window.
pub record IsWindowRun {E : Type 0} (code : ℕ → List ℕ) (kind : List ℕ → Option E) (xs : List ℕ) (items : List (Placed E)) (w : Window) : Type 0 where
  pub whole : w.whole ≡ xs
  pub end : w.back ≡ length xs
  pub run : IsRunTo code kind xs 0 items w.front

IsWindowRun-none : {E : Type 0} (code : ℕ → List ℕ) (kind : List ℕ → Option E) (xs : List ℕ) → IsWindowRun code kind xs [] (whole_window xs)
IsWindowRun-none code kind xs = record { whole = refl; end = refl; run = IsRunTo-front code kind xs }

-- one more result
IsWindowRun-push : {E : Type 0} (code : ℕ → List ℕ) (most : ℕ) (kind : List ℕ → Option E) (answer : List ℕ → Result (ℕ × ℕ) E) → IsCode code → Excludes code kind
    → (xs : List ℕ) (items : List (Placed E)) (w v : Window) (x : Placed E) → IsWindowRun code kind xs items w → GivesFrontOf code most kind answer w x v
    → IsWindowRun code kind xs (items ++ x ∷ []) v
IsWindowRun-push code most kind answer c apart xs items w v x f g =
    let lt : w.front < length xs = rw (← f.end) g.some in
    let front : IsFrontOf code kind (slice_range xs w.front (length xs)) x.1 x.2 = rw (f.whole, f.end) at g.piece in
    rw g.left (record { whole = f.whole; end = f.end; run = IsRunTo-push code kind c apart xs 0 items w.front x f.run g.place lt front })

-- once the window is empty the run is whole
IsWindowRun-all : {E : Type 0} (code : ℕ → List ℕ) (kind : List ℕ → Option E) (xs : List ℕ) (items : List (Placed E)) (w v : Window) → IsWindowRun code kind xs items w → GivesNone w v
    → IsRun code kind xs items
IsWindowRun-all code kind xs items w v f g = IsRun-all code kind xs items w.front f.run (g.none ∙ f.end)

-- The items are the run of bytes up to the window's front.

abbrev pub IsRunSoFar : List ℕ → List Item → Window → Type 0
IsRunSoFar = IsWindowRun utf8 fault_kind

pub IsRunSoFar-none : (xs : List ℕ) → IsRunSoFar xs [] (whole_window xs)
IsRunSoFar-none = IsWindowRun-none utf8 fault_kind

pub IsRunSoFar-push : {xs : List ℕ} {items : List Item} {w v : Window} {x : Item} → IsRunSoFar xs items w → GivesFront w x v → IsRunSoFar xs (items ++ x ∷ []) v
IsRunSoFar-push {xs} {items} {w} {v} {x} f g = IsWindowRun-push utf8 4 fault_kind decoded utf8_is_code no_code_where_fault xs items w v x f g

pub IsForwardRun-all : (xs : List ℕ) (items : List Item) (w v : Window) → IsRunSoFar xs items w → GivesNone w v → IsForwardRun xs items
IsForwardRun-all = IsWindowRun-all utf8 fault_kind

-- The items are the run of units up to the window's front.

abbrev pub IsUnitRunSoFar : List ℕ → List UnitItem → Window → Type 0
IsUnitRunSoFar = IsWindowRun utf16 unit_fault_kind

pub IsUnitRunSoFar-push : {xs : List ℕ} {items : List UnitItem} {w v : Window} {x : UnitItem} → IsUnitRunSoFar xs items w → GivesFrontUnits w x v → IsUnitRunSoFar xs (items ++ x ∷ []) v
IsUnitRunSoFar-push {xs} {items} {w} {v} {x} f g = IsWindowRun-push utf16 2 unit_fault_kind decoded_pairs utf16_is_code no_units_where_kind xs items w v x f g

-- an item has an element
pub item_some : {xs : List ℕ} {items : List Item} {w v : Window} {x : Item} → IsRunSoFar xs items w → GivesFront w x v → w.front < v.front
item_some f g = let some = g.len.0 in rw g.left (omega arith)

-- a window that is not empty has a first item
front_item : (w : Window) → w.front < w.back → w.back ≤ length w.whole → (x : Item) × GivesFront w x (without_front w x.2)
front_item w some fits = by_kind w some fits (fault_kind (elements w)) refl
  where
    by_kind : (w : Window) → w.front < w.back → w.back ≤ length w.whole → (k : Option Utf8ErrorKind) → fault_kind (elements w) ≡ k
        → (x : Item) × GivesFront w x (without_front w x.2)
    by_kind w some fits None e =
        let code = (code_where_no_fault (elements w) e).0 in
        let len = front_len_utf8 (elements w) _ _ (code, refl) in (
          (w.front, Ok (value (elements w)), length (utf8 (value (elements w)))),
          record {
            some = some;
            place = refl;
            piece = (code, refl);
            known = rw (decoded_code (elements w) _ code) refl;
            len = len;
            left = refl;
            taken = begins_taken utf8 (elements w) _ _ (code, refl);
            there = begins_there utf8 w.whole w.front w.back _ _ some len.2 (code, refl);
          },
        )
    by_kind w some fits (Some k) e =
        let one : 1 ≤ length (elements w) = grind (arith, common_steps) in (
          (w.front, Err k, 1),
          record {
            some = some;
            place = refl;
            piece = (e, refl);
            known = rw (← answer_of_bytes (elements w) (Err k) e) refl;
            len = (omega arith, omega arith, one);
            left = refl;
            taken = tt;
            there = tt;
          },
        )

-- a window of units that is not empty has a first item
front_unit : (w : Window) → IsUnits w.whole → w.front < w.back → w.back ≤ length w.whole → (x : UnitItem) × GivesFrontUnits w x (without_front w x.2)
front_unit w units some fits = by_kind (unit_fault_kind (elements w)) refl
  where
    by_kind : (k : Option Utf16PairError) → unit_fault_kind (elements w) ≡ k → (x : UnitItem) × GivesFrontUnits w x (without_front w x.2)
    by_kind None e =
        let s = unit_value (elements w) in
        let code = units_where_no_kind (elements w) (part_of_units w.whole w.front w.back units) e in
        let len = front_len_utf16 (elements w) _ _ (code, refl) in (
          (w.front, Ok s, length (utf16 s)),
          record {
            some = some;
            place = refl;
            piece = (code, refl);
            known = rw (decoded_pairs_code (elements w) s code) refl;
            len = len;
            left = refl;
            taken = begins_taken utf16 (elements w) _ _ (code, refl);
            there = begins_there utf16 w.whole w.front w.back _ _ some len.2 (code, refl);
          },
        )
    by_kind (Some k) e =
        let one : 1 ≤ length (elements w) = grind (arith, common_steps) in (
          (w.front, Err k, 1),
          record {
            some = some;
            place = refl;
            piece = (e, refl);
            known = rw (decoded_pairs_kind (elements w) k e) refl;
            len = (omega arith, omega arith, one);
            left = refl;
            taken = tt;
            there = tt;
          },
        )

-- The run, continued from any offset to the end with the remaining items of the decoder.

module _ {E : Type 0} (code : ℕ → List ℕ) (most : ℕ) (kind : List ℕ → Option E) (answer : List ℕ → Result (ℕ × ℕ) E) (c : IsCode code) (apart : Excludes code kind) (left : Window → List (Placed E))
    (none : (w : Window) → GivesNone w w → left w ≡ []) (more : (w v : Window) (x : Placed E) → GivesFrontOf code most kind answer w x v → left w ≡ x ∷ left v)
    (xs : List ℕ) (first : (w : Window) → w.whole ≡ xs → w.front < w.back → w.back ≤ length w.whole → (x : Placed E) × GivesFrontOf code most kind answer w x (without_front w x.2)) where
  run_out_end : (items : List (Placed E)) (w : Window) → IsWindowRun code kind xs items w → w.back ≤ w.front → IsRun code kind xs (items ++ left w)
  run_out_end items w f le =
      let nothing : GivesNone w w = record { none = (let lo = f.run.within in let end = f.end in omega arith); left = refl } in
      rw (none w nothing, append-nil) (IsWindowRun-all code kind xs items w w f nothing)

  run_out : (fuel : ℕ) (items : List (Placed E)) (w : Window) → IsWindowRun code kind xs items w → w.back ≤ w.front + fuel → IsRun code kind xs (items ++ left w)
  run_out zero items w f enough = run_out_end items w f (omega arith)
  run_out (suc fuel) items w f enough =
      ⊎_elim
      (λ (some : w.front < w.back).
      let x = first w f.whole some (rw (f.whole, f.end) (omega arith)) in
      let v = without_front w x.0.2 in
      let shorter = x.1.len.0 in
      let rest = run_out fuel (items ++ x.0 ∷ []) v (IsWindowRun-push code most kind answer c apart xs items w v x.0 f x.1) (omega arith) in
      rw (more w v x.0 x.1) (rw (← append_assoc items (x.0 ∷ []) (left v)) rest))
      (λ (end : w.back ≤ w.front). run_out_end items w f end)
      (cases_lt w.front w.back)

bytes_out : (xs : List ℕ) (items : List Item) (w : Window) → IsRunSoFar xs items w → IsForwardRun xs (items ++ pieces_left w)
bytes_out xs items w f =
    run_out utf8 4 fault_kind decoded utf8_is_code no_code_where_fault pieces_left (λ v g. (decoder_listed v None v g).0) (λ v u x g. decoder_listed v (Some x) u g) xs
    (λ v whole some fits. front_item v some fits) w.back items w f (omega arith)

pub record GoesOn (xs : List ℕ) (items : List Item) : Type 0 where
  pub more : List Item
  pub run : IsForwardRun xs (items ++ more)

pub GoesOn-always : (xs : List ℕ) (items : List Item) (w : Window) → IsRunSoFar xs items w → GoesOn xs items
GoesOn-always xs items w f = record { more = pieces_left w; run = bytes_out xs items w f }

-- the items of a decoder of some bytes are the forward run over them
pub pieces_are_the_run : (xs : List ℕ) → IsForwardRun xs (pieces xs)
pieces_are_the_run xs = bytes_out xs [] (whole_window xs) (IsRunSoFar-none xs)

-- the items of a decoder of units are the forward run over them
pub unit_pieces_are_the_run : (xs : List ℕ) → IsUnits xs → IsRun utf16 unit_fault_kind xs (unit_pieces xs)
unit_pieces_are_the_run xs units =
    run_out utf16 2 unit_fault_kind decoded_pairs utf16_is_code no_units_where_kind unit_pieces_left (λ w g. (unit_decoder_listed w None w g).0) (λ w v x g. unit_decoder_listed w (Some x) v g) xs
    (λ w whole some fits. front_unit w (rw whole units) some fits) (length xs) [] (whole_window xs) (IsWindowRun-none utf16 unit_fault_kind xs) (omega arith)
