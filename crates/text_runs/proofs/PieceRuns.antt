-- A run, one piece after another, over one list and generic in its code: only from the laws of cuts.
use Rattle.std.proofs.Common.{◌≡◌, ℕ, ◌+◌, ◌<◌, ◌≤◌, List, [], ◌∷◌, ◌++◌, length, map, ap, subst, arith, Option, Ok, Err, Result}
use Rattle.std.proofs.lemmas.List.{map-append, take_rest, length_push}
use Rattle.std.proofs.lemmas.List.Elements.{All-push}
use Rattle.std.specs.Prelude.{slice_range}
use Rattle.std.specs.Result.{result_ok}
use Rattle.utf_base.specs.Code.{IsCode}
use Rattle.utf_base.specs.Piece.{Inside, IsPieceAt, IsCutBetween}
use Rattle.utf_base.proofs.Cuts.{front_char, front_fault, cut_none, cut_push}
use Rattle.utf_base.proofs.Standing.{outside_front, outside_end}
use Rattle.encode_unicode.specs.Window.{Placed, IsFrontOf}
pub use Rattle.recoding.proofs.FirstFaults.{Excludes}
use Rattle.text_runs.specs.Items.{piece_of, HasKind, IsRunBetween, IsRun}

-- The items are the run from the offset i up to the offset j.
pub record IsRunTo {E : Type 0} (code : ℕ → List ℕ) (kind : List ℕ → Option E) (xs : List ℕ) (i : ℕ) (items : List (Placed E)) (j : ℕ) : Type 0 where
  pub within : j ≤ length xs
  pub outside : Inside code xs j → ⊥
  pub run : IsRunBetween code kind xs i j items
  pub passed : i + length items ≤ j

pub IsRunTo-none : {E : Type 0} (code : ℕ → List ℕ) (kind : List ℕ → Option E) (xs : List ℕ) (i : ℕ) → i ≤ length xs → (Inside code xs i → ⊥) → IsRunTo code kind xs i [] i
IsRunTo-none code kind xs i within outside = record {
  within = within;
  outside = outside;
  run = record { cut = cut_none code xs i; kinds = λ k d h. absurd (omega arith) };
  passed = omega arith;
}

-- the run from the front on
pub IsRunTo-front : {E : Type 0} (code : ℕ → List ℕ) (kind : List ℕ → Option E) (xs : List ℕ) → IsRunTo code kind xs 0 [] 0
IsRunTo-front code kind xs = IsRunTo-none code kind xs 0 (omega arith) (outside_front code xs)

-- A piece at the front of the rest, as a piece of the whole list.
pub record AtFront {E : Type 0} (code : ℕ → List ℕ) (kind : List ℕ → Option E) (xs : List ℕ) (i n : ℕ) (r : Result ℕ E) : Type 0 where
  pub piece : IsPieceAt code xs i n (result_ok r)
  pub some : 0 < n
  pub within : i + n ≤ length xs
  pub outside : Inside code xs (i + n) → ⊥
  pub kind_is : HasKind kind xs (i, r, n)

pub at_front : {E : Type 0} (code : ℕ → List ℕ) (kind : List ℕ → Option E) → IsCode code → Excludes code kind → (xs : List ℕ) (i n : ℕ) (r : Result ℕ E)
    → i < length xs → (Inside code xs i → ⊥) → IsFrontOf code kind (slice_range xs i (length xs)) r n → AtFront code kind xs i n r
at_front code kind c apart xs i n (Ok s) lt b (h, e) =
    let f = front_char code c xs i (length xs) s (omega arith) (omega arith) h in
    let within = f.1 in
    let some = c.some s h.scalar in
    record { piece = (f.0.0, e); some = omega arith; within = omega arith; outside = rw e f.2; kind_is = tt }
at_front code kind c apart xs i n (Err k) lt b (h, e) =
    let f = front_fault code xs i (length xs) b (outside_end code xs) lt (omega arith) (λ s st. apart _ k s h st) in
    record { piece = (f.0.0, e, f.0.2); some = omega arith; within = omega arith; outside = rw e f.1; kind_is = rw (← take_rest xs i) h }

-- one more result
pub IsRunTo-push : {E : Type 0} (code : ℕ → List ℕ) (kind : List ℕ → Option E) → IsCode code → Excludes code kind → (xs : List ℕ) (i : ℕ) (items : List (Placed E)) (j : ℕ) (x : Placed E)
    → IsRunTo code kind xs i items j → x.0 ≡ j → j < length xs → IsFrontOf code kind (slice_range xs j (length xs)) x.1 x.2
    → IsRunTo code kind xs i (items ++ x ∷ []) (j + x.2)
IsRunTo-push code kind c apart xs i items j x f place lt front =
    let p = at_front code kind c apart xs j x.2 x.1 lt f.outside front in
    let passed = f.passed in
    let one = length_push items x in
    let cut : IsCutBetween code xs i (x.0 + x.2) (map piece_of items ++ piece_of x ∷ [])
    = cut_push code c xs i (map piece_of items) (piece_of x) (omega arith) (rw place p.piece) (rw place f.run.cut) in
    record {
      within = p.within;
      outside = p.outside;
      run = record {
        cut = rw map-append (subst (λ k. IsCutBetween code xs i k (map piece_of items ++ piece_of x ∷ [])) (ap (λ p. p + x.2) place) cut);
        kinds = All-push (HasKind kind xs) items x f.run.kinds (rw place p.kind_is);
      };
      passed = omega arith;
    }

-- at the end of the list the run is complete
pub IsRun-all : {E : Type 0} (code : ℕ → List ℕ) (kind : List ℕ → Option E) (xs : List ℕ) (items : List (Placed E)) (i : ℕ) → IsRunTo code kind xs 0 items i → i ≡ length xs
    → IsRun code kind xs items
IsRun-all code kind xs items i f e = rw e at f.run
