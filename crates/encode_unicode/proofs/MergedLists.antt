-- The results of a merger for some bytes, and for some units, one after another.
use Rattle.std.proofs.Common.{◌≡◌, ℕ, zero, suc, ◌+◌, ◌≤◌, List, [], ◌∷◌, length, map, drop, Option, Some, None, Result, Ok, Err, refl, ap, sym, ◌∙◌, arith, length-append}
use Rattle.std.specs.Iterator.Runs.{EachRunFrom, SomeRun}
use Rattle.std.proofs.lemmas.List.{drop_at}
use Rattle.utf_base.specs.Code.{utf8, utf16}
use Rattle.utf_base.specs.declared.errors.Utf8ErrorKind.{Utf8ErrorKind}
use Rattle.utf_base.specs.declared.errors.units.Utf16PairError.{Utf16PairError}
use Rattle.utf_base.specs.Decoded.{decoded, decoded_pairs}
use Rattle.utf_base.specs.Kinds.{merger_kind}
use Rattle.utf_base.specs.Units.{unit_fault_kind}
use Rattle.utf_base.proofs.DecodedLemmas.{decoded_code, decoded_pairs_code, decoded_pairs_kind}
use Rattle.utf_base.proofs.MergerLemmas.{merger_none, merger_none_where_code}
use Rattle.utf_base.proofs.Standing.{stands_first}
use Rattle.utf_base.proofs.Utf8Code.{utf8_is_code}
use Rattle.utf_base.proofs.Utf16Code.{utf16_is_code}
use Rattle.encode_unicode.specs.Mergers.{IsHeldBytes, IsHeldUnits, IsMergerRun, Merging, MergerNext, TakesFront, decoded_by_merger, merged, merged_units, unasked}
use Rattle.encode_unicode.specs.Pieces.{Gives, pieces_by}
use Rattle.encode_unicode.specs.Sources.{IsListed}
use Rattle.encode_unicode.specs.Window.{as_piece}
use Rattle.encode_unicode.proofs.MergerRuns.{listed_merger_runs, merger_runs}
use Rattle.encode_unicode.proofs.PieceRuns.{first_piece, some_bytes, some_units}

-- if the merger's kind is none, its decoding is that of a slice
pub same_code : (w : List ℕ) → merger_kind w ≡ None → decoded_by_merger w ≡ decoded w
unfolding decoded_by_merger decoded
same_code w none = rw (none, merger_none w none) refl

pub fault_by_merger : (w : List ℕ) (k : Utf8ErrorKind) → merger_kind w ≡ Some k → decoded_by_merger w ≡ Err k
unfolding decoded_by_merger
fault_by_merger w k h = rw h refl

some_by_merger : (xs : List ℕ) → 1 ≤ (as_piece (decoded_by_merger xs)).1
some_by_merger xs = by_kind (merger_kind xs) refl
  where
    by_kind : (k : Option Utf8ErrorKind) → merger_kind xs ≡ k → 1 ≤ (as_piece (decoded_by_merger xs)).1
    by_kind None e = rw (same_code xs e) (some_bytes xs)
    by_kind (Some k) e = rw (fault_by_merger xs k e) (omega arith)

-- the results do not depend on the offset where the pieces begin
answers_anywhere : {E : Type 0} (answer : List ℕ → Result (ℕ × ℕ) E) (n i j : ℕ) (xs : List ℕ) → map (λ x. x.1) (pieces_by answer n i xs) ≡ map (λ x. x.1) (pieces_by answer n j xs)
unfolding pieces_by
answers_anywhere answer zero i j xs = refl
answers_anywhere answer (suc n) i j [] = refl
answers_anywhere answer (suc n) i j (x ∷ xs) =
    ap (λ rs. (as_piece (answer (x ∷ xs))).0 ∷ rs) (answers_anywhere answer n (i + (as_piece (answer (x ∷ xs))).1) (j + (as_piece (answer (x ∷ xs))).1) (drop (as_piece (answer (x ∷ xs))).1 (x ∷ xs)))

-- one result, and then the results for the rest
module _ {E : Type 0} (code : ℕ → List ℕ) (kind : List ℕ → Option E) (answer : List ℕ → Result (ℕ × ℕ) E) (some : (xs : List ℕ) → 1 ≤ (as_piece (answer xs)).1) where
  answer_then : (xs ys : List ℕ) (r : Result ℕ E) (n : ℕ) → 1 ≤ length xs → (r, n) ≡ as_piece (answer xs) → ys ≡ drop n xs
      → map (λ x. x.1) (pieces_by answer (length xs) 0 xs) ≡ r ∷ map (λ x. x.1) (pieces_by answer (length ys) 0 ys)
  answer_then xs ys r n len known rest =
      ap (map (λ x. x.1)) (first_piece code n kind answer some (length xs) 0 xs ys (0, r, n) len (omega arith) refl known rest)
      ∙ ap (λ rs. r ∷ rs) (answers_anywhere answer (length ys) (0 + n) 0 ys)

no_bytes : merged [] ≡ []
unfolding merged pieces_by
no_bytes = refl

no_units : merged_units [] ≡ []
unfolding merged_units pieces_by
no_units = refl

first_merged : (xs ys : List ℕ) (r : Result ℕ Utf8ErrorKind) → TakesFront utf8 merger_kind xs (Some r) ys → merged xs ≡ r ∷ merged ys
unfolding merged
first_merged xs ys (Ok s) h =
    let stands = stands_first utf8 xs ys s h.0 h.1 in
    let known = same_code xs (merger_none_where_code xs s stands) ∙ decoded_code xs s stands in
    answer_then utf8 merger_kind decoded_by_merger some_by_merger xs ys (Ok s) (length (utf8 s)) (omega (arith, ap length h.1, length-append (utf8 s) ys, utf8_is_code.some s h.0)) (sym (ap as_piece known))
    (sym (ap (drop (length (utf8 s))) h.1 ∙ drop_at (utf8 s) ys (length (utf8 s)) refl))
first_merged xs ys (Err k) h =
    answer_then utf8 merger_kind decoded_by_merger some_by_merger xs ys (Err k) 1 (omega (arith, ap length h.1)) (sym (ap as_piece (fault_by_merger xs k h.0))) (sym (ap (drop 1) h.1))

first_merged_unit : (xs ys : List ℕ) (r : Result ℕ Utf16PairError) → TakesFront utf16 unit_fault_kind xs (Some r) ys → merged_units xs ≡ r ∷ merged_units ys
unfolding merged_units
first_merged_unit xs ys (Ok s) h =
    let stands = stands_first utf16 xs ys s h.0 h.1 in
    answer_then utf16 unit_fault_kind decoded_pairs some_units xs ys (Ok s) (length (utf16 s)) (omega (arith, ap length h.1, length-append (utf16 s) ys, utf16_is_code.some s h.0)) (sym (ap as_piece (decoded_pairs_code xs s stands)))
    (sym (ap (drop (length (utf16 s))) h.1 ∙ drop_at (utf16 s) ys (length (utf16 s)) refl))
first_merged_unit xs ys (Err k) h =
    answer_then utf16 unit_fault_kind decoded_pairs some_units xs ys (Err k) 1 (omega (arith, ap length h.1)) (sym (ap as_piece (decoded_pairs_kind xs k h.0))) (sym (ap (drop 1) h.1))

pub byte_runs : {S : Type 0} (steps : S → Option ℕ → S → Type 0) (s : S) (m : Merging S) → m ≡ unasked s
    → EachRunFrom (MergerNext utf8 merger_kind IsHeldBytes steps) m (λ p. SomeRun steps s (λ q. IsMergerRun merged p q))
byte_runs steps = merger_runs utf8 merger_kind IsHeldBytes steps merged utf8_is_code.some no_bytes first_merged

pub unit_runs : {S : Type 0} (steps : S → Option ℕ → S → Type 0) (s : S) (m : Merging S) → m ≡ unasked s
    → EachRunFrom (MergerNext utf16 unit_fault_kind IsHeldUnits steps) m (λ p. SomeRun steps s (λ q. IsMergerRun merged_units p q))
unit_runs steps = merger_runs utf16 unit_fault_kind IsHeldUnits steps merged_units utf16_is_code.some no_units first_merged_unit

pub listed_byte_runs : {S : Type 0} (steps : S → Option ℕ → S → Type 0) (s : S) (m : Merging S) → m ≡ unasked s
    → (rest : S → List ℕ) → IsListed steps rest → EachRunFrom (MergerNext utf8 merger_kind IsHeldBytes steps) m (λ p. Gives p (merged (rest s)))
listed_byte_runs steps = listed_merger_runs utf8 merger_kind IsHeldBytes steps merged utf8_is_code.some no_bytes first_merged

pub listed_unit_runs : {S : Type 0} (steps : S → Option ℕ → S → Type 0) (s : S) (m : Merging S) → m ≡ unasked s
    → (rest : S → List ℕ) → IsListed steps rest → EachRunFrom (MergerNext utf16 unit_fault_kind IsHeldUnits steps) m (λ p. Gives p (merged_units (rest s)))
listed_unit_runs steps = listed_merger_runs utf16 unit_fault_kind IsHeldUnits steps merged_units utf16_is_code.some no_units first_merged_unit
