-- The number of faults in bytes, piece by piece.
use Rattle.std.proofs.Common.{◌≡◌, ℕ, zero, suc, ◌+◌, ◌<◌, Bool, cond, List, [], ◌∷◌, ◌++◌, length, drop, map, flat_map, arith, refl, ap, sym, ◌∙◌, subst, append_assoc, Some, None, Option}
use Rattle.std.proofs.lemmas.List.{append-nil, drop_all, drop-append-le, drop-drop}
use Rattle.std.proofs.lemmas.List.Sums.{sum_by-cons}
use Rattle.std.specs.Prelude.{All, is_none}
use Rattle.utf_base.specs.Code.{utf8, utf16, IsCode}
use Rattle.utf_base.specs.Piece.{Covered, IsPieceAt, Piece, Stands}
use Rattle.utf_base.specs.Scalar.{IsScalar}
use Rattle.utf_base.specs.Subparts.{IsMaximalSubpart}
use Rattle.utf_base.proofs.Cuts.{cut_is_unique, cut_none}
use Rattle.utf_base.proofs.CutChanges.{moved}
use Rattle.utf_base.proofs.Rests.{BeginsCut, code_begins, cut_first, fault_begins, piece_in_rest}
use Rattle.utf_base.proofs.Standing.{stands_first}
use Rattle.utf_base.proofs.SubpartLemmas.{subparts_are_faults}
use Rattle.utf_base.proofs.Utf8Code.{utf8_is_code}
use Rattle.utf_base.proofs.Utf16Code.{utf16_is_code}
use Rattle.utf_lanes.specs.BytePairs.{units_of}
use Rattle.recoding.specs.declared.form.Form.{Form}
use Rattle.recoding.specs.declared.form.Form.TheVariants.{Utf8}
use Rattle.recoding.specs.TextForms.{text_form}
use Rattle.recoding.proofs.Forms.{by_form, is_units}
use Rattle.recoding.specs.Recoded.{odd_end}
use Rattle.recoding.specs.NextScalars.{HasByteOrder}
use Rattle.recoding.specs.Faults.{Faults, FaultCountIsOne, HasFaults, HasUnitFaults, fault_count, faults_in}

-- The number of faults is unique.

has_one : (code : ℕ → List ℕ) → IsCode code → (xs : List ℕ) (m n : ℕ) → HasFaults code xs m → HasFaults code xs n → m ≡ n
has_one code c xs m n (ps, a, e) (qs, b, f) = e ∙ ap faults_in (cut_is_unique code c xs ps qs a b) ∙ sym f

units_have_one : (high : Bool) (bytes : List ℕ) (m n : ℕ) → HasUnitFaults high bytes m → HasUnitFaults high bytes n → m ≡ n
units_have_one high bytes m n (i, a, e) (j, b, f) = e ∙ ap (λ k. k + length (odd_end bytes)) (has_one utf16 utf16_is_code (units_of high bytes) i j a b) ∙ sym f

one : (from : Form) (bytes : List ℕ) (m n : ℕ) → Faults from bytes m → Faults from bytes n → m ≡ n
one = by_form _ (has_one utf8 utf8_is_code) (λ high. rw (is_units high, Faults) (units_have_one high))

counted : (from : Form) (bytes : List ℕ) → Faults from bytes (fault_count from bytes)
unfolding fault_count
counted from bytes = ((text_form from).faults_some bytes).1

same_count : (from : Form) (bytes : List ℕ) (n : ℕ) → Faults from bytes n → n ≡ fault_count from bytes
same_count from bytes n h = one from bytes n (fault_count from bytes) h (counted from bytes)

pub fault_count_is_one : FaultCountIsOne
fault_count_is_one from bytes n = (same_count from bytes n, λ e. subst (λ k. Faults from bytes k) (sym e) (counted from bytes))

-- The first piece, and the pieces of the rest.

-- whether a piece is a fault, as a number
abbrev is_fault : Piece → ℕ
is_fault x = cond (is_none x.char) 1 0

faults_moved : (n : ℕ) (ps : List Piece) → faults_in (map (moved 0 n) ps) ≡ faults_in ps
faults_moved n [] = refl
faults_moved n (x ∷ ps) = sum_by-cons is_fault (moved 0 n x) (map (moved 0 n) ps) ∙ ap (λ k. cond (is_none x.char) 1 0 + k) (faults_moved n ps) ∙ sym (sum_by-cons is_fault x ps)

faults_first : (code : ℕ → List ℕ) → IsCode code → (xs : List ℕ) (n : ℕ) (a : Option ℕ) (m : ℕ) → BeginsCut code xs n a → HasFaults code (drop n xs) m → HasFaults code xs (cond (is_none a) 1 0 + m)
faults_first code c xs n a m b (ps, cut, e) = (
  record { start = 0; len = n; char = a } ∷ map (moved 0 n) ps,
  cut_first code c xs n a ps b cut,
  ap (λ k. cond (is_none a) 1 0 + k) (e ∙ sym (faults_moved n ps)) ∙ sym (sum_by-cons is_fault (record { start = 0; len = n; char = a }) (map (moved 0 n) ps)),
)

whole_code_counts : (code : ℕ → List ℕ) → IsCode code → (s : ℕ) (later : List ℕ) (m : ℕ) → IsScalar s → HasFaults code later m → HasFaults code (code s ++ later) m
whole_code_counts code c s later m h r =
    let stands : Stands code (code s) 0 s = stands_first code (code s) [] s h (sym (append-nil (code s))) in
    let rest : drop (length (code s)) (code s ++ later) ≡ later =
    drop-append-le (length (code s)) (code s) later (omega arith) ∙ ap (λ xs. xs ++ later) (drop_all (length (code s)) (code s) (omega arith)) in
    let none : 0 + m ≡ m = omega arith in
    rw none at (faults_first code c (code s ++ later) (length (code s)) (Some s) m (code_begins code c (code s) later s stands) (rw rest r))

-- codes have no faults
pub codes_count : (code : ℕ → List ℕ) → IsCode code → (cs later : List ℕ) (m : ℕ) → All IsScalar cs → HasFaults code later m → HasFaults code (flat_map code cs ++ later) m
codes_count code c [] later m all r = r
codes_count code c (s ∷ cs) later m all r =
    rw (append_assoc (code s) (flat_map code cs) later)
    (whole_code_counts code c s (flat_map code cs ++ later) m (all 0 s (omega arith)) (codes_count code c cs later m (λ k d lt. all (suc k) d (omega arith)) r))

-- an element that begins no code is one fault
pub fault_counts : (code : ℕ → List ℕ) → IsCode code → (w later : List ℕ) (m : ℕ) → 0 < length w → ((s : ℕ) → Stands code (w ++ later) 0 s → ⊥) → HasFaults code (drop 1 w ++ later) m
    → HasFaults code (w ++ later) (1 + m)
fault_counts code c w later m some none r =
    let e : drop 1 (w ++ later) ≡ drop 1 w ++ later = drop-append-le 1 w later (omega arith) in
    faults_first code c (w ++ later) 1 None m (fault_begins code c w later some none) (rw e r)

-- elements at the front that are faults, each by itself
faults_count : (code : ℕ → List ℕ) → IsCode code → (n : ℕ) (xs : List ℕ) (m : ℕ) → ((q : ℕ) → q < n → IsPieceAt code xs q 1 None) → HasFaults code (drop n xs) m → HasFaults code xs (n + m)
faults_count code c zero xs m each r = let e : m ≡ 0 + m = omega arith in subst (λ k. HasFaults code xs k) e r
faults_count code c (suc n) xs m each r =
    let first = each 0 (omega arith) in
    let some = first.0 in
    let here : 1 + n ≡ suc n = omega arith in
    let rest : HasFaults code (drop n (drop 1 xs)) m = subst (λ ys. HasFaults code ys m) (sym (drop-drop n 1 xs ∙ ap (λ k. drop k xs) here)) r in
    let next : HasFaults code (drop 1 xs) (n + m) =
    faults_count code c n (drop 1 xs) m (λ q lt. piece_in_rest code xs 1 (suc q) q 1 None (omega arith) (omega arith) (each (suc q) (omega arith))) rest in
    let begins : BeginsCut code xs 1 None = record {
      piece = first;
      within = omega arith;
      outside = λ i. let before = i.begins in let ends = i.ends in first.2 (record { from = i.from; char = i.char; stands = i.stands; begins = omega arith; ends = omega arith });
    } in
    let e : 1 + (n + m) ≡ suc n + m = omega arith in
    subst (λ k. HasFaults code xs k) e (faults_first code c xs 1 None (n + m) begins next)

-- a maximal subpart is as many faults as it has elements
pub subpart_counts : (code : ℕ → List ℕ) → IsCode code → (xs : List ℕ) (n m : ℕ) → IsMaximalSubpart code xs 0 n → HasFaults code (drop n xs) m → HasFaults code xs (n + m)
subpart_counts code c xs n m h r =
    let uncovered : Covered code xs 0 → ⊥ = λ v. let e : v.from ≡ 0 = omega (arith, v.begins) in h.offset.none v.char (rw e at v.stands) in
    faults_count code c n xs m (λ q lt. subparts_are_faults code c xs 0 n q (h.offset.within, refl, uncovered) h (omega arith) (omega arith)) r

-- Bytes of an encoding that have k more faults than others.

pub counts_more : (bytes rest : List ℕ) (k : ℕ) → ((m : ℕ) → HasFaults utf8 rest m → HasFaults utf8 bytes (k + m)) → fault_count Utf8 bytes ≡ k + fault_count Utf8 rest
counts_more bytes rest k more = sym (same_count Utf8 bytes (k + fault_count Utf8 rest) (more (fault_count Utf8 rest) (counted Utf8 rest)))

as_units : (high : Bool) (from : Form) (bytes : List ℕ) (n : ℕ) → HasByteOrder high from → Faults from bytes n → HasUnitFaults high bytes n
as_units high from bytes n form h = rw (form, is_units high, Faults) at h

of_units : (high : Bool) (from : Form) (bytes : List ℕ) (n : ℕ) → HasByteOrder high from → HasUnitFaults high bytes n → Faults from bytes n
of_units high from bytes n form h = rw (form, is_units high, Faults) h

pub units_count_more : (high : Bool) (from : Form) (bytes rest : List ℕ) (i j : ℕ) → HasByteOrder high from → ((m : ℕ) → HasFaults utf16 (units_of high rest) m → HasFaults utf16 (units_of high bytes) (i + m))
    → length (odd_end bytes) ≡ j + length (odd_end rest) → fault_count from bytes ≡ i + j + fault_count from rest
units_count_more high from bytes rest i j form more odd =
    let (m, h, e) = as_units high from rest (fault_count from rest) form (counted from rest) in
    sym (same_count from bytes (i + j + fault_count from rest) (of_units high from bytes (i + j + fault_count from rest) form (i + m, more m h, omega (arith, e, odd))))

-- No bytes have no fault.
nothing_has_none : (code : ℕ → List ℕ) → HasFaults code [] 0
nothing_has_none code = ([], cut_none code [] 0, refl)

pub none_in_nothing : (from : Form) → fault_count from [] ≡ 0
none_in_nothing from = sym (same_count from [] 0 (nothing_at_all from))
  where
    nothing_at_all : (from : Form) → Faults from [] 0
    nothing_at_all = by_form _ (nothing_has_none utf8) (λ high. rw (is_units high, Faults) (0, nothing_has_none utf16, refl))
