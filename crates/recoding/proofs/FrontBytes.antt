-- The scalar at the front of some bytes, from the result of a decoder.
use Rattle.std.proofs.Common.{◌≡◌, ◌≢◌, ℕ, ◌+◌, ◌<◌, ◌≤◌, ⊎_elim, List, [], ◌∷◌, ◌++◌, length, get_or, drop, arith, refl, ap, sym, ◌∙◌, Some, None, Bool, true, false, not, if◌then◌else◌, lit<, length-drop}
use Rattle.std.proofs.lemmas.Bool.{cases_lt}
use Rattle.std.proofs.lemmas.List.{append-nil}
use Rattle.utf_base.specs.declared.errors.Utf8ErrorKind.{Utf8ErrorKind}
use Rattle.utf_base.specs.declared.errors.Utf8ErrorKind.TheVariants.{TooFewBytes}
use Rattle.utf_base.specs.Scalar.{IsScalar}
use Rattle.utf_base.specs.Code.{utf16}
use Rattle.utf_base.specs.Kinds.{fault_kind}
use Rattle.utf_base.specs.Piece.{Stands}
use Rattle.utf_base.specs.Shown.{Shows}
use Rattle.utf_base.specs.declared.errors.units.Utf16TupleError.{Utf16TupleError}
use Rattle.utf_base.specs.declared.errors.units.Utf16TupleError.TheVariants.{FirstIsTrailingSurrogate, SuperfluousSecond, MissingSecond, SecondIsNotTrailingSurrogate}
use Rattle.utf_base.specs.declared.errors.units.Utf16PairError.TheVariants.{Incomplete}
use Rattle.recoding.specs.declared.form.Form.{Form}
use Rattle.recoding.proofs.Forms.{by_form, is_units}
use Rattle.utf_base.specs.Units.{is_leading_surrogate, is_trailing_surrogate, tuple_fault, unit_fault_kind}
use Rattle.utf_base.proofs.KindCases.{kind-empty}
use Rattle.utf_base.proofs.LaterLemmas.{no_code_at_last}
use Rattle.utf_base.proofs.Rests.{fault_shows_first, shows_none, shows_one}
use Rattle.utf_base.proofs.UnitLemmas.{no_both}
use Rattle.utf_base.proofs.Utf16Code.{utf16_is_code}
use Rattle.recoding.specs.Recoded.{ShowsUnits, odd_end, Lacks}
use Rattle.recoding.specs.Faults.{fault_count}
use Rattle.utf_lanes.specs.BytePairs.{units_of, unit_of}
use Rattle.recoding.specs.NextScalars.{Decides, Ends, HasByteOrder, fault_len}
use Rattle.recoding.proofs.FaultCounts.{fault_counts, units_count_more}
use Rattle.recoding.proofs.CodeFronts.{front_of_nothing}

pub replacement : IsScalar 0xFFFD
replacement = record { below = lit< tt; no_surrogate = λ h. omega arith }

pub fault_is_some : (from : Form) → 0 < fault_len from
fault_is_some = by_form _ (omega arith) (λ high. rw (is_units high, fault_len) (omega arith))

-- the scalar that the bytes show whatever follows is the one they show if nothing does
pub Ends-from_decides : {reads : List ℕ → List ℕ → Type 0} {w : List ℕ} {s n : ℕ} → Decides reads w s n → Ends reads w s n
Ends-from_decides {reads} {w} {s} {n} d = record {
  some = d.some;
  within = d.within;
  scalar = d.scalar;
  wide = d.wide;
  first = λ ss r. rw (append-nil w) at (d.first [] ss (rw (append-nil (drop n w)) r));
}

-- UTF-8.

pub not_empty : (w : List ℕ) (k : Utf8ErrorKind) → fault_kind w ≡ Some k → k ≢ TooFewBytes → 0 < length w
not_empty w k e other =
    ⊎_elim
    (λ (some : 0 < length w). some)
    (λ (none : length w ≤ 0). let few = kind-empty w (omega arith) in absurd (other (same_kind k TooFewBytes (sym e ∙ few))))
    (cases_lt 0 (length w))
  where
    same_kind : (a b : Utf8ErrorKind) → Some a ≡ Some b → a ≡ b
    same_kind a b e = cc

-- UTF-16: bytes, two by two.

pub units_two : (high : Bool) (w later : List ℕ) → 2 ≤ length w → units_of high (w ++ later) ≡ unit_of high (get_or w 0 0) (get_or w 1 0) ∷ units_of high (drop 2 w ++ later)
units_two high [] later h = absurd (omega arith)
units_two high (a ∷ []) later h = absurd (omega arith)
units_two high (a ∷ b ∷ w) later h = refl

pub units_next : (high : Bool) (w later : List ℕ) → 4 ≤ length w → units_of high (drop 2 w ++ later) ≡ unit_of high (get_or w 2 0) (get_or w 3 0) ∷ units_of high (drop 4 w ++ later)
units_next high [] later h = absurd (omega arith)
units_next high (a ∷ []) later h = absurd (omega arith)
units_next high (a ∷ b ∷ []) later h = absurd (omega arith)
units_next high (a ∷ b ∷ c ∷ []) later h = absurd (omega arith)
units_next high (a ∷ b ∷ c ∷ d ∷ w) later h = refl

pub odd_two : (w later : List ℕ) → 2 ≤ length w → odd_end (w ++ later) ≡ odd_end (drop 2 w ++ later)
odd_two [] later h = absurd (omega arith)
odd_two (a ∷ []) later h = absurd (omega arith)
odd_two (a ∷ b ∷ w) later h = refl

-- the first two bytes of some
abbrev pub first_unit : Bool → List ℕ → ℕ
first_unit high w = unit_of high (get_or w 0 0) (get_or w 1 0)

-- the next two
abbrev pub second_unit : Bool → List ℕ → ℕ
second_unit high w = unit_of high (get_or w 2 0) (get_or w 3 0)

-- a unit that begins no code, whatever follows the bytes
pub fault_shows_units : (high : Bool) (w : List ℕ) → 2 ≤ length w → ((later : List ℕ) (s : ℕ) → Stands utf16 (first_unit high w ∷ units_of high (drop 2 w ++ later)) 0 s → ⊥)
    → Decides (ShowsUnits high) w 0xFFFD 2
fault_shows_units high w two none = record {
  some = omega arith;
  within = two;
  scalar = replacement;
  wide = λ h. omega arith;
  first = λ later ss (ts, r, f). (
    0xFFFD ∷ ts,
    rw (units_two high w later two) (fault_shows_first utf16 utf16_is_code (first_unit high w ∷ []) (units_of high (drop 2 w ++ later)) ts (lit< tt) (none later) r),
    ap (λ xs. 0xFFFD ∷ xs) (f ∙ ap (λ o. ts ++ o) (sym (odd_two w later two))),
  );
}

-- fewer than two bytes
pub few_units : (high : Bool) (w : List ℕ) → length w < 2 → units_of high w ≡ []
few_units high [] h = refl
few_units high (a ∷ []) h = refl
few_units high (a ∷ b ∷ w) h = absurd (omega arith)

shows_nothing : (ts : List ℕ) → Shows utf16 [] ts → ts ≡ []
shows_nothing ts h = shows_one utf16 utf16_is_code [] ts [] h (shows_none utf16)

-- half a unit is a fault
pub byte_shows : (high : Bool) (w : List ℕ) → length w < 2 → 0 < length w → (ss : List ℕ) → ShowsUnits high (drop 2 w) ss → ShowsUnits high w (0xFFFD ∷ ss)
byte_shows high [] h some ss r = absurd (omega arith)
byte_shows high (a ∷ []) h some ss (ts, r, f) =
    let none = shows_nothing ts r in
    ([], shows_none utf16, ap (λ xs. 0xFFFD ∷ xs) (f ∙ append-nil ts ∙ none))
byte_shows high (a ∷ b ∷ w) h some ss r = absurd (omega arith)

pub byte_counts : (high : Bool) (from : Form) (w : List ℕ) → HasByteOrder high from → length w < 2 → 0 < length w → fault_count from w ≡ 1 + fault_count from (drop 2 w)
byte_counts high from [] form h some = absurd (omega arith)
byte_counts high from (a ∷ []) form h some = units_count_more high from (a ∷ []) [] 0 1 form (λ m r. let none : 0 + m ≡ m = omega arith in rw none r) refl
byte_counts high from (a ∷ b ∷ w) form h some = absurd (omega arith)

-- a leading surrogate, and at most one byte after it
record IsLast (high : Bool) (w : List ℕ) : Type 0 where
  pub units : units_of high w ≡ first_unit high w ∷ units_of high (drop 2 w)
  pub odd : odd_end w ≡ odd_end (drop 2 w)
  pub none : (s : ℕ) → Stands utf16 ((first_unit high w ∷ []) ++ units_of high (drop 2 w)) 0 s → ⊥

leading_is_last : (high : Bool) (w : List ℕ) → 2 ≤ length w → length w < 4 → is_leading_surrogate (first_unit high w) ≡ true → IsLast high w
leading_is_last high w two few l =
    let rest : units_of high (drop 2 w) ≡ [] = few_units high (drop 2 w) (omega (arith, length-drop 2 w)) in
    record {
      units = rw (append-nil w, append-nil (drop 2 w)) at (units_two high w [] two);
      odd = rw (append-nil w, append-nil (drop 2 w)) at (odd_two w [] two);
      none = λ s h. no_code_at_last (first_unit high w) s l (rw rest at h);
    }

pub leading_shows : (high : Bool) (w : List ℕ) → 2 ≤ length w → length w < 4 → is_leading_surrogate (first_unit high w) ≡ true → (ss : List ℕ)
    → ShowsUnits high (drop 2 w) ss → ShowsUnits high w (0xFFFD ∷ ss)
leading_shows high w two few l ss (ts, r, f) =
    let last = leading_is_last high w two few l in (
      0xFFFD ∷ ts,
      rw last.units (fault_shows_first utf16 utf16_is_code (first_unit high w ∷ []) (units_of high (drop 2 w)) ts (lit< tt) last.none r),
      ap (λ xs. 0xFFFD ∷ xs) (f ∙ ap (λ o. ts ++ o) (sym last.odd)),
    )

pub leading_counts : (high : Bool) (from : Form) (w : List ℕ) → HasByteOrder high from → 2 ≤ length w → length w < 4 → is_leading_surrogate (first_unit high w) ≡ true
    → fault_count from w ≡ 1 + fault_count from (drop 2 w)
leading_counts high from w form two few l =
    let last = leading_is_last high w two few l in
    units_count_more high from w (drop 2 w) 1 0 form
    (λ m r. rw last.units (fault_counts utf16 utf16_is_code (first_unit high w ∷ []) (units_of high (drop 2 w)) m (lit< tt) last.none r)) (ap length last.odd ∙ omega arith)

-- Bytes that lack elements.

pub lacks_byte : (high : Bool) (w : List ℕ) → length w < 2 → unit_fault_kind (units_of high w) ≡ Some Incomplete
unfolding unit_fault_kind
lacks_byte high w few = rw (few_units high w few) refl

-- a lone leading surrogate
alone : (u : ℕ) → is_leading_surrogate u ≡ true → unit_fault_kind (u ∷ []) ≡ Some Incomplete
unfolding unit_fault_kind
alone u l = rw (no_both u l, l) refl

pub lacks_second : (high : Bool) (w : List ℕ) → 2 ≤ length w → length w < 4 → is_leading_surrogate (first_unit high w) ≡ true
    → unit_fault_kind (units_of high w) ≡ Some Incomplete
lacks_second high w two few l =
    let units : units_of high w ≡ first_unit high w ∷ units_of high (drop 2 w) = rw (append-nil w, append-nil (drop 2 w)) at (units_two high w [] two) in
    let rest : units_of high (drop 2 w) ≡ [] = few_units high (drop 2 w) (omega (arith, length-drop 2 w)) in
    rw (units, rest) (alone (first_unit high w) l)

-- no bytes lack elements too
pub lacks_all : (from : Form) → Lacks from []
lacks_all = by_form _ front_of_nothing (λ high. rw (is_units high, Lacks) (lacks_byte high [] (lit< tt)))

-- The result of decoding one or two units.

trailing_by_tests : (t l : Bool) (e : Utf16TupleError) → l ≡ false → (if t then Some FirstIsTrailingSurrogate else if l then Some MissingSecond else None) ≡ Some e → t ≡ true
trailing_by_tests true l e f h = refl
trailing_by_tests false true e f h = cc
trailing_by_tests false false e f h = cc

pub trailing_where_fault : (u : ℕ) (e : Utf16TupleError) → is_leading_surrogate u ≡ false → tuple_fault u None ≡ Some e → is_trailing_surrogate u ≡ true
trailing_where_fault u e l h = trailing_by_tests (is_trailing_surrogate u) (is_leading_surrogate u) e l h

unmatched_by_tests : (t l v : Bool) (e : Utf16TupleError) → l ≡ true → t ≡ false
    → (if t then Some FirstIsTrailingSurrogate else if not l then Some SuperfluousSecond else if not v then Some SecondIsNotTrailingSurrogate else None) ≡ Some e → v ≡ false
unmatched_by_tests t l false e f g h = refl
unmatched_by_tests true l true e f g h = cc
unmatched_by_tests false false true e f g h = cc
unmatched_by_tests false true true e f g h = cc

pub unmatched_where_fault : (u v : ℕ) (e : Utf16TupleError) → is_leading_surrogate u ≡ true → tuple_fault u (Some v) ≡ Some e → is_trailing_surrogate v ≡ false
unmatched_where_fault u v e l h = unmatched_by_tests (is_trailing_surrogate u) (is_leading_surrogate u) (is_trailing_surrogate v) e l (no_both u l) h
