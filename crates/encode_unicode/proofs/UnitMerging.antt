-- The result of a merger of units for the unit that was taken from it.
use Rattle.std.proofs.Common.{◌≡◌, ℕ, ◌<◌, ◌≤◌, List, [], ◌∷◌, ◌++◌, length, Some, Ok, Err, Bool, true, false, eqb, refl, ap, sym, arith}
use Rattle.std.proofs.lemmas.Grind.{common_steps}
use Rattle.std.specs.Iterator.{Count}
use Rattle.std.specs.Prelude.{Option}
use Rattle.utf_base.specs.declared.errors.units.Utf16PairError.TheVariants.{Incomplete, UnexpectedTrailingSurrogate, UnmatchedLeadingSurrogate}
use Rattle.utf_base.specs.Code.{utf16}
use Rattle.utf_base.specs.Decoded.{decoded_two}
use Rattle.utf_base.specs.Scalar.{IsScalar}
use Rattle.utf_base.specs.Units.{is_leading_surrogate, is_trailing_surrogate, is_surrogate, is_padded_units, array_fault, pair_value, unit_fault_kind, unit_value}
use Rattle.utf_base.proofs.UnitLemmas.{no_both}
use Rattle.utf_base.proofs.Utf16Code.{unit_is_code, code_of_pair, scalar_pair, unit_value-pair, unit_value-unit}
use Rattle.encode_unicode.specs.Reading.{Answers, CompletesUnits, ReadsElements}
use Rattle.encode_unicode.proofs.MergerSteps.{reads_none, value_of_answer}

-- The kinds, case by case.

pub kind_of_trailing : (u : ℕ) (later : List ℕ) → is_trailing_surrogate u ≡ true → unit_fault_kind (u ∷ later) ≡ Some UnexpectedTrailingSurrogate
unfolding unit_fault_kind
kind_of_trailing u later trail =
    let some : eqb (length (u ∷ later)) 0 ≡ false = grind (arith, common_steps) in
    rw (some, trail) refl

kind_of_last : (u : ℕ) → is_leading_surrogate u ≡ true → unit_fault_kind (u ∷ []) ≡ Some Incomplete
unfolding unit_fault_kind
kind_of_last u lead = rw (no_both u lead, lead) refl

kind_of_unmatched : (u v : ℕ) (later : List ℕ) → is_leading_surrogate u ≡ true → is_trailing_surrogate v ≡ false → unit_fault_kind (u ∷ v ∷ later) ≡ Some UnmatchedLeadingSurrogate
unfolding unit_fault_kind
kind_of_unmatched u v later lead trail =
    let some : eqb (length (u ∷ v ∷ later)) 0 ≡ false = grind (arith, common_steps) in
    let two : eqb (length (u ∷ v ∷ later)) 1 ≡ false = grind (arith, common_steps) in
    rw (some, no_both u lead, lead, two, trail) refl

-- A unit that is a character of its own.

pub char_of_unit : (u : ℕ) → u < 0x1_0000 → is_surrogate u ≡ false → IsScalar u × (utf16 u ≡ u ∷ [])
char_of_unit u fits plain = let code = unit_is_code u fits plain in (code.0, sym code.1)

-- the value of the units is known
units_answer : {S : Type 0} (can_next : S → Type 0) (remaining : S → Count) (steps : S → Option ℕ → S → Type 0) (first second c : ℕ) (s t : S) (new : List ℕ) (f : Bool)
    → is_padded_units first second ≡ true → unit_value (first ∷ second ∷ []) ≡ c → Answers utf16 unit_fault_kind can_next remaining steps first [] s false (Ok c) new t f
    → CompletesUnits can_next remaining steps first s (Ok second) (record { held = new; ended = f }) t
units_answer can_next remaining steps first second c s t new f own value a = (own, rw value a)

pub unit_stands : {S : Type 0} (can_next : S → Type 0) (remaining : S → Count) (steps : S → Option ℕ → S → Type 0) (first : ℕ) (s : S) (new : List ℕ) (f : Bool)
    → can_next s → new ≡ [] → f ≡ false → first < 0x1_0000 → is_surrogate first ≡ false
    → CompletesUnits can_next remaining steps first s (Ok 0) (record { held = new; ended = f }) s
unit_stands can_next remaining steps first s new f can none going fits plain =
    let char = char_of_unit first fits plain in
    let lead = no_lead first plain in
    units_answer can_next remaining steps first 0 first s s new f (own first plain) (unit_value-unit (first ∷ 0 ∷ []) lead)
    (record {
      more = [];
      reads = rw going (reads_none (λ _. can));
      settles = λ later ends. (char.0, rw none (ap (λ xs. xs ++ later) (sym char.1)));
      few = rw none (omega arith);
      clear = none;
    })
  where
    no_lead : (u : ℕ) → is_surrogate u ≡ false → is_leading_surrogate u ≡ false
    no_lead u plain = grind (arith, common_steps)

    own : (u : ℕ) → is_surrogate u ≡ false → is_padded_units u 0 ≡ true
    own u plain = grind (arith, common_steps)

pub unit_trails : {S : Type 0} (can_next : S → Type 0) (remaining : S → Count) (steps : S → Option ℕ → S → Type 0) (first : ℕ) (s : S) (new : List ℕ) (f : Bool)
    → can_next s → new ≡ [] → f ≡ false → is_trailing_surrogate first ≡ true
    → CompletesUnits can_next remaining steps first s (Err UnexpectedTrailingSurrogate) (record { held = new; ended = f }) s
unit_trails can_next remaining steps first s new f can none going trail = record {
  more = [];
  reads = rw going (reads_none (λ _. can));
  settles = λ later ends. (kind_of_trailing first later trail, rw none refl);
  few = rw none (omega arith);
  clear = tt;
}

-- a surrogate is leading or trailing, by the range in which it lies
pub leads_below : (u : ℕ) → is_surrogate u ≡ true → u < 0xDC00 → is_leading_surrogate u ≡ true
leads_below u h low = grind (arith, common_steps)

pub trails_from : (u : ℕ) → is_surrogate u ≡ true → 0xDC00 ≤ u → is_trailing_surrogate u ≡ true
trails_from u h high = grind (arith, common_steps)

-- A leading surrogate.

pub unit_last : {S : Type 0} (can_next : S → Type 0) (remaining : S → Count) (steps : S → Option ℕ → S → Type 0) (first : ℕ) (s t : S) (new : List ℕ) (f : Bool)
    → is_leading_surrogate first ≡ true → ReadsElements can_next remaining steps s false [] t true → new ≡ [] → f ≡ true
    → CompletesUnits can_next remaining steps first s (Err Incomplete) (record { held = new; ended = f }) t
unit_last can_next remaining steps first s t new f lead reads none mark = record {
  more = [];
  reads = rw mark reads;
  settles = λ later ends. (rw (ends mark) (kind_of_last first lead), rw none refl);
  few = rw none (omega arith);
  clear = tt;
}

pub unit_pair : {S : Type 0} (can_next : S → Type 0) (remaining : S → Count) (steps : S → Option ℕ → S → Type 0) (first second : ℕ) (s t : S) (new : List ℕ) (f : Bool)
    → is_leading_surrogate first ≡ true → is_trailing_surrogate second ≡ true → ReadsElements can_next remaining steps s false (second ∷ []) t false → new ≡ [] → f ≡ false
    → CompletesUnits can_next remaining steps first s (Ok second) (record { held = new; ended = f }) t
unit_pair can_next remaining steps first second s t new f lead trail reads none going =
    units_answer can_next remaining steps first second (pair_value first second) s t new f (rw lead trail) (unit_value-pair (first ∷ second ∷ []) lead)
    (record {
      more = second ∷ [];
      reads = rw going reads;
      settles = λ later ends. (scalar_pair first second, rw none (ap (λ xs. xs ++ later) (sym (code_of_pair first second lead trail))));
      few = rw none (omega arith);
      clear = none;
    })

pub unit_unmatched : {S : Type 0} (can_next : S → Type 0) (remaining : S → Count) (steps : S → Option ℕ → S → Type 0) (first second : ℕ) (s t : S) (new : List ℕ) (f : Bool)
    → is_leading_surrogate first ≡ true → is_trailing_surrogate second ≡ false → ReadsElements can_next remaining steps s false (second ∷ []) t false → new ≡ second ∷ [] → f ≡ false
    → CompletesUnits can_next remaining steps first s (Err UnmatchedLeadingSurrogate) (record { held = new; ended = f }) t
unit_unmatched can_next remaining steps first second s t new f lead trail reads one going = record {
  more = second ∷ [];
  reads = rw going reads;
  settles = λ later ends. (kind_of_unmatched first second later lead trail, rw one refl);
  few = rw one (omega arith);
  clear = tt;
}

-- The character of two units that are its code.

pub known_units : {S : Type 0} {can_next : S → Type 0} {remaining : S → Count} {steps : S → Option ℕ → S → Type 0} {first : ℕ} (second : ℕ) {c : ℕ} {s t : S} {new : List ℕ} {f : Bool}
    → CompletesUnits can_next remaining steps first s (Ok second) (record { held = new; ended = f }) t → decoded_two (first ∷ second ∷ []) ≡ Ok c
    → Answers utf16 unit_fault_kind can_next remaining steps first [] s false (Ok c) new t f
unfolding decoded_two
known_units {S} {can_next} {remaining} {steps} {first} second {c} h known =
    let is : unit_value (first ∷ second ∷ []) ≡ c = value_of_answer (array_fault first second) _ c known in
    rw (← is) h.1
