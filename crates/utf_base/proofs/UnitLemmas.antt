-- Units have the code of a scalar at their front, or exactly one fault.
use Rattle.std.proofs.Common.{◌≡◌, ℕ, ◌<◌, ◌≤◌, ◌⊎◌, inl, inr, ⊎_elim, List, length, get_or, take, arith, refl, ap, sym, ◌∙◌, true, false, not, Bool, eqb, lit<, Option, Some, None}
use Rattle.std.proofs.lemmas.Grind.{common_steps}
use Rattle.std.proofs.lemmas.Bool.{cases_lt}
use Rattle.std.proofs.lemmas.List.{get_or-take}
use Rattle.std.specs.Option.{option_map}
use Rattle.std.specs.Prelude.{if◌then◌else◌}
use Rattle.utf_base.specs.declared.errors.units.Utf16SliceError.{Utf16SliceError}
use Rattle.utf_base.specs.declared.errors.units.Utf16SliceError.TheVariants as slice
use Rattle.utf_base.specs.declared.errors.units.Utf16PairError.{Utf16PairError}
use Rattle.utf_base.specs.declared.errors.units.Utf16PairError.TheVariants as pair
use Rattle.utf_base.specs.Code.{utf16}
use Rattle.utf_base.specs.KindLaws.{UnitsCodeOrOneFault, UnitsCodeOrOneKind, TwoUnitsDecide}
use Rattle.utf_base.specs.Piece.{Stands}
use Rattle.utf_base.specs.Scalar.{IsUnits}
use Rattle.utf_base.specs.Units.{slice_fault, unit_fault_kind, unit_value, is_leading_surrogate, is_trailing_surrogate, is_surrogate}
use Rattle.utf_base.proofs.Cuts.{Finds}
use Rattle.utf_base.proofs.Utf16Code.{StandsAsUnit, StandsAsPair, stands_cases, begins_with_unit, begins_with_pair, utf16_is_code, unit_value-unit, unit_value-pair}

pub no_surrogate : (u : ℕ) → is_trailing_surrogate u ≡ false → is_leading_surrogate u ≡ false → is_surrogate u ≡ false
no_surrogate u t l = grind (arith, common_steps)

pub no_lead : (u : ℕ) → is_surrogate u ≡ false → is_leading_surrogate u ≡ false
no_lead u h = grind (arith, common_steps)

pub no_trail : (u : ℕ) → is_surrogate u ≡ false → is_trailing_surrogate u ≡ false
no_trail u h = grind (arith, common_steps)

pub no_both : (u : ℕ) → is_leading_surrogate u ≡ true → is_trailing_surrogate u ≡ false
no_both u h = grind (arith, common_steps)

two_or_more : (n : ℕ) → 0 < n → eqb n 1 ≡ false → 2 ≤ n
two_or_more n some a = grind (arith, common_steps)

zero_or_more : (n : ℕ) → (n ≡ 0) ⊎ (0 < n)
zero_or_more n = ⊎_elim (λ (some : 0 < n). inr some) (λ (none : n ≤ 0). inl (omega arith)) (cases_lt 0 n)

pub fault_of_empty : (w : List ℕ) → length w ≡ 0 → slice_fault w ≡ Some slice.EmptySlice
unfolding slice_fault
fault_of_empty w e = rw e refl

-- no unit is that large
no_large_unit : (w : List ℕ) (s : ℕ) → 0x1_0000 ≤ get_or w 0 0 → Stands utf16 w 0 s → ⊥
no_large_unit w s large h =
    ⊎_elim
    (λ (u : StandsAsUnit w s). let small = u.small in let unit = u.unit in omega arith)
    (λ (p : StandsAsPair w). leading_is_small (get_or w 0 0) p.leading large)
    (stands_cases w s h)
  where
    leading_is_small : (u : ℕ) → is_leading_surrogate u ≡ true → 0x1_0000 ≤ u → ⊥
    leading_is_small u l g = grind (arith, common_steps)

no_fault_of_unit : (w : List ℕ) → 0 < length w → is_surrogate (get_or w 0 0) ≡ false → slice_fault w ≡ None
unfolding slice_fault
no_fault_of_unit w some plain =
    let not_empty : eqb (length w) 0 ≡ false = grind (arith, common_steps) in
    rw (not_empty, no_trail (get_or w 0 0) plain, no_lead (get_or w 0 0) plain) refl

no_fault_of_pair : (w : List ℕ) → 2 ≤ length w → is_leading_surrogate (get_or w 0 0) ≡ true → is_trailing_surrogate (get_or w 1 0) ≡ true → slice_fault w ≡ None
unfolding slice_fault
no_fault_of_pair w two leading trailing =
    let not_empty : eqb (length w) 0 ≡ false = grind (arith, common_steps) in
    let not_alone : eqb (length w) 1 ≡ false = grind (arith, common_steps) in
    rw (not_empty, no_both (get_or w 0 0) leading, leading, not_alone, trailing) refl

pub no_fault_where_units : (w : List ℕ) (s : ℕ) → Stands utf16 w 0 s → slice_fault w ≡ None
no_fault_where_units w s h =
    let some = utf16_is_code.some s h.scalar in
    ⊎_elim
    (λ (u : StandsAsUnit w s). no_fault_of_unit w (omega arith) u.plain)
    (λ (p : StandsAsPair w). no_fault_of_pair w p.two p.leading p.trailing)
    (stands_cases w s h)

-- a pair of surrogates begins the units
abbrev IsPair : List ℕ → Type 0
IsPair w = (2 ≤ length w) × (is_leading_surrogate (get_or w 0 0) ≡ true) × (is_trailing_surrogate (get_or w 1 0) ≡ true)

-- a unit that is no surrogate begins the units, a pair does, or they have a fault
abbrev FrontOfUnits : List ℕ → Type 0
FrontOfUnits w = (is_surrogate (get_or w 0 0) ≡ false) ⊎ (IsPair w ⊎ ((k : Utf16SliceError) × (slice_fault w ≡ Some k)))

front_by_tests : (w : List ℕ) (trail lead alone second : Bool) → 0 < length w
    → is_trailing_surrogate (get_or w 0 0) ≡ trail → is_leading_surrogate (get_or w 0 0) ≡ lead
    → eqb (length w) 1 ≡ alone → is_trailing_surrogate (get_or w 1 0) ≡ second → FrontOfUnits w
unfolding slice_fault
front_by_tests w true lead alone second some t l a s =
    let not_empty : eqb (length w) 0 ≡ false = grind (arith, common_steps) in
    inr (inr (slice.FirstIsTrailingSurrogate, rw (not_empty, t) refl))
front_by_tests w false false alone second some t l a s = inl (no_surrogate (get_or w 0 0) t l)
front_by_tests w false true true second some t l a s =
    let not_empty : eqb (length w) 0 ≡ false = grind (arith, common_steps) in
    inr (inr (slice.MissingSecond, rw (not_empty, t, l, a) refl))
front_by_tests w false true false false some t l a s =
    let not_empty : eqb (length w) 0 ≡ false = grind (arith, common_steps) in
    inr (inr (slice.SecondIsNotTrailingSurrogate, rw (not_empty, t, l, a, s) refl))
front_by_tests w false true false true some t l a s = inr (inl (two_or_more (length w) some a, l, s))

front_of_units : (w : List ℕ) → 0 < length w → FrontOfUnits w
front_of_units w some =
    front_by_tests w (is_trailing_surrogate (get_or w 0 0)) (is_leading_surrogate (get_or w 0 0)) (eqb (length w) 1) (is_trailing_surrogate (get_or w 1 0))
    some refl refl refl refl

-- a fault excludes a code
pub no_units_where_fault : (w : List ℕ) (k : Utf16SliceError) (s : ℕ) → slice_fault w ≡ Some k → Stands utf16 w 0 s → ⊥
no_units_where_fault w k s e h = let none = no_fault_where_units w s h in cc

code_of_units : (w : List ℕ) → IsUnits w → slice_fault w ≡ None → Stands utf16 w 0 (unit_value w)
code_of_units w units none =
    ⊎_elim
    (λ (e : length w ≡ 0). let fault = fault_of_empty w e in cc)
    (λ (some : 0 < length w).
    ⊎_elim
    (λ (plain : is_surrogate (get_or w 0 0) ≡ false).
    rw (unit_value-unit w (no_lead (get_or w 0 0) plain)) (begins_with_unit w some (units 0 0 some) plain).0)
    (λ other.
    ⊎_elim
    (λ (p : IsPair w). rw (unit_value-pair w p.1) (begins_with_pair w p.0 p.1 p.2).0)
    (λ (f : (k : Utf16SliceError) × (slice_fault w ≡ Some k)). let fault = f.1 in cc)
    other)
    (front_of_units w some))
    (zero_or_more (length w))

pub units_code_or_one_fault : UnitsCodeOrOneFault
units_code_or_one_fault = record { code = code_of_units; fault = no_fault_where_units }

-- Whether a code begins some numbers, units or not.
pub utf16_finds : Finds utf16
utf16_finds w =
    ⊎_elim
    (λ (e : length w ≡ 0). inr (λ s h. let within = h.within in let some = utf16_is_code.some s h.scalar in omega arith))
    (λ (some : 0 < length w).
    ⊎_elim
    (λ (plain : is_surrogate (get_or w 0 0) ≡ false).
    ⊎_elim
    (λ (fits : get_or w 0 0 < 0x1_0000). inl (get_or w 0 0, (begins_with_unit w some fits plain).0))
    (λ (large : 0x1_0000 ≤ get_or w 0 0). inr (λ s h. no_large_unit w s large h))
    (cases_lt (get_or w 0 0) 0x1_0000))
    (λ other.
    ⊎_elim
    (λ (p : IsPair w). inl (_, (begins_with_pair w p.0 p.1 p.2).0))
    (λ (f : (k : Utf16SliceError) × (slice_fault w ≡ Some k)). inr (λ s h. no_units_where_fault w f.0 s f.1 h))
    other)
    (front_of_units w some))
    (zero_or_more (length w))

-- The forward kind of units: the fault of a slice by another name.

abbrev pub pair_error : Utf16SliceError → Utf16PairError
pair_error slice.EmptySlice = pair.Incomplete
pair_error slice.FirstIsTrailingSurrogate = pair.UnexpectedTrailingSurrogate
pair_error slice.MissingSecond = pair.Incomplete
pair_error slice.SecondIsNotTrailingSurrogate = pair.UnmatchedLeadingSurrogate

kind_of_fault : (w : List ℕ) → unit_fault_kind w ≡ option_map pair_error (slice_fault w)
unfolding unit_fault_kind slice_fault
kind_of_fault w = by_tests (eqb (length w) 0) (is_trailing_surrogate (get_or w 0 0)) (is_leading_surrogate (get_or w 0 0)) (eqb (length w) 1) (is_trailing_surrogate (get_or w 1 0))
  where
    by_tests : (empty trail lead alone second : Bool)
        → (if empty then Some pair.Incomplete
        else if trail then Some pair.UnexpectedTrailingSurrogate
        else if not lead then None
        else if alone then Some pair.Incomplete
        else if not second then Some pair.UnmatchedLeadingSurrogate
        else None)
        ≡ option_map pair_error
        (if empty then Some slice.EmptySlice
        else if trail then Some slice.FirstIsTrailingSurrogate
        else if not lead then None
        else if alone then Some slice.MissingSecond
        else if not second then Some slice.SecondIsNotTrailingSurrogate
        else None)
    by_tests true trail lead alone second = refl
    by_tests false true lead alone second = refl
    by_tests false false false alone second = refl
    by_tests false false true true second = refl
    by_tests false false true false false = refl
    by_tests false false true false true = refl

pub kind_from_fault : (w : List ℕ) (e : Utf16SliceError) → slice_fault w ≡ Some e → unit_fault_kind w ≡ Some (pair_error e)
kind_from_fault w e h = kind_of_fault w ∙ ap (option_map pair_error) h

pub no_kind_where_units : (w : List ℕ) (s : ℕ) → Stands utf16 w 0 s → unit_fault_kind w ≡ None
no_kind_where_units w s h = kind_of_fault w ∙ ap (option_map pair_error) (no_fault_where_units w s h)

-- a kind excludes a code
pub no_units_where_kind : (w : List ℕ) (k : Utf16PairError) (s : ℕ) → unit_fault_kind w ≡ Some k → Stands utf16 w 0 s → ⊥
no_units_where_kind w k s e h = let none = no_kind_where_units w s h in cc

pub units_where_no_kind : (w : List ℕ) → IsUnits w → unit_fault_kind w ≡ None → Stands utf16 w 0 (unit_value w)
units_where_no_kind w units none = code_of_units w units (no_fault (slice_fault w) (sym (kind_of_fault w) ∙ none))
  where
    no_fault : (f : Option Utf16SliceError) → option_map pair_error f ≡ None → f ≡ None
    no_fault None e = refl
    no_fault (Some k) e = absurd cc

pub units_code_or_one_kind : UnitsCodeOrOneKind
units_code_or_one_kind = record { code = units_where_no_kind; fault = no_kind_where_units }

pub two_units_decide : TwoUnitsDecide
unfolding unit_fault_kind
two_units_decide w =
    let empty : eqb (length (take 2 w)) 0 ≡ eqb (length w) 0 = grind (arith, common_steps) in
    let alone : eqb (length (take 2 w)) 1 ≡ eqb (length w) 1 = grind (arith, common_steps) in
    rw (empty, alone, get_or-take 2 w 0 0 (lit< tt), get_or-take 2 w 1 0 (lit< tt)) refl
