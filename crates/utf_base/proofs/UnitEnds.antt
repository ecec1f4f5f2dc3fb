-- The code that ends some units, a unit that is no surrogate or a pair, and what the last unit implies if
-- none does.
use Rattle.std.proofs.Common.{◌≡◌, ℕ, ◌+◌, ◌-◌, ◌<◌, ◌≤◌, ◌⊎◌, inl, inr, ⊎_elim, List, [], ◌∷◌, length, get_or, arith, refl, ap, sym, ◌∙◌, true, false, Bool, Some, None, Result, Ok, Err, Option, eqb}
use Rattle.std.proofs.lemmas.Grind.{common_steps}
use Rattle.std.proofs.lemmas.Bool.{cases_Bool, cases_lt}
use Rattle.std.specs.Option.{ok_or}
use Rattle.std.specs.Prelude.{slice_range, if◌then◌else◌}
use Rattle.utf_base.specs.declared.errors.units.Utf16SliceError.{Utf16SliceError}
use Rattle.utf_base.specs.declared.errors.units.Utf16SliceError.TheVariants as slice
use Rattle.utf_base.specs.declared.errors.units.Utf16PairError.{Utf16PairError}
use Rattle.utf_base.specs.declared.errors.units.Utf16PairError.TheVariants as pair
use Rattle.utf_base.specs.Back.{DecodesUnitsEnd, decoded_units_end, decoded_pairs_end, ends_in_pair, second_last_of, unit_end, unit_end_fault}
use Rattle.utf_base.specs.Code.{utf16}
use Rattle.utf_base.specs.Ends.{last_of, EndsWith, NoCodeEnds}
use Rattle.utf_base.specs.Front.{as_scalar, IsFrontLen}
use Rattle.utf_base.specs.KindLaws.{UnitsCodeOrLastUnit}
use Rattle.utf_base.specs.Units.{is_leading_surrogate, is_trailing_surrogate, is_surrogate, pair_value, unit_back_kind, unit_fault_kind}
use Rattle.utf_base.proofs.Ending.{end_len, no_code_ends-empty, ends_by_last, last_of_end}
use Rattle.utf_base.proofs.Standing.{same_char}
use Rattle.utf_base.proofs.UnitLemmas.{pair_error}
use Rattle.utf_base.proofs.Utf16Code.{StandsAsUnit, StandsAsPair, stands_cases, begins_with_unit, begins_with_pair, utf16_is_code, utf16-1, length_utf16}

-- the elements of the last n
at_last : (w : List ℕ) (n k : ℕ) → n ≤ length w → k < n → get_or (slice_range w (length w - n) (length w)) k 0 ≡ get_or w (length w - n + k) 0
at_last w n k le lt = grind (arith, common_steps)

count_last : (w : List ℕ) (n : ℕ) → n ≤ length w → length (slice_range w (length w - n) (length w)) ≡ n
count_last w n le = grind (arith, common_steps)

-- the last unit
last_alone : (w : List ℕ) → 1 ≤ length w → get_or (slice_range w (length w - 1) (length w)) 0 0 ≡ last_of w
last_alone w some = at_last w 1 0 some (omega arith) ∙ ap (λ i. get_or w i 0) (omega arith)

-- the last two units
first_of_two : (w : List ℕ) → 2 ≤ length w → get_or (slice_range w (length w - 2) (length w)) 0 0 ≡ second_last_of w
first_of_two w two = at_last w 2 0 two (omega arith) ∙ ap (λ i. get_or w i 0) (omega arith)

second_of_two : (w : List ℕ) → 2 ≤ length w → get_or (slice_range w (length w - 2) (length w)) 1 0 ≡ last_of w
second_of_two w two = at_last w 2 1 two (omega arith) ∙ ap (λ i. get_or w i 0) (omega arith)

-- Units that a code ends.

pub ends_with_unit : (w : List ℕ) → 0 < length w → last_of w < 0x1_0000 → is_surrogate (last_of w) ≡ false → EndsWith utf16 w (last_of w) 1
ends_with_unit w some fits plain =
    let one : 1 ≤ length w = omega arith in
    let same = last_alone w one in
    let count = count_last w 1 one in
    let begins = begins_with_unit (slice_range w (length w - 1) (length w)) (omega arith) (rw same fits) (rw same plain) in
    ends_by_last utf16 w (last_of w) 1 (rw same at begins)

pub ends_with_pair : (w : List ℕ) → 2 ≤ length w → is_leading_surrogate (second_last_of w) ≡ true → is_trailing_surrogate (last_of w) ≡ true
    → EndsWith utf16 w (pair_value (second_last_of w) (last_of w)) 2
ends_with_pair w two leading trailing =
    let first = first_of_two w two in
    let second = second_of_two w two in
    let count = count_last w 2 two in
    let begins = begins_with_pair (slice_range w (length w - 2) (length w)) (omega arith) (rw first leading) (rw second trailing) in
    ends_by_last utf16 w (pair_value (second_last_of w) (last_of w)) 2 (rw (first, second) at begins)

-- No code ends units in another way.

record EndsAsUnit (w : List ℕ) (s n : ℕ) : Type 0 where
  pub unit : last_of w ≡ s
  pub plain : is_surrogate (last_of w) ≡ false
  pub one : n ≡ 1

record EndsAsPair (w : List ℕ) (s n : ℕ) : Type 0 where
  pub enough : 2 ≤ length w
  pub leading : is_leading_surrogate (second_last_of w) ≡ true
  pub trailing : is_trailing_surrogate (last_of w) ≡ true
  pub value : pair_value (second_last_of w) (last_of w) ≡ s
  pub two : n ≡ 2

ends_as_unit : (w : List ℕ) (s n : ℕ) → EndsWith utf16 w s n → StandsAsUnit (slice_range w (length w - n) (length w)) s → EndsAsUnit w s n
ends_as_unit w s n h u =
    let one : n ≡ 1 = h.1 ∙ ap length (utf16-1 s u.small) in
    let last = last_alone w (omega arith) in
    let unit = rw one at u.unit in
    let plain = rw one at u.plain in
    record { unit = sym last ∙ unit; plain = rw last at plain; one = one }

ends_as_pair : (w : List ℕ) (s n : ℕ) → EndsWith utf16 w s n → StandsAsPair (slice_range w (length w - n) (length w)) → EndsAsPair w s n
ends_as_pair w s n h p =
    let front = last_of_end utf16 w s n h in
    let pair = begins_with_pair (slice_range w (length w - n) (length w)) p.two p.leading p.trailing in
    let same = same_char utf16 utf16_is_code (slice_range w (length w - n) (length w)) 0 _ s pair.0 front.0 in
    let two : n ≡ 2 = h.1 ∙ ap (λ c. length (utf16 c)) (sym same) ∙ sym pair.1 in
    let first = first_of_two w (omega arith) in
    let second = second_of_two w (omega arith) in
    let leading = rw two at p.leading in
    let trailing = rw two at p.trailing in
    let value = rw two at same in
    record { enough = omega arith; leading = rw first at leading; trailing = rw second at trailing; value = rw (first, second) at value; two = two }

end_cases : (w : List ℕ) (s n : ℕ) → EndsWith utf16 w s n → EndsAsUnit w s n ⊎ EndsAsPair w s n
end_cases w s n h =
    ⊎_elim
    (λ (u : StandsAsUnit (slice_range w (length w - n) (length w)) s). inl (ends_as_unit w s n h u))
    (λ (p : StandsAsPair (slice_range w (length w - n) (length w))). inr (ends_as_pair w s n h p))
    (stands_cases (slice_range w (length w - n) (length w)) s (last_of_end utf16 w s n h).0)

pub no_units_end : (w : List ℕ) → is_surrogate (last_of w) ≡ true
    → (is_trailing_surrogate (last_of w) ≡ true → 2 ≤ length w → is_leading_surrogate (second_last_of w) ≡ false) → NoCodeEnds utf16 w
no_units_end w surrogate alone s n h =
    ⊎_elim
    (λ (u : EndsAsUnit w s n). let plain = u.plain in absurd cc)
    (λ (p : EndsAsPair w s n). let other = alone p.trailing p.enough in let leading = p.leading in absurd cc)
    (end_cases w s n h)

pub no_units_end_empty : (w : List ℕ) → length w ≡ 0 → NoCodeEnds utf16 w
no_units_end_empty w e = no_code_ends-empty utf16 utf16_is_code w e

-- The results of tests for units that no code ends.

surrogate_where_none : (w : List ℕ) → 0 < length w → last_of w < 0x1_0000 → NoCodeEnds utf16 w → is_surrogate (last_of w) ≡ true
surrogate_where_none w some fits none = ⊎_elim (λ e. e) (λ e. absurd (none _ _ (ends_with_unit w some fits e))) (cases_Bool (is_surrogate (last_of w)))

no_pair_where_none : (w : List ℕ) → NoCodeEnds utf16 w → ends_in_pair w ≡ false
no_pair_where_none w none = ⊎_elim (λ e. absurd (none _ _ (ends_with_pair w (enough e) (leads e) (trails e)))) (λ e. e) (cases_Bool (ends_in_pair w))
  where
    enough : ends_in_pair w ≡ true → 2 ≤ length w
    enough e = grind (arith, common_steps)

    leads : ends_in_pair w ≡ true → is_leading_surrogate (second_last_of w) ≡ true
    leads e = grind (arith, common_steps)

    trails : ends_in_pair w ≡ true → is_trailing_surrogate (last_of w) ≡ true
    trails e = grind (arith, common_steps)

-- The code that ends the units, as a function.

pub unit_end_code : (w : List ℕ) (s n : ℕ) → EndsWith utf16 w s n → unit_end w ≡ Some (s, n)
unfolding unit_end
unit_end_code w s n h =
    let some = utf16_is_code.some s h.0.scalar in
    let not_empty : eqb (length w) 0 ≡ false = grind (arith, common_steps) in
    ⊎_elim
    (λ (u : EndsAsUnit w s n). rw (not_empty, u.plain, u.unit, u.one) refl)
    (λ (p : EndsAsPair w s n).
    let surrogate : is_surrogate (last_of w) ≡ true = trails (last_of w) p.trailing in
    let pair : ends_in_pair w ≡ true = ends w p.enough p.leading p.trailing in
    rw (not_empty, surrogate, pair, p.value, p.two) refl)
    (end_cases w s n h)
  where
    trails : (u : ℕ) → is_trailing_surrogate u ≡ true → is_surrogate u ≡ true
    trails u t = grind (arith, common_steps)

    ends : (w : List ℕ) → 2 ≤ length w → is_leading_surrogate (second_last_of w) ≡ true → is_trailing_surrogate (last_of w) ≡ true → ends_in_pair w ≡ true
    ends w two l t = rw (l, t) (grind (arith, common_steps))

pub unit_end_none : (w : List ℕ) → (0 < length w → last_of w < 0x1_0000) → NoCodeEnds utf16 w → unit_end w ≡ None
unfolding unit_end
unit_end_none w fits none =
    ⊎_elim
    (λ (some : 0 < length w).
    let not_empty : eqb (length w) 0 ≡ false = grind (arith, common_steps) in
    rw (not_empty, surrogate_where_none w some (fits some) none, no_pair_where_none w none) refl)
    (λ (le : length w ≤ 0). let empty : eqb (length w) 0 ≡ true = grind (arith, common_steps) in rw empty refl)
    (cases_lt 0 (length w))

pub answer_of_units_end : (w : List ℕ) (r : Result (ℕ × ℕ) Utf16SliceError) → (0 < length w → last_of w < 0x1_0000) → DecodesUnitsEnd as_scalar w r → r ≡ decoded_units_end w
unfolding decoded_units_end
answer_of_units_end w (Ok (s, n)) fits h = rw (unit_end_code w s n h) refl
answer_of_units_end w (Err k) fits h = rw (unit_end_none w fits h.0, h.1) refl

pub decoded_units_end_code : (w : List ℕ) (s n : ℕ) → EndsWith utf16 w s n → decoded_units_end w ≡ Ok (s, n)
unfolding decoded_units_end
decoded_units_end_code w s n h = rw (unit_end_code w s n h) refl

pub decoded_pairs_end_code : (w : List ℕ) (s n : ℕ) → EndsWith utf16 w s n → decoded_pairs_end w ≡ Ok (s, n)
unfolding decoded_pairs_end
decoded_pairs_end_code w s n h = rw (unit_end_code w s n h) refl

-- a fault as a slice of units, and as a piece of them
pub decoded_pairs_end_fault : (w : List ℕ) (e : Utf16SliceError) → decoded_units_end w ≡ Err e → decoded_pairs_end w ≡ Err (unit_back_kind (last_of w))
unfolding decoded_units_end decoded_pairs_end
decoded_pairs_end_fault w e h = by_answer (unit_end w) (unit_end_fault w) e (unit_back_kind (last_of w)) h
  where
    by_answer : (a : Option (ℕ × ℕ)) (f e : Utf16SliceError) (k : Utf16PairError) → ok_or a f ≡ Err e → ok_or a k ≡ Err k
    by_answer None f e k h = refl
    by_answer (Some x) f e k h = absurd (cc h)

-- The backward kind.

pub back_kind_of_fault : (w : List ℕ) (e : Utf16SliceError) → 0 < length w → e ≡ unit_end_fault w → pair_error e ≡ unit_back_kind (last_of w)
unfolding unit_back_kind
back_kind_of_fault w e some h =
    let not_empty : eqb (length w) 0 ≡ false = grind (arith, common_steps) in
    rw (h, not_empty) (by_test (is_trailing_surrogate (last_of w)))
  where
    by_test : (b : Bool) → pair_error (if b then slice.FirstIsTrailingSurrogate else slice.MissingSecond) ≡ (if b then pair.UnexpectedTrailingSurrogate else pair.Incomplete)
    by_test true = refl
    by_test false = refl

pub alone : (u : ℕ) → is_surrogate u ≡ true → unit_fault_kind (u ∷ []) ≡ Some (unit_back_kind u)
unfolding unit_fault_kind unit_back_kind
alone u surrogate = grind (arith, common_steps)

pub units_code_or_last_unit : UnitsCodeOrLastUnit
units_code_or_last_unit = record {
  code = λ w units some plain. ends_with_unit w some (units (length w - 1) 0 (omega arith)) plain;
  fault = λ w units some none.
      let surrogate = surrogate_where_none w some (units (length w - 1) 0 (omega arith)) none in
      (surrogate, alone (last_of w) surrogate);
}

-- The lengths of codes.

pub end_len_utf16 : (w : List ℕ) (s n : ℕ) → EndsWith utf16 w s n → IsFrontLen 2 w n
end_len_utf16 = end_len utf16 2 utf16_is_code length_utf16
