-- Pieces of units are counted by the units that do not end a pair.
use Rattle.std.proofs.Common.{◌≡◌, ℕ, ◌+◌, ◌-◌, ◌<◌, ◌≤◌, Bool, true, false, not, List, length, get_or, drop, arith, refl, ap, sym, ◌∙◌, ⊎_elim, Some, None, Option, true≢false, length-drop}
use Rattle.std.proofs.lemmas.Bool.{cases_lt}
use Rattle.std.proofs.lemmas.List.{get_or-drop}
use Rattle.std.specs.Prelude.{MatchOption, ◌&&◌, option_map, slice_get}
use Rattle.utf_base.specs.Code.{utf16}
use Rattle.utf_base.specs.Piece.{Inside}
use Rattle.utf_base.specs.Scalar.{IsUnits}
use Rattle.utf_base.specs.Units.{is_leading_surrogate, is_trailing_surrogate, pair_value, unit_fault_kind}
use Rattle.utf_base.proofs.UnitLemmas.{no_both, utf16_finds}
use Rattle.utf_base.proofs.Utf16Code.{StandsAsPair, StandsAsUnit, begins_with_pair, length_utf16, stands_cases, utf16-1, utf16_is_code}
use Rattle.utf_lanes.specs.UnitStarts.{IsUnitStartOf, is_unit_start, unit_start_count}
use Rattle.encode_unicode.specs.Pieces.{unit_pieces}
use Rattle.encode_unicode.specs.Window.{UnitItem}
use Rattle.recoding.proofs.LastBoundaries.{stands_in_list, stands_in_rest}
use Rattle.text_runs.proofs.ForwardRuns.{unit_pieces_are_the_run}
use Rattle.text_runs.proofs.PlaceCounts.{TellsOutside, none_numbered, place_numbered, places_counted}

both : (a b : Bool) → not (a && b) ≡ false → (a ≡ true) × (b ≡ true)
both true true e = (refl, refl)
both true false e = absurd (true≢false e)
both false b e = absurd (true≢false e)

not_both : (a b : Bool) → a ≡ true → b ≡ true → not (a && b) ≡ true → ⊥
not_both a b first second e = true≢false (sym e ∙ rw (first, second) refl)

-- a code covers the offset of a unit if and only if the unit ends a pair
pub unit_tells : (us : List ℕ) → TellsOutside utf16 us (is_unit_start us)
unit_tells us = record { outside = outside; inside = inside }
  where
    outside : (p : ℕ) → p < length us → is_unit_start us p ≡ true → Inside utf16 us p → ⊥
    outside p lt held i =
        let begins = i.begins in
        let ends = i.ends in
        let few = length_utf16 i.char in
        let w = drop i.from us in
        let at : i.from + 0 ≡ p - 1 = omega arith in
        let next : i.from + 1 ≡ p = omega arith in
        ⊎_elim
        (λ (one : StandsAsUnit w i.char). absurd (omega (arith, ap length (utf16-1 i.char one.small))))
        (λ (two : StandsAsPair w).
        let first : get_or w 0 0 ≡ get_or us (p - 1) 0 = get_or-drop i.from us 0 0 ∙ ap (λ n. get_or us n 0) at in
        let second : get_or w 1 0 ≡ get_or us p 0 = get_or-drop i.from us 1 0 ∙ ap (λ n. get_or us n 0) next in
        not_both (is_leading_surrogate (get_or us (p - 1) 0)) (is_trailing_surrogate (get_or us p 0)) (rw first at two.leading) (rw second at two.trailing) held)
        (stands_cases w i.char (stands_in_rest utf16 us i.from i.char i.stands))

    inside : (p : ℕ) → p < length us → is_unit_start us p ≡ false → Inside utf16 us p
    inside p lt lacking =
        let (leading, trailing) = both (is_leading_surrogate (get_or us (p - 1) 0)) (is_trailing_surrogate (get_or us p 0)) lacking in
        ⊎_elim
        (λ (some : 0 < p).
        let w = drop (p - 1) us in
        let here : p - 1 + 0 ≡ p - 1 = omega arith in
        let next : p - 1 + 1 ≡ p = omega arith in
        let first : get_or w 0 0 ≡ get_or us (p - 1) 0 = get_or-drop (p - 1) us 0 0 ∙ ap (λ n. get_or us n 0) here in
        let second : get_or w 1 0 ≡ get_or us p 0 = get_or-drop (p - 1) us 1 0 ∙ ap (λ n. get_or us n 0) next in
        let pair = begins_with_pair w (omega (arith, length-drop (p - 1) us)) (rw first leading) (rw second trailing) in
        let two = pair.1 in
        record { from = p - 1; char = pair_value (get_or w 0 0) (get_or w 1 0); stands = stands_in_list utf16 us (p - 1) _ (omega arith) pair.0; begins = omega arith; ends = omega arith })
        (λ (none : p ≤ 0).
        let front : p - 1 ≡ p = omega arith in
        absurd (true≢false (sym trailing ∙ no_both (get_or us p 0) (rw front at leading))))
        (cases_lt 0 p)

module _ (us : List ℕ) (units : IsUnits us) where
  pub units_counted : length (unit_pieces us) ≡ unit_start_count us (length us)
  units_counted = places_counted utf16 utf16_is_code utf16_finds unit_fault_kind us (unit_pieces us) (unit_pieces_are_the_run us units) (is_unit_start us) (unit_tells us)

  pub units_numbered : (number : ℕ) (r : Option ℕ) → MatchOption r (unit_start_count us (length us) ≤ number) (IsUnitStartOf us number) → r ≡ option_map (λ (x : UnitItem). x.0) (slice_get (unit_pieces us) number)
  units_numbered number None few = none_numbered utf16 utf16_is_code utf16_finds unit_fault_kind us (unit_pieces us) (unit_pieces_are_the_run us units) (is_unit_start us) (unit_tells us) number few
  units_numbered number (Some p) is =
      place_numbered utf16 utf16_is_code utf16_finds unit_fault_kind us (unit_pieces us) (unit_pieces_are_the_run us units) (is_unit_start us) (unit_tells us) number p is.within is.start is.before
