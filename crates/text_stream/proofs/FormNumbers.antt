-- Pieces of bytes in any encoding by their numbers, derived from those of bytes and of units.
use Rattle.std.proofs.Common.{◌≡◌, ℕ, ◌+◌, ◌-◌, ◌*◌, ◌%◌, ◌/◌, ◌^◌, ◌<◌, ◌≤◌, ◌⊎◌, Bool, true, false, List, ◌++◌, length, length-append, take, drop, map, get_or, Option, Some, None, Ok, arith, refl, ap, sym, ◌∙◌, inl, inr, ⊎_elim, ap₂, w8, Fits}
use Rattle.std.proofs.lemmas.Bool.{cases_lt}
use Rattle.std.proofs.lemmas.List.{get_or-map, get_or_append_left, get_or-append_right, length-map, length-take-le, take_all}
use Rattle.std.proofs.lemmas.List.Elements.{All-from_get_or, All-take}
use Rattle.std.proofs.lemmas.Option.{same_Some, slice_get-get_or, slice_get-map, slice_get_past}
use Rattle.std.specs.Prelude.{option_map, slice_get}
use Rattle.utf_base.specs.Code.{utf8, utf16}
use Rattle.utf_base.specs.Kinds.{fault_kind}
use Rattle.utf_base.proofs.Utf8Code.{utf8_is_code}
use Rattle.utf_base.specs.Piece.{Inside}
use Rattle.utf_base.specs.Scalar.{IsUnits}
use Rattle.utf_base.proofs.Standing.{outside_end}
use Rattle.utf_lanes.specs.BytePairs.{units_of}
use Rattle.utf_lanes.specs.UnitStarts.{IsUnitStartOf, unit_start_count}
use Rattle.encode_unicode.specs.Pieces.{pieces, unit_pieces}
use Rattle.encode_unicode.specs.Window.{Item, Placed, UnitItem}
use Rattle.recoding.specs.NextScalars.{HasByteOrder}
use Rattle.recoding.specs.Boundaries.{IsBoundary, IsFirstFrom, IsUnitsEnd}
use Rattle.recoding.specs.declared.faults.FaultKind.{FaultKind}
use Rattle.recoding.specs.declared.form.Form.{Form}
use Rattle.recoding.specs.declared.form.Form.TheVariants.{Utf8, Utf16Le, Utf16Be}
use Rattle.utf_lanes.proofs.CodedUnits.{units_fit}
use Rattle.recoding.proofs.JoinedShards.{even_units}
use Rattle.text_stream.specs.FormPieces.{form_pieces}
use Rattle.text_runs.specs.Tables.{IsSplitAt}
use Rattle.text_stream.proofs.FormMarks.{doubled, mark, marks_of_bytes, marks_of_units, odd_at, odd_mark, odd_marks}
use Rattle.text_runs.proofs.ForwardRuns.{pieces_are_the_run}
use Rattle.text_runs.proofs.SplitNumbers.{split_at_boundary, units_split}
use Rattle.text_runs.proofs.UnitCounts.{units_counted, units_numbered}
use Rattle.text_stream.proofs.UnitFaults.{count_units}

-- The offset of the piece with a number, by its mark.

offset_marked : {E : Type 0} (items : List (Placed E)) (number : ℕ) → option_map (λ (x : Placed E). x.0) (slice_get items number) ≡ option_map (λ m. m.0) (slice_get (map mark items) number)
offset_marked items number = inner (slice_get items number) ∙ sym (ap (option_map (λ (m : ℕ × Bool). m.0)) (slice_get-map mark items number))
  where
    inner : {E : Type 0} (x : Option (Placed E)) → option_map (λ (y : Placed E). y.0) x ≡ option_map (λ (m : ℕ × Bool). m.0) (option_map mark x)
    inner None = refl
    inner (Some y) = refl

-- Items with the same marks.
module _ {E F : Type 0} (items : List (Placed E)) (others : List (Placed F)) (same : map mark items ≡ map mark others) where
  pub count_alike : length items ≡ length others
  count_alike = sym (length-map items mark) ∙ ap length same ∙ length-map others mark

  pub offset_alike : (number : ℕ) → option_map (λ (x : Placed E). x.0) (slice_get items number) ≡ option_map (λ (x : Placed F). x.0) (slice_get others number)
  offset_alike number = offset_marked items number ∙ ap (λ ms. option_map (λ (m : ℕ × Bool). m.0) (slice_get ms number)) same ∙ sym (offset_marked others number)

  place_alike : (n : ℕ) (d : Placed E) (e : Placed F) → n < length items → (get_or items n d).0 ≡ (get_or others n e).0
  place_alike n d e lt =
      ap (λ (m : ℕ × Bool). m.0) (sym (get_or-map mark items n d (0, true) lt) ∙ ap (λ ms. get_or ms n (0, true)) same ∙ get_or-map mark others n e (0, true) (omega (arith, count_alike)))

  pub split_alike : (m k : ℕ) → IsSplitAt others m k → IsSplitAt items m k
  split_alike m k h =
      let some : Placed F = (0, Ok 0, 0) in
      record {
        within = (let within = h.within in omega (arith, count_alike));
        before = λ n d lo hi. let within = h.within in rw (place_alike n d some (omega (arith, count_alike))) (h.before n some lo hi);
        following = λ n d lo hi. rw (place_alike n d some hi) (h.following n some lo (omega (arith, count_alike)));
      }

-- The numbers of pieces of UTF-8.

pub bytes_in_form : (xs : List ℕ) → length xs < 2 ^ 64 → length (pieces xs) ≡ length (form_pieces Utf8 xs)
bytes_in_form xs small = sym (count_alike (form_pieces Utf8 xs) (pieces xs) (marks_of_bytes xs small))

pub bytes_numbered : (xs : List ℕ) → length xs < 2 ^ 64 → (number : ℕ) → option_map (λ (x : Item). x.0) (slice_get (pieces xs) number) ≡ option_map (λ (x : Placed FaultKind). x.0) (slice_get (form_pieces Utf8 xs) number)
bytes_numbered xs small number = sym (offset_alike (form_pieces Utf8 xs) (pieces xs) (marks_of_bytes xs small) number)

-- The numbers of pieces of UTF-16.

-- the units of bytes are units
pub are_units : (high : Bool) (xs : List ℕ) → ((k : ℕ) → Fits w8 (get_or xs k 0)) → IsUnits (units_of high xs)
are_units high xs fits = All-from_get_or (λ u. u < 0x1_0000) (units_of high xs) 0 (λ i lt. units_fit high xs fits i)

module _ (high : Bool) (from : Form) (form : HasByteOrder high from) (xs : List ℕ) (small : length xs < 2 ^ 64) (units : IsUnits (units_of high xs)) where
  abbrev us : List ℕ
  us = units_of high xs

  abbrev ps : List UnitItem
  ps = unit_pieces us

  abbrev items : List (Placed FaultKind)
  items = form_pieces from xs

  abbrev front : List (ℕ × Bool)
  front = map doubled (map mark ps)

  front_len : length front ≡ length ps
  front_len = length-map (map mark ps) doubled ∙ length-map ps mark

  marks : map mark items ≡ front ++ odd_mark 0 xs
  marks = marks_of_units high from form xs small units

  pub count_with_odd : length items ≡ length ps + length xs % 2
  count_with_odd = omega (arith, length-map items mark, ap length marks, length-append front (odd_mark 0 xs), front_len, odd_marks 0 xs)

  pub count_by_starts : length items ≡ unit_start_count us (length us) + length xs % 2
  count_by_starts = omega (arith, count_with_odd, units_counted us units)

  mark_at : (n : ℕ) (d : Placed FaultKind) → n < length items → (get_or items n d).0 ≡ (get_or (front ++ odd_mark 0 xs) n (0, true)).0
  mark_at n d lt = ap (λ (m : ℕ × Bool). m.0) (sym (get_or-map mark items n d (0, true) lt) ∙ ap (λ ms. get_or ms n (0, true)) marks)

  place_of_units : (n : ℕ) (d : Placed FaultKind) (e : UnitItem) → n < length ps → (get_or items n d).0 ≡ 2 * (get_or ps n e).0
  place_of_units n d e lt =
      mark_at n d (omega (arith, count_with_odd)) ∙ ap (λ (m : ℕ × Bool). m.0) (get_or_append_left front (odd_mark 0 xs) (0, true) n (omega (arith, front_len)))
      ∙ ap (λ (m : ℕ × Bool). m.0) (get_or-map doubled (map mark ps) n (0, true) (0, true) (omega (arith, length-map ps mark)))
      ∙ ap (λ (m : ℕ × Bool). 2 * m.0) (get_or-map mark ps n e (0, true) lt)

  place_of_odd : (d : Placed FaultKind) → length xs % 2 ≡ 1 → (get_or items (length ps) d).0 ≡ length xs - 1
  place_of_odd d odd =
      let last : length ps - length front ≡ 0 = omega (arith, front_len) in
      mark_at (length ps) d (omega (arith, count_with_odd)) ∙ ap (λ (m : ℕ × Bool). m.0) (get_or-append_right front (odd_mark 0 xs) (length front) (length ps) (0, true) refl (omega (arith, front_len)))
      ∙ ap (λ n. (get_or (odd_mark 0 xs) n (0, true)).0) last ∙ ap (λ (m : ℕ × Bool). m.0) (odd_at 0 xs (0, true) odd) ∙ omega arith

  some_item : Placed FaultKind
  some_item = (0, Ok 0, 0)

  some_unit : UnitItem
  some_unit = (0, Ok 0, 0)

  pub unit_numbered : (number p : ℕ) → IsUnitStartOf us number p → Some (2 * p) ≡ option_map (λ (x : Placed FaultKind). x.0) (slice_get items number)
  unit_numbered number p is =
      let known = units_numbered us units number (Some p) is in
      ⊎_elim
      (λ (lt : number < length ps).
      let here : p ≡ (get_or ps number some_unit).0 = same_Some p _ (known ∙ ap (option_map (λ (x : UnitItem). x.0)) (slice_get-get_or ps number some_unit lt)) in
      ap (λ q. Some (2 * q)) here ∙ ap Some (sym (place_of_units number some_item some_unit lt))
      ∙ sym (ap (option_map (λ (x : Placed FaultKind). x.0)) (slice_get-get_or items number some_item (omega (arith, count_with_odd)))))
      (λ (ge : length ps ≤ number). absurd (let none = known ∙ ap (option_map (λ (x : UnitItem). x.0)) (slice_get_past ps number ge) in cc))
      (cases_lt number (length ps))

  pub odd_numbered : length xs % 2 ≡ 1 → Some (length xs - 1) ≡ option_map (λ (x : Placed FaultKind). x.0) (slice_get items (unit_start_count us (length us)))
  odd_numbered odd =
      let last : unit_start_count us (length us) ≡ length ps = sym (units_counted us units) in
      rw last (ap Some (sym (place_of_odd some_item odd)) ∙ sym (ap (option_map (λ (x : Placed FaultKind). x.0)) (slice_get-get_or items (length ps) some_item (omega (arith, count_with_odd)))))

  pub none_numbered : (number : ℕ) → unit_start_count us (length us) + length xs % 2 ≤ number → None ≡ option_map (λ (x : Placed FaultKind). x.0) (slice_get items number)
  none_numbered number le = sym (ap (option_map (λ (x : Placed FaultKind). x.0)) (slice_get_past items number (omega (arith, count_by_starts))))

  -- the number at the first unit offset from m on that no pair covers, which is the end b of a front
  pub split_at_end : (m end : ℕ) → IsUnitsEnd high xs end → end ≤ length xs → (m ≤ end) ⊎ (end ≡ length xs) → ((n : ℕ) → n ≤ length xs → m ≤ n → IsUnitsEnd high xs n → end ≤ n)
      → IsSplitAt items m (length (unit_pieces (take (end / 2) us)) + end % 2)
  split_at_end m end is within far first =
      let b = end / 2 in
      let j = length (unit_pieces (take b us)) in
      let counts = count_units high xs in
      let fits : b ≤ length us = omega (arith, counts.0, counts.1) in
      let even : (n : ℕ) → (2 * n / 2 ≡ n) × (2 * n % 2 ≡ 0) = λ n. (omega arith, omega arith) in
      let far_units : ((m + 1) / 2 ≤ b) ⊎ (b ≡ length us)
      = ⊎_elim (λ (lt : end < length xs). let zero = is.even lt in inl (omega (arith, early far lt))) (λ (ge : length xs ≤ end). inr (omega (arith, counts.0, counts.1))) (cases_lt end (length xs)) in
      let over : (n : ℕ) → (m + 1) / 2 ≤ n → n < b → (Inside utf16 us n → ⊥) → ⊥
      = λ n lo hi out. let half = (even n).0 in let later = first (2 * n) (omega arith) (omega arith) (record { even = λ _. (even n).1; outside = rw half out }) in omega arith in
      let split : IsSplitAt ps ((m + 1) / 2) j = units_split us units b fits is.outside ((m + 1) / 2) far_units over in
      let most : j ≤ length ps = split.within in
      let of_unit_before : (n : ℕ) (d : Placed FaultKind) → n < j → (get_or items n d).0 < m
      = λ n d lt. let before = split.before n some_unit (omega arith) lt in omega (arith, place_of_units n d some_unit (omega arith)) in
      let of_unit_after : (n : ℕ) (d : Placed FaultKind) → j ≤ n → n < length ps → m ≤ (get_or items n d).0
      = λ n d ge lt. let after = split.following n some_unit ge lt in omega (arith, place_of_units n d some_unit lt) in
      ⊎_elim
      (λ (lt : end < length xs).
      let zero = is.even lt in
      let at = early far lt in
      let same : j + end % 2 ≡ j = omega arith in
      rw same (record {
        within = omega (arith, count_with_odd);
        before = λ n d lo hi. of_unit_before n d hi;
        following = λ n d lo hi.
            ⊎_elim
            (λ (unit : n < length ps). of_unit_after n d lo unit)
            (λ (odd : length ps ≤ n). let here : n ≡ length ps = omega (arith, count_with_odd) in rw here (omega (arith, place_of_odd d (omega (arith, count_with_odd)))))
            (cases_lt n (length ps));
      }))
      (λ (ge : length xs ≤ end).
      let whole : end ≡ length xs = omega arith in
      let all : j ≡ length ps = ap (λ us'. length (unit_pieces us')) (take_all b us (omega (arith, counts.0, counts.1))) in
      record {
        within = omega (arith, count_with_odd);
        before = λ n d lo hi.
            ⊎_elim
            (λ (unit : n < j). of_unit_before n d unit)
            (λ (odd : j ≤ n).
            let here : n ≡ length ps = omega (arith, count_with_odd) in
            let is_odd : length xs % 2 ≡ 1 = omega (arith, count_with_odd) in
            let last : (length xs - 1) / 2 ≡ length us = omega (arith, counts.0, counts.1) in
            let place = place_of_odd d is_odd in
            ⊎_elim
            (λ (past : length xs - 1 < m). rw here (omega arith))
            (λ (early : m ≤ length xs - 1).
            let end_before = first (length xs - 1) (omega arith) early (record { even = λ _. omega arith; outside = rw last (outside_end utf16 us) }) in
            absurd (omega arith))
            (cases_lt (length xs - 1) m))
            (cases_lt n j);
        following = λ n d lo hi. absurd (omega (arith, count_with_odd));
      })
      (cases_lt end (length xs))
    where
      early : (m ≤ end) ⊎ (end ≡ length xs) → end < length xs → m ≤ end
      early (inl le) lt = le
      early (inr e) lt = absurd (omega arith)

-- The pieces of any encoding in the front that ends at the first boundary from an offset on.

front_units : (high : Bool) (xs : List ℕ) (end : ℕ) → end ≤ length xs → (end < length xs → end % 2 ≡ 0) → units_of high (take end xs) ≡ take (end / 2) (units_of high xs)
front_units high xs end le even =
    let counts = count_units high xs in
    ⊎_elim
    (λ (lt : end < length xs). let zero = even lt in (even_units high xs end (end / 2) le (omega arith)).0)
    (λ (ge : length xs ≤ end). ap (units_of high) (take_all end xs ge) ∙ sym (take_all (end / 2) (units_of high xs) (omega (arith, counts.0, counts.1))))
    (cases_lt end (length xs))

pub front_counted : (high : Bool) (from : Form) (form : HasByteOrder high from) (xs : List ℕ) (end : ℕ) → end ≤ length xs → length xs < 2 ^ 64 → IsUnits (units_of high xs) → (end < length xs → end % 2 ≡ 0)
    → length (form_pieces from (take end xs)) ≡ length (unit_pieces (take (end / 2) (units_of high xs))) + end % 2
front_counted high from form xs end le small units even =
    let len : length (take end xs) ≡ end = length-take-le end xs le in
    let front : units_of high (take end xs) ≡ take (end / 2) (units_of high xs) = front_units high xs end le even in
    let few : IsUnits (units_of high (take end xs)) = rw front (All-take (λ u. u < 0x1_0000) (end / 2) (units_of high xs) units) in
    count_with_odd high from form (take end xs) (omega arith) few ∙ ap₂ (λ us n. length (unit_pieces us) + n % 2) front len

far_or_end : {IsEnd : ℕ → Type 0} {len m end : ℕ} → IsFirstFrom IsEnd len m end → (m ≤ end) ⊎ (end ≡ len)
far_or_end {len = len} {m = m} h = ⊎_elim (λ (lt : m < len). inl (h.after (omega arith))) (λ (ge : len ≤ m). inr (h.end ge)) (cases_lt m len)

split_of_units : (high : Bool) (from : Form) (form : HasByteOrder high from) (xs : List ℕ) → length xs < 2 ^ 64 → IsUnits (units_of high xs) → (m end : ℕ) → IsFirstFrom (IsUnitsEnd high xs) (length xs) m end
    → IsSplitAt (form_pieces from xs) m (length (form_pieces from (take end xs)))
split_of_units high from form xs small units m end h =
    let is = h.outside in
    rw (front_counted high from form xs end h.within small units is.even)
    (split_at_end high from form xs small units m end is h.within (far_or_end h) h.first)

pub form_split : (from : Form) (xs : List ℕ) → length xs < 2 ^ 64 → ((k : ℕ) → Fits w8 (get_or xs k 0)) → (m end : ℕ) → IsFirstFrom (IsBoundary from xs) (length xs) m end
    → IsSplitAt (form_pieces from xs) m (length (form_pieces from (take end xs)))
form_split Utf8 xs small fits m end h =
    let few : length (take end xs) < 2 ^ 64 = omega (arith, length-take-le end xs h.within) in
    rw (count_alike (form_pieces Utf8 (take end xs)) (pieces (take end xs)) (marks_of_bytes (take end xs) few))
    (split_alike (form_pieces Utf8 xs) (pieces xs) (marks_of_bytes xs small) m (length (pieces (take end xs)))
    (split_at_boundary utf8 utf8_is_code fault_kind xs end h.within h.outside (pieces xs) (pieces (take end xs)) (pieces (drop end xs)) (pieces_are_the_run xs) (pieces_are_the_run (take end xs)) (pieces_are_the_run (drop end xs)) m (far_or_end h)
    (λ n lo hi out. let later = h.first n (omega (arith, h.within)) lo out in omega arith)))
form_split Utf16Le xs small fits m end h = split_of_units false Utf16Le refl xs small (are_units false xs fits) m end h
form_split Utf16Be xs small fits m end h = split_of_units true Utf16Be refl xs small (are_units true xs fits) m end h
