-- Shards with one U+FFFD for each maximal subpart, joined.
use Rattle.std.proofs.Common.{◌≡◌, ℕ, zero, suc, ◌+◌, ◌-◌, ◌*◌, ◌/◌, ◌<◌, ◌≤◌, ⊎_elim, Bool, false, Some, None, Option, List, [], ◌∷◌, ◌++◌, length, take, drop, get_or, arith, refl, sym, ◌∙◌, subst, append_assoc, take-append-drop, length-append, length-drop}
use Rattle.std.specs.List.{concat}
use Rattle.std.specs.Prelude.{slice_range, unwrap_or}
use Rattle.std.proofs.lemmas.Bool.{cases_lt}
use Rattle.std.proofs.lemmas.Grind.{common_steps}
use Rattle.std.proofs.lemmas.List.{append-nil, drop-append-le, get_or-drop, length-take-le}
use Rattle.std.proofs.lemmas.List.Concat.{flat_map-append}
use Rattle.utf_base.specs.Code.{IsCode, utf8, utf16}
use Rattle.utf_base.specs.Piece.{Inside, Piece}
use Rattle.utf_base.specs.Subparts.{IsFrontOfCode, IsInParts, IsPart, ShowsParts}
use Rattle.utf_base.specs.Units.{is_leading_surrogate}
use Rattle.utf_base.proofs.Cuts.{Finds}
use Rattle.utf_base.proofs.FrontLemmas.{utf8_finds}
use Rattle.utf_base.proofs.PartLists.{part_in_list, part_shows_first, parts_exist, parts_show_none, parts_show_one, parts_show_some, some_part}
use Rattle.utf_base.proofs.Standing.{stands_in_part, stands_in_whole}
use Rattle.utf_base.proofs.UnitLemmas.{utf16_finds}
use Rattle.utf_base.proofs.Utf8Code.{utf8_is_code}
use Rattle.utf_base.proofs.Utf16Code.{utf16_is_code}
use Rattle.utf_lanes.specs.BytePairs.{unit_of, units_of}
use Rattle.recoding.specs.declared.form.Form.{Form}
use Rattle.recoding.specs.Boundaries.{IsBoundary}
use Rattle.recoding.specs.Lossy.{IsLossy, ReadsParts, ShowsUnitParts, odd_part}
use Rattle.recoding.specs.LossyBytes.{lossy}
use Rattle.recoding.specs.Recoded.{written}
use Rattle.recoding.specs.RecodedBytes.{IsRecodedApart}
use Rattle.recoding.specs.Shards.{InsidePart, IsLossyApart, IsShardEnd, IsUnitsShardEnd, LossyShardsJoin, ShardEndsAreBoundaries}
use Rattle.recoding.proofs.Forms.{by_form, is_units}
use Rattle.recoding.proofs.JoinedShards.{even_units, units_within}
use Rattle.recoding.proofs.LossyLists.{lossy_is, nothing_is_lossy, same_lossy}
use Rattle.recoding.proofs.RecodedLists.{recoded_apart}
use Rattle.recoding.proofs.ShardLists.{Joins, shards_of, two_to_end}

-- An offset inside a character is inside a part, which it is.

pub outside_codes : (code : ℕ → List ℕ) (xs : List ℕ) (n : ℕ) → (InsidePart code xs n → ⊥) → Inside code xs n → ⊥
outside_codes code xs n out v =
    out (record { from = v.from; len = length (code v.char); char = Some v.char; part = (v.stands, refl); begins = v.begins; ends = v.ends })

pub end_is_boundary : (from : Form) (bytes : List ℕ) (n : ℕ) → IsShardEnd from bytes n → IsBoundary from bytes n
end_is_boundary =
    by_form _ (outside_codes utf8)
    (λ high. rw (is_units high, IsShardEnd, IsBoundary) (λ bytes n end. record { even = end.even; outside = outside_codes utf16 (units_of high bytes) (n / 2) end.outside }))

pub shard_ends_are_boundaries : ShardEndsAreBoundaries
shard_ends_are_boundaries = end_is_boundary

-- an offset is inside no part of the rest, if that of the list is inside none
outside_part_of_rest : (code : ℕ → List ℕ) (xs : List ℕ) (i n : ℕ) → i ≤ length xs → i ≤ n → (InsidePart code xs n → ⊥) → InsidePart code (drop i xs) (n - i) → ⊥
outside_part_of_rest code xs i n le lo out v =
    let begins = v.begins in
    let ends = v.ends in
    out (record { from = i + v.from; len = v.len; char = v.char; part = part_in_list code xs i v.from v.len v.char le v.part; begins = omega arith; ends = omega arith })

-- The scalars of two lists, if no part covers the offset between them.
module _ (code : ℕ → List ℕ) (c : IsCode code) (find : Finds code) where
  first_part : (xs : List ℕ) → 0 < length xs → (n : ℕ) × (a : Option ℕ) × IsPart code xs 0 n a
  first_part xs some = let w = parts_exist code c find xs in begun w.0 w.1
    where
      begun : (parts : List Piece) → IsInParts code xs parts → (n : ℕ) × (a : Option ℕ) × IsPart code xs 0 n a
      begun [] h = let end = h.follow in absurd (omega arith)
      begun (x ∷ parts) h = (x.len, x.char, subst (λ p. IsPart code xs p x.len x.char) (h.follow.0) (h.each 0 x (omega arith)))

  front_range : (w later : List ℕ) (k : ℕ) → k ≤ length w → slice_range (w ++ later) 0 (0 + k) ≡ slice_range w 0 (0 + k)
  front_range w later k le = grind (arith, common_steps)

  whole_front : (w later : List ℕ) → slice_range (w ++ later) 0 (length w) ≡ w
  whole_front w later = grind (arith, common_steps)

  -- a part that begins a list and ends in its front is one of the front
  part_in_front : (w later : List ℕ) (n : ℕ) (a : Option ℕ) → n ≤ length w → IsPart code (w ++ later) 0 n a → IsPart code w 0 n a
  part_in_front w later n (Some s) le (h, e) = (
    rw (whole_front w later) at (stands_in_part code (w ++ later) 0 (length w) 0 0 s refl (omega (arith, length-append w later)) h (omega arith)),
    e,
  )
  part_in_front w later n None le h =
      let some = h.some in
      record {
        offset = record {
          within = omega arith;
          none = λ s stands.
              h.offset.none s (stands_in_whole code (w ++ later) 0 (length w) 0 0 s refl (omega arith) (omega (arith, length-append w later)) (rw (whole_front w later) stands)).0;
        };
        some = some;
        within = omega arith;
        front = λ more. subst (λ xs. IsFrontOfCode code xs) (front_range w later n le) (h.front more);
        longest = λ k fits f. h.longest k (omega (arith, length-append w later)) (subst (λ xs. IsFrontOfCode code xs) (sym (front_range w later k (omega arith))) f);
      }

  outside_later : (w later : List ℕ) (k : ℕ) → k ≤ length w → (InsidePart code (w ++ later) (length w) → ⊥) → InsidePart code (drop k w ++ later) (length (drop k w)) → ⊥
  outside_later w later k le out v =
      let len : length (drop k w) ≡ length w - k = length-drop k w in
      outside_part_of_rest code (w ++ later) k (length w) (omega (arith, length-append w later)) le out
      (rw (drop-append-le k w later le) (rw len at v))

  both_show : (fuel : ℕ) (w later ss ts : List ℕ) → length w ≤ fuel → (InsidePart code (w ++ later) (length w) → ⊥)
      → ShowsParts code w ss → ShowsParts code later ts → ShowsParts code (w ++ later) (ss ++ ts)
  both_show fuel [] later ss ts le out a b = let none : ss ≡ [] = parts_show_one code c [] ss [] a (parts_show_none code) in rw none b
  both_show zero (x ∷ w) later ss ts le out a b = absurd (omega arith)
  both_show (suc fuel) (x ∷ w) later ss ts le out a b =
      let front : List ℕ = x ∷ w in
      let whole : List ℕ = front ++ later in
      let first = first_part whole (omega arith) in
      let n = first.0 in
      let some = some_part code c whole 0 n first.1 first.2 in
      let fits : n ≤ length front =
      ⊎_elim
      (λ (over : length front < n). absurd (out (record { from = 0; len = n; char = first.1; part = first.2; begins = omega arith; ends = omega arith })))
      (λ (le : n ≤ length front). le)
      (cases_lt (length front) n) in
      let rest = parts_show_some code c find (drop n front) in
      let begun : ShowsParts code front (unwrap_or first.1 0xFFFD ∷ rest.0) = part_shows_first code front n first.1 rest.0 fits (part_in_front front later n first.1 fits first.2) rest.1 in
      let same : ss ≡ unwrap_or first.1 0xFFFD ∷ rest.0 = parts_show_one code c front ss (unwrap_or first.1 0xFFFD ∷ rest.0) a begun in
      let positive = some.0 in
      let within = some.1 in
      let both : ShowsParts code (drop n front ++ later) (rest.0 ++ ts)
      = both_show fuel (drop n front) later rest.0 ts (omega (arith, length-drop n front)) (outside_later front later n fits out) rest.1 b in
      rw same (part_shows_first code whole n first.1 (rest.0 ++ ts) (omega arith) first.2 (rw (drop-append-le n front later fits) both))

-- The scalars of the parts of a list that is cut at an offset.
parts_show : (code : ℕ → List ℕ) → IsCode code → Finds code → (xs : List ℕ) (n : ℕ) (ss ts : List ℕ) → n ≤ length xs → (InsidePart code xs n → ⊥)
    → ShowsParts code (take n xs) ss → ShowsParts code (drop n xs) ts → ShowsParts code xs (ss ++ ts)
parts_show code c find xs n ss ts le out a b =
    let len : length (take n xs) ≡ n = length-take-le n xs le in
    let whole : take n xs ++ drop n xs ≡ xs = take-append-drop n xs in
    rw whole at (both_show code c find n (take n xs) (drop n xs) ss ts (omega arith) (rw (whole, len) out) a b)

-- Units of bytes.

-- an odd last byte is in the part that it is in of the rest, unless it is the rest, and a leading surrogate is before it
odd_apart : (high : Bool) (v later : List ℕ) (k : ℕ) → length v ≡ 2 * k
    → (length later ≡ 1 → is_leading_surrogate (get_or (units_of high (v ++ later)) (k - 1) 0) ≡ false) → odd_part high (v ++ later) ≡ odd_part high later
odd_apart high [] later k len other = refl
odd_apart high (a ∷ []) later k len other = absurd (omega arith)
odd_apart high (a ∷ b ∷ []) [] k len other = refl
odd_apart high (a ∷ b ∷ []) (c ∷ []) k len other =
    let last : k - 1 ≡ 0 = omega arith in
    let leads : is_leading_surrogate (unit_of high a b) ≡ false = rw last at (other refl) in
    rw leads refl
odd_apart high (a ∷ b ∷ []) (c ∷ d ∷ later) k len other = refl
odd_apart high (a ∷ b ∷ c ∷ []) later k len other = absurd (omega arith)
odd_apart high (a ∷ b ∷ c ∷ d ∷ v) later k len other =
    odd_apart high (c ∷ d ∷ v) later (k - 1) (omega arith)
    (λ one. let next : k - 1 ≡ suc (k - 1 - 1) = omega arith in rw next at (other one))

odd_none : (high : Bool) (v : List ℕ) (k : ℕ) → length v ≡ 2 * k → odd_part high v ≡ []
odd_none high v k len = rw (append-nil v) at (odd_apart high v [] k len (λ one. absurd (omega arith)))

units_show : (high : Bool) (bytes : List ℕ) (n : ℕ) (ss ts : List ℕ) → n < length bytes → IsUnitsShardEnd high bytes n
    → ShowsUnitParts high (take n bytes) ss → ShowsUnitParts high (drop n bytes) ts → ShowsUnitParts high bytes (ss ++ ts)
units_show high bytes n ss ts lt end (us, a, e) (vs, b, f) =
    let even : n ≡ 2 * (n / 2) = let zero = end.even lt in omega arith in
    let len : length (take n bytes) ≡ 2 * (n / 2) = length-take-le n bytes (omega arith) ∙ even in
    let units = even_units high bytes n (n / 2) (omega arith) even in
    let count = units_within high bytes n (n / 2) (omega arith) even in
    let odd : odd_part high bytes ≡ odd_part high (drop n bytes) =
    rw (take-append-drop n bytes) at (odd_apart high (take n bytes) (drop n bytes) (n / 2) len (λ one. rw (take-append-drop n bytes) (end.odd (omega (arith, length-drop n bytes))))) in
    let none : odd_part high (take n bytes) ≡ [] = odd_none high (take n bytes) (n / 2) len in (
      us ++ vs,
      parts_show utf16 utf16_is_code utf16_finds (units_of high bytes) (n / 2) us vs count end.outside (rw units.0 at a) (rw units.1 at b),
      rw (e, f, none, odd, append-nil us) (sym (append_assoc us vs (odd_part high (drop n bytes)))),
    )

reads_parts : (from : Form) (bytes : List ℕ) (n : ℕ) (ss ts : List ℕ) → n < length bytes → IsShardEnd from bytes n
    → ReadsParts from (take n bytes) ss → ReadsParts from (drop n bytes) ts → ReadsParts from bytes (ss ++ ts)
reads_parts =
    by_form _ (λ bytes n ss ts lt out a b. parts_show utf8 utf8_is_code utf8_finds bytes n ss ts (omega arith) out a b)
    (λ high. rw (is_units high, IsShardEnd, ReadsParts) (units_show high))

lossy_parts : (from to : Form) (bytes front rest : List ℕ) (n : ℕ) → n < length bytes → IsShardEnd from bytes n
    → IsLossy from to (take n bytes) front → IsLossy from to (drop n bytes) rest → IsLossy from to bytes (front ++ rest)
lossy_parts from to bytes front rest n lt out (ss, a, e) (ts, b, f) =
    (ss ++ ts, reads_parts from bytes n ss ts lt out a b, rw (e, f) (sym (flat_map-append (written to) ss ts)))

-- Offsets of the whole and of its rest.

pub no_unit_of_one : (high : Bool) (bytes : List ℕ) → 1 ≡ length bytes → is_leading_surrogate (get_or (units_of high bytes) 0 0) ≡ false
no_unit_of_one high [] one = absurd (omega arith)
no_unit_of_one high (a ∷ []) one = refl
no_unit_of_one high (a ∷ b ∷ bytes) one = absurd (omega arith)

units_end_of_rest : (high : Bool) (bytes : List ℕ) (i n : ℕ) → i < length bytes → i ≤ n → n ≤ length bytes → IsUnitsShardEnd high bytes i → IsUnitsShardEnd high bytes n
    → IsUnitsShardEnd high (drop i bytes) (n - i)
units_end_of_rest high bytes i n lt lo le first end =
    let even : i ≡ 2 * (i / 2) = let zero = first.even lt in omega arith in
    let units = even_units high bytes i (i / 2) (omega arith) even in
    let place : (n - i) / 2 ≡ n / 2 - i / 2 = omega arith in
    let count : i / 2 ≤ length (units_of high bytes) = units_within high bytes i (i / 2) (omega arith) even in
    record {
      even = λ later. let zero = end.even (omega (arith, length-drop i bytes)) in omega arith;
      outside = rw (units.1, place) (outside_part_of_rest utf16 (units_of high bytes) (i / 2) (n / 2) count (omega arith) end.outside);
      odd = λ last.
          let whole = end.even (omega (arith, length-drop i bytes)) in
          ⊎_elim
          (λ (later : i < n).
          let unit : i / 2 + ((n - i) / 2 - 1) ≡ n / 2 - 1 = omega arith in
          rw (units.1, get_or-drop (i / 2) (units_of high bytes) ((n - i) / 2 - 1) 0, unit) (end.odd (omega (arith, length-drop i bytes))))
          (λ (here : n ≤ i). let zero : (n - i) / 2 - 1 ≡ 0 = omega arith in rw zero (no_unit_of_one high (drop i bytes) (omega arith)))
          (cases_lt i n);
    }

pub end_of_rest : (from : Form) (bytes : List ℕ) (i n : ℕ) → i < length bytes → i ≤ n → n ≤ length bytes → IsShardEnd from bytes i → IsShardEnd from bytes n
    → IsShardEnd from (drop i bytes) (n - i)
end_of_rest =
    by_form _ (λ bytes i n lt lo le first end. outside_part_of_rest utf8 bytes i n (omega arith) lo end)
    (λ high. rw (is_units high, IsShardEnd) (units_end_of_rest high))

outside_parts_at_front : (code : ℕ → List ℕ) (xs : List ℕ) → InsidePart code xs 0 → ⊥
outside_parts_at_front code xs v = let begins = v.begins in omega arith

end_at_front : (from : Form) (bytes : List ℕ) → IsShardEnd from bytes 0
end_at_front =
    by_form _ (outside_parts_at_front utf8)
    (λ high. rw (is_units high, IsShardEnd)
    (λ bytes. record { even = λ lt. refl; outside = outside_parts_at_front utf16 (units_of high bytes); odd = λ one. no_unit_of_one high bytes one }))

-- The law.

lossy_joins : (from to : Form) → Joins (IsShardEnd from) (IsLossy from to) (λ parts outs. concat outs)
lossy_joins from to = record {
  join = λ part out rest. out ++ rest;
  nothing = [];
  none = refl;
  more = λ part parts out outs. refl;
  front = end_at_front from;
  rest = end_of_rest from;
  two = lossy_parts from to;
  one = λ bytes out h. rw (append-nil out) h;
  only = λ out h. same_lossy from to [] out h ∙ nothing_is_lossy from to;
}

pub lossy_shards_join : LossyShardsJoin
lossy_shards_join from to bytes places outs h b = shards_of (IsShardEnd from) (IsLossy from to) (λ parts outs. concat outs) (lossy_joins from to) bytes places outs h b

pub lossy_apart : (from : Form) (bytes : List ℕ) (n : ℕ) → n ≤ length bytes → IsShardEnd from bytes n → IsLossyApart from bytes n
unfolding lossy_joins
lossy_apart from bytes n le end to =
    let joined : IsLossy from to bytes (lossy from to (take n bytes) ++ lossy from to (drop n bytes)) =
    two_to_end (IsShardEnd from) (IsLossy from to) (λ parts outs. concat outs) (lossy_joins from to) bytes (lossy from to (take n bytes)) (lossy from to (drop n bytes)) n le end
    (lossy_is from to (take n bytes)) (lossy_is from to (drop n bytes)) in
    sym (same_lossy from to bytes (lossy from to (take n bytes) ++ lossy from to (drop n bytes)) joined)

pub recoded_apart_there : (from : Form) (bytes : List ℕ) (n : ℕ) → n ≤ length bytes → IsShardEnd from bytes n → IsRecodedApart from bytes n
recoded_apart_there from bytes n le end = recoded_apart from bytes n le (end_is_boundary from bytes n end)
