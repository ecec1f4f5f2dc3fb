-- The last offset before another that is inside no part.
use Rattle.std.proofs.Common.{◌≡◌, ℕ, ◌+◌, ◌-◌, ◌*◌, ◌/◌, ◌%◌, ◌<◌, ◌≤◌, ⊎_elim, Bool, true, false, Some, None, Option, List, length, drop, get_or, arith, refl, ap, sym, ◌∙◌}
use Rattle.std.proofs.lemmas.Bool.{cases_lt}
use Rattle.std.proofs.lemmas.Grind.{common_steps}
use Rattle.utf_base.specs.Code.{IsCode, utf8, utf16}
use Rattle.utf_base.specs.Piece.{Inside}
use Rattle.utf_base.specs.Scalar.{IsScalar}
use Rattle.utf_base.specs.Subparts.{IsPart}
use Rattle.utf_base.specs.Units.{is_leading_surrogate}
use Rattle.utf_base.proofs.PartLists.{one_part, part_in_list}
use Rattle.utf_base.proofs.Standing.{Stands-at}
use Rattle.utf_base.proofs.SubpartLemmas.{element_of_front, element_of_range, length_of_range}
use Rattle.utf_base.proofs.Utf8Code.{utf8_is_code, length_utf8}
use Rattle.utf_base.proofs.Utf16Code.{utf16-trailing_surrogate}
use Rattle.utf_lanes.proofs.UnitPairs.{unit_at}
use Rattle.utf_lanes.specs.BytePairs.{unit_of, units_of}
use Rattle.recoding.specs.declared.form.Form.{Form}
use Rattle.recoding.specs.Boundaries.{IsLastTo, IsLastUnitsEnd}
use Rattle.recoding.specs.Shards.{BeginsPart, InsidePart, IsLastOutsidePart, IsLastUnitsShardEnd, IsShardEnd, IsUnitsShardEnd}
use Rattle.recoding.proofs.Forms.{by_form, is_units}
use Rattle.recoding.proofs.LastBoundaries.{units_end_at_end}
use Rattle.recoding.proofs.LossyLists.{one_unit}
use Rattle.recoding.proofs.LossyShards.{no_unit_of_one, outside_codes}

-- A part of more than one element.

-- the elements of a part of more than one begin a code
record BeginsCode (code : ℕ → List ℕ) (xs : List ℕ) (p n : ℕ) : Type 0 where
  pub char : ℕ
  pub scalar : IsScalar char
  pub within : n ≤ length (code char)
  pub element : (k : ℕ) → k < n → get_or xs (p + k) 0 ≡ get_or (code char) k 0

begins_code : (code : ℕ → List ℕ) (xs : List ℕ) (p n : ℕ) (a : Option ℕ) → IsPart code xs p n a → 1 < n → BeginsCode code xs p n
begins_code code xs p n (Some s) (h, e) more = record {
  char = s;
  scalar = h.scalar;
  within = omega (arith, e);
  element = λ k lt. Stands-at code xs p s k (p + k) refl h (omega (arith, e));
}
begins_code code xs p n None h more =
    let f = h.front more in
    let len = length_of_range xs p n h.within in
    record {
      char = f.char;
      scalar = f.scalar;
      within = omega (arith, f.within);
      element = λ k lt. sym (element_of_range xs p n k lt h.within) ∙ element_of_front _ (code f.char) k (omega arith) f.front;
    }

-- no part begins inside another
not_inside_part : (code : ℕ → List ℕ) → IsCode code → (xs : List ℕ) (p n : ℕ) (a : Option ℕ) → IsPart code xs p n a → 1 < n → InsidePart code xs p → ⊥
not_inside_part code c xs p n a h more v =
    let begins = v.begins in
    let ends = v.ends in
    let x = begins_code code xs p n a h more in
    let y = begins_code code xs v.from v.len v.char v.part (omega arith) in
    let within = y.within in
    let here : v.from + (p - v.from) ≡ p = omega arith in
    let none : p + 0 ≡ p = omega arith in
    let inner : get_or xs p 0 ≡ get_or (code y.char) (p - v.from) 0 = rw here at (y.element (p - v.from) (omega arith)) in
    let first : get_or xs p 0 ≡ get_or (code x.char) 0 0 = rw none at (x.element 0 (omega arith)) in
    c.apart y.char x.char (p - v.from) y.scalar x.scalar (omega arith) (omega arith) (sym inner ∙ first)

-- Bytes.

most_in_part : (xs : List ℕ) (p n : ℕ) (a : Option ℕ) → IsPart utf8 xs p n a → n ≤ 4
most_in_part xs p n a h =
    ⊎_elim (λ (more : 1 < n). let b = begins_code utf8 xs p n a h more in let long = length_utf8 b.char in let within = b.within in omega arith) (λ (one : n ≤ 1). omega arith) (cases_lt 1 n)

-- no part that begins at an offset from the first on, and before the second, extends past `at`
abbrev pub NoPartOver : List ℕ → ℕ → ℕ → ℕ → Type 0
NoPartOver xs least place at = (p n : ℕ) (a : Option ℕ) → least ≤ p → p < place → IsPart utf8 xs p n a → p + n ≤ at

here : (xs : List ℕ) (p n : ℕ) → p ≤ length xs → BeginsPart (drop p xs) n → (a : Option ℕ) × IsPart utf8 xs p n a
here xs p n le (a, h) = let none : p + 0 ≡ p = omega arith in (a, rw none at (part_in_list utf8 xs p 0 n a le h))

pub more_parts_end : (xs : List ℕ) (least place at n : ℕ) → place ≤ length xs → NoPartOver xs least place at → BeginsPart (drop place xs) n → place + n ≤ at → NoPartOver xs least (place + 1) at
more_parts_end xs least place at n le none b fits p m a lo hi h =
    ⊎_elim
    (λ (early : p < place). none p m a lo early h)
    (λ (late : place ≤ p).
    let e : p ≡ place = omega arith in
    let first = here xs place n le b in
    let same = (one_part utf8 utf8_is_code xs place m n a first.0 (rw e at h) first.1).0 in
    omega arith)
    (cases_lt p place)

pub last_before_part : (xs : List ℕ) (p n at : ℕ) → p < at → p ≤ length xs → BeginsPart (drop p xs) n → at < p + n → IsLastOutsidePart xs at p
last_before_part xs p n at lt le b over =
    let first = here xs p n le b in
    record {
      before = omega arith;
      outside = not_inside_part utf8 utf8_is_code xs p n first.0 first.1 (omega arith);
      last = λ m hi out.
          ⊎_elim
          (λ (later : p < m). absurd (out (record { from = p; len = n; char = first.0; part = first.1; begins = later; ends = omega arith })))
          (λ (early : m ≤ p). early)
          (cases_lt p m);
    }

pub last_outside_parts : (xs : List ℕ) (least at : ℕ) → least ≡ at - 3 → NoPartOver xs least at at → IsLastOutsidePart xs at at
last_outside_parts xs least at near none = record {
  before = omega arith;
  outside = λ v.
      let begins = v.begins in
      let ends = v.ends in
      let long = most_in_part xs v.from v.len v.char v.part in
      let fits = none v.from v.len v.char (omega arith) begins v.part in
      omega arith;
  last = λ m hi out. hi;
}

-- Units.

outside_units : (xs : List ℕ) (n : ℕ) → (Inside utf16 xs n → ⊥) → InsidePart utf16 xs n → ⊥
outside_units xs n out v = inside v.from v.len v.char v.part v.begins v.ends
  where
    inside : (from len : ℕ) (a : Option ℕ) → IsPart utf16 xs from len a → from < n → n < from + len → ⊥
    inside from len (Some s) (h, e) begins ends = out (record { from = from; char = s; stands = h; begins = begins; ends = omega (arith, e) })
    inside from len None h begins ends = let one = one_unit xs from len h in absurd (omega arith)

-- a leading surrogate is inside no code
no_lead_in_code : (xs : List ℕ) (n : ℕ) → is_leading_surrogate (get_or xs n 0) ≡ true → Inside utf16 xs n → ⊥
no_lead_in_code xs n leads v =
    let begins = v.begins in
    let ends = v.ends in
    let unit = Stands-at utf16 xs v.from v.char (n - v.from) n (omega arith) v.stands (omega arith) in
    let trails = (utf16-trailing_surrogate v.char (n - v.from) v.stands.scalar (omega arith) (omega arith)).0 in
    leads_low (get_or xs n 0) leads (omega arith)
  where
    leads_low : (u : ℕ) → is_leading_surrogate u ≡ true → 0xDC00 ≤ u → ⊥
    leads_low u leads high = grind (arith, common_steps)

-- the unit before an offset is a leading surrogate
abbrev pub leads_before : Bool → List ℕ → ℕ → Bool
leads_before high bytes n = is_leading_surrogate (get_or (units_of high bytes) (n / 2 - 1) 0)

-- A boundary is a shard end, except between a leading surrogate and an odd last byte.
module _ (high : Bool) (bytes : List ℕ) (at n : ℕ) (lt : at < length bytes) (l : IsLastUnitsEnd high bytes at n) where
  abbrev units : List ℕ
  units = units_of high bytes

  ends_before : (m : ℕ) → m ≤ at → IsUnitsShardEnd high bytes m → m ≤ n
  ends_before m lo end = l.last m lo (record { even = end.even; outside = outside_codes utf16 units (m / 2) end.outside })

  pub boundary_is_end : (n + 1 ≡ length bytes → 2 ≤ n → leads_before high bytes n ≡ false) → IsLastUnitsShardEnd high bytes at n
  boundary_is_end none = record {
    before = l.before;
    outside = record {
      even = l.outside.even;
      outside = outside_units units (n / 2) l.outside.outside;
      odd = λ last.
          let even = l.outside.even (omega arith) in
          ⊎_elim
          (λ (few : n < 2). let first : n / 2 - 1 ≡ 0 = omega arith in rw first (no_unit_of_one high bytes (omega arith)))
          (λ (two : 2 ≤ n). none last two)
          (cases_lt n 2);
    };
    last = ends_before;
  }

  pub end_before_surrogate : n + 1 ≡ length bytes → 2 ≤ n → leads_before high bytes n ≡ true → IsLastUnitsShardEnd high bytes at (n - 2)
  end_before_surrogate odd two leads =
      let before = l.before in
      let even = l.outside.even (omega arith) in
      let place : (n - 2) / 2 ≡ n / 2 - 1 = omega arith in
      record {
        before = omega arith;
        outside = record {
          even = λ within. omega arith;
          outside = rw place (outside_units units (n / 2 - 1) (no_lead_in_code units (n / 2 - 1) leads));
          odd = λ last. absurd (omega arith);
        };
        last = λ m lo end.
            let le = ends_before m lo end in
            let whole = end.even (omega arith) in
            ⊎_elim
            (λ (less : m < n). omega arith)
            (λ (same : n ≤ m).
            let e : m ≡ n = omega arith in
            let none : leads_before high bytes n ≡ false = rw e at (end.odd (omega arith)) in
            absurd (both leads none))
            (cases_lt m n);
      }
    where
      both : leads_before high bytes n ≡ true → leads_before high bytes n ≡ false → ⊥
      both leading other = cc

-- The end of the bytes.

outside_parts_at_end : (code : ℕ → List ℕ) → IsCode code → (xs : List ℕ) → InsidePart code xs (length xs) → ⊥
outside_parts_at_end code c xs v = ends v.from v.len v.char v.part v.ends
  where
    ends : (from len : ℕ) (a : Option ℕ) → IsPart code xs from len a → length xs < from + len → ⊥
    ends from len (Some s) (h, e) over = let within = h.within in omega (arith, e)
    ends from len None h over = let within = h.within in omega arith

units_shard_end_at_end : (high : Bool) (bytes : List ℕ) → IsUnitsShardEnd high bytes (length bytes)
units_shard_end_at_end high bytes = record {
  even = λ lt. absurd (omega arith);
  outside = outside_units (units_of high bytes) (length bytes / 2) (units_end_at_end high bytes).outside;
  odd = λ last. absurd (omega arith);
}

end_at_end : (from : Form) (bytes : List ℕ) → IsShardEnd from bytes (length bytes)
end_at_end = by_form _ (outside_parts_at_end utf8 utf8_is_code) (λ high. rw (is_units high, IsShardEnd) (units_shard_end_at_end high))

pub last_is_end : (from : Form) (bytes : List ℕ) (at : ℕ) → length bytes ≤ at → IsLastTo (IsShardEnd from bytes) (length bytes) at (length bytes)
last_is_end from bytes at le = record { within = omega arith; before = le; outside = end_at_end from bytes; last = λ m within before end. within }

-- The unit before an offset is that of the two bytes before it.
pub leads_by_bytes : (high : Bool) (bytes : List ℕ) (n : ℕ) → n ≤ length bytes → n % 2 ≡ 0 → 2 ≤ n
    → leads_before high bytes n ≡ is_leading_surrogate (unit_of high (get_or bytes (n - 2) 0) (get_or bytes (n - 1) 0))
leads_by_bytes high bytes n le even two =
    let first : 2 * (n / 2 - 1) ≡ n - 2 = omega arith in
    let second : n - 2 + 1 ≡ n - 1 = omega arith in
    ap is_leading_surrogate (rw (first, second) at (unit_at high bytes (n / 2 - 1) (omega arith)))
