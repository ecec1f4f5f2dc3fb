-- The piece that begins some bytes in each way of replacing, derived from the piece that a decoder gives.
use Rattle.std.proofs.Common.{◌≡◌, ℕ, ◌+◌, ◌-◌, ◌/◌, ◌<◌, ◌≤◌, ⊎_elim, inl, inr, Bool, true, Some, None, Option, List, [], ◌∷◌, ◌++◌, get_or, length, min, take, drop, flat_map, arith, refl, ap, sym, ◌∙◌, subst, append_assoc, take-append-drop, length-take, lit<}
use Rattle.std.specs.Prelude.{All}
use Rattle.std.specs.Option.{option_map}
use Rattle.std.proofs.lemmas.Bool.{cases_lt}
use Rattle.std.proofs.lemmas.List.{append-nil, drop_all, drop-append-le, get_or-take, take-append-le, take_rest}
use Rattle.std.proofs.lemmas.List.Elements.{All-cons, All-nil}
use Rattle.utf_base.specs.Code.{utf8, utf16}
use Rattle.utf_base.specs.Front.{NoneBegins}
use Rattle.utf_base.specs.Kinds.{fault_kind}
use Rattle.utf_base.specs.Piece.{Stands}
use Rattle.utf_base.specs.Scalar.{IsScalar}
use Rattle.utf_base.specs.Shown.{IsDecided}
use Rattle.utf_base.specs.Units.{is_leading_surrogate, unit_fault_kind}
use Rattle.utf_base.specs.declared.errors.Utf8ErrorKind.{Utf8ErrorKind}
use Rattle.utf_base.specs.declared.errors.Utf8ErrorKind.TheVariants.{TooFewBytes}
use Rattle.utf_base.specs.declared.errors.units.Utf16PairError.{Utf16PairError}
use Rattle.utf_base.specs.declared.errors.units.Utf16PairError.TheVariants.{Incomplete}
use Rattle.utf_base.proofs.FrontLemmas.{no_code_where_fault, no_fault_where_code}
use Rattle.utf_base.proofs.UnitLemmas.{units_code_or_one_kind}
use Rattle.utf_lanes.specs.BytePairs.{unit_of, units_of}
use Rattle.recoding.specs.declared.faults.FaultKind.{FaultKind}
use Rattle.recoding.specs.declared.faults.FaultKind.TheVariants as kind
use Rattle.recoding.specs.declared.form.Form.{Form}
use Rattle.recoding.specs.declared.form.Form.TheVariants.{Utf8}
use Rattle.recoding.proofs.Forms.{by_form, is_units, no_more_parts, parts_of_utf16}
use Rattle.recoding.specs.Lossy.{BeginsNoCode, BeginsSubpart, ReadsParts, ShowsUnitParts}
use Rattle.recoding.specs.Faults.{fault_count}
use Rattle.recoding.specs.Recoded.{IsProperFront, Lacks, Reads, ShowsUnits, written}
use Rattle.recoding.specs.NextScalars.{Ends, Leads, fault_len, utf16_form}
use Rattle.recoding.specs.Rooms.{parts_of}
use Rattle.recoding.specs.TextForms.{text_form}
use Rattle.recoding.specs.RepairTables.{char_for, unit_for}
use Rattle.recoding.specs.declared.repair.Repair.{Repair}
use Rattle.recoding.specs.Replacing.{BeginsBy, BeginsLast, len_at_end, reads_by, replaced_by}
use Rattle.recoding.specs.declared.way.Way.{Way}
use Rattle.recoding.specs.declared.way.Way.TheVariants.{Faults, Subparts, Table}
use Rattle.recoding.specs.Strict.{AwaitsKind, BeginsChar, BeginsFault, kind_of}
use Rattle.recoding.proofs.FaultCounts.{counts_more, fault_counts, none_in_nothing, subpart_counts, units_count_more}
use Rattle.recoding.proofs.FrontBytes.{byte_counts, byte_shows, fault_is_some, fault_shows_units, first_unit, lacks_second, leading_counts, leading_shows, odd_two, replacement, units_two}
use Rattle.utf_base.proofs.LaterLemmas.{no_code_at_last}
use Rattle.recoding.proofs.HeldFronts.{leading_by_itself, no_code_in_front, two_do_not_lack}
use Rattle.recoding.proofs.LossyLists.{Decides-subpart, Ends-front, front_is_subpart, units_in_parts, units_show}
use Rattle.recoding.proofs.OddParts.{odd_part_two}
use Rattle.recoding.proofs.SubpartLengths.{some_where_no_code}
use Rattle.utf_base.proofs.PartLists.{parts_show_none, parts_show_one}
use Rattle.utf_base.proofs.Rests.{fault_shows_first}
use Rattle.utf_base.proofs.Utf8Code.{length_utf8, utf8_is_code}
use Rattle.utf_base.proofs.Utf16Code.{utf16_is_code}
use Rattle.utf_base.specs.Subparts.{ShowsParts}
use Rattle.recoding.proofs.Becoming.{text_reads}
use Rattle.recoding.proofs.Repairing.{Leads-byte, Leads-few, Leads-unit}
use Rattle.recoding.proofs.TextLaws.{text_counts}
use Rattle.recoding.proofs.TextRuns.{wide_written}

-- A character.

pub Begins-char : (way : Way) {from : Form} {w : List ℕ} {s n : ℕ} → BeginsChar from w s n → BeginsBy way from w (Some s) n 0
Begins-char way {from} {w} {s} {n} b =
    let one : All IsScalar (s ∷ []) = All-cons IsScalar s [] b.scalar (All-nil IsScalar) in
    let within = b.within in
    let whole : (later : List ℕ) → flat_map (written from) (s ∷ []) ++ (drop n w ++ later) ≡ w ++ later = λ later.
    ap (λ xs. xs ++ (drop n w ++ later)) (append-nil (written from s) ∙ sym b.code) ∙ sym (append_assoc (take n w) (drop n w) later) ∙ ap (λ xs. xs ++ later) (take-append-drop n w) in
    record {
      leads = record {
        some = b.some;
        within = b.within;
        scalar = b.scalar;
        wide = λ high. omega (arith, wide_written from s high, ap length b.code, length-take n w);
        first = λ later ss r. rw (whole later) at (text_reads way from (s ∷ []) one (drop n w ++ later) ss r);
      };
      few = omega arith;
      counts = λ later. rw (whole later) at (text_counts from (s ∷ []) (drop n w ++ later) one) ∙ omega arith;
    }

-- If there is a fault of UTF-8, no code begins the bytes.

no_kind : (k : FaultKind) (e : Option Utf8ErrorKind) → e ≡ None → option_map kind.Utf8 e ≡ Some k → ⊥
no_kind k e none some = let h : option_map kind.Utf8 None ≡ Some k = rw none at some in cc

pub no_code_where_begun : (w : List ℕ) (k : FaultKind) (n : ℕ) → BeginsFault Utf8 w k n → BeginsNoCode w
no_code_where_begun w k n f later s h = no_kind k (fault_kind (w ++ later)) (no_fault_where_code (w ++ later) s h) (f.kind later)

too_few : (e : Option Utf8ErrorKind) → option_map kind.Utf8 e ≡ Some (kind.Utf8 TooFewBytes) → e ≡ Some TooFewBytes
too_few None h = cc
too_few (Some k) h = let same : k ≡ TooFewBytes = cc in ap Some same

pub no_code_where_decided : (w : List ℕ) → AwaitsKind Utf8 w → IsDecided utf8 w → BeginsNoCode w
no_code_where_decided w a (inl (s, h)) = absurd (no_code_where_fault w TooFewBytes s (too_few (fault_kind w) a.kind) h)
no_code_where_decided w a (inr none) = none

-- four bytes that no code begins
pub no_code_of_four : (w : List ℕ) → 4 ≤ length w → NoneBegins utf8 w → BeginsNoCode w
no_code_of_four w four none later s h =
    let most = length_utf8 s in
    none s (record {
      scalar = h.scalar;
      within = omega arith;
      equal = sym (take-append-le (0 + length (utf8 s) - 0) w later (omega arith)) ∙ h.equal;
    })

-- if no code begins the bytes, one byte is a fault, and each byte of a maximal subpart is one
pub Begins-byte : {w : List ℕ} → BeginsNoCode w → BeginsBy Faults Utf8 w (Some 0xFFFD) 1 1
Begins-byte {w} none =
    let some = some_where_no_code w none in
    record {
      leads = record {
        some = omega arith;
        within = omega arith;
        scalar = replacement;
        wide = λ high. absurd (omega arith);
        first = λ later ss r. fault_shows_first utf8 utf8_is_code w later ss some (none later) r;
      };
      few = omega arith;
      counts = λ later. counts_more (w ++ later) (drop 1 w ++ later) 1 (λ m r. fault_counts utf8 utf8_is_code w later m some (none later) r);
    }

-- what a table has for the byte
pub Begins-repaired : (repair : Repair) {w : List ℕ} → BeginsNoCode w → BeginsBy (Table repair) Utf8 w (char_for repair.chars.now (get_or w 0 0)) 1 1
Begins-repaired repair none = record { leads = Leads-byte repair.chars.now _ none; few = omega arith; counts = (Begins-byte none).counts }

pub Begins-subpart : {w : List ℕ} {n : ℕ} → n ≤ length w → BeginsSubpart w n → BeginsBy Subparts Utf8 w (Some 0xFFFD) n n
Begins-subpart {w} {n} le h = record {
  leads = Decides-subpart w n le h;
  few = omega arith;
  counts = λ later.
      counts_more (w ++ later) (drop n w ++ later) n (λ m r. subpart_counts utf8 utf8_is_code (w ++ later) n m (h later) (rw (sym (drop-append-le n w later le)) at r));
}

-- A fault of UTF-16 is one unit, and a subpart too.

no_unit_kind : (k : FaultKind) (e : Option Utf16PairError) → e ≡ None → option_map kind.Utf16 e ≡ Some k → ⊥
no_unit_kind k e none some = let h : option_map kind.Utf16 None ≡ Some k = rw none at some in cc

lacks_where_awaited : (e : Option Utf16PairError) → option_map kind.Utf16 e ≡ Some (kind.Utf16 Incomplete) → e ≡ Some Incomplete
lacks_where_awaited None h = cc
lacks_where_awaited (Some k) h = let same : k ≡ Incomplete = cc in ap Some same

two_units_lack : (high : Bool) (w : List ℕ) → 2 ≤ length w → unit_fault_kind (units_of high (w ++ (0 ∷ 0 ∷ []))) ≡ Some Incomplete → ⊥
two_units_lack high [] two h = absurd (omega arith)
two_units_lack high (a ∷ []) two h = absurd (omega arith)
two_units_lack high (a ∷ b ∷ []) two h = two_do_not_lack _ _ _ h
two_units_lack high (a ∷ b ∷ c ∷ []) two h = two_do_not_lack _ _ _ h
two_units_lack high (a ∷ b ∷ c ∷ d ∷ w) two h = two_do_not_lack _ _ _ h

-- a leading surrogate is a fault whatever follows it only if a unit follows already
unit_follows : (high : Bool) (w : List ℕ) (k : FaultKind) → 2 ≤ length w → ((later : List ℕ) → option_map kind.Utf16 (unit_fault_kind (units_of high (w ++ later))) ≡ Some k)
    → is_leading_surrogate (first_unit high w) ≡ true → 4 ≤ length w
unit_follows high w k two kinds l =
    ⊎_elim
    (λ (few : length w < 4).
    let here : option_map kind.Utf16 (unit_fault_kind (units_of high w)) ≡ Some (kind.Utf16 Incomplete) = ap (option_map kind.Utf16) (lacks_second high w two few l) in
    let same : Some k ≡ Some (kind.Utf16 Incomplete) = sym (rw (append-nil w) at (kinds [])) ∙ here in
    absurd (two_units_lack high w two (lacks_where_awaited _ (kinds (0 ∷ 0 ∷ []) ∙ same))))
    (λ (four : 4 ≤ length w). four)
    (cases_lt (length w) 4)

-- no code begins at a fault of units
no_code_of_units : (high : Bool) (w : List ℕ) (k : FaultKind) → 2 ≤ length w → ((later : List ℕ) → option_map kind.Utf16 (unit_fault_kind (units_of high (w ++ later))) ≡ Some k)
    → (later : List ℕ) (s : ℕ) → Stands utf16 (first_unit high w ∷ units_of high (drop 2 w ++ later)) 0 s → ⊥
no_code_of_units high w k two kinds later s h =
    no_unit_kind k (unit_fault_kind (units_of high (w ++ later))) (units_code_or_one_kind.fault (units_of high (w ++ later)) s (rw (units_two high w later two) h)) (kinds later)

repaired_unit : (high : Bool) (table w : List ℕ) → (text_form (utf16_form high)).repaired_fault table w ≡ unit_for table
repaired_unit high table w = rw (is_units high) refl

unit_decides : (way : Way) (high : Bool) (w : List ℕ) (k : FaultKind) → 2 ≤ length w → ((later : List ℕ) → option_map kind.Utf16 (unit_fault_kind (units_of high (w ++ later))) ≡ Some k)
    → Leads (reads_by way (utf16_form high)) w (replaced_by way (utf16_form high) w) 2
unit_decides Faults high w k two kinds = rw (is_units high, Reads) (fault_shows_units high w two (no_code_of_units high w k two kinds))
unit_decides Subparts high w k two kinds = rw (is_units high, ReadsParts) (record {
  some = omega arith;
  within = two;
  scalar = replacement;
  wide = λ h. omega arith;
  first = λ later ss (ts, r, f).
      let rest = units_of high (drop 2 w ++ later) in
      let shown = fault_shows_first utf16 utf16_is_code (first_unit high w ∷ []) rest ts (lit< tt) (no_code_of_units high w k two kinds later) (units_show rest ts r) in (
        0xFFFD ∷ ts,
        rw (units_two high w later two) (units_in_parts (first_unit high w ∷ rest) (0xFFFD ∷ ts) shown),
        ap (λ xs. 0xFFFD ∷ xs) (f ∙ ap (λ o. ts ++ o) (sym (odd_part_two high w later two (unit_follows high w k two kinds)))),
      );
})
unit_decides (Table t) high w k two kinds = rw (repaired_unit high t.chars.now w) (Leads-unit t.chars.now high w two (no_code_of_units high w k two kinds))

unit_begins : (way : Way) (high : Bool) (w : List ℕ) (k : FaultKind) → 2 ≤ length w → ((later : List ℕ) → option_map kind.Utf16 (unit_fault_kind (units_of high (w ++ later))) ≡ Some k)
    → BeginsBy way (utf16_form high) w (replaced_by way (utf16_form high) w) 2 1
unit_begins way high w k two kinds = record {
  leads = unit_decides way high w k two kinds;
  few = omega arith;
  counts = λ later.
      units_count_more high (utf16_form high) (w ++ later) (drop 2 w ++ later) 1 0 refl
      (λ m r. rw (units_two high w later two) (fault_counts utf16 utf16_is_code (first_unit high w ∷ []) (units_of high (drop 2 w ++ later)) m (lit< tt) (no_code_of_units high w k two kinds later) r))
      (ap length (odd_two w later two) ∙ omega arith);
}

pub Begins-unit : (way : Way) (high : Bool) {w : List ℕ} {k : FaultKind} {n : ℕ} → BeginsFault (utf16_form high) w k n
    → BeginsBy way (utf16_form high) w (replaced_by way (utf16_form high) w) n (parts_of (utf16_form high) n)
Begins-unit way high {w} {k} {n} f =
    let two : n ≡ 2 = rw (is_units high, fault_len) at f.len in
    let within = f.within in
    rw (two, parts_of_utf16 high 2) (unit_begins way high w k (omega arith) (rw (is_units high, kind_of) at f.kind))

-- Too few bytes at the end: one fault after another, or all of them one subpart.

leading_alone : (high : Bool) (u : ℕ) → is_leading_surrogate u ≡ true → ShowsParts utf16 (u ∷ []) (0xFFFD ∷ [])
leading_alone high u l = units_in_parts (u ∷ []) (0xFFFD ∷ []) (fault_shows_first utf16 utf16_is_code (u ∷ []) [] [] (lit< tt) (λ s h. no_code_at_last u s l h) (units_show [] [] (parts_show_none utf16)))

units_end : (high : Bool) (w : List ℕ) → 0 < length w → unit_fault_kind (units_of high w) ≡ Some Incomplete → ShowsUnitParts high w (0xFFFD ∷ [])
units_end high [] some h = absurd (omega arith)
units_end high (a ∷ []) some h = ([], parts_show_none utf16, refl)
units_end high (a ∷ b ∷ []) some h = (0xFFFD ∷ [], leading_alone high (unit_of high a b) (leading_by_itself (unit_of high a b) h), refl)
units_end high (a ∷ b ∷ c ∷ []) some h =
    let l = leading_by_itself (unit_of high a b) h in
    (0xFFFD ∷ [], leading_alone high (unit_of high a b) l, rw l refl)
units_end high (a ∷ b ∷ c ∷ d ∷ w) some h = absurd (two_do_not_lack _ _ _ h)

all_at_end : (high : Bool) (w : List ℕ) → 0 < length w → unit_fault_kind (units_of high w) ≡ Some Incomplete → Ends (ShowsUnitParts high) w 0xFFFD (length w)
all_at_end high w some h = record {
  some = some;
  within = omega arith;
  scalar = replacement;
  wide = λ high. absurd (omega arith);
  first = λ ss r.
      let none : drop (length w) w ≡ [] = drop_all (length w) w (omega arith) in
      let nothing : ss ≡ [] = nothing_shown high ss (subst (λ xs. ShowsUnitParts high xs ss) none r) in
      rw nothing (units_end high w some h);
}
  where
    nothing_shown : (high : Bool) (ss : List ℕ) → ShowsUnitParts high [] ss → ss ≡ []
    nothing_shown high ss (ts, r, f) = f ∙ ap (λ xs. xs ++ []) (parts_show_one utf16 utf16_is_code [] ts [] r (parts_show_none utf16))

Ends-few : (from : Form) (w : List ℕ) → 0 < length w → Lacks from w → Ends (ReadsParts from) w 0xFFFD (length w)
Ends-few = by_form _ Ends-front (λ high. rw (is_units high, Lacks, ReadsParts) (all_at_end high))

-- The first byte or unit, or half a unit, is a fault if nothing follows.
record EndsByFault (from : Form) (w : List ℕ) : Type 0 where
  pub shows : (ss : List ℕ) → Reads from (drop (fault_len from) w) ss → Reads from w (0xFFFD ∷ ss)
  pub counts : fault_count from w ≡ 1 + fault_count from (drop (fault_len from) w)

ends_in_front : (w : List ℕ) → 0 < length w → IsProperFront utf8 w → EndsByFault Utf8 w
ends_in_front w some f =
    let none : (s : ℕ) → Stands utf8 (w ++ []) 0 s → ⊥ = λ s h. no_code_in_front utf8 utf8_is_code w f.char s f.scalar f.longer f.front (rw (append-nil w) at h) in
    record {
      shows = λ ss r. rw (append-nil w) at (fault_shows_first utf8 utf8_is_code w [] ss some none (rw (append-nil (drop 1 w)) r));
      counts = rw (append-nil w, append-nil (drop 1 w)) at (counts_more (w ++ []) (drop 1 w ++ []) 1 (λ m r. fault_counts utf8 utf8_is_code w [] m some none r));
    }

ends_in_units : (high : Bool) (w : List ℕ) → ((ss : List ℕ) → ShowsUnits high (drop 2 w) ss → ShowsUnits high w (0xFFFD ∷ ss))
    → fault_count (utf16_form high) w ≡ 1 + fault_count (utf16_form high) (drop 2 w) → EndsByFault (utf16_form high) w
ends_in_units high w shows counts =
    let two : fault_len (utf16_form high) ≡ 2 = rw (is_units high, fault_len) refl in
    record { shows = rw two (rw (is_units high, Reads) shows); counts = rw two counts }

ends_in_leading : (high : Bool) (w : List ℕ) → 2 ≤ length w → length w < 4 → is_leading_surrogate (first_unit high w) ≡ true → EndsByFault (utf16_form high) w
ends_in_leading high w two few l = ends_in_units high w (leading_shows high w two few l) (leading_counts high (utf16_form high) w refl two few l)

ends_by_unit : (high : Bool) (w : List ℕ) → 0 < length w → unit_fault_kind (units_of high w) ≡ Some Incomplete → EndsByFault (utf16_form high) w
ends_by_unit high [] some h = absurd (omega arith)
ends_by_unit high (a ∷ []) some h = ends_in_units high (a ∷ []) (byte_shows high (a ∷ []) (lit< tt) some) (byte_counts high (utf16_form high) (a ∷ []) refl (lit< tt) some)
ends_by_unit high (a ∷ b ∷ []) some h = ends_in_leading high (a ∷ b ∷ []) (omega arith) (lit< tt) (leading_by_itself (unit_of high a b) h)
ends_by_unit high (a ∷ b ∷ c ∷ []) some h = ends_in_leading high (a ∷ b ∷ c ∷ []) (omega arith) (lit< tt) (leading_by_itself (unit_of high a b) h)
ends_by_unit high (a ∷ b ∷ c ∷ d ∷ w) some h = absurd (two_do_not_lack _ _ _ h)

ends_by_fault : (from : Form) (w : List ℕ) → 0 < length w → Lacks from w → EndsByFault from w
ends_by_fault = by_form _ ends_in_front (λ high. rw (is_units high, Lacks) (ends_by_unit high))

-- the bytes after the first fault
after_fault : (from : Form) (w : List ℕ) → drop (min (fault_len from) (length w)) w ≡ drop (fault_len from) w
after_fault from w =
    ⊎_elim
    (λ (lt : length w < fault_len from). drop_all (min (fault_len from) (length w)) w (omega arith) ∙ sym (drop_all (fault_len from) w (omega arith)))
    (λ (ge : fault_len from ≤ length w). let same : min (fault_len from) (length w) ≡ fault_len from = omega arith in ap (λ k. drop k w) same)
    (cases_lt (length w) (fault_len from))

-- All of them are faults: each byte, or each unit and an odd byte.

units_count : (high : Bool) (w : List ℕ) → 0 < length w → unit_fault_kind (units_of high w) ≡ Some Incomplete → fault_count (utf16_form high) w ≡ (length w + 1) / 2
units_count high [] some h = absurd (omega arith)
units_count high (a ∷ []) some h = omega (arith, byte_counts high (utf16_form high) (a ∷ []) refl (lit< tt) some, none_in_nothing (utf16_form high))
units_count high (a ∷ b ∷ []) some h =
    omega (arith, leading_counts high (utf16_form high) (a ∷ b ∷ []) refl (omega arith) (lit< tt) (leading_by_itself (unit_of high a b) h), none_in_nothing (utf16_form high))
units_count high (a ∷ b ∷ c ∷ []) some h =
    omega (
      arith,
      leading_counts high (utf16_form high) (a ∷ b ∷ c ∷ []) refl (omega arith) (lit< tt) (leading_by_itself (unit_of high a b) h),
      byte_counts high (utf16_form high) (c ∷ []) refl (lit< tt) (lit< tt),
      none_in_nothing (utf16_form high),
    )
units_count high (a ∷ b ∷ c ∷ d ∷ w) some h = absurd (two_do_not_lack _ _ _ h)

bytes_count : (w : List ℕ) → 0 < length w → IsProperFront utf8 w → fault_count Utf8 w ≡ length w
bytes_count w some f =
    let none : drop (length w) w ≡ [] = drop_all (length w) w (omega arith) in
    omega (
      arith,
      counts_more w [] (length w) (λ m r. subpart_counts utf8 utf8_is_code w (length w) m (front_is_subpart w some f) (rw none r)),
      none_in_nothing Utf8,
    )

all_count : (from : Form) (w : List ℕ) → 0 < length w → Lacks from w → fault_count from w ≡ parts_of from (length w)
all_count = by_form _ bytes_count (λ high. rw (is_units high, Lacks, parts_of) (units_count high))

one_part : (from : Form) (n : ℕ) → 0 < n → parts_of from (min (fault_len from) n) ≡ 1
one_part = by_form _ (λ n some. omega arith) (λ high. rw (is_units high, fault_len, parts_of) (λ n some. omega arith))

pub BeginsLast-few : (way : Way) (from : Form) (w : List ℕ) → 0 < length w → Lacks from w
    → BeginsLast way from w (replaced_by way from w) (len_at_end way from (length w)) (parts_of from (len_at_end way from (length w)))
BeginsLast-few Faults from w some lacks =
    let e = ends_by_fault from w some lacks in
    let least = fault_is_some from in
    rw (one_part from (length w) some) (record {
      leads = record {
        some = omega arith;
        within = omega arith;
        scalar = replacement;
        wide = λ h. absurd (omega arith);
        first = λ ss r. e.shows ss (rw (after_fault from w) at r);
      };
      few = omega arith;
      counts = rw (after_fault from w) e.counts;
    })
BeginsLast-few Subparts from w some lacks =
    let none : drop (length w) w ≡ [] = drop_all (length w) w (omega arith) in
    record {
      leads = Ends-few from w some lacks;
      few = no_more_parts from (length w);
      counts = rw none (omega (arith, all_count from w some lacks, none_in_nothing from));
    }
BeginsLast-few (Table t) from w some lacks =
    let e = ends_by_fault from w some lacks in
    let least = fault_is_some from in
    rw (one_part from (length w) some) (record {
      leads = Leads-few from t.chars.now w (min (fault_len from) (length w)) (omega arith) (omega arith) (after_fault from w) lacks;
      few = omega arith;
      counts = rw (after_fault from w) e.counts;
    })

-- What replaces a fault is decided by its front.

repaired_front : (from : Form) (table w : List ℕ) (n : ℕ) → 0 < n → (text_form from).repaired_fault table (take n w) ≡ (text_form from).repaired_fault table w
repaired_front = by_form _ (λ table w n some. ap (char_for table) (get_or-take n w 0 0 some)) (λ high. rw (is_units high) (λ table w n some. refl))

pub replaced_by_front : (way : Way) (from : Form) (w : List ℕ) (n : ℕ) → 0 < n → replaced_by way from (take n w) ≡ replaced_by way from w
replaced_by_front Faults from w n some = refl
replaced_by_front Subparts from w n some = refl
replaced_by_front (Table t) from w n some = repaired_front from t.chars.now w n some

pub begins_replaced : (way : Way) (from : Form) (bytes : List ℕ) (read n k : ℕ) (c : Option ℕ) → c ≡ replaced_by way from (take (length bytes - read) (drop read bytes))
    → BeginsBy way from (take 4 (drop read bytes)) (replaced_by way from (take 4 (drop read bytes))) n k → BeginsBy way from (take 4 (drop read bytes)) c n k
begins_replaced way from bytes read n k c e begins =
    let same : replaced_by way from (take 4 (drop read bytes)) ≡ c = replaced_by_front way from (drop read bytes) 4 (lit< tt) ∙ ap (replaced_by way from) (sym (take_rest bytes read)) ∙ sym e in
    subst (λ a. BeginsBy way from (take 4 (drop read bytes)) a n k) same begins
