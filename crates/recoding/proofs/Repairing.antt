-- The output for bytes if a table has what a fault becomes: there is one list, and each step gives its front.
use Rattle.std.proofs.Common.{◌≡◌, ℕ, suc, ◌+◌, ◌-◌, ◌%◌, ◌<◌, ◌≤◌, Bool, true, false, Some, None, Option, List, [], ◌∷◌, ◌++◌, length, get_or, drop, map, flat_map, arith, refl, ap, ap₂, sym, ◌∙◌, subst, append_assoc, if◌then◌else◌, lit<}
use Rattle.std.specs.Prelude.{All, slice_get}
use Rattle.std.proofs.lemmas.Bool.Decides.{nat_tests}
use Rattle.std.proofs.lemmas.List.{append-nil, drop-append-le, get_or-drop}
use Rattle.utf_base.specs.Code.{IsCode, utf8, utf16}
use Rattle.utf_base.specs.Piece.{Piece, Stands}
use Rattle.utf_base.specs.Scalar.{IsScalar}
use Rattle.utf_base.specs.Units.{is_leading_surrogate, unit_fault_kind}
use Rattle.utf_base.specs.declared.errors.units.Utf16PairError.TheVariants.{Incomplete}
use Rattle.utf_base.proofs.CutChanges.{moved}
use Rattle.utf_base.proofs.Cuts.{cut_is_unique, cut_none}
use Rattle.utf_base.proofs.LaterLemmas.{no_code_at_last}
use Rattle.utf_base.proofs.Rests.{BeginsCut, code_begins, cut_first, fault_begins}
use Rattle.utf_base.proofs.Standing.{stands_first}
use Rattle.utf_base.proofs.Utf8Code.{utf8_is_code}
use Rattle.utf_base.proofs.Utf16Code.{utf16_is_code}
use Rattle.utf_lanes.specs.BytePairs.{bytes_of, unit_of, units_of}
use Rattle.utf_lanes.specs.Mending.{all_shown, scalars_of, shown_as}
use Rattle.recoding.specs.declared.form.Form.{Form}
use Rattle.recoding.specs.declared.form.Form.TheVariants.{Utf8}
use Rattle.recoding.specs.TextForms.{text_form, utf16_form}
use Rattle.recoding.specs.RepairTables.{ShowsBy, ShowsUnitsBy, char_for, char_of_entry, is_short_scalar, odd_end_by, unit_for}
use Rattle.recoding.specs.Lossy.{BeginsNoCode}
use Rattle.recoding.specs.NextScalars.{Leads, LeadsLast, ShowsEach, fault_len}
use Rattle.recoding.specs.Recoded.{IsProperFront, Lacks, written}
use Rattle.recoding.specs.Repaired.{IsRepaired, ReadsBy, repaired, shown_by_table}
use Rattle.recoding.proofs.CopiedUnits.{joined_bytes}
use Rattle.recoding.proofs.Forms.{by_form, is_units}
use Rattle.recoding.proofs.FrontBytes.{few_units, first_unit, replacement, units_two}
use Rattle.recoding.proofs.HeldFronts.{leading_by_itself, no_code_in_front, two_do_not_lack}
use Rattle.recoding.proofs.SubpartLengths.{some_where_no_code}
use Rattle.recoding.proofs.TextLaws.{units_of_bytes}

-- The entries of a table are scalars.

pub record IsShort (s : ℕ) : Type 0 where
  pub scalar : IsScalar s
  pub short : s < 0x1_0000

short_by_test : (n : ℕ) → is_short_scalar n ≡ true → IsShort n
short_by_test n e = record { scalar = record { below = grind (arith, nat_tests); no_surrogate = grind (arith, nat_tests) }; short = grind (arith, nat_tests) }

short_by : (b : Bool) (n s : ℕ) → (b ≡ true → IsShort n) → (if b then Some n else None) ≡ Some s → IsShort s
short_by true n s short e = let same : n ≡ s = cc in subst IsShort same (short refl)
short_by false n s short e = absurd cc

entry_short : (entry : Option ℕ) (s : ℕ) → char_of_entry entry ≡ Some s → IsShort s
entry_short None s e = absurd cc
entry_short (Some n) s e = short_by (is_short_scalar n) n s (short_by_test n) e

pub char_short : (table : List ℕ) (byte s : ℕ) → char_for table byte ≡ Some s → IsShort s
char_short table byte s e = entry_short (slice_get table (byte % 0x80)) s e

pub unit_short : (table : List ℕ) (s : ℕ) → unit_for table ≡ Some s → IsShort s
unit_short [] s e = absurd cc
unit_short (n ∷ table) s e = let same : 0xFFFD ≡ s = cc in subst IsShort same (record { scalar = replacement; short = omega arith })

-- The scalars of the pieces of a list.

shown_of_moved : (shown : ℕ → Option ℕ) (xs : List ℕ) (n : ℕ) (ps : List Piece) → all_shown shown xs (map (moved 0 n) ps) ≡ all_shown shown (drop n xs) ps
shown_of_moved shown xs n [] = refl
shown_of_moved shown xs n (x ∷ ps) =
    let at : n + (x.start - 0) ≡ n + x.start = omega arith in
    ap₂ (λ a ys. scalars_of (shown_as x.char (shown a)) ++ ys) (ap (λ k. get_or xs k 0) at ∙ sym (get_or-drop n xs x.start 0)) (shown_of_moved shown xs n ps)

front_element : (w later : List ℕ) → 0 < length w → get_or (w ++ later) 0 0 ≡ get_or w 0 0
front_element [] later some = absurd (omega arith)
front_element (x ∷ w) later some = refl

module _ (shown : ℕ → Option ℕ) (code : ℕ → List ℕ) (c : IsCode code) where
  shows_first : (xs : List ℕ) (n : ℕ) (a : Option ℕ) (ss : List ℕ) → BeginsCut code xs n a → ShowsBy shown code (drop n xs) ss → ShowsBy shown code xs (scalars_of (shown_as a (shown (get_or xs 0 0))) ++ ss)
  shows_first xs n a ss b (ps, cut, e) = (
    record { start = 0; len = n; char = a } ∷ map (moved 0 n) ps,
    cut_first code c xs n a ps b cut,
    ap (λ ts. scalars_of (shown_as a (shown (get_or xs 0 0))) ++ ts) (e ∙ sym (shown_of_moved shown xs n ps)),
  )

  pub code_shows_first_by : (w later : List ℕ) (s : ℕ) (ss : List ℕ) → Stands code w 0 s → ShowsBy shown code (drop (length (code s)) w ++ later) ss → ShowsBy shown code (w ++ later) (s ∷ ss)
  code_shows_first_by w later s ss h r =
      let within = h.within in
      let e : drop (length (code s)) (w ++ later) ≡ drop (length (code s)) w ++ later = drop-append-le (length (code s)) w later (omega arith) in
      shows_first (w ++ later) (length (code s)) (Some s) ss (code_begins code c w later s h) (rw e r)

  pub fault_shows_first_by : (w later ss : List ℕ) → 0 < length w → ((s : ℕ) → Stands code (w ++ later) 0 s → ⊥) → ShowsBy shown code (drop 1 w ++ later) ss
      → ShowsBy shown code (w ++ later) (scalars_of (shown (get_or w 0 0)) ++ ss)
  fault_shows_first_by w later ss some none r =
      let e : drop 1 (w ++ later) ≡ drop 1 w ++ later = drop-append-le 1 w later (omega arith) in
      rw (front_element w later some) at (shows_first (w ++ later) 1 None ss (fault_begins code c w later some none) (rw e r))

  pub shows_none_by : ShowsBy shown code [] []
  shows_none_by = ([], cut_none code [] 0, refl)

  pub shows_one_by : (xs ss ts : List ℕ) → ShowsBy shown code xs ss → ShowsBy shown code xs ts → ss ≡ ts
  shows_one_by xs ss ts (ps, a, e) (qs, b, f) = e ∙ ap (all_shown shown xs) (cut_is_unique code c xs ps qs a b) ∙ sym f

  pub codes_show_by : (cs later ss : List ℕ) → All IsScalar cs → ShowsBy shown code later ss → ShowsBy shown code (flat_map code cs ++ later) (cs ++ ss)
  codes_show_by [] later ss all r = r
  codes_show_by (s ∷ cs) later ss all r =
      let rest : List ℕ = flat_map code cs ++ later in
      let next = codes_show_by cs later ss (λ k d lt. all (suc k) d (omega arith)) r in
      let stands : Stands code (code s ++ rest) 0 s = stands_first code (code s ++ rest) rest s (all 0 s (omega arith)) refl in
      let here = code_shows_first_by (code s ++ rest) [] s (cs ++ ss) stands (rw (append-nil (drop (length (code s)) (code s ++ rest)), dropped (code s) rest) next) in
      rw (append_assoc (code s) (flat_map code cs) later) (rw (append-nil (code s ++ rest)) at here)
    where
      dropped : (a b : List ℕ) → drop (length a) (a ++ b) ≡ b
      dropped [] b = refl
      dropped (x ∷ a) b = dropped a b

-- Units, and half a unit.

odd_of_bytes : (unit : Option ℕ) (high : Bool) (us later : List ℕ) → odd_end_by unit (flat_map (bytes_of high) us ++ later) ≡ odd_end_by unit later
odd_of_bytes unit high [] later = refl
odd_of_bytes unit true (u ∷ us) later = odd_of_bytes unit true us later
odd_of_bytes unit false (u ∷ us) later = odd_of_bytes unit false us later

odd_two : (unit : Option ℕ) (w later : List ℕ) → 2 ≤ length w → odd_end_by unit (w ++ later) ≡ odd_end_by unit (drop 2 w ++ later)
odd_two unit [] later h = absurd (omega arith)
odd_two unit (a ∷ []) later h = absurd (omega arith)
odd_two unit (a ∷ b ∷ w) later h = refl

units_one : (unit : Option ℕ) (high : Bool) (bytes ss ts : List ℕ) → ShowsUnitsBy unit high bytes ss → ShowsUnitsBy unit high bytes ts → ss ≡ ts
units_one unit high bytes ss ts (xs, a, e) (ys, b, f) = e ∙ ap (λ zs. zs ++ odd_end_by unit bytes) (shows_one_by (λ u. unit) utf16 utf16_is_code (units_of high bytes) xs ys a b) ∙ sym f

units_text : (unit : Option ℕ) (high : Bool) (cs : List ℕ) → All IsScalar cs → ShowsEach (ShowsUnitsBy unit high) (flat_map (bytes_of high) (flat_map utf16 cs)) cs
units_text unit high cs all later ss (ts, r, f) = (
  cs ++ ts,
  rw (units_of_bytes high (flat_map utf16 cs) later) (codes_show_by (λ u. unit) utf16 utf16_is_code cs (units_of high later) ts all r),
  ap (λ xs. cs ++ xs) f ∙ sym (append_assoc cs ts (odd_end_by unit later)) ∙ ap (λ o. (cs ++ ts) ++ o) (sym (odd_of_bytes unit high (flat_map utf16 cs) later)),
)

-- a unit that begins no code, before others
unit_first : (unit : Option ℕ) (high : Bool) (w later ss : List ℕ) → 2 ≤ length w → ((s : ℕ) → Stands utf16 (first_unit high w ∷ units_of high (drop 2 w ++ later)) 0 s → ⊥)
    → ShowsUnitsBy unit high (drop 2 w ++ later) ss → ShowsUnitsBy unit high (w ++ later) (scalars_of unit ++ ss)
unit_first unit high w later ss two none (ts, r, f) = (
  scalars_of unit ++ ts,
  rw (units_two high w later two) (fault_shows_first_by (λ u. unit) utf16 utf16_is_code (first_unit high w ∷ []) (units_of high (drop 2 w ++ later)) ts (lit< tt) none r),
  ap (λ xs. scalars_of unit ++ xs) (f ∙ ap (λ o. ts ++ o) (sym (odd_two unit w later two))) ∙ sym (append_assoc (scalars_of unit) ts (odd_end_by unit (w ++ later))),
)

-- In any encoding.

repairs_one : (from : Form) (table bytes ss ts : List ℕ) → ReadsBy table from bytes ss → ReadsBy table from bytes ts → ss ≡ ts
repairs_one = by_form _ (λ table. shows_one_by (char_for table) utf8 utf8_is_code) (λ high. rw (is_units high, ReadsBy) (λ table. units_one (unit_for table) high))

repairs_are_read : (table : List ℕ) (from : Form) (bytes : List ℕ) → ReadsBy table from bytes (shown_by_table table from bytes)
unfolding shown_by_table
repairs_are_read table from bytes = ((text_form from).repairs_some table bytes).1

pub repaired_is : (table : List ℕ) (from to : Form) (bytes : List ℕ) → IsRepaired table from to bytes (repaired table from to bytes)
unfolding repaired
repaired_is table from to bytes = (shown_by_table table from bytes, repairs_are_read table from bytes, refl)

pub same_repaired : (table : List ℕ) (from to : Form) (bytes out : List ℕ) → IsRepaired table from to bytes out → out ≡ repaired table from to bytes
same_repaired table from to bytes out (ss, r, e) =
    let whole = repaired_is table from to bytes in
    e ∙ ap (flat_map (written to)) (repairs_one from table bytes ss whole.0 r whole.1) ∙ sym whole.2

pub nothing_is_repaired : (table : List ℕ) (from to : Form) → repaired table from to [] ≡ []
nothing_is_repaired table from to = sym (same_repaired table from to [] [] ([], none from table, refl))
  where
    none : (from : Form) (table : List ℕ) → ReadsBy table from [] []
    none = by_form _ (λ table. shows_none_by (char_for table) utf8 utf8_is_code) (λ high. rw (is_units high, ReadsBy) (λ table. ([], shows_none_by (λ u. unit_for table) utf16 utf16_is_code, refl)))

pub text_repaired : (from : Form) (table cs : List ℕ) → All IsScalar cs → ShowsEach (ReadsBy table from) (flat_map (written from) cs) cs
text_repaired =
    by_form _
    (λ table cs all later ss h. codes_show_by (char_for table) utf8 utf8_is_code cs later ss all h)
    (λ high. rw (is_units high, ReadsBy, written) (λ table cs all. rw (joined_bytes high cs) (units_text (unit_for table) high cs all)))

-- What replaces a fault.

module _ (reads : List ℕ → List ℕ → Type 0) (w : List ℕ) {n : ℕ} (some : 0 < n) (within : n ≤ length w) where
  leads_of : (c : Option ℕ) → ((s : ℕ) → c ≡ Some s → IsShort s) → ((later ss : List ℕ) → reads (drop n w ++ later) ss → reads (w ++ later) (scalars_of c ++ ss)) → Leads reads w c n
  leads_of None short first = record { some = some; within = within; first = first }
  leads_of (Some s) short first = let h = short s refl in record { some = some; within = within; scalar = h.scalar; wide = λ high. absurd (omega (arith, h.short)); first = first }

  leads_last_of : (c : Option ℕ) → ((s : ℕ) → c ≡ Some s → IsShort s) → ((ss : List ℕ) → reads (drop n w) ss → reads w (scalars_of c ++ ss)) → LeadsLast reads w c n
  leads_last_of None short first = record { some = some; within = within; first = first }
  leads_last_of (Some s) short first = let h = short s refl in record { some = some; within = within; scalar = h.scalar; wide = λ high. absurd (omega (arith, h.short)); first = first }

pub Leads-byte : (table w : List ℕ) → BeginsNoCode w → Leads (ReadsBy table Utf8) w (char_for table (get_or w 0 0)) 1
Leads-byte table w none =
    let some = some_where_no_code w none in
    leads_of (ReadsBy table Utf8) w (omega arith) (omega arith) (char_for table (get_or w 0 0)) (char_short table (get_or w 0 0))
    (λ later ss r. fault_shows_first_by (char_for table) utf8 utf8_is_code w later ss some (none later) r)

pub Leads-unit : (table : List ℕ) (high : Bool) (w : List ℕ) → 2 ≤ length w → ((later : List ℕ) (s : ℕ) → Stands utf16 (first_unit high w ∷ units_of high (drop 2 w ++ later)) 0 s → ⊥)
    → Leads (ReadsBy table (utf16_form high)) w (unit_for table) 2
Leads-unit table high w two none =
    rw (is_units high, ReadsBy) (leads_of (ShowsUnitsBy (unit_for table) high) w (omega arith) two (unit_for table) (unit_short table) (λ later ss r. unit_first (unit_for table) high w later ss two (none later) r))

-- Too few bytes at the end.

ends_in_front : (table w : List ℕ) → 0 < length w → IsProperFront utf8 w → (ss : List ℕ) → ReadsBy table Utf8 (drop 1 w) ss → ReadsBy table Utf8 w (scalars_of (char_for table (get_or w 0 0)) ++ ss)
ends_in_front table w some f ss r =
    let none : (s : ℕ) → Stands utf8 (w ++ []) 0 s → ⊥ = λ s h. no_code_in_front utf8 utf8_is_code w f.char s f.scalar f.longer f.front (rw (append-nil w) at h) in
    rw (append-nil w) at (fault_shows_first_by (char_for table) utf8 utf8_is_code w [] ss some none (rw (append-nil (drop 1 w)) r))

-- a leading surrogate, and at most one byte after it
ends_in_leading : (unit : Option ℕ) (high : Bool) (w : List ℕ) → 2 ≤ length w → length w < 4 → is_leading_surrogate (first_unit high w) ≡ true → (ss : List ℕ)
    → ShowsUnitsBy unit high (drop 2 w) ss → ShowsUnitsBy unit high w (scalars_of unit ++ ss)
ends_in_leading unit high w two few l ss r =
    let rest : units_of high (drop 2 w) ≡ [] = few_units high (drop 2 w) (few_left w few) in
    let none : (s : ℕ) → Stands utf16 (first_unit high w ∷ units_of high (drop 2 w ++ [])) 0 s → ⊥ = λ s h. no_code_at_last (first_unit high w) s l (rw (append-nil (drop 2 w), rest) at h) in
    rw (append-nil w) at (unit_first unit high w [] ss two none (rw (append-nil (drop 2 w)) r))
  where
    few_left : (w : List ℕ) → length w < 4 → length (drop 2 w) < 2
    few_left [] few = lit< tt
    few_left (a ∷ []) few = lit< tt
    few_left (a ∷ b ∷ w) few = omega arith

nothing_shown : (unit : Option ℕ) (ss : List ℕ) → ShowsUnitsBy unit true [] ss → ss ≡ []
nothing_shown unit ss (ts, r, f) = f ∙ append-nil ts ∙ shows_one_by (λ u. unit) utf16 utf16_is_code [] ts [] r (shows_none_by (λ u. unit) utf16 utf16_is_code)

nothing_in_order : (unit : Option ℕ) (high : Bool) (ss : List ℕ) → ShowsUnitsBy unit high [] ss → ShowsUnitsBy unit true [] ss
nothing_in_order unit true ss r = r
nothing_in_order unit false ss r = r

half_unit : (unit : Option ℕ) (high : Bool) (a : ℕ) (ss : List ℕ) → ShowsUnitsBy unit high [] ss → ShowsUnitsBy unit high (a ∷ []) (scalars_of unit ++ ss)
half_unit unit high a ss r = ([], shows_none_by (λ u. unit) utf16 utf16_is_code, ap (λ xs. scalars_of unit ++ xs) (nothing_shown unit ss (nothing_in_order unit high ss r)) ∙ append-nil (scalars_of unit))

ends_by_unit : (unit : Option ℕ) (high : Bool) (w : List ℕ) → 0 < length w → unit_fault_kind (units_of high w) ≡ Some Incomplete → (ss : List ℕ) → ShowsUnitsBy unit high (drop 2 w) ss
    → ShowsUnitsBy unit high w (scalars_of unit ++ ss)
ends_by_unit unit high [] some h ss r = absurd (omega arith)
ends_by_unit unit high (a ∷ []) some h ss r = half_unit unit high a ss r
ends_by_unit unit high (a ∷ b ∷ []) some h ss r = ends_in_leading unit high (a ∷ b ∷ []) (omega arith) (lit< tt) (leading_by_itself (unit_of high a b) h) ss r
ends_by_unit unit high (a ∷ b ∷ c ∷ []) some h ss r = ends_in_leading unit high (a ∷ b ∷ c ∷ []) (omega arith) (lit< tt) (leading_by_itself (unit_of high a b) h) ss r
ends_by_unit unit high (a ∷ b ∷ c ∷ d ∷ w) some h ss r = absurd (two_do_not_lack _ _ _ h)

ends_repaired : (from : Form) (table w : List ℕ) → 0 < length w → Lacks from w → (ss : List ℕ) → ReadsBy table from (drop (fault_len from) w) ss
    → ReadsBy table from w (scalars_of ((text_form from).repaired_fault table w) ++ ss)
ends_repaired = by_form _ ends_in_front (λ high. rw (is_units high, Lacks, ReadsBy, fault_len) (λ table. ends_by_unit (unit_for table) high))

fault_short : (from : Form) (table w : List ℕ) (s : ℕ) → (text_form from).repaired_fault table w ≡ Some s → IsShort s
fault_short = by_form _ (λ table w. char_short table (get_or w 0 0)) (λ high. rw (is_units high) (λ table w. unit_short table))

pub Leads-few : (from : Form) (table w : List ℕ) (n : ℕ) → 0 < n → n ≤ length w → drop n w ≡ drop (fault_len from) w → Lacks from w
    → LeadsLast (ReadsBy table from) w ((text_form from).repaired_fault table w) n
Leads-few from table w n some within same lacks =
    leads_last_of (ReadsBy table from) w some within ((text_form from).repaired_fault table w) (fault_short from table w) (λ ss r. ends_repaired from table w (omega arith) lacks ss (rw same at r))
