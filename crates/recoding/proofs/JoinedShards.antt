-- Shards that are transcoded separately, and joined: with what a table has for each fault, as U+FFFD.
use Rattle.std.proofs.Common.{◌≡◌, ℕ, zero, suc, ◌+◌, ◌-◌, ◌*◌, ◌/◌, ◌<◌, ◌≤◌, ⊎_elim, Bool, Option, List, [], ◌∷◌, ◌++◌, length, take, drop, arith, refl, sym, subst, ◌∙◌, append_assoc, take-append-drop, length-append, length-drop}
use Rattle.std.proofs.lemmas.Bool.{cases_lt}
use Rattle.std.proofs.lemmas.Grind.{common_steps}
use Rattle.std.proofs.lemmas.List.{append-nil, drop-append-le, take_rest, length-take-le}
use Rattle.std.proofs.lemmas.List.Concat.{flat_map-append}
use Rattle.std.specs.List.{concat}
use Rattle.std.specs.Prelude.{slice_range}
use Rattle.utf_base.specs.Code.{IsCode, utf8, utf16}
use Rattle.utf_base.specs.Piece.{Stands, Inside}
use Rattle.utf_base.proofs.Cuts.{Finds, cut_exists}
use Rattle.utf_base.proofs.FrontLemmas.{utf8_finds}
use Rattle.utf_base.proofs.UnitLemmas.{utf16_finds}
use Rattle.utf_base.proofs.Standing.{outside_front, stands_in_part, stands_in_whole}
use Rattle.utf_base.proofs.Utf8Code.{utf8_is_code}
use Rattle.utf_base.proofs.Utf16Code.{utf16_is_code}
use Rattle.recoding.specs.declared.form.Form.{Form}
use Rattle.recoding.proofs.Forms.{by_form, is_units}
use Rattle.recoding.specs.Recoded.{written}
use Rattle.recoding.specs.Repaired.{IsRepaired, ReadsBy}
use Rattle.recoding.specs.RepairTables.{ShowsBy, ShowsUnitsBy, char_for, odd_end_by, unit_for}
use Rattle.utf_lanes.specs.BytePairs.{units_of}
use Rattle.utf_lanes.specs.Mending.{all_shown, scalars_of}
use Rattle.recoding.specs.Boundaries.{IsBoundary, IsUnitsEnd}
use Rattle.recoding.specs.Shards.{EachBecomes, RepairedShardsJoin, ShardsJoin, shards}
use Rattle.recoding.proofs.Blocks.{units_append, odd_append}
use Rattle.recoding.proofs.Repairing.{code_shows_first_by, fault_shows_first_by, nothing_is_repaired, same_repaired, shows_none_by, shows_one_by}
use Rattle.recoding.proofs.ReplacementTable.{recoded_by_table, replacements, table_of_recoded}
use Rattle.recoding.proofs.ShardLists.{Joins, shards_of}

-- no code covers an offset of the rest, if none covers that of the list
outside_rest : (code : ℕ → List ℕ) (xs : List ℕ) (i n : ℕ) → i ≤ length xs → i ≤ n → (Inside code xs n → ⊥) → Inside code (drop i xs) (n - i) → ⊥
outside_rest code xs i n le lo out v =
    let begins = v.begins in
    let ends = v.ends in
    let part : Stands code (slice_range xs i (length xs)) v.from v.char = rw (take_rest xs i) v.stands in
    let whole = stands_in_whole code xs i (length xs) v.from (i + v.from) v.char refl le (omega arith) part in
    out (record { from = i + v.from; char = v.char; stands = whole.0; begins = omega arith; ends = omega arith })

-- The scalars of two parts, if no code covers the offset between them.
module _ (shown : ℕ → Option ℕ) (code : ℕ → List ℕ) (c : IsCode code) (find : Finds code) where
  -- if no code begins the first part, none begins both
  none_begins : (w later : List ℕ) → 0 < length w → (Inside code (w ++ later) (length w) → ⊥) → ((s : ℕ) → Stands code w 0 s → ⊥)
      → (s : ℕ) → Stands code (w ++ later) 0 s → ⊥
  none_begins w later some out none s h =
      ⊎_elim
      (λ (over : length w < length (code s)). out (record { from = 0; char = s; stands = h; begins = some; ends = omega arith }))
      (λ (fits : length (code s) ≤ length w).
      let part : Stands code (slice_range (w ++ later) 0 (length w)) 0 s
      = stands_in_part code (w ++ later) 0 (length w) 0 0 s refl (omega (arith, length-append w later)) h (omega arith) in
      let front : slice_range (w ++ later) 0 (length w) ≡ w = grind (arith, common_steps) in
      none s (rw front at part))
      (cases_lt (length w) (length (code s)))

  outside_later : (w later : List ℕ) (k : ℕ) → k ≤ length w → (Inside code (w ++ later) (length w) → ⊥) → Inside code (drop k w ++ later) (length (drop k w)) → ⊥
  outside_later w later k le out v =
      let len : length (drop k w) ≡ length w - k = length-drop k w in
      outside_rest code (w ++ later) k (length w) (omega (arith, length-append w later)) le out
      (rw (drop-append-le k w later le) (rw len at v))

  shows_some : (xs : List ℕ) → (ss : List ℕ) × ShowsBy shown code xs ss
  shows_some xs = let cut = cut_exists code c find xs in (all_shown shown xs cut.0, (cut.0, cut.1, refl))

  both_show : (fuel : ℕ) (w later ss ts : List ℕ) → length w ≤ fuel → (Inside code (w ++ later) (length w) → ⊥)
      → ShowsBy shown code w ss → ShowsBy shown code later ts → ShowsBy shown code (w ++ later) (ss ++ ts)
  both_show fuel [] later ss ts le out a b = let none : ss ≡ [] = shows_one_by shown code c [] ss [] a (shows_none_by shown code c) in rw none b
  both_show zero (x ∷ w) later ss ts le out a b = absurd (omega arith)
  both_show (suc fuel) (x ∷ w) later ss ts le out a b =
      let front : List ℕ = x ∷ w in
      let whole = append-nil front in
      ⊎_elim
      (λ (h : (s : ℕ) × Stands code (x ∷ w) 0 s).
      let some = c.some h.0 h.1.scalar in
      let rest = shows_some (drop (length (code h.0)) (x ∷ w)) in
      let first : ShowsBy shown code front (h.0 ∷ rest.0)
      = subst (λ xs. ShowsBy shown code xs (h.0 ∷ rest.0)) whole (code_shows_first_by shown code c front [] h.0 rest.0 h.1 (rw (append-nil (drop (length (code h.0)) front)) rest.1)) in
      let same : ss ≡ h.0 ∷ rest.0 = shows_one_by shown code c (x ∷ w) ss (h.0 ∷ rest.0) a first in
      let both : ShowsBy shown code (drop (length (code h.0)) (x ∷ w) ++ later) (rest.0 ++ ts)
      = both_show fuel (drop (length (code h.0)) (x ∷ w)) later rest.0 ts (omega (arith, length-drop (length (code h.0)) (x ∷ w)))
      (outside_later (x ∷ w) later (length (code h.0)) (omega arith) out) rest.1 b in
      rw same (code_shows_first_by shown code c (x ∷ w) later h.0 (rest.0 ++ ts) h.1 both))
      (λ (none : (s : ℕ) → Stands code (x ∷ w) 0 s → ⊥).
      let some : 0 < length (x ∷ w) = omega arith in
      let rest = shows_some w in
      let fault : List ℕ = scalars_of (shown x) in
      let first : ShowsBy shown code front (fault ++ rest.0)
      = subst (λ xs. ShowsBy shown code xs (fault ++ rest.0)) whole
      (fault_shows_first_by shown code c front [] rest.0 some (λ s h. none s (subst (λ xs. Stands code xs 0 s) whole h)) (rw (append-nil w) rest.1)) in
      let same : ss ≡ fault ++ rest.0 = shows_one_by shown code c front ss (fault ++ rest.0) a first in
      let both : ShowsBy shown code (w ++ later) (rest.0 ++ ts)
      = both_show fuel w later rest.0 ts (omega arith) (outside_later (x ∷ w) later 1 (omega arith) out) rest.1 b in
      rw (same, append_assoc fault rest.0 ts) (fault_shows_first_by shown code c (x ∷ w) later (rest.0 ++ ts) some (none_begins (x ∷ w) later some out none) both))
      (find (x ∷ w))

-- The scalars of a list that is cut at an offset.
parts_show : (shown : ℕ → Option ℕ) (code : ℕ → List ℕ) → IsCode code → Finds code → (xs : List ℕ) (n : ℕ) (ss ts : List ℕ) → n ≤ length xs → (Inside code xs n → ⊥)
    → ShowsBy shown code (take n xs) ss → ShowsBy shown code (drop n xs) ts → ShowsBy shown code xs (ss ++ ts)
parts_show shown code c find xs n ss ts le out a b =
    let len : length (take n xs) ≡ n = length-take-le n xs le in
    let whole : take n xs ++ drop n xs ≡ xs = take-append-drop n xs in
    rw whole at (both_show shown code c find n (take n xs) (drop n xs) ss ts (omega arith) (rw (whole, len) out) a b)

-- Units of bytes.

count_of_units : (high : Bool) (v : List ℕ) (k : ℕ) → length v ≡ 2 * k → length (units_of high v) ≡ k
count_of_units high [] k h = omega arith
count_of_units high (a ∷ []) k h = absurd (omega arith)
count_of_units high (a ∷ b ∷ v) k h = let rest = count_of_units high v (k - 1) (omega arith) in omega arith

odd_none : (unit : Option ℕ) (v : List ℕ) (k : ℕ) → length v ≡ 2 * k → odd_end_by unit v ≡ []
odd_none unit v k h = rw (append-nil v) at (odd_append unit v [] k h)

-- if an offset is even the units up to it and from it on are those of the bytes
pub even_units : (high : Bool) (bytes : List ℕ) (n k : ℕ) → n ≤ length bytes → n ≡ 2 * k
    → (units_of high (take n bytes) ≡ take k (units_of high bytes)) × (units_of high (drop n bytes) ≡ drop k (units_of high bytes))
even_units high bytes n k le e =
    let len : length (take n bytes) ≡ 2 * k = length-take-le n bytes le ∙ e in
    let both = units_append high (take n bytes) (drop n bytes) k len in
    let split : units_of high bytes ≡ units_of high (take n bytes) ++ units_of high (drop n bytes) = rw (take-append-drop n bytes) at both in
    let count = count_of_units high (take n bytes) k len in (
      rw split (sym (take_front (units_of high (take n bytes)) (units_of high (drop n bytes)) k count)),
      rw split (sym (drop_front (units_of high (take n bytes)) (units_of high (drop n bytes)) k count)),
    )
  where
    take_front : (xs ys : List ℕ) (k : ℕ) → length xs ≡ k → take k (xs ++ ys) ≡ xs
    take_front xs ys k h = grind (arith, common_steps)

    drop_front : (xs ys : List ℕ) (k : ℕ) → length xs ≡ k → drop k (xs ++ ys) ≡ ys
    drop_front xs ys k h = grind (arith, common_steps)

pub units_within : (high : Bool) (bytes : List ℕ) (n k : ℕ) → n ≤ length bytes → n ≡ 2 * k → k ≤ length (units_of high bytes)
units_within high [] n k le e = omega arith
units_within high (a ∷ []) n k le e = omega arith
units_within high (a ∷ b ∷ v) n zero le e = omega arith
units_within high (a ∷ b ∷ v) n (suc k) le e = let rest = units_within high v (n - 2) k (omega arith) (omega arith) in omega arith

-- The scalars of parts of bytes.

units_show : (unit : Option ℕ) (high : Bool) (bytes : List ℕ) (n : ℕ) (ss ts : List ℕ) → n < length bytes → IsUnitsEnd high bytes n
    → ShowsUnitsBy unit high (take n bytes) ss → ShowsUnitsBy unit high (drop n bytes) ts → ShowsUnitsBy unit high bytes (ss ++ ts)
units_show unit high bytes n ss ts lt ends (us, a, e) (vs, b, f) =
    let even : n ≡ 2 * (n / 2) = let zero = ends.even lt in omega arith in
    let len : length (take n bytes) ≡ 2 * (n / 2) = length-take-le n bytes (omega arith) ∙ even in
    let units = even_units high bytes n (n / 2) (omega arith) even in
    let count = units_within high bytes n (n / 2) (omega arith) even in
    let odd : odd_end_by unit bytes ≡ odd_end_by unit (drop n bytes) = rw (take-append-drop n bytes) at (odd_append unit (take n bytes) (drop n bytes) (n / 2) len) in
    let none : odd_end_by unit (take n bytes) ≡ [] = odd_none unit (take n bytes) (n / 2) len in (
      us ++ vs,
      parts_show (λ u. unit) utf16 utf16_is_code utf16_finds (units_of high bytes) (n / 2) us vs count ends.outside (rw units.0 at a) (rw units.1 at b),
      rw (e, f, none, odd, append-nil us) (sym (append_assoc us vs (odd_end_by unit (drop n bytes)))),
    )

reads_parts : (from : Form) (table bytes : List ℕ) (n : ℕ) (ss ts : List ℕ) → n < length bytes → IsBoundary from bytes n
    → ReadsBy table from (take n bytes) ss → ReadsBy table from (drop n bytes) ts → ReadsBy table from bytes (ss ++ ts)
reads_parts =
    by_form _ (λ table bytes n ss ts lt out a b. parts_show (char_for table) utf8 utf8_is_code utf8_finds bytes n ss ts (omega arith) out a b)
    (λ high. rw (is_units high, IsBoundary, ReadsBy) (λ table. units_show (unit_for table) high))

repaired_parts : (table : List ℕ) (from to : Form) (bytes front rest : List ℕ) (n : ℕ) → n < length bytes → IsBoundary from bytes n
    → IsRepaired table from to (take n bytes) front → IsRepaired table from to (drop n bytes) rest → IsRepaired table from to bytes (front ++ rest)
repaired_parts table from to bytes front rest n lt out (ss, a, e) (ts, b, f) =
    (ss ++ ts, reads_parts from table bytes n ss ts lt out a b, rw (e, f) (sym (flat_map-append (written to) ss ts)))

-- Offsets of the whole and of its rest.

units_end_of_rest : (high : Bool) (bytes : List ℕ) (i n : ℕ) → i < length bytes → i ≤ n → n ≤ length bytes → IsUnitsEnd high bytes i → IsUnitsEnd high bytes n
    → IsUnitsEnd high (drop i bytes) (n - i)
units_end_of_rest high bytes i n lt lo le first end =
    let even : i ≡ 2 * (i / 2) = let zero = first.even lt in omega arith in
    let units = even_units high bytes i (i / 2) (omega arith) even in
    let place : (n - i) / 2 ≡ n / 2 - i / 2 = omega arith in
    let count : i / 2 ≤ length (units_of high bytes) = units_within high bytes i (i / 2) (omega arith) even in
    record {
      even = λ later. let zero = end.even (omega (arith, length-drop i bytes)) in omega arith;
      outside = rw (units.1, place) (outside_rest utf16 (units_of high bytes) (i / 2) (n / 2) count (omega arith) end.outside);
    }

pub end_of_rest : (from : Form) (bytes : List ℕ) (i n : ℕ) → i < length bytes → i ≤ n → n ≤ length bytes → IsBoundary from bytes i → IsBoundary from bytes n
    → IsBoundary from (drop i bytes) (n - i)
end_of_rest =
    by_form _ (λ bytes i n lt lo le first end. outside_rest utf8 bytes i n (omega arith) lo end)
    (λ high. rw (is_units high, IsBoundary) (units_end_of_rest high))

pub end_at_front : (from : Form) (bytes : List ℕ) → IsBoundary from bytes 0
end_at_front = by_form _ (outside_front utf8) (λ high. rw (is_units high, IsBoundary) (λ bytes. record { even = λ lt. refl; outside = outside_front utf16 (units_of high bytes) }))

-- The law.

repaired_joins : (table : List ℕ) (from to : Form) → Joins (IsBoundary from) (IsRepaired table from to) (λ parts outs. concat outs)
repaired_joins table from to = record {
  join = λ part out rest. out ++ rest;
  nothing = [];
  none = refl;
  more = λ part parts out outs. refl;
  front = end_at_front from;
  rest = end_of_rest from;
  two = repaired_parts table from to;
  one = λ bytes out h. rw (append-nil out) h;
  only = λ out h. same_repaired table from to [] out h ∙ nothing_is_repaired table from to;
}

pub repaired_shards_join : RepairedShardsJoin
repaired_shards_join table from to bytes places outs h b =
    shards_of (IsBoundary from) (IsRepaired table from to) (λ parts outs. concat outs) (repaired_joins table from to) bytes places outs h b

-- With U+FFFD for each byte it is the law without a table.
pub shards_join : ShardsJoin
shards_join from to bytes places outs h b =
    recoded_by_table from to bytes (concat outs)
    (repaired_shards_join replacements from to bytes places outs h (each_alike (table_of_recoded from to) (shards bytes 0 places) outs b))
  where
    each_alike : {becomes others : List ℕ → List ℕ → Type 0} → ((part out : List ℕ) → becomes part out → others part out)
        → (parts outs : List (List ℕ)) → EachBecomes becomes parts outs → EachBecomes others parts outs
    each_alike alike [] [] b = b
    each_alike alike [] (out ∷ outs) b = absurd b
    each_alike alike (part ∷ parts) [] b = absurd b
    each_alike alike (part ∷ parts) (out ∷ outs) b = (alike part out b.0, each_alike alike parts outs b.1)
