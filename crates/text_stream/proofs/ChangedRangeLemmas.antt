-- If a part of some bytes is replaced: a run over them reaches each offset that no code covers, and such
-- offsets stay.
use Rattle.std.proofs.Common.{◌≡◌, ℕ, zero, suc, ◌+◌, ◌-◌, ◌*◌, ◌/◌, ◌%◌, ◌<◌, ◌≤◌, ◌⊎◌, ⊎_elim, Bool, true, false, List, [], ◌∷◌, ◌++◌, length, length-append, length-drop, drop, take, Option, Some, None, arith, refl, ap, ap₂, sym, subst, ◌∙◌, append_assoc}
use Rattle.std.proofs.lemmas.Bool.{cases_lt}
use Rattle.std.proofs.lemmas.List.{append-nil, drop-append-le, drop-drop, length-take-le, take-append-drop}
use Rattle.std.proofs.Math.Seq.{drop-append-add}
use Rattle.std.specs.List.{splice}
use Rattle.utf_base.specs.Code.{utf8, utf16}
use Rattle.utf_base.specs.Kinds.{merger_kind, value}
use Rattle.utf_base.specs.Piece.{Inside}
use Rattle.utf_base.specs.Units.{is_leading_surrogate, is_trailing_surrogate}
use Rattle.utf_base.specs.declared.errors.Utf8ErrorKind.{Utf8ErrorKind}
use Rattle.utf_base.specs.declared.errors.units.Utf16PairError.TheVariants.{UnexpectedTrailingSurrogate}
use Rattle.utf_base.proofs.FrontLemmas.{code_where_no_fault}
use Rattle.utf_base.proofs.MergerLemmas.{merger_none}
use Rattle.utf_base.proofs.Utf16Code.{length_utf16}
use Rattle.utf_lanes.specs.BytePairs.{units_of, unit_of}
use Rattle.encode_unicode.specs.Mergers.{decoded_by_merger}
use Rattle.encode_unicode.specs.Window.{as_piece}
use Rattle.recoding.specs.NextScalars.{HasByteOrder}
use Rattle.recoding.specs.Boundaries.{IsBoundary, IsUnitsEnd}
use Rattle.recoding.specs.declared.faults.FaultKind.TheVariants as kind
use Rattle.recoding.specs.declared.form.Form.{Form}
use Rattle.recoding.specs.declared.form.Form.TheVariants.{Utf8}
use Rattle.recoding.specs.TextForms.{utf16_form}
use Rattle.recoding.proofs.Forms.{by_form, is_units}
use Rattle.recoding.proofs.FirstPieces.{BeginsFault-trailing}
use Rattle.recoding.proofs.FrontBytes.{first_unit}
use Rattle.recoding.proofs.JoinedShards.{even_units, units_within}
use Rattle.recoding.proofs.LastBoundaries.{stands_in_list}
use Rattle.text_stream.specs.declared.located.LocatedPiece.{LocatedPiece}
use Rattle.text_stream.specs.ChangedRanges.{BeginWith, KeepUnits, PiecesStay}
use Rattle.text_stream.specs.Located.{Begins, Locates, Told, at_offset, first_told, located, told_as, wrapped}
use Rattle.text_stream.proofs.FrontTold.{fault_begins, leading_last, lacking_units, plain_begins, told_len, units_len}
use Rattle.text_runs.proofs.JoinedPieces.{inside_front, inside_rest, near_rest_of}
use Rattle.text_stream.proofs.LocatedLemmas.{Locates-none, Locates-one, Locates-then, first_some, located_first}
use Rattle.text_stream.proofs.MergedFronts.{merged_code, merged_kind}
use Rattle.text_runs.proofs.SplicedPlaces.{stays_outside_after}
use Rattle.text_stream.proofs.UnitFaults.{count_units}
use Rattle.text_stream.proofs.UndecidedLemmas.{EndsBy, units_end_by, units_end_near, utf8_ends}

-- An offset that is increased.
counted_on : (p n : ℕ) → wrapped (wrapped p + n) ≡ wrapped (p + n)
counted_on p n = omega arith

-- Whatever follows: a run goes from offset to offset, up to the last at which pieces end.
module _ (form : Form) (bytes : List ℕ) (end : ℕ) (IsStart : ℕ → Type 0) (ends : (p : ℕ) → p < end → IsStart p → EndsBy form bytes p end)
    (on : (p : ℕ) (lt : p < end) (s : IsStart p) → IsStart (p + (ends p lt s).piece.1)) where
  abbrev LocatesTo : ℕ → Type 0
  LocatesTo p = (given : List LocatedPiece) × Locates form (wrapped p) (drop p bytes) given (wrapped end) (drop end bytes)

  locates_end : (p : ℕ) → p ≡ end → LocatesTo p
  locates_end p e = ([], subst (λ k. Locates form (wrapped p) (drop p bytes) [] (wrapped k) (drop k bytes)) e (Locates-none form (wrapped p) (drop p bytes)))

  locates_to : (fuel p : ℕ) → end ≤ p + fuel → p ≤ end → IsStart p → LocatesTo p
  locates_to zero p enough le s = locates_end p (omega arith)
  locates_to (suc fuel) p enough le s =
      ⊎_elim
      (λ (lt : p < end).
      let one = ends p lt s in
      let x = one.piece in
      let some = one.begins.some in
      let fits = one.fits in
      let (given, rest) = locates_to fuel (p + x.1) (omega arith) fits (on p lt s) in
      let first : Locates form (wrapped p) (drop p bytes) (at_offset (wrapped p) x ∷ []) (wrapped (p + x.1)) (drop (p + x.1) bytes)
      = subst (λ k. Locates form (wrapped p) (drop p bytes) (at_offset (wrapped p) x ∷ []) k (drop (p + x.1) bytes)) (counted_on p x.1)
      (subst (λ z. Locates form (wrapped p) (drop p bytes) (at_offset (wrapped p) x ∷ []) (wrapped (wrapped p + x.1)) z) (drop-drop x.1 p bytes) (Locates-one (wrapped p) one.begins)) in
      ((at_offset (wrapped p) x ∷ []) ++ given, Locates-then first rest))
      (λ (ge : end ≤ p). locates_end p (omega arith))
      (cases_lt p end)

-- The bytes as they are: a run reaches each offset at which no piece that begins before it ends later.
module _ (form : Form) (bytes : List ℕ) (end : ℕ) (le : end ≤ length bytes) (IsStart : ℕ → Type 0) (fits : (p : ℕ) → p < end → IsStart p → p + (first_told form (drop p bytes)).1 ≤ end)
    (on : (p : ℕ) → p < end → IsStart p → IsStart (p + (first_told form (drop p bytes)).1)) where
  abbrev RunsTo : ℕ → Type 0
  RunsTo p = (given : List LocatedPiece) × (located form (wrapped p) (drop p bytes) ≡ given ++ located form (wrapped end) (drop end bytes))

  runs_end : (p : ℕ) → p ≡ end → RunsTo p
  runs_end p e = ([], ap (λ k. located form (wrapped k) (drop k bytes)) e)

  runs_to : (fuel p : ℕ) → end ≤ p + fuel → p ≤ end → IsStart p → RunsTo p
  runs_to zero p enough lo s = runs_end p (omega arith)
  runs_to (suc fuel) p enough lo s =
      ⊎_elim
      (λ (lt : p < end).
      let w = drop p bytes in
      let x = first_told form w in
      let left : length w ≡ length bytes - p = length-drop p bytes in
      let some : 1 ≤ x.1 = first_some form w (omega arith) in
      let (given, rest) = runs_to fuel (p + x.1) (omega arith) (fits p lt s) (on p lt s) in
      let first : located form (wrapped p) w ≡ at_offset (wrapped p) x ∷ located form (wrapped (wrapped p + x.1)) (drop x.1 w) = located_first form (wrapped p) w (omega arith) in
      let same : located form (wrapped (wrapped p + x.1)) (drop x.1 w) ≡ located form (wrapped (p + x.1)) (drop (p + x.1) bytes) = ap₂ (located form) (counted_on p x.1) (drop-drop x.1 p bytes) in
      (at_offset (wrapped p) x ∷ given, first ∙ ap (λ ps. at_offset (wrapped p) x ∷ ps) (same ∙ rest)))
      (λ (ge : end ≤ p). runs_end p (omega arith))
      (cases_lt p end)

-- If no code of UTF-8 covers the offset.
utf8_fits : (bytes : List ℕ) (end : ℕ) → end ≤ length bytes → (Inside utf8 bytes end → ⊥) → (p : ℕ) → p < end → p + (first_told Utf8 (drop p bytes)).1 ≤ end
unfolding first_told
utf8_fits bytes end le outside p lt = by (merger_kind (drop p bytes)) refl
  where
    by : (k : Option Utf8ErrorKind) → merger_kind (drop p bytes) ≡ k → p + (told_as kind.Utf8 (as_piece (decoded_by_merger (drop p bytes)))).1 ≤ end
    by None e =
        let s = value (drop p bytes) in
        let code = (code_where_no_fault (drop p bytes) (merger_none (drop p bytes) e)).0 in
        rw (merged_code (drop p bytes) s code)
        (⊎_elim
        (λ (over : end < p + length (utf8 s)). absurd (outside (record { from = p; char = s; stands = stands_in_list utf8 bytes p s (omega arith) code; begins = lt; ends = over })))
        (λ (fits : p + length (utf8 s) ≤ end). fits)
        (cases_lt end (p + length (utf8 s))))
    by (Some k) e = rw (merged_kind (drop p bytes) k e) (omega arith)

-- If no unit or pair of UTF-16 covers the offset.
module _ (high : Bool) (from : Form) (form : HasByteOrder high from) (bytes : List ℕ) (end : ℕ) (le : end ≤ length bytes) (at_end : IsUnitsEnd high bytes end) where
  -- an offset of a run, which is the end or the offset of a unit
  abbrev StartsUnit : ℕ → Type 0
  StartsUnit p = p < length bytes → p % 2 ≡ 0

  units_on : (p : ℕ) → p < end → StartsUnit p → StartsUnit (p + (first_told from (drop p bytes)).1)
  units_on p lt start later =
      let left : length (drop p bytes) ≡ length bytes - p = length-drop p bytes in
      let (n, e) = told_len high from form (drop p bytes) (omega arith) in
      let even = start (omega arith) in
      omega arith

  begun : (p : ℕ) (x : Told) → Begins from (drop p bytes) x → (first_told from (drop p bytes)).1 ≡ x.1
  begun p x b = ap (λ (y : Told). y.1) (sym (ap (first_told from) (append-nil (drop p bytes))) ∙ b.first [])

  -- one unit, and less than two bytes after it
  one_unit_fits : (p : ℕ) → 2 ≤ length (drop p bytes) → length (drop p bytes) < 4 → (t l : Bool) → is_trailing_surrogate (first_unit high (drop p bytes)) ≡ t → is_leading_surrogate (first_unit high (drop p bytes)) ≡ l
      → (first_told from (drop p bytes)).1 ≤ 2
  one_unit_fits p two few true l is_t is_l =
      omega (arith, begun p _ (fault_begins high from form (drop p bytes) UnexpectedTrailingSurrogate (BeginsFault-trailing high from (drop p bytes) form two is_t)))
  one_unit_fits p two few false false is_t is_l = omega (arith, begun p _ (plain_begins high from form (drop p bytes) two is_t is_l))
  one_unit_fits p two few false true is_t is_l =
      omega (arith, ap (λ (y : Told). y.1) (leading_last high from form (drop p bytes) two few is_l ∙ lacking_units high from (length (drop p bytes)) form))

  units_fit : (p : ℕ) → p < end → StartsUnit p → p + (first_told from (drop p bytes)).1 ≤ end
  units_fit p lt start =
      let w = drop p bytes in
      let left : length w ≡ length bytes - p = length-drop p bytes in
      let within = (units_len high from form w (omega arith)).2 in
      let even = start (omega arith) in
      ⊎_elim
      (λ (short : end < length bytes).
      let even_end = at_end.even short in
      ⊎_elim
      (λ (few : length w < 4). let one = one_unit_fits p (omega arith) few _ _ refl refl in omega arith)
      (λ (four : 4 ≤ length w).
      let ends = units_end_by high from form bytes end even_end at_end p lt even four in
      let fits = ends.by.fits in
      omega (arith, begun p ends.by.piece ends.by.begins))
      (cases_lt (length w) 4))
      (λ (all : length bytes ≤ end). omega arith)
      (cases_lt end (length bytes))

-- A run reaches each offset that no code covers.
pub run_comes : (form : Form) (bytes : List ℕ) (end : ℕ) → end ≤ length bytes → IsBoundary form bytes end → (given : List LocatedPiece) × BeginWith form bytes given end (drop end bytes)
run_comes =
    by_form _ (λ bytes end le out. runs_to Utf8 bytes end le (λ p. 0 ≤ p) (λ p lt s. utf8_fits bytes end le out p lt) (λ p lt s. omega arith) end 0 (omega arith) (omega arith) (omega arith))
    (λ high bytes end le out.
    let at_end : IsUnitsEnd high bytes end = rw (is_units high, IsBoundary) at out in
    runs_to (utf16_form high) bytes end le _ (units_fit high (utf16_form high) refl bytes end le at_end) (units_on high (utf16_form high) refl bytes end le at_end) end 0 (omega arith) (omega arith) (λ some. refl))

-- The pieces that end before an offset are the same, whatever follows it.

units_before : (high : Bool) (w v : List ℕ) → (us : List ℕ) × (units_of high (w ++ v) ≡ units_of high w ++ us)
units_before high [] v = (units_of high v, refl)
units_before high (a ∷ []) v = (units_of high (a ∷ v), refl)
units_before high (a ∷ b ∷ w) v = let (us, e) = units_before high w v in (us, ap (λ vs. unit_of high a b ∷ vs) e)

units_end_before : (high : Bool) (w v : List ℕ) (n : ℕ) → n < length w → IsUnitsEnd high (w ++ v) n → IsUnitsEnd high w n
units_end_before high w v n lt end =
    let (us, e) = units_before high w v in
    record {
      even = λ _. end.even (omega (arith, length-append w v));
      outside = λ i. end.outside (rw e (inside_front utf16 (units_of high w) us (n / 2) i));
    }

end_before : (form : Form) (w v : List ℕ) (n : ℕ) → n < length w → IsBoundary form (w ++ v) n → IsBoundary form w n
end_before = by_form _ (λ w v n lt end i. end (inside_front utf8 w v n i)) (λ high. rw (is_units high, IsBoundary) (units_end_before high))

abbrev Comes : Form → List ℕ → ℕ → Type 0
Comes form w n = (given : List LocatedPiece) × Locates form (wrapped 0) w given (wrapped n) (drop n w)

comes_before : (form : Form) (w : List ℕ) (n : ℕ) → n + 3 ≤ length w → IsBoundary form w n → Comes form w n
comes_before =
    by_form _ (λ w n near end. locates_to Utf8 w n (λ p. 0 ≤ p) (λ p lt s. utf8_ends w n near end p lt) (λ p lt s. omega arith) n 0 (omega arith) (omega arith) (omega arith))
    (λ high w n near end.
    let ends = units_end_near high (utf16_form high) refl w n near (rw (is_units high, IsBoundary) at end) in
    locates_to (utf16_form high) w n (λ p. p % 2 ≡ 0) (λ p lt even. (ends p lt even).by) (λ p lt even. let one = (ends p lt even).even in omega arith) n 0 (omega arith) (omega arith) refl)

front_stays : (form : Form) (w v : List ℕ) (n : ℕ) → n ≤ length w - 3 → IsBoundary form (w ++ v) n → (given : List LocatedPiece) × ((later : List ℕ) → BeginWith form (w ++ later) given n (drop n (w ++ later)))
front_stays form w v n near end =
    ⊎_elim
    (λ (some : 0 < n).
    let (given, comes) = comes_before form w n (omega arith) (end_before form w v n (omega arith) end) in
    (given, λ later. comes.same later ∙ ap (λ z. given ++ located form (wrapped n) z) (sym (drop-append-le n w later (omega arith)))))
    (λ (none : n ≤ 0).
    let zero : 0 ≡ n = omega arith in
    ([], λ later. ap (λ k. located form (wrapped k) (drop k (w ++ later))) zero))
    (cases_lt 0 n)

-- An offset after the change moves with its bytes.

module _ (high : Bool) (xs new : List ℕ) (s e b : ℕ) (lo : s ≤ e) (hi : e ≤ length xs) (keep : (e - s) % 2 ≡ length new % 2) (within : b ≤ length xs) (end : IsUnitsEnd high xs b) where
  abbrev ys : List ℕ
  ys = splice xs s e new

  abbrev moved_to : ℕ
  moved_to = s + length new + (b - e)

  front_len : length (take s xs ++ new) ≡ s + length new
  front_len = omega (arith, length-append (take s xs) new, length-take-le s xs (omega arith))

  in_parts : (take s xs ++ new) ++ drop e xs ≡ ys
  in_parts = append_assoc (take s xs) new (drop e xs)

  all_len : length ys ≡ s + length new + (length xs - e)
  all_len = sym (ap length in_parts) ∙ (length-append (take s xs ++ new) (drop e xs) ∙ omega (arith, front_len, length-drop e xs))

  ends_all : b ≡ length xs → IsUnitsEnd high ys moved_to
  ends_all all = record {
    even = λ short. absurd (omega (arith, all_len));
    outside = λ i.
        let stands = i.stands.within in
        let ends = i.ends in
        omega (arith, all_len, (count_units high ys).0);
  }

  -- the first whole unit after the change
  abbrev unit_at : ℕ
  unit_at = e + e % 2

  abbrev moved_unit : ℕ
  moved_unit = s + length new + e % 2

  ends_near : e + 3 ≤ b → b < length xs → IsUnitsEnd high ys moved_to
  ends_near near short =
      let even_b = end.even short in
      let m = (b - unit_at) / 2 in
      let old_even : unit_at ≡ 2 * (unit_at / 2) = omega arith in
      let new_even : moved_unit ≡ 2 * (moved_unit / 2) = omega arith in
      let old_within : unit_at ≤ length xs = omega arith in
      let new_within : moved_unit ≤ length ys = omega (arith, all_len) in
      let olds = even_units high xs unit_at (unit_at / 2) old_within old_even in
      let news = even_units high ys moved_unit (moved_unit / 2) new_within new_even in
      let old_count = units_within high xs unit_at (unit_at / 2) old_within old_even in
      let new_count = units_within high ys moved_unit (moved_unit / 2) new_within new_even in
      let left : drop moved_unit ys ≡ drop unit_at xs
      = ap (drop moved_unit) (sym in_parts) ∙ (ap (λ k. drop (k + e % 2) ((take s xs ++ new) ++ drop e xs)) (sym front_len) ∙ (drop-append-add (take s xs ++ new) (drop e xs) (e % 2) ∙ drop-drop (e % 2) e xs)) in
      let same : drop (moved_unit / 2) (units_of high ys) ≡ drop (unit_at / 2) (units_of high xs) = sym news.1 ∙ (ap (units_of high) left ∙ olds.1) in
      let of_new : length (take (moved_unit / 2) (units_of high ys)) ≡ moved_unit / 2 = length-take-le (moved_unit / 2) (units_of high ys) new_count in
      let of_old : length (take (unit_at / 2) (units_of high xs)) ≡ unit_at / 2 = length-take-le (unit_at / 2) (units_of high xs) old_count in
      let new_place : moved_unit / 2 + m ≡ moved_to / 2 = omega arith in
      let old_place : unit_at / 2 + m ≡ b / 2 = omega arith in
      record {
        even = λ _. omega arith;
        outside = λ i.
            let whole = take-append-drop (moved_unit / 2) (units_of high ys) in
            let in_rest : Inside utf16 (drop (moved_unit / 2) (units_of high ys)) m
            = near_rest_of utf16 2 length_utf16 (take (moved_unit / 2) (units_of high ys)) (drop (moved_unit / 2) (units_of high ys)) m (omega arith) (rw (whole, of_new, new_place) i) in
            let there : Inside utf16 (drop (unit_at / 2) (units_of high xs)) m = subst (λ us. Inside utf16 us m) same in_rest in
            let back = inside_rest utf16 (take (unit_at / 2) (units_of high xs)) (drop (unit_at / 2) (units_of high xs)) m there in
            let old_whole = take-append-drop (unit_at / 2) (units_of high xs) in
            end.outside (rw (of_old, old_place, old_whole) at back);
      }

  units_end_after : (b ≡ length xs) ⊎ (e + 3 ≤ b) → IsUnitsEnd high ys moved_to
  units_end_after far =
      ⊎_elim
      (λ (all : b ≡ length xs). ends_all all)
      (λ (near : e + 3 ≤ b). ⊎_elim (λ (short : b < length xs). ends_near near short) (λ (all : length xs ≤ b). ends_all (omega arith)) (cases_lt b (length xs)))
      far

keep_halves : (high : Bool) (gone come : ℕ) → KeepUnits (utf16_form high) gone come → gone % 2 ≡ come % 2
keep_halves true gone come keep = keep
keep_halves false gone come keep = keep

end_after : (form : Form) (xs new : List ℕ) (s e b : ℕ) → s ≤ e → e ≤ length xs → KeepUnits form (e - s) (length new) → b ≤ length xs → (b ≡ length xs) ⊎ (e + 3 ≤ b) → IsBoundary form xs b
    → IsBoundary form (splice xs s e new) (s + length new + (b - e))
end_after =
    by_form _ (λ xs new s e b lo hi keep within far end. stays_outside_after xs new s e lo hi b far within end)
    (λ high. rw (is_units high, IsBoundary) (λ xs new s e b lo hi keep within far end. units_end_after high xs new s e b lo hi (keep_halves high _ _ keep) within end far))

-- the bytes from there on are those from before the change
left_after : (xs new : List ℕ) (s e b : ℕ) → s ≤ e → e ≤ length xs → e ≤ b → drop (s + length new + (b - e)) (splice xs s e new) ≡ drop b xs
left_after xs new s e b lo hi le =
    let front : length (take s xs ++ new) ≡ s + length new = omega (arith, length-append (take s xs) new, length-take-le s xs (omega arith)) in
    let at : e + (b - e) ≡ b = omega arith in
    ap (drop (s + length new + (b - e))) (sym (append_assoc (take s xs) new (drop e xs)))
    ∙ (ap (λ k. drop (k + (b - e)) ((take s xs ++ new) ++ drop e xs)) (sym front)
    ∙ (drop-append-add (take s xs ++ new) (drop e xs) (b - e) ∙ (drop-drop (b - e) e xs ∙ ap (λ k. drop k xs) at)))

-- The pieces before and after the change stay.
pub pieces_stay : (form : Form) (xs : List ℕ) (s e a b : ℕ) → s ≤ e → e ≤ length xs → a ≤ s - 3 → IsBoundary form xs a → (b ≡ length xs) ⊎ (e + 3 ≤ b) → b ≤ length xs → IsBoundary form xs b
    → PiecesStay form xs s e a b
pieces_stay form xs s e a b lo hi near first far within last =
    let w = take s xs in
    let len : length w ≡ s = length-take-le s xs (omega arith) in
    let whole : w ++ drop s xs ≡ xs = take-append-drop s xs in
    let (given, stays) = front_stays form w (drop s xs) a (omega arith) (rw whole first) in
    record {
      given = given;
      old = rw whole at (stays (drop s xs));
      front = λ new. stays (new ++ drop e xs);
      rest = λ new keep.
          let ys = splice xs s e new in
          let n = s + length new + (b - e) in
          let parts = append_assoc (take s xs) new (drop e xs) in
          let all : length ys ≡ s + length new + (length xs - e) = sym (ap length parts) ∙ (length-append (take s xs ++ new) (drop e xs) ∙ omega (arith, length-append (take s xs) new, len, length-drop e xs)) in
          let (others, comes) = run_comes form ys n (omega arith) (end_after form xs new s e b lo hi keep within far last) in
          (others, comes ∙ ap (λ z. others ++ located form (wrapped n) z) (left_after xs new s e b lo hi (⊎_elim (λ (all : b ≡ length xs). omega arith) (λ (near : e + 3 ≤ b). omega arith) far)));
    }
