-- The undecided end of some bytes: four bytes decide a piece, so a run reaches each offset near the end that no code
-- covers; and the number of bytes that are left after all that is decided.
use Rattle.std.proofs.Common.{◌≡◌, ◌≢◌, ℕ, zero, suc, ◌+◌, ◌-◌, ◌*◌, ◌/◌, ◌%◌, ◌<◌, ◌≤◌, ⊎_elim, Bool, true, false, List, [], ◌∷◌, ◌++◌, length, length-append, length-drop, drop, Option, Some, None, Ok, Err, arith, refl, ap, ap₂, sym, subst, ◌∙◌}
use Rattle.std.proofs.lemmas.Bool.{cases_lt}
use Rattle.std.proofs.lemmas.List.{append-nil, drop-drop}
use Rattle.utf_base.specs.Code.{utf8, utf16}
use Rattle.utf_base.specs.Kinds.{fault_kind, merger_kind, value}
use Rattle.utf_base.specs.Piece.{Inside, Stands}
use Rattle.utf_base.specs.Units.{is_leading_surrogate, is_trailing_surrogate, pair_value}
use Rattle.utf_base.specs.declared.errors.Utf8ErrorKind.{Utf8ErrorKind}
use Rattle.utf_base.specs.declared.errors.Utf8ErrorKind.TheVariants as bytes_kind
use Rattle.utf_base.specs.declared.errors.units.Utf16PairError.TheVariants.{UnexpectedTrailingSurrogate, UnmatchedLeadingSurrogate}
use Rattle.utf_base.proofs.FrontLemmas.{code_where_no_fault}
use Rattle.utf_base.proofs.LaterLemmas.{few_where_too_few}
use Rattle.utf_base.proofs.MergerLemmas.{merger_none}
use Rattle.utf_base.proofs.Utf16Code.{begins_with_pair, code_of_pair, scalar_pair}
use Rattle.utf_lanes.specs.BytePairs.{units_of}
use Rattle.encode_unicode.specs.Mergers.{decoded_by_merger}
use Rattle.encode_unicode.specs.Window.{as_piece}
use Rattle.recoding.specs.NextScalars.{HasByteOrder}
use Rattle.recoding.specs.Boundaries.{IsBoundary, IsUnitsEnd}
use Rattle.recoding.specs.declared.faults.FaultKind.TheVariants as kind
use Rattle.recoding.specs.declared.form.Form.{Form}
use Rattle.recoding.specs.declared.form.Form.TheVariants.{Utf8}
use Rattle.recoding.specs.TextForms.{utf16_form}
use Rattle.recoding.proofs.Forms.{by_form, is_units}
use Rattle.recoding.proofs.FirstPieces.{BeginsFault-trailing, BeginsFault-unmatched}
use Rattle.recoding.proofs.FrontBytes.{first_unit, second_unit, units_next, units_two}
use Rattle.recoding.proofs.JoinedShards.{even_units, units_within}
use Rattle.recoding.proofs.LastBoundaries.{stands_in_list}
use Rattle.text_stream.specs.declared.located.LocatedPiece.{LocatedPiece}
use Rattle.text_stream.specs.Located.{Begins, IsOpen, Locates, Told, at_offset, first_told, located, located_by, told_as, wrapped}
use Rattle.text_stream.specs.UndecidedEnds.{IsLenOfHeld, IsUndecidedEnd, LocatesFront}
use Rattle.text_stream.proofs.FrontTold.{char_begins, fault_begins, kind_begins, pair_begins, plain_begins, told_by_units}
use Rattle.text_stream.proofs.LocatedLemmas.{Locates-none, Locates-one, Locates-then, first_some}
use Rattle.text_stream.proofs.LocatedLists.{no_piece_earlier}
use Rattle.text_stream.proofs.MergedFronts.{merged_code, merged_kind}

-- A run, from the front.

pub LocatesFront-none : (form : Form) (offset : ℕ) (w : List ℕ) → LocatesFront form offset w w
LocatesFront-none form offset w = ([], offset, Locates-none form offset w)

pub LocatesFront-then : {form : Form} {w v : List ℕ} {x : Told} (offset : ℕ) → LocatesFront form offset w v → Begins form v x → LocatesFront form offset w (drop x.1 v)
LocatesFront-then {form} {w} {v} {x} offset (given, next, a) b = (given ++ at_offset next x ∷ [], wrapped (next + x.1), Locates-then a (Locates-one next b))

-- The piece that begins the bytes from an offset on ends up to another, whatever follows them.
pub record EndsBy (form : Form) (bytes : List ℕ) (p end : ℕ) : Type 0 where
  pub piece : Told
  pub begins : Begins form (drop p bytes) piece
  pub fits : p + piece.1 ≤ end

-- If that is so at each offset that a run reaches, it reaches the other offset.
module _ (form : Form) (bytes : List ℕ) (end : ℕ) (IsStart : ℕ → Type 0) (ends : (p : ℕ) → p < end → IsStart p → EndsBy form bytes p end)
    (on : (p : ℕ) (lt : p < end) (s : IsStart p) → IsStart (p + (ends p lt s).piece.1)) where
  run_to : (fuel p offset : ℕ) → end ≤ p + fuel → p ≤ end → IsStart p → LocatesFront form offset (drop p bytes) (drop end bytes)
  run_to zero p offset enough le s = let e : p ≡ end = omega arith in subst (λ k. LocatesFront form offset (drop p bytes) (drop k bytes)) e (LocatesFront-none form offset (drop p bytes))
  run_to (suc fuel) p offset enough le s =
      ⊎_elim
      (λ (lt : p < end).
      let one = ends p lt s in
      let x = one.piece in
      let some = one.begins.some in
      let fits = one.fits in
      let (given, next, rest) = run_to fuel (p + x.1) (wrapped (offset + x.1)) (omega arith) fits (on p lt s) in
      let first : Locates form offset (drop p bytes) (at_offset offset x ∷ []) (wrapped (offset + x.1)) (drop (p + x.1) bytes)
      = subst (λ z. Locates form offset (drop p bytes) (at_offset offset x ∷ []) (wrapped (offset + x.1)) z) (drop-drop x.1 p bytes) (Locates-one offset one.begins) in
      ((at_offset offset x ∷ []) ++ given, next, Locates-then first rest))
      (λ (ge : end ≤ p). let e : p ≡ end = omega arith in subst (λ k. LocatesFront form offset (drop p bytes) (drop k bytes)) e (LocatesFront-none form offset (drop p bytes)))
      (cases_lt p end)

-- UTF-8.

module _ (bytes : List ℕ) (end : ℕ) (near : end + 3 ≤ length bytes) (outside : Inside utf8 bytes end → ⊥) where
  kind_ends : (p : ℕ) → p < end → (k : Utf8ErrorKind) → fault_kind (drop p bytes) ≡ Some k → k ≢ bytes_kind.TooFewBytes → EndsBy Utf8 bytes p end
  kind_ends p lt k e other = record { piece = (Err (kind.Utf8 k), 1); begins = kind_begins (drop p bytes) k e other; fits = omega arith }

  by_kind : (p : ℕ) → p < end → (k : Option Utf8ErrorKind) → fault_kind (drop p bytes) ≡ k → EndsBy Utf8 bytes p end
  by_kind p lt None e =
      let code = (code_where_no_fault (drop p bytes) e).0 in
      let s = value (drop p bytes) in
      record {
        piece = (Ok s, length (utf8 s));
        begins = char_begins (drop p bytes) s (length (utf8 s)) (code, refl);
        fits = ⊎_elim
            (λ (over : end < p + length (utf8 s)). absurd (outside (record { from = p; char = s; stands = stands_in_list utf8 bytes p s (omega arith) code; begins = lt; ends = over })))
            (λ (fits : p + length (utf8 s) ≤ end). fits)
            (cases_lt end (p + length (utf8 s)));
      }
  by_kind p lt (Some bytes_kind.TooFewBytes) e = absurd (omega (arith, few_where_too_few (drop p bytes) e, length-drop p bytes))
  by_kind p lt (Some bytes_kind.NonUtf8Byte) e = kind_ends p lt bytes_kind.NonUtf8Byte e (λ f. cc)
  by_kind p lt (Some bytes_kind.UnexpectedContinuationByte) e = kind_ends p lt bytes_kind.UnexpectedContinuationByte e (λ f. cc)
  by_kind p lt (Some bytes_kind.InterruptedSequence) e = kind_ends p lt bytes_kind.InterruptedSequence e (λ f. cc)
  by_kind p lt (Some bytes_kind.OverlongEncoding) e = kind_ends p lt bytes_kind.OverlongEncoding e (λ f. cc)
  by_kind p lt (Some bytes_kind.Utf16ReservedCodepoint) e = kind_ends p lt bytes_kind.Utf16ReservedCodepoint e (λ f. cc)
  by_kind p lt (Some bytes_kind.TooHighCodepoint) e = kind_ends p lt bytes_kind.TooHighCodepoint e (λ f. cc)

  pub utf8_ends : (p : ℕ) → p < end → EndsBy Utf8 bytes p end
  utf8_ends p lt = by_kind p lt (fault_kind (drop p bytes)) refl

  utf8_front : (offset : ℕ) → LocatesFront Utf8 offset bytes (drop end bytes)
  utf8_front offset = run_to Utf8 bytes end (λ p. 0 ≤ p) (λ p lt s. utf8_ends p lt) (λ p lt s. omega arith) end 0 offset (omega arith) (omega arith) (omega arith)

-- UTF-16.

-- the units that begin the bytes from an offset on, two bytes each, end up to another, whatever follows them
pub record EndsByUnits (form : Form) (bytes : List ℕ) (p end : ℕ) : Type 0 where
  pub by : EndsBy form bytes p end
  pub even : by.piece.1 % 2 ≡ 0

module _ (high : Bool) (from : Form) (form : HasByteOrder high from) (bytes : List ℕ) (end : ℕ) (even_end : end % 2 ≡ 0) (at_end : IsUnitsEnd high bytes end) where
  -- the units from an offset of the run on
  module _ (p : ℕ) (lt : p < end) (even : p % 2 ≡ 0) (four : 4 ≤ length (drop p bytes)) where
    two : 2 ≤ length (drop p bytes)
    two = omega arith

    two_fit : p + 2 ≤ end
    two_fit = omega arith

    pair_fits : (u v : ℕ) → u ≡ first_unit high (drop p bytes) → v ≡ second_unit high (drop p bytes) → is_leading_surrogate u ≡ true → is_trailing_surrogate v ≡ true → p + 4 ≤ end
    pair_fits u v is_u is_v l t =
        let w = drop p bytes in
        let place : p ≡ 2 * (p / 2) = omega arith in
        let units = (even_units high bytes p (p / 2) (omega (arith, length-drop p bytes)) place).1 in
        let count = units_within high bytes p (p / 2) (omega (arith, length-drop p bytes)) place in
        let both : units_of high w ≡ u ∷ v ∷ units_of high (drop 4 w)
        = ap (units_of high) (sym (append-nil w)) ∙ units_two high w [] two ∙ ap₂ (λ a us. a ∷ us) (sym is_u) (units_next high w [] four) ∙ ap (λ b. u ∷ b ∷ units_of high (drop 4 w ++ [])) (sym is_v)
        ∙ ap (λ z. u ∷ v ∷ units_of high z) (append-nil (drop 4 w)) in
        let code = begins_with_pair (u ∷ v ∷ units_of high (drop 4 w)) (omega arith) l t in
        let here : Stands utf16 (units_of high w) 0 (pair_value u v) = subst (λ us. Stands utf16 us 0 (pair_value u v)) (sym both) code.0 in
        let there = stands_in_list utf16 (units_of high bytes) (p / 2) (pair_value u v) count (subst (λ us. Stands utf16 us 0 (pair_value u v)) units here) in
        let len = code.1 in
        ⊎_elim
        (λ (over : end < p + 4). absurd (at_end.outside (record { from = p / 2; char = pair_value u v; stands = there; begins = omega arith; ends = omega arith })))
        (λ (fits : p + 4 ≤ end). fits)
        (cases_lt end (p + 4))

    by_tests : (u v : ℕ) → u ≡ first_unit high (drop p bytes) → v ≡ second_unit high (drop p bytes) → (t l s : Bool) → is_trailing_surrogate u ≡ t → is_leading_surrogate u ≡ l → is_trailing_surrogate v ≡ s
        → EndsByUnits from bytes p end
    by_tests u v is_u is_v true l s is_t is_l is_s = record {
      by = record {
        piece = (Err (kind.Utf16 UnexpectedTrailingSurrogate), 2);
        begins = fault_begins high from form (drop p bytes) UnexpectedTrailingSurrogate (BeginsFault-trailing high from (drop p bytes) form two (rw is_u at is_t));
        fits = two_fit;
      };
      even = refl;
    }
    by_tests u v is_u is_v false false s is_t is_l is_s = record {
      by = record { piece = (Ok (first_unit high (drop p bytes)), 2); begins = plain_begins high from form (drop p bytes) two (rw is_u at is_t) (rw is_u at is_l); fits = two_fit };
      even = refl;
    }
    by_tests u v is_u is_v false true true is_t is_l is_s = record {
      by = record {
        piece = (Ok (pair_value u v), 4);
        begins = pair_begins high from form (drop p bytes) (pair_value u v) four (scalar_pair u v) (ap₂ (λ a b. a ∷ b ∷ []) (sym is_u) (sym is_v) ∙ sym (code_of_pair u v is_l is_s));
        fits = pair_fits u v is_u is_v is_l is_s;
      };
      even = refl;
    }
    by_tests u v is_u is_v false true false is_t is_l is_s = record {
      by = record {
        piece = (Err (kind.Utf16 UnmatchedLeadingSurrogate), 2);
        begins = fault_begins high from form (drop p bytes) UnmatchedLeadingSurrogate (BeginsFault-unmatched high from (drop p bytes) form four (rw is_u at is_l) (rw is_v at is_s));
        fits = two_fit;
      };
      even = refl;
    }

    pub units_end_by : EndsByUnits from bytes p end
    units_end_by = by_tests (first_unit high (drop p bytes)) (second_unit high (drop p bytes)) refl refl _ _ _ refl refl refl

module _ (high : Bool) (from : Form) (form : HasByteOrder high from) (bytes : List ℕ) (end : ℕ) (near : end + 3 ≤ length bytes) (at_end : IsUnitsEnd high bytes end) where
  pub units_end_near : (p : ℕ) → p < end → p % 2 ≡ 0 → EndsByUnits from bytes p end
  units_end_near p lt even =
      let even_end = at_end.even (omega arith) in
      units_end_by high from form bytes end even_end at_end p lt even (omega (arith, length-drop p bytes))

  units_front : (offset : ℕ) → LocatesFront from offset bytes (drop end bytes)
  units_front offset =
      run_to from bytes end (λ p. p % 2 ≡ 0) (λ p lt even. (units_end_near p lt even).by) (λ p lt even. let one = (units_end_near p lt even).even in omega arith) end 0 offset (omega arith) (omega arith) refl

-- Each encoding.

front_located : (form : Form) (bytes : List ℕ) (end offset : ℕ) → end + 3 ≤ length bytes → IsBoundary form bytes end → LocatesFront form offset bytes (drop end bytes)
front_located =
    by_form _ (λ bytes end offset near h. utf8_front bytes end near h offset)
    (λ high bytes end offset near h. units_front high (utf16_form high) refl bytes end near (rw (is_units high, IsBoundary) at h) offset)

-- A run reaches such an offset that is three bytes before the end, or more, or at the front.
pub front_near_end : (form : Form) (bytes : List ℕ) (end offset : ℕ) → end ≤ length bytes - 3 → IsBoundary form bytes end → LocatesFront form offset bytes (drop end bytes)
front_near_end form bytes end offset near h =
    ⊎_elim
    (λ (some : 0 < end). front_located form bytes end offset (omega arith) h)
    (λ (none : end ≤ 0). let e : 0 ≡ end = omega arith in subst (λ k. LocatesFront form offset bytes (drop k bytes)) e (LocatesFront-none form offset bytes))
    (cases_lt 0 end)

-- The length of pieces in bytes.

merged_within : (w : List ℕ) (k : Option Utf8ErrorKind) → 0 < length w → merger_kind w ≡ k → (told_as kind.Utf8 (as_piece (decoded_by_merger w))).1 ≤ length w
merged_within w None some e =
    let code = (code_where_no_fault w (merger_none w e)).0 in
    let within = code.within in
    rw (merged_code w (value w) code) (omega arith)
merged_within w (Some k) some e = rw (merged_kind w k e) (omega arith)

first_within : (form : Form) (w : List ℕ) → 0 < length w → (first_told form w).1 ≤ length w
unfolding first_told
first_within = by_form _ (λ w some. merged_within w (merger_kind w) some refl) (λ high w some. rw (told_by_units high w) (omega arith))

abbrev pub total : List LocatedPiece → ℕ
total [] = 0
total (p ∷ ps) = p.len + total ps

total_by : (form : Form) (n offset : ℕ) (w : List ℕ) → length w ≤ n → total (located_by n form offset w) ≡ length w
unfolding located_by
total_by form zero offset [] le = refl
total_by form zero offset (b ∷ w) le = absurd (omega arith)
total_by form (suc n) offset [] le = refl
total_by form (suc n) offset (b ∷ w) le =
    let x = first_told form (b ∷ w) in
    let some : 1 ≤ x.1 = first_some form (b ∷ w) (omega arith) in
    let within : x.1 ≤ length (b ∷ w) = first_within form (b ∷ w) (omega arith) in
    let left = length-drop x.1 (b ∷ w) in
    let rest = total_by form n (wrapped (offset + x.1)) (drop x.1 (b ∷ w)) (omega arith) in
    omega arith

pub total_located : (form : Form) (offset : ℕ) (w : List ℕ) → total (located form offset w) ≡ length w
unfolding located
total_located form offset w = total_by form (length w) offset w (omega arith)

same_rest : (xs ys us vs : List LocatedPiece) → length xs ≡ length ys → xs ++ us ≡ ys ++ vs → total us ≡ total vs
same_rest [] [] us vs e h = ap total h
same_rest [] (y ∷ ys) us vs e h = absurd (omega arith)
same_rest (x ∷ xs) [] us vs e h = absurd (omega arith)
same_rest (x ∷ xs) (y ∷ ys) us vs e h = same_rest xs ys us vs (omega arith) (ap (drop 1) h)

-- Two runs that give all that is decided leave the same number of bytes.
same_left : (form : Form) (offset next other_next : ℕ) (bytes held left : List ℕ) (given other : List LocatedPiece) → Locates form offset bytes given next held → (0 < length held → IsOpen form held)
    → Locates form offset bytes other other_next left → (0 < length left → IsOpen form left) → length held ≡ length left
same_left form offset next other_next bytes held left given other a waits b waits_too =
    let most = no_piece_earlier form offset next other_next bytes held left given other a waits b in
    let least = no_piece_earlier form offset other_next next bytes left held other given b waits_too a in
    let rest = same_rest given other _ _ (omega arith) (sym (a.same []) ∙ b.same []) in
    let one = total_located form next (held ++ []) in
    let two = total_located form other_next (left ++ []) in
    omega (arith, length-append held [], length-append left [])

pub one_end : (form : Form) (bytes : List ℕ) (n : ℕ) → IsUndecidedEnd form bytes n → IsLenOfHeld form bytes n
one_end form bytes n h offset next given held a waits =
    let within = h.within in
    let (other, other_next, b) = h.front offset in
    let e = length-drop (length bytes - n) bytes in
    let is_open : 0 < length (drop (length bytes - n) bytes) → IsOpen form (drop (length bytes - n) bytes) = λ some. h.waits (omega arith) in
    let same = same_left form offset next other_next bytes held (drop (length bytes - n) bytes) given other a waits b is_open in
    omega arith

-- The end, if a run has reached its front.

pub end_open : (form : Form) (bytes : List ℕ) (place : ℕ) → place < length bytes → length (drop place bytes) ≤ 3 → ((offset : ℕ) → LocatesFront form offset bytes (drop place bytes)) → IsOpen form (drop place bytes)
    → IsUndecidedEnd form bytes (length bytes - place)
end_open form bytes place lt few front waits =
    let e : length bytes - (length bytes - place) ≡ place = omega arith in
    record {
      within = omega arith;
      few = omega (arith, length-drop place bytes);
      front = λ offset. rw e (front offset);
      waits = λ some. rw e waits;
    }

pub end_decided : (form : Form) (bytes : List ℕ) (place : ℕ) → length bytes ≤ place → place ≤ length bytes → ((offset : ℕ) → LocatesFront form offset bytes (drop place bytes)) → IsUndecidedEnd form bytes 0
end_decided form bytes place le within front =
    let e : length bytes - 0 ≡ place = omega arith in
    record { within = omega arith; few = omega arith; front = λ offset. rw e (front offset); waits = λ some. absurd (omega arith) }
