-- The result of a decoding is the function of its elements that `Decoded` defines, so the code of a scalar
-- decodes to it.
use Rattle.std.proofs.Common.{◌≡◌, ℕ, ◌≤◌, ⊎_elim, List, [], ◌∷◌, length, get_or, Option, Some, None, Result, Ok, Err, arith, refl, ap, sym, ◌∙◌, true}
use Rattle.std.proofs.lemmas.Grind.{common_steps}
use Rattle.std.specs.Prelude.{unwrap_or, if◌then◌else◌, IfOk, MatchResult}
use Rattle.utf_base.specs.declared.errors.Utf8ErrorKind.{Utf8ErrorKind}
use Rattle.utf_base.specs.declared.errors.scalars.CodepointError.{CodepointError}
use Rattle.utf_base.specs.declared.errors.units.Utf16SliceError.{Utf16SliceError}
use Rattle.utf_base.specs.declared.errors.units.Utf16ArrayError.{Utf16ArrayError}
use Rattle.utf_base.specs.declared.errors.units.Utf16TupleError.{Utf16TupleError}
use Rattle.utf_base.specs.declared.errors.units.Utf16PairError.{Utf16PairError}
use Rattle.utf_base.specs.Scalar.{IsScalar}
use Rattle.utf_base.specs.Code.{utf8, utf16}
use Rattle.utf_base.specs.Decoded.{decoded, decoded_bytes, decoded_units, decoded_pairs, decoded_two, decoded_tuple, decoded_number, units_asked, unless_fault, GivesChar, GivesFirst, DecodesWhole}
use Rattle.utf_base.specs.Front.{as_scalar, BeginsWith, IsOneCode, IsFrontLen, DecodesFront, DecodesBytes, DecodesUnits, DecodesTwoUnits, DecodesTuple, DecodesNumber}
use Rattle.utf_base.specs.Kinds.{fault_kind, asked_by, value}
use Rattle.utf_base.specs.Piece.{Stands}
use Rattle.utf_base.specs.Refused.{number_fault}
use Rattle.utf_base.specs.Units.{is_padded_units, is_surrogate, pair_value, unit_value, tuple_value, units_of_pair, array_fault, tuple_fault, unit_fault_kind}
use Rattle.utf_base.proofs.Ending.{front_len}
use Rattle.utf_base.proofs.FrontLemmas.{decodes_from_stands, code_where_no_fault, no_fault_where_code}
use Rattle.utf_base.proofs.Standing.{same_char, stands_alone}
use Rattle.utf_base.proofs.UnitLemmas.{no_both, no_fault_where_units, no_kind_where_units, no_lead, no_trail}
use Rattle.utf_base.proofs.Utf8Code.{utf8_is_code, length_utf8}
use Rattle.utf_base.proofs.Utf16Code.{length_utf16, StandsAsUnit, StandsAsPair, stands_cases, begins_with_pair, utf16_is_code, utf16-1, unit_value-unit, unit_value-pair}

-- Bytes.

pub answer_of_bytes : (w : List ℕ) (r : Result (ℕ × ℕ) Utf8ErrorKind) → DecodesFront as_scalar w r → r ≡ decoded w
unfolding decoded
answer_of_bytes w (Ok (s, n)) h =
    let none = no_fault_where_code w s h.0 in
    let char : value w ≡ s = (decodes_from_stands w s h.0).1 in
    let len : asked_by w ≡ n = (code_where_no_fault w none).1 ∙ ap (λ x. length (utf8 x)) char ∙ sym h.1 in
    rw (none, char, len) refl
answer_of_bytes w (Err k) h = rw h refl

pub answer_of_array : (w : List ℕ) (r : Result ℕ Utf8ErrorKind) → DecodesBytes as_scalar w r → r ≡ decoded_bytes w
unfolding decoded_bytes
answer_of_array w (Ok s) h = rw (no_fault_where_code w s h, (decodes_from_stands w s h).1) refl
answer_of_array w (Err k) h = rw h refl

pub decoded_code : (w : List ℕ) (s : ℕ) → Stands utf8 w 0 s → decoded w ≡ Ok (s, length (utf8 s))
decoded_code w s h = sym (answer_of_bytes w (Ok (s, length (utf8 s))) (h, refl))

pub decoded_bytes_code : (w : List ℕ) (s : ℕ) → Stands utf8 w 0 s → decoded_bytes w ≡ Ok s
decoded_bytes_code w s h = sym (answer_of_array w (Ok s) h)

-- Units.

-- the results for units that begin with the code of a scalar
record UnitsTell (w : List ℕ) (s : ℕ) : Type 0 where
  char : unit_value w ≡ s
  len : units_asked (get_or w 0 0) ≡ length (utf16 s)
  two : array_fault (get_or w 0 0) (get_or w 1 0) ≡ None

unit_tells : (w : List ℕ) (s : ℕ) → Stands utf16 w 0 s → StandsAsUnit w s → UnitsTell w s
unfolding array_fault
unit_tells w s h u =
    let lead = no_lead (get_or w 0 0) u.plain in
    record {
      char = unit_value-unit w lead ∙ u.unit;
      len = rw lead (sym (ap length (utf16-1 s u.small)));
      two = rw (no_trail (get_or w 0 0) u.plain, lead) refl;
    }

pair_tells : (w : List ℕ) (s : ℕ) → Stands utf16 w 0 s → StandsAsPair w → UnitsTell w s
unfolding array_fault
pair_tells w s h p =
    let begins = begins_with_pair w p.two p.leading p.trailing in
    let char : pair_value (get_or w 0 0) (get_or w 1 0) ≡ s = same_char utf16 utf16_is_code w 0 _ _ begins.0 h in
    record {
      char = unit_value-pair w p.leading ∙ char;
      len = rw p.leading (begins.1 ∙ ap (λ x. length (utf16 x)) char);
      two = rw (no_both (get_or w 0 0) p.leading, p.leading, p.trailing) refl;
    }

units_tell : (w : List ℕ) (s : ℕ) → Stands utf16 w 0 s → UnitsTell w s
units_tell w s h = ⊎_elim (unit_tells w s h) (pair_tells w s h) (stands_cases w s h)

pub answer_of_units : (w : List ℕ) (r : Result (ℕ × ℕ) Utf16SliceError) → DecodesUnits as_scalar w r → r ≡ decoded_units w
unfolding decoded_units
answer_of_units w (Ok (s, n)) h =
    let tell = units_tell w s h.0 in
    rw (no_fault_where_units w s h.0, tell.char, tell.len, h.1) refl
answer_of_units w (Err k) h = rw h refl

pub decoded_pairs_code : (w : List ℕ) (s : ℕ) → Stands utf16 w 0 s → decoded_pairs w ≡ Ok (s, length (utf16 s))
unfolding decoded_pairs
decoded_pairs_code w s h =
    let tell = units_tell w s h in
    rw (no_kind_where_units w s h, tell.char, tell.len) refl

pub decoded_pairs_kind : (w : List ℕ) (k : Utf16PairError) → unit_fault_kind w ≡ Some k → decoded_pairs w ≡ Err k
unfolding decoded_pairs
decoded_pairs_kind w k h = rw h refl

pub answer_of_two : (w : List ℕ) (r : Result ℕ Utf16ArrayError) → DecodesTwoUnits as_scalar w r → r ≡ decoded_two w
unfolding decoded_two
answer_of_two w (Ok s) h = let tell = units_tell w s h in rw (tell.two, tell.char) refl
answer_of_two w (Err k) h = rw h refl

pub decoded_units_code : (w : List ℕ) (s : ℕ) → Stands utf16 w 0 s → decoded_units w ≡ Ok (s, length (utf16 s))
decoded_units_code w s h = sym (answer_of_units w (Ok (s, length (utf16 s))) (h, refl))

pub decoded_two_code : (w : List ℕ) (s : ℕ) → Stands utf16 w 0 s → decoded_two w ≡ Ok s
decoded_two_code w s h = sym (answer_of_two w (Ok s) h)

pub answer_of_tuple : (u : ℕ) (second : Option ℕ) (r : Result ℕ Utf16TupleError) → DecodesTuple as_scalar (u, second) r → r ≡ decoded_tuple u second
unfolding decoded_tuple
answer_of_tuple u None (Ok s) h =
    let stands = stands_alone utf16 (u ∷ []) (s, h.0, h.1) in
    ⊎_elim
    (λ (p : StandsAsUnit (u ∷ []) s). rw (no_trail u p.plain, no_lead u p.plain, p.unit) refl)
    (λ (p : StandsAsPair (u ∷ [])). let two : 2 ≤ 1 = p.two in absurd (omega arith))
    (stands_cases (u ∷ []) s stands)
answer_of_tuple u (Some v) (Ok s) h =
    let stands = stands_alone utf16 (u ∷ v ∷ []) (s, h.0, h.1) in
    ⊎_elim
    (λ (p : StandsAsUnit (u ∷ v ∷ []) s). let len : 2 ≡ 1 = ap length (h.1 ∙ utf16-1 s p.small) in absurd (omega arith))
    (λ (p : StandsAsPair (u ∷ v ∷ [])).
    let begins = begins_with_pair (u ∷ v ∷ []) p.two p.leading p.trailing in
    let char : pair_value u v ≡ s = same_char utf16 utf16_is_code (u ∷ v ∷ []) 0 _ _ begins.0 stands in
    rw (no_both u p.leading, p.leading, p.trailing, char) refl)
    (stands_cases (u ∷ v ∷ []) s stands)
answer_of_tuple u second (Err k) h = rw h refl

pub decoded_tuple_code : (u : ℕ) (second : Option ℕ) (s : ℕ) → IsScalar s → units_of_pair u second ≡ utf16 s → decoded_tuple u second ≡ Ok s
decoded_tuple_code u second s h e = sym (answer_of_tuple u second (Ok s) (h, e))

-- the units of a scalar are a code, followed by 0 if there is no second
pub padded_tuple : (u : ℕ) (second : Option ℕ) (s : ℕ) → IsScalar s → units_of_pair u second ≡ utf16 s → is_padded_units u (unwrap_or second 0) ≡ true
padded_tuple u None s h e =
    ⊎_elim
    (λ (p : StandsAsUnit (u ∷ []) s). rw (no_lead u p.plain, no_trail u p.plain) refl)
    (λ (p : StandsAsPair (u ∷ [])). let two : 2 ≤ 1 = p.two in absurd (omega arith))
    (stands_cases (u ∷ []) s (stands_alone utf16 (u ∷ []) (s, h, e)))
padded_tuple u (Some v) s h e =
    ⊎_elim
    (λ (p : StandsAsUnit (u ∷ v ∷ []) s). let len : 2 ≡ 1 = ap length (e ∙ utf16-1 s p.small) in absurd (omega arith))
    (λ (p : StandsAsPair (u ∷ v ∷ [])). rw (p.leading, p.trailing) refl)
    (stands_cases (u ∷ v ∷ []) s (stands_alone utf16 (u ∷ v ∷ []) (s, h, e)))

-- The lengths of codes.

pub front_len_utf8 : (w : List ℕ) (s n : ℕ) → BeginsWith utf8 w s n → IsFrontLen 4 w n
front_len_utf8 = front_len utf8 4 utf8_is_code length_utf8

pub front_len_utf16 : (w : List ℕ) (s n : ℕ) → BeginsWith utf16 w s n → IsFrontLen 2 w n
front_len_utf16 = front_len utf16 2 utf16_is_code length_utf16

-- Numbers.

pub answer_of_number : (n : ℕ) (r : Result ℕ CodepointError) → DecodesNumber as_scalar n r → r ≡ decoded_number n
unfolding decoded_number
answer_of_number n (Ok c) h =
    let none : number_fault n ≡ None = no_fault n h.0 in
    rw (none, h.1) refl
  where
    no_fault : (n : ℕ) → IsScalar n → number_fault n ≡ None
    no_fault n h =
        grind (arith, common_steps)
answer_of_number n (Err k) h = rw h refl

-- The results, as the methods of characters state them.

pub gives_first : {E : Type 0} (known r : Result (ℕ × ℕ) E) → r ≡ known → GivesFirst as_scalar known r
gives_first known (Ok x) e = sym e
gives_first known (Err k) e = sym e

pub gives_char : {E : Type 0} (known r : Result ℕ E) → r ≡ known → GivesChar as_scalar known r
gives_char known (Ok x) e = sym e
gives_char known (Err k) e = sym e

pub len_of_bytes : (w : List ℕ) (r : Result (ℕ × ℕ) Utf8ErrorKind) → DecodesFront as_scalar w r → IfOk r (λ x. IsFrontLen 4 w x.1)
len_of_bytes w (Ok (s, n)) h = front_len_utf8 w s n h
len_of_bytes w (Err k) h = tt

pub len_of_units : (w : List ℕ) (r : Result (ℕ × ℕ) Utf16SliceError) → DecodesUnits as_scalar w r → IfOk r (λ x. IsFrontLen 2 w x.1)
len_of_units w (Ok (s, n)) h = front_len_utf16 w s n h
len_of_units w (Err k) h = tt

pub units_of_tuple : (u : ℕ) (second : Option ℕ) (r : Result ℕ Utf16TupleError) → DecodesTuple as_scalar (u, second) r
    → IfOk r (λ _. is_padded_units u (unwrap_or second 0) ≡ true)
units_of_tuple u second (Ok s) h = padded_tuple u second s h.0 h.1
units_of_tuple u second (Err k) h = tt

-- if the checked call succeeds, the unchecked one returns the same

pub unchecked_two : (w : List ℕ) (s : ℕ)
    → s ≡ (if is_surrogate (get_or w 0 0) then pair_value (get_or w 0 0) (get_or w 1 0) else get_or w 0 0)
    → IfOk (decoded_two w) (λ t. s ≡ t)
unfolding decoded_two array_fault unit_value
unchecked_two w s e = grind (arith, common_steps)

pub unchecked_tuple : (u : ℕ) (second : Option ℕ) (s : ℕ) → s ≡ tuple_value u second → IfOk (decoded_tuple u second) (λ t. s ≡ t)
unfolding decoded_tuple
unchecked_tuple u second s e = by_fault (tuple_fault u second) (tuple_value u second) s e
  where
    by_fault : (f : Option Utf16TupleError) (v s : ℕ) → s ≡ v → IfOk (unless_fault f v) (λ t. s ≡ t)
    by_fault None v s e = e
    by_fault (Some k) v s e = tt

-- the list is one code if it decodes as a whole

pub one_code_of_whole : (w : List ℕ) → DecodesWhole w → IsOneCode utf8 w
unfolding decoded
one_code_of_whole w h = by_kind w (fault_kind w) refl h
  where
    whole : (w : List ℕ) (s : ℕ) → Stands utf8 w 0 s → length (utf8 s) ≡ length w → w ≡ utf8 s
    whole w s h len = let equal = h.equal in grind (arith, common_steps)

    by_kind : (w : List ℕ) (k : Option Utf8ErrorKind) → fault_kind w ≡ k
        → MatchResult {T = ℕ × ℕ} (unless_fault k (value w, asked_by w)) (λ x. x.1 ≡ length w) (λ _. ⊥) → IsOneCode utf8 w
    by_kind w None e h =
        let code = code_where_no_fault w e in
        (value w, code.0.scalar, whole w (value w) code.0 (sym code.1 ∙ h))
    by_kind w (Some k) e h = absurd h

pub decoded_one_code : (w : List ℕ) (s : ℕ) → IsScalar s → w ≡ utf8 s → decoded w ≡ Ok (s, length w)
decoded_one_code w s h e = decoded_code w s (stands_alone utf8 w (s, h, e)) ∙ ap (λ n. Ok (s, n)) (ap length (sym e))
