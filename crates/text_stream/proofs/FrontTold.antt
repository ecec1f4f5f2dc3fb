-- The piece that begins some bytes, derived from the result of decoding them.
use Rattle.std.proofs.Common.{◌≡◌, ◌≢◌, ℕ, ◌*◌, ◌<◌, ◌≤◌, Bool, eqb, true, false, List, [], ◌∷◌, ◌++◌, length, drop, min, Option, Some, None, Result, Ok, Err, arith, refl, ap, sym, ◌∙◌, append_assoc, length-append}
use Rattle.std.proofs.lemmas.Grind.{common_steps}
use Rattle.std.proofs.lemmas.List.{append-nil}
use Rattle.std.specs.Option.{option_map}
use Rattle.utf_base.specs.Code.{utf8, utf16}
use Rattle.utf_base.specs.Decoded.{decoded_pairs}
use Rattle.utf_base.specs.Front.{BeginsWith}
use Rattle.utf_base.specs.Kinds.{fault_kind, is_broken}
use Rattle.utf_base.specs.Scalar.{IsScalar}
use Rattle.utf_base.specs.Units.{is_leading_surrogate, is_trailing_surrogate, unit_fault_kind, unit_value}
use Rattle.utf_base.specs.declared.errors.Utf8ErrorKind.{Utf8ErrorKind}
use Rattle.utf_base.specs.declared.errors.Utf8ErrorKind.TheVariants.{TooFewBytes, InterruptedSequence}
use Rattle.utf_base.specs.declared.errors.units.Utf16PairError.{Utf16PairError}
use Rattle.utf_base.specs.declared.errors.units.Utf16PairError.TheVariants.{Incomplete}
use Rattle.utf_base.proofs.Utf8Code.{length_utf8, utf8_is_code}
use Rattle.utf_lanes.specs.BytePairs.{units_of}
use Rattle.encode_unicode.proofs.ForCallers.{decoded_pairs_code, decoded_pairs_kind, some_units, stands_first}
use Rattle.encode_unicode.specs.Mergers.{decoded_by_merger}
use Rattle.encode_unicode.specs.Window.{as_piece}
use Rattle.recoding.specs.NextScalars.{HasByteOrder, fault_len}
use Rattle.recoding.specs.Recoded.{written}
use Rattle.recoding.specs.Strict.{BeginsFault, kind_of, lacking}
use Rattle.recoding.specs.declared.faults.FaultKind.{FaultKind}
use Rattle.recoding.specs.declared.faults.FaultKind.TheVariants as kind
use Rattle.recoding.specs.declared.form.Form.{Form}
use Rattle.recoding.specs.declared.form.Form.TheVariants.{Utf8}
use Rattle.recoding.specs.TextForms.{utf16_form}
use Rattle.recoding.proofs.Forms.{by_form, is_units}
use Rattle.recoding.proofs.CopiedUnits.{as_written}
use Rattle.recoding.proofs.FirstPieces.{kind_of_units}
use Rattle.recoding.proofs.FrontBytes.{first_unit, not_empty, lacks_byte, lacks_second, second_unit, units_next, units_two}
use Rattle.recoding.proofs.Growing.{two_bytes}
use Rattle.recoding.proofs.HeldFronts.{two_do_not_lack}
use Rattle.recoding.proofs.RoomRuns.{few_written, some_written}
use Rattle.recoding.proofs.TextLaws.{units_of_bytes}
use Rattle.text_stream.specs.Located.{Begins, IsOpen, Told, first_told, in_bytes, lacking_told, told_as}
use Rattle.text_stream.proofs.MergedFronts.{broken_decides, broken_some, code_later, few_are_open, kind_later}

-- UTF-8.

told_merged : (w : List ℕ) → first_told Utf8 w ≡ told_as kind.Utf8 (as_piece (decoded_by_merger w))
unfolding first_told
told_merged w = refl

char_told : (w : List ℕ) (s n : ℕ) → decoded_by_merger w ≡ Ok (s, n) → first_told Utf8 w ≡ (Ok s, n)
char_told w s n h = told_merged w ∙ ap (λ x. told_as kind.Utf8 (as_piece x)) h

fault_told : (w : List ℕ) (k : Utf8ErrorKind) → decoded_by_merger w ≡ Err k → first_told Utf8 w ≡ (Err (kind.Utf8 k), 1)
fault_told w k h = told_merged w ∙ ap (λ x. told_as kind.Utf8 (as_piece x)) h

pub char_begins : (w : List ℕ) (s n : ℕ) → BeginsWith utf8 w s n → Begins Utf8 w (Ok s, n)
char_begins w s n (h, e) =
    let some = utf8_is_code.some s h.scalar in
    let most = length_utf8 s in
    let within = h.within in
    record {
      some = omega arith;
      few = omega arith;
      within = omega arith;
      first = λ later. char_told (w ++ later) s (length (utf8 s)) (code_later w later s h) ∙ ap (λ m. (Ok s, m)) (sym e);
    }

pub kind_begins : (w : List ℕ) (k : Utf8ErrorKind) → fault_kind w ≡ Some k → k ≢ TooFewBytes → Begins Utf8 w (Err (kind.Utf8 k), 1)
kind_begins w k h other = record {
  some = omega arith;
  few = omega arith;
  within = (let some = not_empty w k h other in omega arith);
  first = λ later. fault_told (w ++ later) k (kind_later w later k h other);
}

pub broken_begins : (w : List ℕ) → is_broken w ≡ true → Begins Utf8 w (Err (kind.Utf8 InterruptedSequence), 1)
broken_begins w e = record {
  some = omega arith;
  few = omega arith;
  within = (let some = broken_some w e in omega arith);
  first = λ later. fault_told (w ++ later) InterruptedSequence (broken_decides w later e);
}

pub few_open : (w : List ℕ) → fault_kind w ≡ Some TooFewBytes → is_broken w ≡ false → 0 < length w → IsOpen Utf8 w
few_open w h e some =
    let (alone, before) = few_are_open w h e some in
    record {
      one = [];
      other = 0x41 ∷ [];
      differ = λ same.
          two_kinds (first_told Utf8 (w ++ [])).0 (first_told Utf8 (w ++ 0x41 ∷ [])).0 (ap (λ (x : Told). x.0) (fault_told (w ++ []) TooFewBytes alone))
          (ap (λ (x : Told). x.0) (fault_told (w ++ 0x41 ∷ []) InterruptedSequence before)) (ap (λ (x : Told). x.0) same);
    }
  where
    two_kinds : (a b : Result ℕ FaultKind) → a ≡ Err (kind.Utf8 TooFewBytes) → b ≡ Err (kind.Utf8 InterruptedSequence) → a ≡ b → ⊥
    two_kinds a b d e same = cc

pub few_last : (w : List ℕ) → fault_kind w ≡ Some TooFewBytes → is_broken w ≡ false → 0 < length w → first_told Utf8 w ≡ lacking_told Utf8 (length w)
few_last w h e some =
    let (alone, before) = few_are_open w h e some in
    let one : min 1 (length w) ≡ 1 = omega arith in
    ap (first_told Utf8) (sym (append-nil w)) ∙ fault_told (w ++ []) TooFewBytes alone ∙ ap (λ m. (Err (kind.Utf8 TooFewBytes), m)) (sym one)

-- UTF-16: bytes, two by two.

pub told_by_units : (high : Bool) (w : List ℕ) → first_told (utf16_form high) w ≡ in_bytes w (told_as kind.Utf16 (as_piece (decoded_pairs (units_of high w))))
unfolding first_told
told_by_units true w = refl
told_by_units false w = refl

pub told_units : (high : Bool) (from : Form) (w : List ℕ) → HasByteOrder high from → first_told from w ≡ in_bytes w (told_as kind.Utf16 (as_piece (decoded_pairs (units_of high w))))
told_units high from w form = rw form (told_by_units high w)

inner_kind : (x : Option Utf16PairError) (k : Utf16PairError) → option_map kind.Utf16 x ≡ Some (kind.Utf16 k) → x ≡ Some k
inner_kind None k e = cc
inner_kind (Some j) k e = cc

pub some_told : {E : Type 0} (kind : E → FaultKind) (x : Result ℕ E × ℕ) → 1 ≤ x.1 → 1 ≤ (told_as kind x).1
some_told kind (Ok s, n) h = h
some_told kind (Err e, n) h = h

pub lacking_units : (high : Bool) (from : Form) (n : ℕ) → HasByteOrder high from → lacking_told from n ≡ (Err (kind.Utf16 Incomplete), min 2 n)
lacking_units high from n form = rw (form, is_units high, lacking, fault_len) refl

lacks_where : (us : List ℕ) → (told_as kind.Utf16 (as_piece (decoded_pairs us))).0 ≡ Err (kind.Utf16 Incomplete) → unit_fault_kind us ≡ Some Incomplete
unfolding decoded_pairs
lacks_where us e = by_kind (unit_fault_kind us) refl
  where
    by_kind : (k : Option Utf16PairError) → unit_fault_kind us ≡ k → unit_fault_kind us ≡ Some Incomplete
    by_kind None h = let f = rw h at e in cc
    by_kind (Some j) h = let f = rw h at e in cc

-- two units are enough
two_lack : (high : Bool) (w : List ℕ) → 4 ≤ length w → unit_fault_kind (units_of high w) ≡ Some Incomplete → ⊥
two_lack high [] h e = absurd (omega arith)
two_lack high (a ∷ []) h e = absurd (omega arith)
two_lack high (a ∷ b ∷ []) h e = absurd (omega arith)
two_lack high (a ∷ b ∷ c ∷ []) h e = absurd (omega arith)
two_lack high (a ∷ b ∷ c ∷ d ∷ w) h e = two_do_not_lack _ _ _ e

plain_pairs : (u : ℕ) (us : List ℕ) → is_trailing_surrogate u ≡ false → is_leading_surrogate u ≡ false → decoded_pairs (u ∷ us) ≡ Ok (u, 1)
unfolding decoded_pairs unit_fault_kind unit_value
plain_pairs u us t l =
    let not_empty : eqb (length (u ∷ us)) 0 ≡ false = grind (arith, common_steps) in
    rw (not_empty, t, l) refl

module _ (high : Bool) (from : Form) (form : HasByteOrder high from) where
  told_by : (w : List ℕ) (r : Result (ℕ × ℕ) Utf16PairError) → decoded_pairs (units_of high w) ≡ r → first_told from w ≡ in_bytes w (told_as kind.Utf16 (as_piece r))
  told_by w r h = told_units high from w form ∙ ap (λ x. in_bytes w (told_as kind.Utf16 (as_piece x))) h

  pub unit_begins : (w : List ℕ) (s : ℕ) → 2 ≤ length w → IsScalar s → first_unit high w ∷ [] ≡ utf16 s → Begins from w (Ok s, 2)
  unit_begins w s two scalar e = record {
    some = omega arith;
    few = omega arith;
    within = two;
    first = λ later.
        let long : 2 ≤ length (w ++ later) = omega (arith, length-append w later) in
        let us = units_of high (drop 2 w ++ later) in
        let one : length (utf16 s) ≡ 1 = sym (ap length e) in
        let all : units_of high (w ++ later) ≡ utf16 s ++ us = units_two high w later two ∙ ap (λ xs. xs ++ us) e in
        let known : decoded_pairs (units_of high (w ++ later)) ≡ Ok (s, length (utf16 s)) = decoded_pairs_code (units_of high (w ++ later)) s (stands_first utf16 (units_of high (w ++ later)) us s scalar all) in
        let len : min (2 * length (utf16 s)) (length (w ++ later)) ≡ 2 = omega arith in
        told_by (w ++ later) (Ok (s, length (utf16 s))) known ∙ ap (λ m. (Ok s, m)) len;
  }

  -- a unit that is no surrogate, by its number
  pub plain_begins : (w : List ℕ) → 2 ≤ length w → is_trailing_surrogate (first_unit high w) ≡ false → is_leading_surrogate (first_unit high w) ≡ false → Begins from w (Ok (first_unit high w), 2)
  plain_begins w two t l = record {
    some = omega arith;
    few = omega arith;
    within = two;
    first = λ later.
        let long : 2 ≤ length (w ++ later) = omega (arith, length-append w later) in
        let len : min (2 * 1) (length (w ++ later)) ≡ 2 = omega arith in
        told_by (w ++ later) (Ok (first_unit high w, 1)) (ap decoded_pairs (units_two high w later two) ∙ plain_pairs (first_unit high w) (units_of high (drop 2 w ++ later)) t l)
        ∙ ap (λ m. (Ok (first_unit high w), m)) len;
  }

  pub pair_begins : (w : List ℕ) (s : ℕ) → 4 ≤ length w → IsScalar s → first_unit high w ∷ second_unit high w ∷ [] ≡ utf16 s → Begins from w (Ok s, 4)
  pair_begins w s four scalar e = record {
    some = omega arith;
    few = omega arith;
    within = four;
    first = λ later.
        let long : 4 ≤ length (w ++ later) = omega (arith, length-append w later) in
        let two : 2 ≤ length w = omega arith in
        let us = units_of high (drop 4 w ++ later) in
        let pair : length (utf16 s) ≡ 2 = sym (ap length e) in
        let all : units_of high (w ++ later) ≡ utf16 s ++ us = units_two high w later two ∙ ap (λ xs. first_unit high w ∷ xs) (units_next high w later four) ∙ ap (λ xs. xs ++ us) e in
        let known : decoded_pairs (units_of high (w ++ later)) ≡ Ok (s, length (utf16 s)) = decoded_pairs_code (units_of high (w ++ later)) s (stands_first utf16 (units_of high (w ++ later)) us s scalar all) in
        let len : min (2 * length (utf16 s)) (length (w ++ later)) ≡ 4 = omega arith in
        told_by (w ++ later) (Ok (s, length (utf16 s))) known ∙ ap (λ m. (Ok s, m)) len;
  }

  same_unit_kind : (w : List ℕ) (k : Utf16PairError) → kind_of from w ≡ Some (kind.Utf16 k) → unit_fault_kind (units_of high w) ≡ Some k
  same_unit_kind w k h = inner_kind (unit_fault_kind (units_of high w)) k (sym (kind_of_units high from w form) ∙ h)

  pub fault_begins : (w : List ℕ) (k : Utf16PairError) → BeginsFault from w (kind.Utf16 k) 2 → Begins from w (Err (kind.Utf16 k), 2)
  fault_begins w k b = record {
    some = omega arith;
    few = omega arith;
    within = b.within;
    first = λ later.
        let two = b.within in
        let long : 2 ≤ length (w ++ later) = omega (arith, length-append w later) in
        let len : min (2 * 1) (length (w ++ later)) ≡ 2 = omega arith in
        told_by (w ++ later) (Err k) (decoded_pairs_kind (units_of high (w ++ later)) k (same_unit_kind (w ++ later) k (b.kind later))) ∙ ap (λ m. (Err (kind.Utf16 k), m)) len;
  }

  pub told_len : (w : List ℕ) → 0 < length w → (n : ℕ) × ((first_told from w).1 ≡ min (2 * n) (length w))
  told_len w some = ((told_as kind.Utf16 (as_piece (decoded_pairs (units_of high w)))).1, ap (λ (y : Told). y.1) (told_units high from w form))

  -- The cases in which what follows decides.

  pub units_len : (w : List ℕ) → 0 < length w → (1 ≤ (first_told from w).1) × (2 ≤ length w → 2 ≤ (first_told from w).1) × ((first_told from w).1 ≤ length w)
  units_len w some =
      let x = told_as kind.Utf16 (as_piece (decoded_pairs (units_of high w))) in
      let one : 1 ≤ x.1 = some_told kind.Utf16 (as_piece (decoded_pairs (units_of high w))) (some_units (units_of high w)) in
      let e : (first_told from w).1 ≡ min (2 * x.1) (length w) = ap (λ (y : Told). y.1) (told_units high from w form) in
      (omega arith, λ two. omega arith, omega arith)

  pub byte_open : (w : List ℕ) → length w < 2 → 0 < length w → IsOpen from w
  byte_open w few some = record {
    one = [];
    other = 0 ∷ [];
    differ = λ same.
        let long = length-append w (0 ∷ []) in
        let as_it_is = length-append w [] in
        let short = units_len (w ++ []) (omega arith) in
        let longer = units_len (w ++ 0 ∷ []) (omega arith) in
        let two = longer.1 (omega arith) in
        let e : (first_told from (w ++ [])).1 ≡ (first_told from (w ++ 0 ∷ [])).1 = ap (λ (y : Told). y.1) same in
        omega arith;
  }

  lacking_last : (w : List ℕ) → unit_fault_kind (units_of high w) ≡ Some Incomplete → first_told from w ≡ lacking_told from (length w)
  lacking_last w e = told_by w (Err Incomplete) (decoded_pairs_kind (units_of high w) Incomplete e) ∙ sym (lacking_units high from (length w) form)

  pub byte_last : (w : List ℕ) → length w < 2 → first_told from w ≡ lacking_told from (length w)
  byte_last w few = lacking_last w (lacks_byte high w few)

  pub leading_last : (w : List ℕ) → 2 ≤ length w → length w < 4 → is_leading_surrogate (first_unit high w) ≡ true → first_told from w ≡ lacking_told from (length w)
  leading_last w two few l = lacking_last w (lacks_second high w two few l)

  pub leading_open : (w : List ℕ) → 2 ≤ length w → length w < 4 → is_leading_surrogate (first_unit high w) ≡ true → IsOpen from w
  leading_open w two few l = record {
    one = [];
    other = 0 ∷ 0 ∷ [];
    differ = λ same.
        let last : first_told from (w ++ []) ≡ lacking_told from (length w) = ap (first_told from) (append-nil w) ∙ leading_last w two few l in
        let lack : (first_told from (w ++ 0 ∷ 0 ∷ [])).0 ≡ Err (kind.Utf16 Incomplete) = ap (λ (y : Told). y.0) (sym same ∙ last ∙ lacking_units high from (length w) form) in
        let long : 4 ≤ length (w ++ 0 ∷ 0 ∷ []) = omega (arith, length-append w (0 ∷ 0 ∷ [])) in
        two_lack high (w ++ 0 ∷ 0 ∷ []) long (lacks_where (units_of high (w ++ 0 ∷ 0 ∷ [])) (ap (λ (y : Told). y.0) (sym (told_units high from (w ++ 0 ∷ 0 ∷ []) form)) ∙ lack));
  }

  -- the bytes of the code of a scalar
  units_begin : (s : ℕ) (later : List ℕ) → IsScalar s → Begins from (written from s ++ later) (Ok s, length (written from s))
  units_begin s later scalar = record {
    some = some_written from s scalar;
    few = few_written from s;
    within = omega (arith, length-append (written from s) later);
    first = λ more.
        let w = written from s ++ (later ++ more) in
        let all : units_of high w ≡ utf16 s ++ units_of high (later ++ more) = ap (λ v. units_of high (v ++ (later ++ more))) (as_written high from s form) ∙ units_of_bytes high (utf16 s) (later ++ more) in
        let known : decoded_pairs (units_of high w) ≡ Ok (s, length (utf16 s)) = decoded_pairs_code (units_of high w) s (stands_first utf16 (units_of high w) (units_of high (later ++ more)) s scalar all) in
        let two : length (written from s) ≡ 2 * length (utf16 s) = ap length (as_written high from s form) ∙ two_bytes high (utf16 s) in
        let len : min (2 * length (utf16 s)) (length w) ≡ length (written from s) = omega (arith, length-append (written from s) (later ++ more)) in
        ap (first_told from) (append_assoc (written from s) later more) ∙ told_by w (Ok (s, length (utf16 s))) known ∙ ap (λ m. (Ok s, m)) len;
  }

-- In each encoding the code of a scalar begins each list that begins with it.
pub code_begins : (form : Form) (s : ℕ) (later : List ℕ) → IsScalar s → Begins form (written form s ++ later) (Ok s, length (written form s))
code_begins =
    by_form _ (λ s later scalar. char_begins (utf8 s ++ later) s (length (utf8 s)) (stands_first utf8 (utf8 s ++ later) later s scalar refl, refl))
    (λ high. units_begin high (utf16_form high) refl)
