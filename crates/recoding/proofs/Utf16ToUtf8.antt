-- Units of text, and the same text as bytes.
use Rattle.std.proofs.Common.{◌≡◌, ℕ, zero, suc, ◌+◌, ◌-◌, ◌*◌, ◌<◌, ◌≤◌, Bool, true, false, ◌⊎◌, List, [], ◌∷◌, ◌++◌, length, get_or, take, drop, flat_map, arith, refl, sym, ap, ap₂, ◌∙◌, inl, inr, append_assoc, length-take, length-drop, w8, Fits}
use Rattle.std.proofs.lemmas.List.Elements.{All-cons}
use Rattle.std.specs.Prelude.{All}
use Rattle.utf_base.specs.Code.{utf8, utf16}
use Rattle.utf_base.specs.Scalar.{IsScalar}
use Rattle.utf_base.specs.Units.{is_leading_surrogate, is_trailing_surrogate, is_surrogate, pair_value}
use Rattle.utf_base.proofs.Utf16Code.{unit_is_code, pair_is_code, utf16-1}
use Rattle.recoding.specs.declared.form.Form.{Form}
use Rattle.recoding.specs.declared.form.Form.TheVariants.{Utf8}
use Rattle.utf_lanes.specs.BytePairs.{unit_of, unit_number, units_of}
use Rattle.recoding.specs.NextScalars.{HasByteOrder}
use Rattle.utf_lanes.specs.Utf8ToUtf16.{concat_range}
use Rattle.utf_lanes.specs.UnitBlocks.{AreCodes}
use Rattle.utf_lanes.specs.UnitCodes.{unit_code, code_at, lane_unit, AreText, WritesUnits}
use Rattle.recoding.specs.Replacing.{FillsPlace, at_place}
use Rattle.recoding.specs.Strict.{PutsText, Transcodes}
use Rattle.utf_lanes.specs.AsciiTexts.{AreAscii}
use Rattle.recoding.proofs.CopiedUnits.{coded_bytes, front_fits, rest_fits}
use Rattle.recoding.proofs.RoomRuns.{FillsPlace-more, FillsPlace-units}
use Rattle.recoding.proofs.TextRuns.{PutsText-after}
use Rattle.recoding.proofs.AsciiToUtf16.{ascii_codes, ascii_scalars}
use Rattle.utf_lanes.proofs.UnitBytes.{no_surrogate, character_code, pair_code, not_both, not_true}

-- Units of text are codes.

-- n units from the number k on
abbrev units : (ℕ → ℕ) → ℕ → ℕ → List ℕ
units u k n = concat_range (λ i. u i ∷ []) k n

-- n units are the codes of some scalars, and their bytes are codes of those
pub record Shown (u : ℕ → ℕ) (k n : ℕ) : Type 0 where
  pub ts : List ℕ
  pub all : All IsScalar ts
  pub made : units u k n ≡ flat_map utf16 ts
  pub codes : concat_range (code_at u) k n ≡ flat_map utf8 ts

shown_none : (u : ℕ → ℕ) (k : ℕ) → Shown u k 0
unfolding concat_range
shown_none u k = record { ts = []; all = λ i d lt. absurd (omega arith); made = refl; codes = refl }

shown_one : (u : ℕ → ℕ) (k n : ℕ) → u k < 0x1_0000 → is_leading_surrogate (u k) ≡ false → is_surrogate (u k) ≡ false → Shown u (suc k) n → Shown u k (suc n)
unfolding concat_range
shown_one u k n fits e f rest =
    let unit = unit_is_code (u k) fits f in
    record {
      ts = u k ∷ rest.ts;
      all = All-cons IsScalar (u k) rest.ts unit.0 rest.all;
      made = ap₂ (λ xs ys. xs ++ ys) unit.1 rest.made;
      codes = ap₂ (λ xs ys. xs ++ ys) (character_code (u (k - 1)) (u k) fits e f) rest.codes;
    }

shown_two : (u : ℕ → ℕ) (k n : ℕ) → is_leading_surrogate (u k) ≡ true → is_trailing_surrogate (u (suc k)) ≡ true → Shown u (suc (suc k)) n → Shown u k (suc (suc n))
unfolding concat_range
shown_two u k n e f rest =
    let pair = pair_is_code (u k) (u (suc k)) e f in
    let before : suc k - 1 ≡ k = omega arith in
    let code : unit_code (u (k - 1)) (u k) ++ unit_code (u (suc k - 1)) (u (suc k)) ≡ utf8 (pair_value (u k) (u (suc k)))
    = ap (λ i. unit_code (u (k - 1)) (u k) ++ unit_code (u i) (u (suc k))) before ∙ pair_code (u (k - 1)) (u k) (u (suc k)) e f in
    record {
      ts = pair_value (u k) (u (suc k)) ∷ rest.ts;
      all = All-cons IsScalar (pair_value (u k) (u (suc k))) rest.ts pair.0 rest.all;
      made = ap₂ (λ xs ys. xs ++ ys) pair.1 rest.made;
      codes =
          sym (append_assoc (unit_code (u (k - 1)) (u k)) (unit_code (u (suc k - 1)) (u (suc k))) (concat_range (code_at u) (suc (suc k)) n))
          ∙ ap₂ (λ xs ys. xs ++ ys) code rest.codes;
    }

either_is : (b : Bool) → (b ≡ true) ⊎ (b ≡ false)
either_is true = inl refl
either_is false = inr refl

module _ (u : ℕ → ℕ) (count : ℕ) (fits : (k : ℕ) → k < count → u k < 0x1_0000) (text : AreText u count) where
  -- no trailing surrogate is at that offset, if it is before the end
  abbrev Starts : ℕ → Type 0
  Starts k = k < count → is_trailing_surrogate (u k) ≡ false

  after_character : (k : ℕ) → is_leading_surrogate (u k) ≡ false → Starts (suc k)
  after_character k none lt =
      let at : k + 1 ≡ suc k = omega arith in
      not_true (is_trailing_surrogate (u (suc k))) (λ yes. let lead = text.trailing k (omega arith) (rw at yes) in absurd cc)

  after_pair : (k : ℕ) → is_trailing_surrogate (u (suc k)) ≡ true → Starts (suc (suc k))
  after_pair k trail lt =
      let at : suc k + 1 ≡ suc (suc k) = omega arith in
      not_true (is_trailing_surrogate (u (suc (suc k)))) (λ yes. not_both (u (suc k)) (text.trailing (suc k) (omega arith) (rw at yes)) trail)

  shown : (n k : ℕ) → k + n ≡ count → Starts k → Shown u k n
  shown zero k at starts = shown_none u k
  shown (suc zero) k at starts =
      let lone : is_leading_surrogate (u k) ≡ false = not_true _ (λ yes. let more = (text.leading k (omega arith) yes).0 in absurd (omega arith)) in
      shown_one u k 0 (fits k (omega arith)) lone (no_surrogate (u k) lone (starts (omega arith))) (shown_none u (suc k))
  shown (suc (suc n)) k at starts =
      elim (either_is (is_leading_surrogate (u k))) [
        | inl lead ↦ (
            let next : k + 1 ≡ suc k = omega arith in
            let trail : is_trailing_surrogate (u (suc k)) ≡ true = rw next at (text.leading k (omega arith) lead).1 in
            shown_two u k n lead trail (shown n (suc (suc k)) (omega arith) (after_pair k trail)))
        | inr lone ↦ shown_one u k (suc n) (fits k (omega arith)) lone (no_surrogate (u k) lone (starts (omega arith))) (shown (suc n) (suc k) (omega arith) (after_character k lone))
      ]

  pub all_shown : Shown u 0 count
  all_shown = shown count 0 (omega arith) text.first

ascii_units : (us : List ℕ) → AreAscii us 0 (length us) → us ≡ flat_map utf16 us
ascii_units [] low = refl
ascii_units (u ∷ us) low =
    let first : u < 0x80 = low 0 (omega arith) (omega arith) in
    ap₂ (λ xs ys. xs ++ ys) (sym (utf16-1 u (omega arith))) (ascii_units us (λ k ge lt. low (suc k) (omega arith) (omega arith)))

-- The units that bytes make, one by one.

abbrev ByBytes : Bool → List ℕ → (ℕ → ℕ) → ℕ → ℕ → Type 0
ByBytes high w u k n = (i : ℕ) → i < n → u (k + i) ≡ unit_of high (get_or w (2 * i) 0) (get_or w (2 * i + 1) 0)

units_are : (high : Bool) (u : ℕ → ℕ) (w : List ℕ) (n k : ℕ) → 2 * n ≤ length w → ByBytes high w u k n → units_of high (take (2 * n) w) ≡ units u k n
unfolding concat_range
units_are high u w zero k enough same = refl
units_are high u [] (suc n) k enough same = absurd (omega arith)
units_are high u (a ∷ []) (suc n) k enough same = absurd (omega arith)
units_are high u (a ∷ b ∷ w) (suc n) k enough same =
    let two : 2 * suc n ≡ suc (suc (2 * n)) = omega arith in
    let z : k + 0 ≡ k = omega arith in
    let first : u k ≡ unit_of high a b = rw z at (same 0 (omega arith)) in
    let rest = units_are high u w n (suc k) (omega arith)
    (λ i lt.
    let p : suc k + i ≡ k + suc i = omega arith in
    let q : 2 * suc i ≡ suc (suc (2 * i)) = omega arith in
    let r : 2 * suc i + 1 ≡ suc (suc (2 * i + 1)) = omega arith in
    ap u p ∙ same (suc i) (omega arith) ∙ ap₂ (λ x y. unit_of high (get_or (a ∷ b ∷ w) x 0) (get_or (a ∷ b ∷ w) y 0)) q r) in
    rw two (ap₂ (λ x xs. x ∷ xs) (sym first) rest)

unit_fits : (high : Bool) (a b : ℕ) → a < 256 → b < 256 → unit_of high a b < 0x1_0000
unit_fits true a b A B = omega arith
unit_fits false a b A B = omega arith

-- Units that are text are the same text as their bytes.
module _ (high : Bool) (from : Form) (w : List ℕ) (u : ℕ → ℕ) (n : ℕ) (form : HasByteOrder high from) (fits : (i : ℕ) → Fits w8 (get_or w i 0)) (enough : 2 * n ≤ length w)
    (same : (k : ℕ) → k < n → u k ≡ unit_of high (get_or w (2 * k) 0) (get_or w (2 * k + 1) 0)) (text : AreText u n) where
  unit_below : (k : ℕ) → k < n → u k < 0x1_0000
  unit_below k lt = let h = unit_fits high (get_or w (2 * k) 0) (get_or w (2 * k + 1) 0) (fits (2 * k)).fits (fits (2 * k + 1)).fits in omega (arith, same k lt)

  front_units : units_of high (take (2 * n) w) ≡ units u 0 n
  front_units = units_are high u w n 0 enough (λ i lt. let z : 0 + i ≡ i = omega arith in rw z (same i lt))

  front_len : length (take (2 * n) w) ≡ 2 * n
  front_len = omega (arith, length-take (2 * n) w)

  abbrev s : Shown u 0 n
  s = all_shown u n unit_below text

  pub Transcodes-narrowed : Transcodes from Utf8 (take (2 * n) w) (concat_range (code_at u) 0 n)
  Transcodes-narrowed =
      let codes : AreCodes (units_of high (take (2 * n) w)) = record { scalars = s.ts; all = s.all; codes = front_units ∙ s.made } in
      record { scalars = s.ts; all = s.all; codes = coded_bytes high from (take (2 * n) w) n form codes front_len (front_fits w (2 * n) fits); made = s.codes }

  pub PutsText-narrowed : {O : Type 0} {appends : O → List ℕ → O → Type 0} {old new : O} → appends old (concat_range (code_at u) 0 n) new → PutsText appends from Utf8 w old new (2 * n)
  PutsText-narrowed put = record { within = enough; grown = concat_range (code_at u) 0 n; appended = put; transcodes = Transcodes-narrowed }

-- One more block of them, appended to any output.
pub PutsText-block : {O : Type 0} {appends : O → List ℕ → O → Type 0} → ((a b c : O) (xs ys : List ℕ) → appends a xs b → appends b ys c → appends a (xs ++ ys) c) → (high : Bool) → {from : Form} {bytes : List ℕ} {u : ℕ → ℕ}
    {old mid new : O} {p n : ℕ} → HasByteOrder high from → ((i : ℕ) → Fits w8 (get_or bytes i 0)) → PutsText appends from Utf8 bytes old mid p → 2 * n ≤ length bytes - p
    → ((k : ℕ) → k < n → u k ≡ unit_number high (drop p bytes) k) → AreText u n → appends mid (concat_range (code_at u) 0 n) new → PutsText appends from Utf8 bytes old new (p + 2 * n)
PutsText-block more high {from} {bytes} {u} {p = p} {n} form fits before enough same text put =
    PutsText-after more before (PutsText-narrowed high from (drop p bytes) u n form (rest_fits bytes p fits) (omega (arith, length-drop p bytes)) same text put)

-- one more block of them, written into a buffer
pub FillsPlace-block : (high : Bool) → {from : Form} {bytes room now new low upper : List ℕ} {width start at n end p : ℕ} → HasByteOrder high from → ((i : ℕ) → Fits w8 (get_or bytes i 0))
    → PutsText FillsPlace from Utf8 bytes (at_place room start) (at_place now at) p → 2 * n ≤ length bytes - p → ((k : ℕ) → k < n → lane_unit low upper k ≡ unit_number high (drop p bytes) k)
    → WritesUnits width low upper now new at n end → end ≤ length now → PutsText FillsPlace from Utf8 bytes (at_place room start) (at_place new end) (p + 2 * n)
FillsPlace-block high form fits before enough same put within = PutsText-block FillsPlace-more high form fits before enough same put.text (FillsPlace-units put before.appended.fits within)

-- Sixteen bytes that are eight units of ASCII are text.
pub Transcodes-ascii : (high : Bool) {from : Form} {v us ascii : List ℕ} → HasByteOrder high from → ((i : ℕ) → Fits w8 (get_or v i 0)) → length v ≡ 16 → length us ≡ 8 → us ≡ units_of high v → AreAscii us 0 8
    → ascii ≡ us → Transcodes from Utf8 v ascii
Transcodes-ascii high {from} {v} {us} {ascii} form fits even eight e low same =
    let each : AreAscii us 0 (length us) = λ k ge lt. low k ge (omega arith) in
    let codes : AreCodes (units_of high v) = record { scalars = us; all = ascii_scalars us each; codes = sym e ∙ ascii_units us each } in
    record { scalars = us; all = ascii_scalars us each; codes = coded_bytes high from v 8 form codes even fits; made = same ∙ sym (ascii_codes us each) }
