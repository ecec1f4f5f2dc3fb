-- The carried-over bytes are undecided: the front of a code shows U+FFFD if nothing follows, and another scalar
-- before the rest of its code.
use Rattle.std.proofs.Common.{◌≡◌, ◌≢◌, ℕ, zero, suc, ◌+◌, ◌-◌, ◌*◌, ◌/◌, ◌%◌, ◌<◌, ◌≤◌, ⊎_elim, Bool, true, false, not, if◌then◌else◌, List, [], ◌∷◌, ◌++◌, length, get_or, take, drop, flat_map, arith, refl, ap, ap₂, sym, ◌∙◌, Some, None, lit<, take-append-drop}
use Rattle.std.proofs.lemmas.Grind.{common_steps}
use Rattle.std.proofs.lemmas.Bool.{cases_lt}
use Rattle.std.proofs.lemmas.List.{append-nil, get_or-take}
use Rattle.utf_base.specs.declared.errors.units.Utf16PairError.TheVariants.{Incomplete, UnexpectedTrailingSurrogate}
use Rattle.utf_base.specs.Scalar.{IsScalar}
use Rattle.utf_base.specs.Code.{utf8, utf16, IsCode}
use Rattle.utf_base.specs.Piece.{Stands}
use Rattle.utf_base.specs.Units.{is_leading_surrogate, is_trailing_surrogate, unit_fault_kind}
use Rattle.utf_base.proofs.Rests.{fault_shows_first}
use Rattle.utf_base.proofs.SubpartLemmas.{element_of_front}
use Rattle.utf_base.proofs.Standing.{Stands-at}
use Rattle.utf_base.proofs.Utf8Code.{utf8_is_code}
use Rattle.utf_base.proofs.Utf16Code.{utf16-1, utf16-2}
use Rattle.utf_lanes.specs.BytePairs.{bytes_of}
use Rattle.recoding.specs.declared.form.Form.{Form}
use Rattle.recoding.specs.declared.form.Form.TheVariants.{Utf8}
use Rattle.recoding.specs.TextForms.{units_form, utf16_form}
use Rattle.recoding.proofs.Forms.{by_form, is_units}
use Rattle.recoding.specs.Recoded.{IsProperFront, Lacks, Reads, ShowsUnits, written}
use Rattle.recoding.specs.Undecided.{AreBytes, FrontsAreUndecided, LackingTextIsUndecided, LackingUnitsAreUndecided, LackingUnitIsUndecided}
use Rattle.recoding.proofs.FrontBytes.{byte_shows, leading_shows, first_unit}
use Rattle.recoding.proofs.Growing.{reads_none, reads_some}
use Rattle.recoding.proofs.TextLaws.{text_shows}
use Rattle.std.proofs.lemmas.List.Elements.{All-cons, All-nil}

-- A whole code shows its scalar.

reads_code : (from : Form) (s : ℕ) → IsScalar s → Reads from (written from s) (s ∷ [])
reads_code from s h =
    rw (append-nil (written from s), append-nil (written from s)) at (text_shows from (s ∷ []) (All-cons IsScalar s [] h (All-nil IsScalar)) [] [] (reads_none from))

-- A front of a code shows U+FFFD first.

pub no_code_in_front : (code : ℕ → List ℕ) → IsCode code → (w : List ℕ) (t s : ℕ) → IsScalar t → length w < length (code t) → take (length w) (code t) ≡ w → Stands code w 0 s → ⊥
no_code_in_front code c w t s scalar longer front h =
    let some = c.some s h.scalar in
    let within = h.within in
    let first : get_or w 0 0 ≡ get_or (code s) 0 0 = Stands-at code w 0 s 0 0 (omega arith) h some in
    let of_front : get_or w 0 0 ≡ get_or (code t) 0 0 = ap (λ xs. get_or xs 0 0) (sym front) ∙ get_or-take (length w) (code t) 0 0 (omega arith) in
    let same = c.sized s t h.scalar scalar (sym first ∙ of_front) in
    omega arith

-- the first unit of some bytes that begin the code of a pair
record Leads (high : Bool) (w : List ℕ) : Type 0 where
  pub few : length w < 4
  pub leading : is_leading_surrogate (first_unit high w) ≡ true

is_leading : (t : ℕ) → 0x1_0000 ≤ t → t < 0x11_0000 → is_leading_surrogate (0xD800 + (t - 0x1_0000) / 1024) ≡ true
is_leading t low high = grind (arith, common_steps)

leads : (high : Bool) (w : List ℕ) (t : ℕ) → IsScalar t → 2 ≤ length w → length w < length (flat_map (bytes_of high) (utf16 t))
    → take (length w) (flat_map (bytes_of high) (utf16 t)) ≡ w → Leads high w
leads true w t scalar two longer front =
    ⊎_elim
    (λ (low : t < 0x1_0000). let short : length w < 2 = rw (utf16-1 t low) at longer in absurd (omega arith))
    (λ (wide : 0x1_0000 ≤ t).
    let u = 0xD800 + (t - 0x1_0000) / 1024 in
    let few : length w < 4 = rw (utf16-2 t wide) at longer in
    let code = rw (utf16-2 t wide) at front in
    let a : get_or w 0 0 ≡ u / 256 = element_of_front w _ 0 (omega arith) code in
    let b : get_or w 1 0 ≡ u % 256 = element_of_front w _ 1 (omega arith) code in
    let e : first_unit true w ≡ u = omega arith in
    record { few = few; leading = rw e (is_leading t wide scalar.below) })
    (cases_lt t 0x1_0000)
leads false w t scalar two longer front =
    ⊎_elim
    (λ (low : t < 0x1_0000). let short : length w < 2 = rw (utf16-1 t low) at longer in absurd (omega arith))
    (λ (wide : 0x1_0000 ≤ t).
    let u = 0xD800 + (t - 0x1_0000) / 1024 in
    let few : length w < 4 = rw (utf16-2 t wide) at longer in
    let code = rw (utf16-2 t wide) at front in
    let a : get_or w 0 0 ≡ u % 256 = element_of_front w _ 0 (omega arith) code in
    let b : get_or w 1 0 ≡ u / 256 = element_of_front w _ 1 (omega arith) code in
    let e : first_unit false w ≡ u = omega arith in
    record { few = few; leading = rw e (is_leading t wide scalar.below) })
    (cases_lt t 0x1_0000)

units_alone : (high : Bool) (w : List ℕ) → 0 < length w → (t : ℕ) → IsScalar t → length w < length (flat_map (bytes_of high) (utf16 t))
    → take (length w) (flat_map (bytes_of high) (utf16 t)) ≡ w → (ss : List ℕ) × ShowsUnits high w (0xFFFD ∷ ss)
units_alone high w some t scalar longer front =
    let rest = (units_form high).reads_some (drop 2 w) in
    ⊎_elim
    (λ (one : length w < 2). (rest.0, byte_shows high w one some rest.0 rest.1))
    (λ (two : 2 ≤ length w). let h = leads high w t scalar two longer front in (rest.0, leading_shows high w two h.few h.leading rest.0 rest.1))
    (cases_lt (length w) 2)

front_alone : (from : Form) (w : List ℕ) → 0 < length w → IsProperFront (written from) w → (ss : List ℕ) × Reads from w (0xFFFD ∷ ss)
front_alone =
    by_form _
    (λ w some f.
    let rest = reads_some Utf8 (drop 1 w) in
    let none : (s : ℕ) → Stands utf8 (w ++ []) 0 s → ⊥
    = λ s h. no_code_in_front utf8 utf8_is_code w f.char s f.scalar f.longer f.front (rw (append-nil w) at h) in
    (rest.0, rw (append-nil w) at (fault_shows_first utf8 utf8_is_code w [] rest.0 some none (rw (append-nil (drop 1 w)) rest.1))))
    (λ high. rw (is_units high, Reads, written) (λ w some f. units_alone high w some f.char f.scalar f.longer f.front))

-- The bytes are also the front of a code that is not that of U+FFFD.

record IsOtherFront (code : ℕ → List ℕ) (w : List ℕ) : Type 0 where
  pub char : ℕ
  pub scalar : IsScalar char
  pub other : char ≢ 0xFFFD
  pub front : take (length w) (code char) ≡ w

utf8_replaced : (n : ℕ) → n < length (utf8 0xFFFD) → take n (utf8 0xFFFE) ≡ take n (utf8 0xFFFD)
unfolding utf8
utf8_replaced zero h = refl
utf8_replaced (suc zero) h = refl
utf8_replaced (suc (suc zero)) h = refl
utf8_replaced (suc (suc (suc n))) h = absurd (omega arith)

low_first_replaced : (n : ℕ) → n < length (flat_map (bytes_of false) (utf16 0xFFFD)) → take n (flat_map (bytes_of false) (utf16 0xFD)) ≡ take n (flat_map (bytes_of false) (utf16 0xFFFD))
unfolding utf16
low_first_replaced zero h = refl
low_first_replaced (suc zero) h = refl
low_first_replaced (suc (suc n)) h = absurd (omega arith)

high_first_replaced : (n : ℕ) → n < length (flat_map (bytes_of true) (utf16 0xFFFD)) → take n (flat_map (bytes_of true) (utf16 0xFFFE)) ≡ take n (flat_map (bytes_of true) (utf16 0xFFFD))
unfolding utf16
high_first_replaced zero h = refl
high_first_replaced (suc zero) h = refl
high_first_replaced (suc (suc n)) h = absurd (omega arith)

below_pairs : (s : ℕ) → s < 0x1_0000 → (0xD800 ≤ s → 0xE000 ≤ s) → IsScalar s
below_pairs s h gap = record { below = omega arith; no_surrogate = gap }

units_replaced : (high : Bool) (w : List ℕ) → length w < length (flat_map (bytes_of high) (utf16 0xFFFD)) → take (length w) (flat_map (bytes_of high) (utf16 0xFFFD)) ≡ w
    → IsOtherFront (λ s. flat_map (bytes_of high) (utf16 s)) w
units_replaced false w longer front = record { char = 0xFD; scalar = below_pairs 0xFD (lit< tt) (λ h. absurd (omega arith)); other = λ e. absurd (omega arith); front = low_first_replaced (length w) longer ∙ front }
units_replaced true w longer front = record { char = 0xFFFE; scalar = below_pairs 0xFFFE (lit< tt) (λ h. lit< tt); other = λ e. absurd (omega arith); front = high_first_replaced (length w) longer ∙ front }

replaced : (from : Form) (w : List ℕ) → length w < length (written from 0xFFFD) → take (length w) (written from 0xFFFD) ≡ w → IsOtherFront (written from) w
replaced =
    by_form _
    (λ w longer front. record { char = 0xFFFE; scalar = below_pairs 0xFFFE (lit< tt) (λ h. lit< tt); other = λ e. absurd (omega arith); front = utf8_replaced (length w) longer ∙ front })
    (λ high. rw (is_units high, written) (units_replaced high))

other_front : (from : Form) (w : List ℕ) → IsProperFront (written from) w → IsOtherFront (written from) w
other_front from w f =
    ⊎_elim
    (λ (below : f.char < 0xFFFD). record { char = f.char; scalar = f.scalar; other = λ e. absurd (omega arith); front = f.front })
    (λ (from_it : 0xFFFD ≤ f.char).
    ⊎_elim
    (λ (above : 0xFFFD < f.char). record { char = f.char; scalar = f.scalar; other = λ e. absurd (omega arith); front = f.front })
    (λ (up_to_it : f.char ≤ 0xFFFD). let e : f.char ≡ 0xFFFD = omega arith in replaced from w (rw e at f.longer) (rw e at f.front))
    (cases_lt 0xFFFD f.char))
    (cases_lt f.char 0xFFFD)

pub fronts_are_undecided : FrontsAreUndecided
fronts_are_undecided from w some f =
    let o = other_front from w f in
    let code : w ++ drop (length w) (written from o.char) ≡ written from o.char
    = ap (λ xs. xs ++ drop (length w) (written from o.char)) (sym o.front) ∙ take-append-drop (length w) (written from o.char) in
    record {
      later = drop (length w) (written from o.char);
      char = o.char;
      scalar = o.scalar;
      other = o.other;
      code = code;
      followed = rw code (reads_code from o.char o.scalar);
      alone = front_alone from w some f;
    }

-- Units that lack others are the front of a pair's code.

leading_where_alone : (t l : Bool) → (if t then Some UnexpectedTrailingSurrogate else if not l then None else Some Incomplete) ≡ Some Incomplete → l ≡ true
leading_where_alone true l h = cc
leading_where_alone false true h = refl
leading_where_alone false false h = cc

pub leading_by_itself : (u : ℕ) → unit_fault_kind (u ∷ []) ≡ Some Incomplete → is_leading_surrogate u ≡ true
unfolding unit_fault_kind
leading_by_itself u h = leading_where_alone (is_trailing_surrogate u) (is_leading_surrogate u) h

pub two_do_not_lack : (u v : ℕ) (us : List ℕ) → unit_fault_kind (u ∷ v ∷ us) ≡ Some Incomplete → ⊥
unfolding unit_fault_kind
two_do_not_lack u v us h = grind (arith, common_steps)

-- a scalar whose code is a leading surrogate and a trailing one
record IsPair (u v : ℕ) : Type 0 where
  pub char : ℕ
  pub scalar : IsScalar char
  pub code : utf16 char ≡ u ∷ v ∷ []

pair : (u c : ℕ) → is_leading_surrogate u ≡ true → c < 0x400 → IsPair u (0xDC00 + c)
pair u c leading few =
    let low : 0xD800 ≤ u = grind (arith, common_steps) in
    let high : u < 0xDC00 = grind (arith, common_steps) in
    let t = 0x1_0000 + (u - 0xD800) * 1024 + c in
    let first : 0xD800 + (t - 0x1_0000) / 1024 ≡ u = omega arith in
    let second : 0xDC00 + (t - 0x1_0000) % 1024 ≡ 0xDC00 + c = omega arith in
    record {
      char = t;
      scalar = record { below = omega arith; no_surrogate = λ h. omega arith };
      code = utf16-2 t (omega arith) ∙ ap₂ (λ x y. x ∷ y ∷ []) first second;
    }

low_first_front : (w : List ℕ) → AreBytes w → 0 < length w → Lacks (utf16_form false) w → IsProperFront (written (utf16_form false)) w
low_first_front [] bytes some h = absurd (omega arith)
low_first_front (a ∷ []) bytes some h =
    let low : a < 0x100 = bytes 0 0 (lit< tt) in
    let code = utf16-1 a (omega arith) in
    let same : a % 256 ≡ a = omega arith in
    record { char = a; scalar = below_pairs a (omega arith) (λ g. absurd (omega arith)); longer = rw code (lit< tt); front = rw code (ap (λ x. x ∷ []) same) }
low_first_front (a ∷ b ∷ []) bytes some h =
    let low : a < 0x100 = bytes 0 0 (lit< tt) in
    let p = pair (b * 256 + a) 0 (leading_by_itself (b * 256 + a) h) (lit< tt) in
    let first : (b * 256 + a) % 256 ≡ a = omega arith in
    let second : (b * 256 + a) / 256 ≡ b = omega arith in
    record { char = p.char; scalar = p.scalar; longer = rw p.code (lit< tt); front = rw p.code (ap₂ (λ x y. x ∷ y ∷ []) first second) }
low_first_front (a ∷ b ∷ c ∷ []) bytes some h =
    let low : a < 0x100 = bytes 0 0 (lit< tt) in
    let third : c < 0x100 = bytes 2 0 (lit< tt) in
    let p = pair (b * 256 + a) c (leading_by_itself (b * 256 + a) h) (omega arith) in
    let first : (b * 256 + a) % 256 ≡ a = omega arith in
    let second : (b * 256 + a) / 256 ≡ b = omega arith in
    let last : (0xDC00 + c) % 256 ≡ c = omega arith in
    record {
      char = p.char;
      scalar = p.scalar;
      longer = rw p.code (lit< tt);
      front = rw p.code (ap₂ (λ x xs. x ∷ xs) first (ap₂ (λ y z. y ∷ z ∷ []) second last));
    }
low_first_front (a ∷ b ∷ c ∷ d ∷ w) bytes some h = absurd (two_do_not_lack _ _ _ h)

high_first_front : (a b : ℕ) → b < 0x100 → Lacks (utf16_form true) (a ∷ b ∷ []) → IsProperFront (written (utf16_form true)) (a ∷ b ∷ [])
high_first_front a b low h =
    let p = pair (a * 256 + b) 0 (leading_by_itself (a * 256 + b) h) (lit< tt) in
    let first : (a * 256 + b) / 256 ≡ a = omega arith in
    let second : (a * 256 + b) % 256 ≡ b = omega arith in
    record { char = p.char; scalar = p.scalar; longer = rw p.code (lit< tt); front = rw p.code (ap₂ (λ x y. x ∷ y ∷ []) first second) }

pub lacking_text : LackingTextIsUndecided
lacking_text w some h = fronts_are_undecided Utf8 w some h

pub lacking_units : LackingUnitsAreUndecided
lacking_units w bytes some h = fronts_are_undecided (utf16_form false) w some (low_first_front w bytes some h)

pub lacking_unit : LackingUnitIsUndecided
lacking_unit [] bytes two h = absurd (omega arith)
lacking_unit (a ∷ []) bytes two h = absurd (omega arith)
lacking_unit (a ∷ b ∷ []) bytes two h = fronts_are_undecided (utf16_form true) (a ∷ b ∷ []) (lit< tt) (high_first_front a b (bytes 1 0 (lit< tt)) h)
lacking_unit (a ∷ b ∷ c ∷ w) bytes two h = absurd (omega arith)
