-- A strict call stops at the first fault of the bytes that were fed.
use Rattle.std.proofs.Common.{◌≡◌, ℕ, ◌-◌, ◌/◌, ◌<◌, ◌≤◌, ⊎_elim, Bool, List, [], ◌++◌, length, take, drop, flat_map, Option, Some, None, arith, refl, ap, sym, subst, ◌∙◌, append-nil, append_assoc, length-append, length-drop}
use Rattle.std.proofs.Math.Seq.{take-append_seam, drop-append_seam}
use Rattle.std.proofs.lemmas.Bool.{cases_lt}
use Rattle.std.proofs.lemmas.List.Concat.{flat_map-append}
use Rattle.std.proofs.lemmas.List.Elements.{All-append}
use Rattle.std.specs.Prelude.{All, option_map}
use Rattle.utf_base.specs.Code.{utf8, utf16}
use Rattle.utf_base.specs.Kinds.{fault_kind}
use Rattle.utf_base.specs.Scalar.{IsScalar}
use Rattle.utf_base.specs.Units.{unit_fault_kind}
use Rattle.utf_base.proofs.Utf8Code.{utf8_is_code}
use Rattle.utf_base.proofs.Utf16Code.{utf16_is_code}
use Rattle.utf_lanes.specs.BytePairs.{bytes_of, units_of}
use Rattle.recoding.specs.FirstFaults.{IsFirstFault, IsFirstFaultOf, IsFirstUnitFault, IsTextAndHeld, TellsFirst, TellsFirstAtEnd}
use Rattle.recoding.specs.Recoded.{Recoding, written}
use Rattle.recoding.specs.Strict.{EndsFeed, EndsFinish, FeedsStrictly, FinishesStrictly, kind_of}
use Rattle.recoding.specs.declared.faults.FaultKind.{FaultKind}
use Rattle.recoding.specs.declared.faults.FaultKind.TheVariants as kind
use Rattle.recoding.specs.declared.faults.StrictProgress.{StrictProgress}
use Rattle.recoding.specs.declared.form.Form.{Form}
use Rattle.recoding.specs.declared.form.Form.TheVariants.{Utf8}
use Rattle.recoding.specs.TextForms.{text_form}
use Rattle.recoding.proofs.Forms.{by_form, is_units}
use Rattle.recoding.proofs.CopiedUnits.{joined_bytes}
use Rattle.recoding.proofs.FirstFaults.{IsGoodTo, first_fault, first_pair_fault, good_all}
use Rattle.recoding.proofs.FrontBytes.{fault_is_some}
use Rattle.recoding.proofs.GoodCodes.{good_codes_front}
use Rattle.recoding.proofs.Growing.{two_bytes}
use Rattle.recoding.proofs.TextLaws.{units_of_bytes}

-- a kind that was wrapped
kind_within : {A B : Type 0} (wrap : A → B) (o : Option A) (b : B) → option_map wrap o ≡ Some b → (a : A) × (o ≡ Some a)
kind_within wrap None b e = absurd (cc)
kind_within wrap (Some a) b e = (a, refl)

module _ (code : ℕ → List ℕ) (cs more : List ℕ) where
  codes_taken : take (length (flat_map code cs)) (flat_map code cs ++ more) ≡ flat_map code cs
  codes_taken = take-append_seam (flat_map code cs) more

  codes_within : length (flat_map code cs) ≤ length (flat_map code cs ++ more)
  codes_within = omega (arith, length-append (flat_map code cs) more)

good_after_text : (cs more : List ℕ) → All IsScalar cs → IsGoodTo utf8 (flat_map utf8 cs ++ more) (length (flat_map utf8 cs))
good_after_text cs more all = good_codes_front utf8 utf8_is_code cs (flat_map utf8 cs ++ more) (length (flat_map utf8 cs)) (codes_within utf8 cs more) all (codes_taken utf8 cs more)

good_after_units : (cs more : List ℕ) → All IsScalar cs → IsGoodTo utf16 (flat_map utf16 cs ++ more) (length (flat_map utf16 cs))
good_after_units cs more all = good_codes_front utf16 utf16_is_code cs (flat_map utf16 cs ++ more) (length (flat_map utf16 cs)) (codes_within utf16 cs more) all (codes_taken utf16 cs more)

-- Text, and then bytes that have a fault, or none.

fault_after_text : (cs rest : List ℕ) (k : FaultKind) → All IsScalar cs → 0 < length rest → kind_of Utf8 rest ≡ Some k → IsFirstFault utf8 (flat_map utf8 cs ++ rest) (length (flat_map utf8 cs))
fault_after_text cs rest k all some e =
    let known = kind_within kind.Utf8 (fault_kind rest) k e in
    first_fault (flat_map utf8 cs ++ rest) (length (flat_map utf8 cs)) known.0 (good_after_text cs rest all) (omega (arith, length-append (flat_map utf8 cs) rest))
    (rw (drop-append_seam (flat_map utf8 cs) rest) known.1)

fault_after_units : (high : Bool) (cs rest : List ℕ) → All IsScalar cs → (0 < length (units_of high rest) → (k : _) × (unit_fault_kind (units_of high rest) ≡ Some k))
    → IsFirstUnitFault high (flat_map (bytes_of high) (flat_map utf16 cs) ++ rest) (length (flat_map (bytes_of high) (flat_map utf16 cs)))
fault_after_units high cs rest all known =
    let us = flat_map utf16 cs in
    let len = two_bytes high us in
    let half : length (flat_map (bytes_of high) us) / 2 ≡ length us = omega arith in
    let good = good_after_units cs (units_of high rest) all in
    let both = length-append us (units_of high rest) in
    record {
      within = omega (arith, length-append (flat_map (bytes_of high) us) rest);
      even = omega arith;
      first = rw (half, units_of_bytes high us rest) (
          ⊎_elim
          (λ (some : 0 < length (units_of high rest)).
          let kind = known some in
          first_pair_fault (us ++ units_of high rest) (length us) kind.0 good (omega arith) (rw (drop-append_seam us (units_of high rest)) kind.1))
          (λ (none : length (units_of high rest) ≤ 0). good_all utf16 (us ++ units_of high rest) (length us) good (omega arith))
          (cases_lt 0 (length (units_of high rest)))
          );
    }

-- In any encoding: if bytes are text and then a fault, that is the first fault.

told : (from : Form) (bytes : List ℕ) (n : ℕ) → (text_form from).first_fault bytes n → IsFirstFaultOf from bytes n
told from bytes n h = (λ e. rw e at h, λ e. rw e at h, λ e. rw e at h)

first_after : (from : Form) (bytes rest : List ℕ) (k : FaultKind) (cs : List ℕ) → All IsScalar cs → bytes ≡ flat_map (written from) cs ++ rest → 0 < length rest → kind_of from rest ≡ Some k
    → (n : ℕ) → n ≡ length (flat_map (written from) cs) → (text_form from).first_fault bytes n
first_after =
    by_form _ (λ bytes rest k cs all parts some e n at. rw (parts, at) (fault_after_text cs rest k all some e))
    (λ high. rw (is_units high, kind_of, written) (λ bytes rest k cs all parts some e n at.
    rw (parts, at, joined_bytes high cs) (fault_after_units high cs rest all (λ _. kind_within kind.Utf16 (unit_fault_kind (units_of high rest)) k e))))

-- The result of a call for a recoder that carried over nothing.
pub tells_first : (r : Recoding) (part old new : List ℕ) (p : StrictProgress) (s : Recoding) → FeedsStrictly r part old new p s → TellsFirst r part p s
tells_first r part old new p s f = record {
  place = λ none fault e.
      let ends = subst (λ o. EndsFeed r.from r.to o f.fault s.held (drop p.read part) (length old - p.written)) e f.ends in
      let left = f.fault ++ (s.held ++ drop p.read part) in
      let text = f.transcodes in
      let parts : part ≡ f.text ++ left = rw none at f.parts in
      let codes : part ≡ flat_map (written r.from) text.scalars ++ left = parts ∙ ap (λ xs. xs ++ left) text.codes in
      let long = ap length parts in
      let both = length-append f.text left in
      let faulty = length-append f.fault (s.held ++ drop p.read part) in
      let after = length-append s.held (drop p.read part) in
      let rest = length-drop p.read part in
      let within = f.within in
      let back = ends.1.back in
      let some = fault_is_some r.from in
      let len = ends.0.len in
      let known : kind_of r.from left ≡ Some fault.kind = rw (append-nil left) at (ends.0.kind []) in
      let place : p.read - fault.back ≡ length (flat_map (written r.from) text.scalars) = omega (arith, ap length text.codes) in
      (omega arith, told r.from part (p.read - fault.back) (first_after r.from part left fault.kind text.scalars text.all codes (omega arith) known (p.read - fault.back) place));
  text = λ none e.
      let ends = subst (λ o. EndsFeed r.from r.to o f.fault s.held (drop p.read part) (length old - p.written)) e f.ends in
      let text = f.transcodes in
      let parts : part ≡ f.text ++ (f.fault ++ (s.held ++ drop p.read part)) = rw none at f.parts in
      let held : f.fault ++ (s.held ++ drop p.read part) ≡ s.held = rw (ends.0, ends.1, append-nil s.held) refl in
      rw f.from (record { scalars = text.scalars; all = text.all; parts = parts ∙ ap (λ xs. f.text ++ xs) held ∙ ap (λ xs. xs ++ s.held) text.codes });
}

-- if bytes are text, they have no fault
none_in_units : (high : Bool) (cs : List ℕ) → All IsScalar cs → IsFirstUnitFault high (flat_map (bytes_of high) (flat_map utf16 cs)) (length (flat_map (bytes_of high) (flat_map utf16 cs)))
none_in_units high cs all = rw (append-nil (flat_map (bytes_of high) (flat_map utf16 cs))) at (fault_after_units high cs [] all (λ some. absurd (omega arith)))

none_in_text : (from : Form) (bytes : List ℕ) (cs : List ℕ) → All IsScalar cs → bytes ≡ flat_map (written from) cs → (text_form from).first_fault bytes (length bytes)
none_in_text =
    by_form _
    (λ bytes cs all is. rw is (good_all utf8 (flat_map utf8 cs) (length (flat_map utf8 cs)) (rw (append-nil (flat_map utf8 cs)) at (good_after_text cs [] all)) (omega arith)))
    (λ high. rw (is_units high, written) (λ bytes cs all is. rw (is, joined_bytes high cs) (none_in_units high cs all)))

-- The result at the end.
module _ (r : Recoding) (old new : List ℕ) (p : StrictProgress) (s : Recoding) (f : FinishesStrictly r old new p s) where
  -- the bytes are text, followed by the rest
  text_and_left : (bytes : List ℕ) → IsTextAndHeld r.from bytes r.held → IsTextAndHeld r.from bytes (f.fault ++ s.held)
  text_and_left bytes h =
      let text = f.transcodes in
      record {
        scalars = h.scalars ++ text.scalars;
        all = All-append IsScalar h.scalars text.scalars h.all text.all;
        parts =
            h.parts ∙ ap (λ xs. flat_map (written r.from) h.scalars ++ xs) (f.parts ∙ ap (λ xs. xs ++ (f.fault ++ s.held)) text.codes)
            ∙ sym (append_assoc (flat_map (written r.from) h.scalars) (flat_map (written r.from) text.scalars) (f.fault ++ s.held))
            ∙ ap (λ xs. xs ++ (f.fault ++ s.held)) (sym (flat_map-append (written r.from) h.scalars text.scalars));
      }

  pub tells_first_at_end : TellsFirstAtEnd r p
  tells_first_at_end = record {
    place = λ bytes fault h e.
        let ends = subst (λ o. EndsFinish r.from r.to o f.fault s.held (length old - p.written)) e f.ends in
        let t = text_and_left bytes h in
        let long = ap length t.parts in
        let both = length-append (flat_map (written r.from) t.scalars) (f.fault ++ s.held) in
        let faulty = length-append f.fault s.held in
        let back = ends.1.back in
        (omega arith, told r.from bytes (length bytes - fault.back) (first_after r.from bytes (f.fault ++ s.held) fault.kind t.scalars t.all t.parts ends.0.some ends.0.kind (length bytes - fault.back) (omega arith)));
    none = λ bytes h e.
        let ends = subst (λ o. EndsFinish r.from r.to o f.fault s.held (length old - p.written)) e f.ends in
        let t = text_and_left bytes h in
        let whole = flat_map (written r.from) t.scalars in
        told r.from bytes (length bytes) (none_in_text r.from bytes t.scalars t.all (t.parts ∙ ap (λ xs. whole ++ xs) (rw (ends.0, ends.1) refl) ∙ append-nil whole));
  }
