-- A record of units, character by character.
use Rattle.std.proofs.Common.{◌≡◌, ℕ, List, [], ◌∷◌, ◌++◌, refl, ap, sym, ◌∙◌, Some, Result, Ok, Err, append_assoc}
use Rattle.std.proofs.lemmas.List.{flat_map_more}
use Rattle.std.proofs.lemmas.List.Elements.{All-push}
use Rattle.std.specs.List.{flat_map}
use Rattle.std.specs.Prelude.{◌≢◌, All}
use Rattle.encode_unicode.specs.Code.{utf8, utf16}
use Rattle.encode_unicode.specs.Mergers.{TakesFront}
use Rattle.encode_unicode.specs.Scalar.{IsScalar}
use Rattle.encode_unicode.specs.Units.{unit_fault_kind}
use Rattle.encode_unicode.specs.declared.error.Utf16PairError.{Utf16PairError}
use Rattle.examples.specs.Records.{IsRecord}
use Rattle.examples.specs.declared.records.Ending.TheVariants.{Zero}

-- the units are the codes of the characters so far, which are the text, and those after them
pub record IsRecordSoFar (units text following : List ℕ) : Type 0 where
  pub scalars : List ℕ
  pub all : All (λ s. IsScalar s × (s ≢ 0)) scalars
  pub is_text : text ≡ flat_map utf8 scalars
  pub split : units ≡ flat_map utf16 scalars ++ following

pub record_char : {units text old new : List ℕ} {r : Result ℕ Utf16PairError} (s : ℕ) → IsRecordSoFar units text old → r ≡ Ok s → s ≢ 0 → TakesFront utf16 unit_fault_kind old (Some r) new
    → IsRecordSoFar units (text ++ utf8 s) new
record_char {r = (Err k)} s before is some takes = absurd (cc is)
record_char {old} {new} {r = (Ok t)} s before is some takes =
    let same : t ≡ s = cc in
    let h : IsScalar s × (old ≡ utf16 s ++ new) = rw (← same) takes in
    record {
      scalars = before.scalars ++ s ∷ [];
      all = All-push (λ x. IsScalar x × (x ≢ 0)) before.scalars s before.all (h.0, some);
      is_text = ap (λ ys. ys ++ utf8 s) before.is_text ∙ flat_map_more utf8 [] before.scalars s;
      split = before.split ∙ ap (λ ys. flat_map utf16 before.scalars ++ ys) h.1 ∙ sym (append_assoc (flat_map utf16 before.scalars) (utf16 s) new) ∙ ap (λ ys. ys ++ new) (flat_map_more utf16 [] before.scalars s);
    }

zero_unit : utf16 0 ≡ 0 ∷ []
unfolding utf16
zero_unit = refl

pub record_zero : {units text old new : List ℕ} {r : Result ℕ Utf16PairError} {s : ℕ} → IsRecordSoFar units text old → r ≡ Ok s → s ≡ 0 → TakesFront utf16 unit_fault_kind old (Some r) new
    → IsRecord units text Zero new
record_zero {r = (Err k)} before is zero takes = absurd (cc is)
record_zero {old} {new} {r = (Ok t)} before is zero takes =
    let same : t ≡ 0 = cc in
    let h : IsScalar 0 × (old ≡ utf16 0 ++ new) = rw (← same) takes in
    record { scalars = before.scalars; all = before.all; is_text = before.is_text; end = old; split = before.split; ends = h.1 ∙ ap (λ ys. ys ++ new) zero_unit }
