-- A run has no error if and only if its bytes are text.
use Rattle.std.proofs.Common.{◌≡◌, ℕ, suc, ◌+◌, List, [], ◌∷◌, map, refl, sym, ◌∙◌, arith, true, cond, Ok, Err, Result}
use Rattle.std.proofs.lemmas.List.Elements.{All-cons, All-nil}
use Rattle.std.proofs.lemmas.List.Sums.{sum_by-cons}
use Rattle.std.proofs.lemmas.Str.{IsUtf8-append, IsUtf8-nil}
use Rattle.std.specs.Prelude.{All, flat_map, is_err, is_some}
use Rattle.std.specs.Result.{result_ok}
use Rattle.std.specs.Str.{IsUtf8}
use Rattle.utf_base.specs.declared.errors.Utf8ErrorKind.{Utf8ErrorKind}
use Rattle.utf_base.specs.Scalar.{IsScalar}
use Rattle.utf_base.specs.Code.{utf8}
use Rattle.utf_base.specs.CutLaws.{HaveNoFault}
use Rattle.utf_base.specs.Kinds.{fault_kind}
use Rattle.utf_base.proofs.FrontLemmas.{utf8_finds}
use Rattle.utf_base.proofs.JoinedCodes.{no_fault_in_joined_codes}
use Rattle.utf_base.proofs.StdText.{utf8_is_text}
use Rattle.utf_base.proofs.Utf8Code.{utf8_is_code}
use Rattle.encode_unicode.specs.Window.{Item}
use Rattle.utf_base.proofs.TextScalars.{joined_from_text}
use Rattle.text_runs.specs.Items.{piece_of, answers_of}
use Rattle.text_runs.specs.ForwardRuns.{IsForwardRun, faulty_item_count}
use Rattle.text_runs.proofs.RunLaws.{run_of_joined}

text_from_joined : (scalars : List ℕ) → All IsScalar scalars → IsUtf8 (flat_map utf8 scalars)
text_from_joined [] h = IsUtf8-nil
text_from_joined (s ∷ rest) h =
    IsUtf8-append (utf8 s) (flat_map utf8 rest) (utf8_is_text s (h 0 s (omega arith))) (text_from_joined rest (λ k d lt. h (suc k) d (omega arith)))

first_is_char : (r : Result ℕ Utf8ErrorKind) (n : ℕ) → cond (is_err r) 1 0 + n ≡ 0 → (is_some (result_ok r) ≡ true) × (n ≡ 0)
first_is_char (Ok s) n e = (refl, omega arith)
first_is_char (Err k) n e = absurd (omega arith)

pub fault_count-more : (x : Item) (items : List Item) → faulty_item_count (x ∷ items) ≡ cond (is_err x.1) 1 0 + faulty_item_count items
fault_count-more x items = sum_by-cons (λ (y : Item). cond (is_err y.1) 1 0) x items

no_fault_from_zero : (items : List Item) → faulty_item_count items ≡ 0 → HaveNoFault (map piece_of items)
no_fault_from_zero [] e = All-nil (λ x. is_some x.char ≡ true)
no_fault_from_zero (x ∷ items) e =
    let first = first_is_char x.1 (faulty_item_count items) (sym (fault_count-more x items) ∙ e) in
    All-cons (λ x. is_some x.char ≡ true) (piece_of x) (map piece_of items) first.0 (no_fault_from_zero items first.1)

zero_from_chars : (items : List Item) (scalars : List ℕ) → answers_of items ≡ map Ok scalars → faulty_item_count items ≡ 0
zero_from_chars [] scalars e = refl
zero_from_chars (x ∷ items) [] e = absurd cc
zero_from_chars (x ∷ items) (s ∷ scalars) e =
    let first : x.1 ≡ Ok s = cc in
    let rest : answers_of items ≡ map Ok scalars = cc in
    fault_count-more x items ∙ no_more (cond {A = ℕ} (is_err x.1) 1 0) (faulty_item_count items) (none_of_char x.1 s first) (zero_from_chars items scalars rest)
  where
    none_of_char : (r : Result ℕ Utf8ErrorKind) (s : ℕ) → r ≡ Ok s → cond {A = ℕ} (is_err r) 1 0 ≡ 0
    none_of_char (Ok t) s e = refl
    none_of_char (Err k) s e = absurd cc

    no_more : (a b : ℕ) → a ≡ 0 → b ≡ 0 → a + b ≡ 0
    no_more a b e f = omega arith

pub text_where_no_fault : (xs : List ℕ) (items : List Item) → IsForwardRun xs items → faulty_item_count items ≡ 0 → IsUtf8 xs
text_where_no_fault xs items run e =
    let found = (no_fault_in_joined_codes utf8 utf8_is_code utf8_finds).only xs (map piece_of items) run.cut (no_fault_from_zero items e) in
    rw found.1.1 (text_from_joined found.0 found.1.0)

pub no_fault_where_text : (xs : List ℕ) (items : List Item) → IsForwardRun xs items → IsUtf8 xs → faulty_item_count items ≡ 0
no_fault_where_text xs items run text =
    let joined = joined_from_text xs text in
    zero_from_chars items joined.0 (run_of_joined utf8 fault_kind utf8_is_code utf8_finds xs joined.0 items joined.1 run)
