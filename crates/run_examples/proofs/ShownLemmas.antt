-- What the pieces of some bytes show, and the text before their first fault.
use Rattle.std.proofs.Common.{◌≡◌, ℕ, ◌+◌, ◌-◌, ◌<◌, ◌≤◌, List, [], ◌∷◌, length, map, take, drop, false, cond, None, Ok, Err, Result, ⊎_elim, arith, refl, ap, ◌∙◌, is_err}
use Rattle.std.proofs.lemmas.Bool.{cases_lt}
use Rattle.std.proofs.lemmas.Grind.{common_steps}
use Rattle.std.proofs.lemmas.List.{drop-take, take-take}
use Rattle.std.proofs.lemmas.List.Elements.{All-rest}
use Rattle.std.proofs.lemmas.List.Sums.{sum_by-cons}
use Rattle.std.specs.Prelude.{All, IfOk, flat_map, slice_range}
use Rattle.std.specs.Result.{result_ok}
use Rattle.std.specs.Str.{IsUtf8}
use Rattle.encode_unicode.specs.Code.{utf8}
use Rattle.encode_unicode.specs.Piece.{Covered, Piece, IsPiece, Stands}
use Rattle.encode_unicode.specs.Pieces.{pieces}
use Rattle.encode_unicode.specs.Shown.{shown}
use Rattle.encode_unicode.specs.Window.{Item}
use Rattle.encode_unicode.specs.declared.error.Utf8ErrorKind.{Utf8ErrorKind}
use Rattle.cuts.specs.Items.{piece_of}
use Rattle.cuts.specs.Recoded.{IsRecoded}
use Rattle.cuts.specs.ForwardRuns.{PiecesAreTheRun, TextHasNoFault, faulty_item_count}
use Rattle.cuts.specs.WellFormed.{IsFirstFault}
use Rattle.cuts.specs.declared.Form.TheVariants.{Utf8}
use Rattle.run_examples.specs.Shown.{shown_item}

same_shown : (items : List Item) → map shown_item items ≡ map shown (map piece_of items)
same_shown [] = refl
same_shown (x ∷ items) = ap (λ ss. shown_item x ∷ ss) (same_shown items)

shown_recoded : PiecesAreTheRun → (xs out : List ℕ) → out ≡ flat_map utf8 (map shown_item (pieces xs)) → IsRecoded Utf8 Utf8 xs out
shown_recoded law xs out e =
    let run = (law xs (pieces xs)).1 refl in
    (map shown_item (pieces xs), (map piece_of (pieces xs), run.cut, same_shown (pieces xs)), e)

pub result_recoded : {C E : Type 0} → PiecesAreTheRun → (xs : List ℕ) (r : Result C E) (bytes : C → List ℕ) → IfOk r (λ made. bytes made ≡ flat_map utf8 (map shown_item (pieces xs)))
    → IfOk r (λ made. IsRecoded Utf8 Utf8 xs (bytes made))
result_recoded law xs (Ok made) bytes e = shown_recoded law xs (bytes made) e
result_recoded law xs (Err k) bytes e = tt

-- no piece of the front is a fault
front_has_none : (xs : List ℕ) (n : ℕ) → IsFirstFault utf8 xs n → (x : Piece) → IsPiece utf8 (take n xs) x → x.char ≡ None → ⊥
front_has_none xs n first x piece fault =
    let here : IsPiece utf8 (take n xs) (record x { char = None }) = rw fault at piece in
    let within : x.start < length (take n xs) = here.0 in
    let count = first.within in
    let len : length (take n xs) ≡ n = grind (arith, common_steps) in
    let covered : Covered utf8 xs x.start → ⊥ = λ c.
    ⊎_elim
    (λ (out : n < c.from + length (utf8 c.char)).
    let begins = c.begins in
    (first.fault (omega arith)).2 (record { from = c.from; char = c.char; stands = c.stands; begins = omega arith; ends = out }))
    (λ (le : c.from + length (utf8 c.char) ≤ n).
    here.2 (record { from = c.from; char = c.char; stands = in_front xs n c.from c.char count c.stands le; begins = c.begins; ends = c.ends }))
    (cases_lt n (c.from + length (utf8 c.char))) in
    let least = first.none (record { start = x.start; len = 1; char = None }) (omega arith, refl, covered) refl in
    omega arith
  where
    in_front : (xs : List ℕ) (n p s : ℕ) → n ≤ length xs → Stands utf8 xs p s → p + length (utf8 s) ≤ n → Stands utf8 (take n xs) p s
    in_front xs n p s count h le = record {
      scalar = h.scalar;
      within = grind (arith, common_steps);
      equal = same xs n p (length (utf8 s)) le ∙ h.equal;
    }
      where
        same : (xs : List ℕ) (n p k : ℕ) → p + k ≤ n → slice_range (take n xs) p (p + k) ≡ slice_range xs p (p + k)
        same xs n p k le =
            let rest : n ≡ p + (n - p) = omega arith in
            let few : p + k - p ≤ n - p = omega arith in
            ap (λ m. take (p + k - p) (drop p (take m xs))) rest ∙ ap (take (p + k - p)) (drop-take p (n - p) xs) ∙ take-take (p + k - p) (n - p) (drop p xs) few

count_more : (x : Item) (items : List Item) → faulty_item_count (x ∷ items) ≡ cond (is_err x.1) 1 0 + faulty_item_count items
count_more x items = sum_by-cons (λ (y : Item). cond (is_err y.1) 1 0) x items

none_counted : (xs : List ℕ) → ((x : Piece) → IsPiece utf8 xs x → x.char ≡ None → ⊥) → (items : List Item) → All (IsPiece utf8 xs) (map piece_of items) → faulty_item_count items ≡ 0
none_counted xs none [] h = refl
none_counted xs none (x ∷ items) h =
    let first = no_error x.1 (none (piece_of x) (h 0 (piece_of x) (omega arith))) in
    let rest = none_counted xs none items (All-rest (IsPiece utf8 xs) (piece_of x) (map piece_of items) (map piece_of (x ∷ items)) refl h) in
    count_more x items ∙ no_more (cond (is_err x.1) 1 0) (faulty_item_count items) (ap (λ b. cond b 1 0) first) rest
  where
    no_more : (a b : ℕ) → a ≡ 0 → b ≡ 0 → a + b ≡ 0
    no_more a b e f = omega arith

    no_error : (r : Result ℕ Utf8ErrorKind) → (result_ok r ≡ None → ⊥) → is_err r ≡ false
    no_error (Ok s) h = refl
    no_error (Err k) h = absurd (h refl)

-- what precedes the first fault is text
pub text_before : PiecesAreTheRun → TextHasNoFault → (xs : List ℕ) (n : ℕ) → IsFirstFault utf8 xs n → IsUtf8 (take n xs)
text_before law text xs n first =
    let items = pieces (take n xs) in
    let run = (law (take n xs) items).1 refl in
    let are : All (IsPiece utf8 (take n xs)) (map piece_of items) = λ k d lt. (run.cut.pieces k d lt).0 in
    (text (take n xs) items run).0 (none_counted (take n xs) (front_has_none xs n first) items are)
