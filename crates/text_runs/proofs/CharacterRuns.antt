-- Bytes are text if and only if each of their pieces is a character; and the range in which pieces lie.
use Rattle.std.proofs.Common.{◌≡◌, ℕ, suc, ◌+◌, ◌<◌, ◌≤◌, Bool, ◌&&◌, List, [], ◌∷◌, length, map, refl, sym, ◌∙◌, arith, true, false, cond, Option, Some, None, Ok, Err, Result}
use Rattle.std.proofs.lemmas.List.Elements.{All-cons, All-nil}
use Rattle.std.specs.Bool.{IsTrue}
use Rattle.std.specs.List.{find, list_all}
use Rattle.std.specs.Prelude.{◌↔◌, All, is_err, is_ok}
use Rattle.std.specs.Str.{IsUtf8}
use Rattle.utf_base.specs.declared.errors.Utf8ErrorKind.{Utf8ErrorKind}
use Rattle.utf_base.specs.Code.{utf8}
use Rattle.utf_base.specs.Piece.{Piece, IsPiece, IsPieceAt}
use Rattle.utf_base.proofs.Utf8Code.{length_utf8}
use Rattle.encode_unicode.specs.Mergers.{merged}
use Rattle.encode_unicode.specs.Pieces.{LiesWithin, pieces}
use Rattle.encode_unicode.specs.Window.{Item}
use Rattle.encode_unicode.proofs.ForCallers.{merged_alike}
use Rattle.utf_base.proofs.JoinedLengths.{some_utf8}
use Rattle.text_runs.specs.ForwardRuns.{IsForwardRun, faulty_item_count}
use Rattle.text_runs.specs.Items.{piece_of}
use Rattle.text_runs.specs.WellFormed.{IsFirstFault}
use Rattle.text_runs.proofs.ForwardRuns.{pieces_are_the_run}
use Rattle.text_runs.proofs.TextRuns.{fault_count-more, no_fault_where_text, text_where_no_fault}
use Rattle.text_runs.proofs.ValidLengths.{first_fault_known, no_fault_found}

char_first : (r : Result ℕ Utf8ErrorKind) (n : ℕ) → cond {A = ℕ} (is_err r) 1 0 + n ≡ 0 → (is_ok r ≡ true) × (is_err r ≡ false) × (n ≡ 0)
char_first (Ok s) n e = (refl, refl, omega arith)
char_first (Err k) n e = absurd (omega arith)

chars_alone : (items : List Item) → faulty_item_count items ≡ 0 → (list_all (λ (x : Item). is_ok x.1) items ≡ true) × (None ≡ find (λ (x : Item). is_err x.1) items)
chars_alone [] e = (refl, refl)
chars_alone (x ∷ items) e =
    let first = char_first x.1 (faulty_item_count items) (sym (fault_count-more x items) ∙ e) in
    let rest = chars_alone items first.2 in
    (rw first.0 rest.0, rw first.1 rest.1)

no_fault_first : (r : Result ℕ Utf8ErrorKind) (rest : Bool) → (is_ok r && rest) ≡ true → (cond {A = ℕ} (is_err r) 1 0 ≡ 0) × (rest ≡ true)
no_fault_first (Ok s) rest e = (refl, e)
no_fault_first (Err k) rest e = absurd cc

no_fault_among : (items : List Item) → list_all (λ (x : Item). is_ok x.1) items ≡ true → faulty_item_count items ≡ 0
no_fault_among [] e = refl
no_fault_among (x ∷ items) e =
    let first = no_fault_first x.1 (list_all (λ (y : Item). is_ok y.1) items) e in
    let rest = no_fault_among items first.1 in
    let more = fault_count-more x items in
    omega (arith, first.0, rest, more)

pub text_by_pieces : (xs : List ℕ) → IsTrue (list_all (λ (x : Item). is_ok x.1) (pieces xs)) ↔ IsUtf8 xs
text_by_pieces xs = (
  (λ all. text_where_no_fault xs (pieces xs) (pieces_are_the_run xs) (no_fault_among (pieces xs) all)),
  (λ text. (chars_alone (pieces xs) (no_fault_where_text xs (pieces xs) (pieces_are_the_run xs) text)).0),
)

-- bytes are text if and only if each result of a merger is a character
pub text_by_merger : (xs : List ℕ) → IsTrue (list_all (λ r. is_ok r) (merged xs)) ↔ IsUtf8 xs
text_by_merger xs = rw (merged_alike xs) (text_by_pieces xs)

-- text is well-formed to its end
pub first_fault_of_text : (xs : List ℕ) (n : ℕ) → IsFirstFault utf8 xs n → IsUtf8 xs → n ≡ length xs
first_fault_of_text xs n first text =
    let none = (chars_alone (pieces xs) (no_fault_where_text xs (pieces xs) (pieces_are_the_run xs) text)).1 in
    first_fault_known xs n first ∙ sym (first_fault_known xs (length xs) (no_fault_found xs none))

lies_within : (xs : List ℕ) (x : Item) (r : Option ℕ) → IsPieceAt utf8 xs x.0 x.2 r → x.0 < length xs → LiesWithin 4 (length xs) x
lies_within xs x (Some s) h lt =
    let most = length_utf8 s in
    let some = some_utf8 s in
    let fits = h.0.within in
    (omega arith, omega (arith, h.1), omega (arith, h.1), omega (arith, h.1))
lies_within xs x None h lt = (omega arith, omega (arith, h.1), omega (arith, h.1), omega (arith, h.1))

of_pieces : (Q : Piece → Type 0) (P : Item → Type 0) → ((x : Item) → Q (piece_of x) → P x) → (items : List Item) → All Q (map piece_of items) → All P items
of_pieces Q P f [] h = All-nil P
of_pieces Q P f (x ∷ items) h = All-cons P x items (f x (h 0 (piece_of x) (omega arith))) (of_pieces Q P f items (λ k d lt. h (suc k) d (omega arith)))

-- the pieces of some bytes lie within them
pub run_lies_within : (xs : List ℕ) (items : List Item) → IsForwardRun xs items → All (LiesWithin 4 (length xs)) items
run_lies_within xs items run =
    of_pieces (λ y. IsPiece utf8 xs y × (0 ≤ y.start) × (y.start < length xs)) (LiesWithin 4 (length xs)) (λ x h. lies_within xs x (piece_of x).char h.0 h.2) items run.cut.pieces
