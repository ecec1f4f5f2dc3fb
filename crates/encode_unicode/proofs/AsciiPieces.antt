-- An ASCII byte is always a piece of its own: so it is among the pieces, and occurs as often as its character.
use Rattle.std.proofs.Common.{◌≡◌, ℕ, zero, suc, ◌+◌, ◌-◌, ◌<◌, ◌≤◌, List, [], ◌∷◌, ◌++◌, length, get_or, drop, take, cond, false, get_or-drop, map, Option, Some, None, Ok, Err, Result, refl, ap, sym, subst, ◌∙◌, arith, ⊎_elim, length-drop, take-append-drop}
use Rattle.std.proofs.lemmas.Bool.{cases_lt}
use Rattle.std.proofs.lemmas.Bool.Decides.{nat_tests}
use Rattle.std.proofs.lemmas.Grind.{common_steps}
use Rattle.std.proofs.lemmas.List.{get_or_append_left}
use Rattle.std.proofs.lemmas.List.Sums.{sum_by-cons}
use Rattle.std.specs.List.{count_by, filter_map, list_all}
use Rattle.std.specs.Prelude.{Contains, is_ok, nat_eq}
use Rattle.std.specs.Result.{result_ok}
use Rattle.utf_base.specs.Code.{utf8}
use Rattle.utf_base.specs.declared.errors.Utf8ErrorKind.{Utf8ErrorKind}
use Rattle.utf_base.specs.Decoded.{decoded}
use Rattle.utf_base.specs.Kinds.{fault_kind, merger_kind, value}
use Rattle.utf_base.specs.Piece.{Inside, IsPiece, Stands}
use Rattle.utf_base.proofs.DecodedLemmas.{answer_of_bytes, decoded_code}
use Rattle.utf_base.proofs.FrontLemmas.{code_where_no_fault, no_code_where_fault}
use Rattle.utf_base.proofs.KindLemmas.{ascii_stands_alone}
use Rattle.utf_base.proofs.MergerLemmas.{merger_none_where_code}
use Rattle.utf_base.proofs.Standing.{codes_never_overlap}
use Rattle.utf_base.proofs.Utf8Code.{utf8-continuation_byte, utf8_is_code}
use Rattle.encode_unicode.specs.AsciiBytes.{IsAsciiAt, ascii_piece}
use Rattle.encode_unicode.specs.Mergers.{decoded_by_merger, merged}
use Rattle.encode_unicode.specs.Pieces.{characters, pieces, pieces_by}
use Rattle.encode_unicode.specs.Window.{Item, as_piece}
use Rattle.encode_unicode.proofs.MergedLists.{fault_by_merger, same_code}
use Rattle.encode_unicode.proofs.PieceRuns.{whole_text}

-- the number of elements that equal this one
abbrev ones : ℕ → List ℕ → ℕ
ones b xs = count_by (λ c. nat_eq c b) xs

ones-cons : (b x : ℕ) (xs : List ℕ) → ones b (x ∷ xs) ≡ cond (nat_eq x b) 1 0 + ones b xs
ones-cons b x xs = sum_by-cons (λ (c : ℕ). cond {A = ℕ} (nat_eq c b) 1 0) x xs

ones-append : (b : ℕ) (xs ys : List ℕ) → ones b (xs ++ ys) ≡ ones b xs + ones b ys
ones-append b [] ys = omega arith
ones-append b (x ∷ xs) ys =
    let rest = ones-append b xs ys in
    let one = ones-cons b x xs in
    let both = ones-cons b x (xs ++ ys) in
    omega arith

-- the code of a character has an ASCII byte only if it is that byte
ones_of_code : (b s : ℕ) → b < 128 → ones b (utf8 s) ≡ cond (nat_eq s b) 1 0
unfolding utf8
ones_of_code b s ascii = grind (arith, nat_tests)

-- no fault is an ASCII byte
fault_not_ascii : (b : ℕ) (bs : List ℕ) (k : Utf8ErrorKind) → fault_kind (b ∷ bs) ≡ Some k → 128 ≤ b
fault_not_ascii b bs k fault =
    ⊎_elim (λ (lt : b < 128). absurd (no_code_where_fault (b ∷ bs) k b fault (ascii_stands_alone (b ∷ bs) 0 (omega arith) lt).0)) (λ (ge : 128 ≤ b). ge) (cases_lt b 128)

fault_answer : (xs : List ℕ) (k : Utf8ErrorKind) → fault_kind xs ≡ Some k → decoded xs ≡ Err k
fault_answer xs k fault = sym (answer_of_bytes xs (Err k) fault)

-- the code that begins a list, and what follows it
code_then : (xs : List ℕ) (s : ℕ) → Stands utf8 xs 0 s → xs ≡ utf8 s ++ drop (length (utf8 s)) xs
code_then xs s h =
    let len : 0 + length (utf8 s) - 0 ≡ length (utf8 s) = omega arith in
    sym (take-append-drop (length (utf8 s)) xs) ∙ ap (λ ys. ys ++ drop (length (utf8 s)) xs) (ap (λ n. take n xs) (sym len) ∙ h.equal)

-- the characters of the pieces from an offset on
abbrev characters_by : ℕ → ℕ → List ℕ → List ℕ
characters_by n place xs = filter_map (λ (x : Item). result_ok x.1) (pieces_by decoded n place xs)

-- one piece, and then the rest
characters_more : (n place x : ℕ) (xs : List ℕ) (r : Result ℕ Utf8ErrorKind) (k : ℕ) → as_piece (decoded (x ∷ xs)) ≡ (r, k)
    → pieces_by decoded (suc n) place (x ∷ xs) ≡ (place, r, k) ∷ pieces_by decoded n (place + k) (drop k (x ∷ xs))
unfolding pieces_by
characters_more n place x xs r k e = ap (λ a. (place, a.0, a.1) ∷ pieces_by decoded n (place + a.1) (drop a.1 (x ∷ xs))) e

first_counted : (b n place x : ℕ) (xs : List ℕ) → b < 128
    → ((k : ℕ) → 1 ≤ k → ones b (characters_by n (place + k) (drop k (x ∷ xs))) ≡ ones b (drop k (x ∷ xs)))
    → ones b (characters_by (suc n) place (x ∷ xs)) ≡ ones b (x ∷ xs)
first_counted b n place x xs ascii rest = by_kind (fault_kind (x ∷ xs)) refl
  where
    by_kind : (kind : Option Utf8ErrorKind) → fault_kind (x ∷ xs) ≡ kind → ones b (characters_by (suc n) place (x ∷ xs)) ≡ ones b (x ∷ xs)
    by_kind None e =
        let code = code_where_no_fault (x ∷ xs) e in
        let s : ℕ = value (x ∷ xs) in
        let some = utf8_is_code.some s code.0.scalar in
        let more = rest (length (utf8 s)) (omega arith) in
        let split : ones b (x ∷ xs) ≡ ones b (utf8 s) + ones b (drop (length (utf8 s)) (x ∷ xs)) = ap (ones b) (code_then (x ∷ xs) s code.0) ∙ ones-append b (utf8 s) (drop (length (utf8 s)) (x ∷ xs)) in
        let one : ones b (utf8 s) ≡ cond (nat_eq s b) 1 0 = ones_of_code b s ascii in
        let first = ones-cons b s (characters_by n (place + length (utf8 s)) (drop (length (utf8 s)) (x ∷ xs))) in
        rw (characters_more n place x xs (Ok s) (length (utf8 s)) (ap as_piece (decoded_code (x ∷ xs) s code.0))) (first ∙ (omega arith))
    by_kind (Some kind) e =
        let high = fault_not_ascii x xs kind e in
        let more = rest 1 (omega arith) in
        let none : cond {A = ℕ} (nat_eq x b) 1 0 ≡ 0 = grind (arith, nat_tests) in
        let first = ones-cons b x xs in
        rw (characters_more n place x xs (Err kind) 1 (ap as_piece (fault_answer (x ∷ xs) kind e))) (more ∙ (omega arith))

counted : (b n place : ℕ) (xs : List ℕ) → b < 128 → length xs ≤ n → ones b (characters_by n place xs) ≡ ones b xs
unfolding pieces_by
counted b zero place [] ascii h = refl
counted b zero place (x ∷ xs) ascii h = absurd (omega arith)
counted b (suc n) place [] ascii h = refl
counted b (suc n) place (x ∷ xs) ascii h =
    first_counted b n place x xs ascii (λ k some. let less = length-drop k (x ∷ xs) in counted b n (place + k) (drop k (x ∷ xs)) ascii (omega arith))

-- an ASCII byte occurs as often in the bytes as its character among their pieces
pub ascii_counted : (b : ℕ) (xs : List ℕ) → b < 128 → count_by (λ c. nat_eq c b) (characters xs) ≡ count_by (λ c. nat_eq c b) xs
ascii_counted b xs ascii =
    let whole = whole_text xs in
    counted b _ 0 _ ascii (omega arith) ∙ ap (ones b) whole

-- At the offset of an ASCII byte, the item is its character.

here : {A : Type 0} (x : A) (xs : List A) → Contains (x ∷ xs) x
here x xs = (0, omega arith, refl)

later : {A : Type 0} (y x : A) (xs : List A) → Contains xs x → Contains (y ∷ xs) x
later y x xs h =
    let lt = h.1 in
    (suc h.0, omega arith, h.2)

low_code : (s : ℕ) → get_or (utf8 s) 0 0 < 128 → (length (utf8 s) ≡ 1) × (get_or (utf8 s) 0 0 ≡ s)
unfolding utf8
low_code s low = (grind (arith, common_steps), grind (arith, common_steps))

in_code : (xs : List ℕ) (s k : ℕ) → Stands utf8 xs 0 s → k < length (utf8 s) → get_or xs k 0 ≡ get_or (utf8 s) k 0
in_code xs s k h lt = ap (λ ys. get_or ys k 0) (code_then xs s h) ∙ get_or_append_left (utf8 s) (drop (length (utf8 s)) xs) 0 k lt

-- the piece of the ASCII byte at the offset q of some bytes that begin at the offset p
abbrev IsItem : ℕ → ℕ → List ℕ → ℕ → Type 0
IsItem n p xs q = Contains (pieces_by decoded n p xs) (p + q, Ok (get_or xs q 0), 1)

first_item : (n place x : ℕ) (xs : List ℕ) (p : ℕ) → p < length (x ∷ xs) → get_or (x ∷ xs) p 0 < 128
    → ((k q : ℕ) → 1 ≤ k → q < length (drop k (x ∷ xs)) → get_or (drop k (x ∷ xs)) q 0 < 128 → IsItem n (place + k) (drop k (x ∷ xs)) q)
    → IsItem (suc n) place (x ∷ xs) p
first_item n place x xs p within low rest = by_kind (fault_kind (x ∷ xs)) refl
  where
    -- a piece of k elements, and then the item
    past : (r : Result ℕ Utf8ErrorKind) (k : ℕ) → as_piece (decoded (x ∷ xs)) ≡ (r, k) → 1 ≤ k → k ≤ p → IsItem (suc n) place (x ∷ xs) p
    past r k e some le =
        let byte : get_or (drop k (x ∷ xs)) (p - k) 0 ≡ get_or (x ∷ xs) p 0 = get_or-drop k (x ∷ xs) (p - k) 0 ∙ ap (λ i. get_or (x ∷ xs) i 0) (omega arith) in
        let place_is : place + k + (p - k) ≡ place + p = omega arith in
        let less = length-drop k (x ∷ xs) in
        let found = rest k (p - k) some (omega arith) (rw byte low) in
        rw (characters_more n place x xs r k e) (later (place, r, k) (place + p, Ok (get_or (x ∷ xs) p 0), 1) (pieces_by decoded n (place + k) (drop k (x ∷ xs))) (rw (place_is, byte) at found))

    by_kind : (kind : Option Utf8ErrorKind) → fault_kind (x ∷ xs) ≡ kind → IsItem (suc n) place (x ∷ xs) p
    by_kind None e =
        let code = code_where_no_fault (x ∷ xs) e in
        let s : ℕ = value (x ∷ xs) in
        let some = utf8_is_code.some s code.0.scalar in
        let answer : as_piece (decoded (x ∷ xs)) ≡ (Ok s, length (utf8 s)) = ap as_piece (decoded_code (x ∷ xs) s code.0) in
        ⊎_elim
        (λ (lt : p < length (utf8 s)).
        let byte = in_code (x ∷ xs) s p code.0 lt in
        ⊎_elim
        (λ (first : p < 1).
        let zero : p ≡ 0 = omega arith in
        let alone = low_code s (rw zero at (rw byte at low)) in
        let is_s : get_or (x ∷ xs) p 0 ≡ s = byte ∙ ap (λ i. get_or (utf8 s) i 0) zero ∙ alone.1 in
        let at : place + p ≡ place = omega arith in
        rw (characters_more n place x xs (Ok s) (length (utf8 s)) answer, is_s, at, alone.0) (here (place, Ok s, 1) _))
        (λ (after : 1 ≤ p). let high = utf8-continuation_byte s p code.0.scalar (omega arith) lt in absurd (omega arith))
        (cases_lt p 1))
        (λ (ge : length (utf8 s) ≤ p). past (Ok s) (length (utf8 s)) answer (omega arith) ge)
        (cases_lt p (length (utf8 s)))
    by_kind (Some kind) e =
        let high = fault_not_ascii x xs kind e in
        ⊎_elim
        (λ (first : p < 1). let zero : p ≡ 0 = omega arith in let same : get_or (x ∷ xs) p 0 ≡ x = ap (λ i. get_or (x ∷ xs) i 0) zero in absurd (omega arith))
        (λ (after : 1 ≤ p). past (Err kind) 1 (ap as_piece (fault_answer (x ∷ xs) kind e)) (omega arith) after)
        (cases_lt p 1)

item_at : (n place : ℕ) (xs : List ℕ) (p : ℕ) → length xs ≤ n → p < length xs → get_or xs p 0 < 128 → IsItem n place xs p
unfolding pieces_by
item_at zero place xs p h within low = absurd (omega arith)
item_at (suc n) place [] p h within low = absurd (omega arith)
item_at (suc n) place (x ∷ xs) p h within low =
    first_item n place x xs p within low (λ k q some lt small. let less = length-drop k (x ∷ xs) in item_at n (place + k) (drop k (x ∷ xs)) q (omega arith) lt small)

pub ascii_is_an_item : (xs : List ℕ) (p : ℕ) → p < length xs → get_or xs p 0 < 128 → Contains (pieces xs) (p, Ok (get_or xs p 0), 1)
ascii_is_an_item xs p within low =
    let zero : 0 + p ≡ p = omega arith in
    rw (whole_text xs) (subst (λ k. Contains (pieces_by decoded (length xs) 0 xs) (k, Ok (get_or xs p 0), 1)) zero (item_at (length xs) 0 xs p (omega arith) within low))

-- An ASCII byte is a piece, and no code covers its ends.

pub ascii_is_a_piece : (xs : List ℕ) (p : ℕ) → IsAsciiAt xs p → IsPiece utf8 xs (ascii_piece xs p)
ascii_is_a_piece xs p h = ascii_stands_alone xs p h.0 h.1

pub ascii_before : (xs : List ℕ) (p : ℕ) → IsAsciiAt xs p → ¬ Inside utf8 xs p
ascii_before xs p h inside =
    let ends = inside.ends in
    let apart = (codes_never_overlap utf8 utf8_is_code xs inside.from p inside.char (get_or xs p 0) inside.stands (ascii_stands_alone xs p h.0 h.1).0).1 inside.begins in
    absurd (omega arith)

pub ascii_after : (xs : List ℕ) (p : ℕ) → IsAsciiAt xs p → ¬ Inside utf8 xs (p + 1)
ascii_after xs p h inside =
    let ends = inside.ends in
    let begins = inside.begins in
    let alone = ascii_stands_alone xs p h.0 h.1 in
    let one = alone.1 in
    ⊎_elim
    (λ (lt : inside.from < p). let apart = (codes_never_overlap utf8 utf8_is_code xs inside.from p inside.char (get_or xs p 0) inside.stands alone.0).1 lt in absurd (omega arith))
    (λ (ge : p ≤ inside.from).
    let same = (codes_never_overlap utf8 utf8_is_code xs inside.from p inside.char (get_or xs p 0) inside.stands alone.0).0 (omega arith) in
    let len = ap (λ s. length (utf8 s)) same in
    absurd (omega arith))
    (cases_lt inside.from p)

-- A merger returns a character if and only if a decoder does.

faulty_by_both : (xs : List ℕ) (k : Utf8ErrorKind) → merger_kind xs ≡ Some k → (is_ok (as_piece (decoded_by_merger xs)).0 ≡ false) × (is_ok (as_piece (decoded xs)).0 ≡ false)
faulty_by_both xs k e = (rw (fault_by_merger xs k e) refl, by_kind (fault_kind xs) refl)
  where
    by_kind : (kind : Option Utf8ErrorKind) → fault_kind xs ≡ kind → is_ok (as_piece (decoded xs)).0 ≡ false
    by_kind None none = let code = code_where_no_fault xs none in let some = merger_none_where_code xs (value xs) code.0 in absurd cc
    by_kind (Some kind) fault = rw (fault_answer xs kind fault) refl

first_alike : (n i j x : ℕ) (xs : List ℕ)
    → ((k : ℕ) → list_all (λ r. is_ok r) (map (λ (y : Item). y.1) (pieces_by decoded_by_merger n (i + k) (drop k (x ∷ xs)))) ≡ list_all (λ (y : Item). is_ok y.1) (pieces_by decoded n (j + k) (drop k (x ∷ xs))))
    → list_all (λ r. is_ok r) (map (λ (y : Item). y.1) (pieces_by decoded_by_merger (suc n) i (x ∷ xs))) ≡ list_all (λ (y : Item). is_ok y.1) (pieces_by decoded (suc n) j (x ∷ xs))
unfolding pieces_by
first_alike n i j x xs rest = by_kind (merger_kind (x ∷ xs)) refl
  where
    by_kind : (kind : Option Utf8ErrorKind) → merger_kind (x ∷ xs) ≡ kind
        → list_all (λ r. is_ok r) (map (λ (y : Item). y.1) (pieces_by decoded_by_merger (suc n) i (x ∷ xs))) ≡ list_all (λ (y : Item). is_ok y.1) (pieces_by decoded (suc n) j (x ∷ xs))
    by_kind None e = rw (same_code (x ∷ xs) e, rest (as_piece (decoded (x ∷ xs))).1) refl
    by_kind (Some k) e = let both = faulty_by_both (x ∷ xs) k e in rw (both.0, both.1) refl

alike : (n i j : ℕ) (xs : List ℕ) → list_all (λ r. is_ok r) (map (λ (y : Item). y.1) (pieces_by decoded_by_merger n i xs)) ≡ list_all (λ (y : Item). is_ok y.1) (pieces_by decoded n j xs)
unfolding pieces_by
alike zero i j xs = refl
alike (suc n) i j [] = refl
alike (suc n) i j (x ∷ xs) = first_alike n i j x xs (λ k. alike n (i + k) (j + k) (drop k (x ∷ xs)))

pub merged_alike : (xs : List ℕ) → list_all (λ r. is_ok r) (merged xs) ≡ list_all (λ (x : Item). is_ok x.1) (pieces xs)
unfolding merged
merged_alike xs = alike (length xs) 0 0 xs ∙ ap (λ ys. list_all (λ (x : Item). is_ok x.1) (pieces_by decoded (length ys) 0 ys)) (sym (whole_text xs))
