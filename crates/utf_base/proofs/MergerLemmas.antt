-- The merger's kind, compared with the forward kind.
use Rattle.std.proofs.Common.{◌≡◌, ℕ, ◌+◌, ap, leb, ◌<◌, ◌≤◌, List, length, get_or, take, arith, refl, sym, ◌∙◌, Some, None, true, false, eqb, ltb, lit<, length-take, length-append, [], ◌∷◌, ◌++◌, ⊎_elim}
use Rattle.std.proofs.lemmas.Grind.{common_steps}
use Rattle.std.proofs.lemmas.List.{get_or-take, get_or_append_left}
use Rattle.std.proofs.lemmas.Bool.{cases_Bool, cases_lt}
use Rattle.std.proofs.Math.Bool.{or-true}
use Rattle.std.specs.Prelude.{slice_range}
use Rattle.utf_base.proofs.Utf8Code.{utf8_is_code}
use Rattle.utf_base.specs.declared.errors.Utf8ErrorKind.TheVariants.{TooFewBytes, InterruptedSequence}
use Rattle.utf_base.specs.Code.{utf8}
use Rattle.utf_base.specs.Kinds.{fault_kind, merger_kind, asked, asked_by, value, is_continuation, continues_at, all_continue, is_broken}
use Rattle.utf_base.specs.KindLaws.{KindsDiffer, MergerCodeOrOneFault, FourBytesDecideMerger}
use Rattle.utf_base.specs.Piece.{Stands}
use Rattle.utf_base.proofs.FrontLemmas.{asked_cases, asked_le, asked-no_continuation, value-1, value-2, value-3, value-4, decodes_from_stands, code_where_no_fault, no_fault_where_code}
use Rattle.utf_base.proofs.KindLemmas.{four_bytes_decide}
use Rattle.utf_base.proofs.KindCases.{kind-few}

pub unbroken_kind : (w : List ℕ) → is_broken w ≡ false → merger_kind w ≡ fault_kind w
unfolding merger_kind
unbroken_kind w e = rw e refl

pub broken_kind : (w : List ℕ) → is_broken w ≡ true → merger_kind w ≡ Some InterruptedSequence
unfolding merger_kind
broken_kind w e = rw e refl

-- A first byte followed by a byte that breaks its code asks for more than itself.

broken_asks : (w : List ℕ) → is_broken w ≡ true → 2 ≤ asked_by w
broken_asks w e = grind (arith, common_steps)

broken_some : (w : List ℕ) → is_broken w ≡ true → 0 < length w
broken_some w e = grind (arith, common_steps)

broken_few : (w : List ℕ) → length w < asked_by w → is_broken w ≡ true → fault_kind w ≡ Some TooFewBytes
broken_few w few e =
    let asks = broken_asks w e in
    kind-few w (asked_by w) (record { some = broken_some w e; first = asked-no_continuation (get_or w 0 0) (omega arith); asks = refl; positive = omega arith }) few

-- if all bytes are there that the first asks for, one that breaks the code is a later byte that does not continue it
broken_continuation_byte : (w : List ℕ) → asked_by w ≤ length w → is_broken w ≡ true → all_continue w ≡ false
broken_continuation_byte w enough e = grind (arith, common_steps)

broken_enough : (w : List ℕ) → asked_by w ≤ length w → is_broken w ≡ true → fault_kind w ≡ Some InterruptedSequence
unfolding fault_kind
broken_enough w enough e =
    let asks = broken_asks w e in
    let some = broken_some w e in
    let not_empty : eqb (length w) 0 ≡ false = grind (arith, common_steps) in
    let occurs : eqb (asked_by w) 0 ≡ false = grind (arith, common_steps) in
    let short : ltb (length w) (asked_by w) ≡ false = grind (arith, common_steps) in
    rw (not_empty, asked-no_continuation (get_or w 0 0) (omega arith), occurs, short, broken_continuation_byte w enough e) refl

pub enough_kind : (w : List ℕ) → asked_by w ≤ length w → merger_kind w ≡ fault_kind w
enough_kind w enough = ⊎_elim (λ e. broken_kind w e ∙ sym (broken_enough w enough e)) (unbroken_kind w) (cases_Bool (is_broken w))

few_bytes : (w : List ℕ) → length w < asked_by w → length w ≤ 3
few_bytes w few = let most = asked_le (get_or w 0 0) in omega arith

pub kinds_differ : KindsDiffer
kinds_differ = record { enough = enough_kind; unbroken = unbroken_kind; decoder = broken_few; merger = λ w few e. broken_kind w e; few = few_bytes }

-- no code begins the bytes if one breaks it
code_unbroken : (w : List ℕ) → fault_kind w ≡ None → is_broken w ≡ false
code_unbroken w none =
    ⊎_elim
    (λ (e : is_broken w ≡ true).
    let s = code_where_no_fault w none in
    let k = broken_enough w (omega arith) e in
    cc)
    (λ e. e)
    (cases_Bool (is_broken w))

pub merger_none : (w : List ℕ) → merger_kind w ≡ None → fault_kind w ≡ None
merger_none w none =
    ⊎_elim (λ (e : is_broken w ≡ true). let k = broken_kind w e in cc) (λ (e : is_broken w ≡ false). sym (unbroken_kind w e) ∙ none) (cases_Bool (is_broken w))

pub merger_none_where_code : (w : List ℕ) (s : ℕ) → Stands utf8 w 0 s → merger_kind w ≡ None
merger_none_where_code w s h = let none = no_fault_where_code w s h in unbroken_kind w (code_unbroken w none) ∙ none

pub merger_code_or_one_fault : MergerCodeOrOneFault
merger_code_or_one_fault = record { code = λ w e. (code_where_no_fault w (merger_none w e)).0; fault = merger_none_where_code }

-- whether a byte breaks the code is determined by the first four
break-front : (n k m : ℕ) → k < 4 → (n < 4 → m ≡ n) → (4 ≤ n → m ≡ 4) → ltb k m ≡ ltb k n
break-front n k m h p q = grind (arith, common_steps)

broken-front : (w : List ℕ) → is_broken (take 4 w) ≡ is_broken w
broken-front w =
    let there : (k : ℕ) → k < 4 → ltb k (length (take 4 w)) ≡ ltb k (length w)
    = λ k lt. break-front (length w) k (length (take 4 w)) lt (λ h. omega (arith, length-take 4 w)) (λ h. omega (arith, length-take 4 w)) in
    rw (there 1 (lit< tt), there 2 (lit< tt), there 3 (lit< tt), get_or-take 4 w 0 0 (lit< tt), get_or-take 4 w 1 0 (lit< tt), get_or-take 4 w 2 0 (lit< tt), get_or-take 4 w 3 0 (lit< tt)) refl

pub four_bytes_decide_merger : FourBytesDecideMerger
unfolding merger_kind
four_bytes_decide_merger w = rw (broken-front w, four_bytes_decide w) refl

-- Elements after those that the first byte asks for do not matter.

at_front : (w later : List ℕ) (k : ℕ) → k < length w → get_or (w ++ later) k 0 ≡ get_or w k 0
at_front w later k lt = get_or_append_left w later 0 k lt

asked_front : (w later : List ℕ) → 0 < length w → asked_by (w ++ later) ≡ asked_by w
asked_front w later some = ap asked (at_front w later 0 some)

continues_front : (w later : List ℕ) (k : ℕ) → 0 < length w → asked_by w ≤ length w → continues_at (w ++ later) k ≡ continues_at w k
continues_front w later k some enough =
    ⊎_elim
    (λ (lt : k < length w). rw (asked_front w later some, at_front w later k lt) refl)
    (λ (ge : length w ≤ k). let over : leb (asked_by w) k ≡ true = grind (arith, common_steps) in rw (asked_front w later some, over) refl)
    (cases_lt k (length w))

value_front : (w later : List ℕ) → 0 < asked_by w → asked_by w ≤ length w → value (w ++ later) ≡ value w
value_front w later asks enough =
    let a : asked_by (w ++ later) ≡ asked_by w = asked_front w later (omega arith) in
    let e0 = at_front w later 0 (omega arith) in
    ⊎_elim (λ c. value-1 (w ++ later) (a ∙ c.1) ∙ e0 ∙ sym (value-1 w c.1))
    (⊎_elim
    (λ c. let n = c.2 in value-2 (w ++ later) (a ∙ n) ∙ rw (e0, at_front w later 1 (omega arith)) refl ∙ sym (value-2 w n))
    (⊎_elim
    (λ c. let n = c.2 in value-3 (w ++ later) (a ∙ n) ∙ rw (e0, at_front w later 1 (omega arith), at_front w later 2 (omega arith)) refl ∙ sym (value-3 w n))
    (λ c.
    let n = c.2 in
    value-4 (w ++ later) (a ∙ n) ∙ rw (e0, at_front w later 1 (omega arith), at_front w later 2 (omega arith), at_front w later 3 (omega arith)) refl ∙ sym (value-4 w n))))
    (asked_cases (get_or w 0 0) asks)

-- the forward kind, if all bytes that the first asks for are there
pub fault_front : (w later : List ℕ) → 0 < length w → asked_by w ≤ length w → fault_kind (w ++ later) ≡ fault_kind w
unfolding fault_kind
fault_front w later some enough =
    let both = length-append w later in
    let e0 = at_front w later 0 some in
    let empty_all : eqb (length (w ++ later)) 0 ≡ false = grind (arith, common_steps) in
    let empty : eqb (length w) 0 ≡ false = grind (arith, common_steps) in
    ⊎_elim
    (λ (asks : 0 < asked_by w).
    let short_all : ltb (length (w ++ later)) (asked_by w) ≡ false = grind (arith, common_steps) in
    let short : ltb (length w) (asked_by w) ≡ false = grind (arith, common_steps) in
    rw (by_continuation_bytes w later some enough, value_front w later asks enough, empty_all, empty, asked_front w later some, e0, short_all, short) refl)
    (λ (none : asked_by w ≤ 0). let zero : eqb (asked_by w) 0 ≡ true = grind (arith, common_steps) in rw (empty_all, empty, e0, zero) refl)
    (cases_lt 0 (asked_by w))
  where
    by_continuation_bytes : (w later : List ℕ) → 0 < length w → asked_by w ≤ length w → all_continue (w ++ later) ≡ all_continue w
    by_continuation_bytes w later some enough = rw (continues_front w later 1 some enough, continues_front w later 2 some enough, continues_front w later 3 some enough) refl

-- the merger's kind, if all bytes that the first asks for are there, is the forward kind of these
pub kind_of_front : (w later : List ℕ) → 0 < length w → asked_by w ≤ length w → merger_kind (w ++ later) ≡ fault_kind w
kind_of_front w later some enough =
    let both = length-append w later in
    let a = asked_front w later some in
    enough_kind (w ++ later) (omega arith) ∙ fault_front w later some enough

-- some are missing, and those that are there are continuation bytes
pub kind_of_few : (w : List ℕ) → 0 < length w → length w < asked_by w → is_broken w ≡ false → merger_kind w ≡ Some TooFewBytes
kind_of_few w some few e = unbroken_kind w e ∙ kind-few w (asked_by w) (record { some = some; first = asked-no_continuation (get_or w 0 0) (omega arith); asks = refl; positive = omega arith }) few

pub few-1 : (a : ℕ) → 1 < asked a → merger_kind (a ∷ []) ≡ Some TooFewBytes
few-1 a asks = kind_of_few (a ∷ []) (lit< tt) asks refl

-- the code that is at the front of no more bytes than the first asks for is all of them
pub whole_code : (w : List ℕ) (s : ℕ) → Stands utf8 w 0 s → asked_by w ≤ length w → (1 < length w → asked_by w ≡ length w) → w ≡ utf8 s
whole_code w s h enough exact =
    let len : asked_by w ≡ length (utf8 s) = (code_where_no_fault w (no_fault_where_code w s h)).1 ∙ ap (λ x. length (utf8 x)) (decodes_from_stands w s h).1 in
    let some = utf8_is_code.some s h.scalar in
    let all : length (utf8 s) ≡ length w = ⊎_elim (λ (lt : 1 < length w). sym len ∙ exact lt) (λ (le : length w ≤ 1). omega arith) (cases_lt 1 (length w)) in
    let whole : slice_range w 0 (0 + length (utf8 s)) ≡ w = rw all (range_all w) in
    sym whole ∙ h.equal
  where
    range_all : (w : List ℕ) → slice_range w 0 (0 + length w) ≡ w
    range_all w = grind (arith, common_steps)
