-- The first result of a merger for some bytes, whatever follows them, and when it depends on what follows.
use Rattle.std.proofs.Common.{◌≡◌, ◌≢◌, ℕ, ◌<◌, ◌≤◌, ⊎_elim, List, [], ◌∷◌, ◌++◌, length, get_or, Option, Some, None, Ok, Err, arith, refl, ap, sym, ◌∙◌, length-append, true, false, Bool, add-zero, ltb, leb, not, ◌||◌}
use Rattle.std.proofs.lemmas.Bool.{cases_lt}
use Rattle.std.proofs.Math.Bool.{or-false}
use Rattle.std.proofs.lemmas.Grind.{common_steps}
use Rattle.std.proofs.lemmas.List.{append-nil, get_or-append-add, get_or_append_left}
use Rattle.utf_base.specs.Code.{utf8}
use Rattle.utf_base.specs.Kinds.{asked_by, breaks_at, fault_kind, is_broken, is_continuation, merger_kind, value}
use Rattle.utf_base.specs.Piece.{Stands}
use Rattle.utf_base.specs.declared.errors.Utf8ErrorKind.{Utf8ErrorKind}
use Rattle.utf_base.specs.declared.errors.Utf8ErrorKind.TheVariants.{TooFewBytes, InterruptedSequence}
use Rattle.utf_base.proofs.FrontLemmas.{asked_le, asked-no_continuation, code_where_no_fault, decodes_from_stands, no_fault_where_code}
use Rattle.utf_base.proofs.KindCases.{kind-empty, kind-few}
use Rattle.utf_base.proofs.LaterLemmas.{few_where_too_few}
use Rattle.utf_base.proofs.MergerLemmas.{broken_kind, kind_of_front, merger_none, merger_none_where_code, unbroken_kind}
use Rattle.recoding.proofs.CodeFronts.{asks_for_more}
use Rattle.utf_base.proofs.Rests.{stands_on}
use Rattle.utf_base.proofs.Utf8Code.{utf8_is_code}
use Rattle.encode_unicode.specs.Mergers.{decoded_by_merger}
use Rattle.encode_unicode.specs.Window.{as_piece}

pub merged_code : (w : List ℕ) (s : ℕ) → Stands utf8 w 0 s → decoded_by_merger w ≡ Ok (s, length (utf8 s))
unfolding decoded_by_merger
merged_code w s h =
    let none = merger_none_where_code w s h in
    let char : value w ≡ s = (decodes_from_stands w s h).1 in
    let len : asked_by w ≡ length (utf8 s) = (code_where_no_fault w (no_fault_where_code w s h)).1 ∙ ap (λ x. length (utf8 x)) char in
    rw (none, char, len) refl

pub merged_kind : (w : List ℕ) (k : Utf8ErrorKind) → merger_kind w ≡ Some k → decoded_by_merger w ≡ Err k
unfolding decoded_by_merger
merged_kind w k h = rw h refl

pub some_merged : (w : List ℕ) → 1 ≤ (as_piece (decoded_by_merger w)).1
some_merged w = by_kind (merger_kind w) refl
  where
    by_kind : (k : Option Utf8ErrorKind) → merger_kind w ≡ k → 1 ≤ (as_piece (decoded_by_merger w)).1
    by_kind None e =
        let s = code_where_no_fault w (merger_none w e) in
        let some = utf8_is_code.some (value w) s.0.scalar in
        rw (merged_code w (value w) s.0) (omega arith)
    by_kind (Some k) e = rw (merged_kind w k e) (omega arith)

-- the code of a scalar is decided
pub code_later : (w later : List ℕ) (s : ℕ) → Stands utf8 w 0 s → decoded_by_merger (w ++ later) ≡ Ok (s, length (utf8 s))
code_later w later s h = merged_code (w ++ later) s (stands_on utf8 w later s h)

-- a kind other than that of too few bytes is decided
pub kind_later : (w later : List ℕ) (k : Utf8ErrorKind) → fault_kind w ≡ Some k → k ≢ TooFewBytes → decoded_by_merger (w ++ later) ≡ Err k
kind_later w later k h other =
    ⊎_elim
    (λ (some : 0 < length w).
    ⊎_elim
    (λ (few : length w < asked_by w).
    let asks : 0 < asked_by w = omega arith in
    let is = kind-few w (asked_by w) (record { some = some; first = asked-no_continuation (get_or w 0 0) asks; asks = refl; positive = asks }) few in
    absurd (other (let e = sym h ∙ is in cc)))
    (λ (enough : asked_by w ≤ length w). merged_kind (w ++ later) k (kind_of_front w later some enough ∙ h))
    (cases_lt (length w) (asked_by w)))
    (λ (none : length w ≤ 0). let is = kind-empty w (omega arith) in absurd (other (let e = sym h ∙ is in cc)))
    (cases_lt 0 (length w))

-- a byte that breaks a code is decided
breaks_within : (w : List ℕ) (k : ℕ) → breaks_at w k ≡ true → k < length w
breaks_within w k e = grind (arith, common_steps)

breaks_on : (w later : List ℕ) (k : ℕ) → breaks_at w k ≡ true → breaks_at (w ++ later) k ≡ true
breaks_on w later k e =
    let lt = breaks_within w k e in
    let both = length-append w later in
    let long : ltb k (length (w ++ later)) ≡ true = grind (arith, common_steps) in
    let short : ltb k (length w) ≡ true = grind (arith, common_steps) in
    rw (long, get_or_append_left w later 0 0 (omega arith), get_or_append_left w later 0 k lt) (rw short at e)

or_three : (a b c x y z : Bool) → (a ≡ true → x ≡ true) → (b ≡ true → y ≡ true) → (c ≡ true → z ≡ true) → a || b || c ≡ true → x || y || z ≡ true
or_three a b c true y z p q r h = refl
or_three a b c false true z p q r h = refl
or_three a b c false false true p q r h = refl
or_three true b c false false false p q r h = p refl
or_three false true c false false false p q r h = q refl
or_three false false true false false false p q r h = r refl
or_three false false false false false false p q r h = h

broken_later : (w later : List ℕ) → is_broken w ≡ true → is_broken (w ++ later) ≡ true
broken_later w later e = or_three (breaks_at w 1) (breaks_at w 2) (breaks_at w 3) _ _ _ (breaks_on w later 1) (breaks_on w later 2) (breaks_on w later 3) e

pub broken_some : (w : List ℕ) → is_broken w ≡ true → 0 < length w
broken_some w e = grind (arith, common_steps)

pub broken_decides : (w later : List ℕ) → is_broken w ≡ true → decoded_by_merger (w ++ later) ≡ Err InterruptedSequence
broken_decides w later e = merged_kind (w ++ later) InterruptedSequence (broken_kind (w ++ later) (broken_later w later e))

-- if no byte breaks it, and some are missing, an `A` does
alone : (w : List ℕ) → fault_kind w ≡ Some TooFewBytes → is_broken w ≡ false → decoded_by_merger w ≡ Err TooFewBytes
alone w h e = merged_kind w TooFewBytes (unbroken_kind w e ∙ h)

breaks_there : (w : List ℕ) (k : ℕ) → 0 < k → length w ≡ k → k < asked_by w → breaks_at (w ++ 0x41 ∷ []) k ≡ true
breaks_there w k some e lt =
    let both = length-append w (0x41 ∷ []) in
    let long : ltb k (length (w ++ 0x41 ∷ [])) ≡ true = grind (arith, common_steps) in
    let asks : leb (asked_by w) k ≡ false = grind (arith, common_steps) in
    let there : get_or (w ++ 0x41 ∷ []) k 0 ≡ 0x41 = at_end w k e in
    rw (long, get_or_append_left w (0x41 ∷ []) 0 0 (omega arith), asks, there) refl
  where
    at_end : (w : List ℕ) (k : ℕ) → length w ≡ k → get_or (w ++ 0x41 ∷ []) k 0 ≡ 0x41
    at_end w k e = rw (← e, ← add-zero (length w)) (get_or-append-add w (0x41 ∷ []) 0 0)

one_of_three : (a b c : Bool) (n : ℕ) → (n ≡ 1 → a ≡ true) → (n ≡ 2 → b ≡ true) → (n ≡ 3 → c ≡ true) → 0 < n → n < 4 → a || b || c ≡ true
one_of_three true b c n p q r some few = refl
one_of_three false true c n p q r some few = refl
one_of_three false false c n p q r some few =
    ⊎_elim
    (λ (lt : n < 2). let e = p (omega arith) in cc)
    (λ (ge : 2 ≤ n). ⊎_elim (λ (lt : n < 3). let e = q (omega arith) in cc) (λ (more : 3 ≤ n). r (omega arith)) (cases_lt n 3))
    (cases_lt n 2)

before_a : (w : List ℕ) → 0 < length w → length w < asked_by w → decoded_by_merger (w ++ 0x41 ∷ []) ≡ Err InterruptedSequence
before_a w some few =
    let most = asked_le (get_or w 0 0) in
    let at = λ (k : ℕ) (e : length w ≡ k). breaks_there w k (omega arith) e (omega arith) in
    merged_kind (w ++ 0x41 ∷ []) InterruptedSequence
    (broken_kind (w ++ 0x41 ∷ []) (one_of_three (breaks_at (w ++ 0x41 ∷ []) 1) _ _ (length w) (λ e. breaks_there w 1 (omega arith) e (omega arith)) (λ e. breaks_there w 2 (omega arith) e (omega arith)) (λ e. breaks_there w 3 (omega arith) e (omega arith)) some (omega arith)))

-- the result for too few bytes that none breaks depends on what follows
pub few_are_open : (w : List ℕ) → fault_kind w ≡ Some TooFewBytes → is_broken w ≡ false → 0 < length w → (decoded_by_merger (w ++ []) ≡ Err TooFewBytes) × (decoded_by_merger (w ++ 0x41 ∷ []) ≡ Err InterruptedSequence)
few_are_open w h e some = (rw (append-nil w) (alone w h e), before_a w some (asks_for_more w h some))

-- Which of too few bytes break a code.

pub breaks_where : (w : List ℕ) (k : ℕ) → fault_kind w ≡ Some TooFewBytes → k < length w → breaks_at w k ≡ not (is_continuation (get_or w k 0))
breaks_where w k h lt =
    let few = asks_for_more w h (omega arith) in
    let there : ltb k (length w) ≡ true = grind (arith, common_steps) in
    let asks : leb (asked_by w) k ≡ false = grind (arith, common_steps) in
    rw (there, asks) refl

pub breaks_nowhere : (w : List ℕ) (k : ℕ) → length w ≤ k → breaks_at w k ≡ false
breaks_nowhere w k le =
    let none : ltb k (length w) ≡ false = grind (arith, common_steps) in
    rw none refl

pub few_broken : (w : List ℕ) → fault_kind w ≡ Some TooFewBytes → is_broken w ≡ breaks_at w 1 || breaks_at w 2
few_broken w h = let few = few_where_too_few w h in rw (breaks_nowhere w 3 few) (or-false (breaks_at w 1 || breaks_at w 2))
