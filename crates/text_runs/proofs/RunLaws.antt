-- A list has at most one run, and one without an error if and only if it is the codes of some scalars,
-- joined.
use Rattle.std.proofs.Common.{◌≡◌, ℕ, suc, ◌+◌, List, [], ◌∷◌, length, map, refl, ap, ap₂, sym, ◌∙◌, arith, true, Option, Some, Ok, Err, Result}
use Rattle.std.proofs.lemmas.List.Elements.{All-cons, All-nil}
use Rattle.std.specs.Prelude.{All, IfErr, drop, is_some}
use Rattle.std.specs.Result.{result_ok}
use Rattle.utf_base.specs.Code.{IsCode}
use Rattle.utf_base.specs.CutLaws.{HaveNoFault, IsJoined, char_pieces}
use Rattle.utf_base.proofs.Cuts.{Finds, cut_unique}
use Rattle.utf_base.proofs.JoinedCodes.{no_fault_in_joined_codes}
use Rattle.encode_unicode.specs.Window.{Placed}
use Rattle.text_runs.specs.Items.{piece_of, HasKind, IsRun, IsRunBetween, answers_of}

-- the result at an offset is known by its piece
same_answer : {E : Type 0} (kind : List ℕ → Option E) (xs : List ℕ) (p q : ℕ) (r t : Result ℕ E) → p ≡ q → result_ok r ≡ result_ok t
    → IfErr r (λ k. kind (drop p xs) ≡ Some k) → IfErr t (λ k. kind (drop q xs) ≡ Some k) → r ≡ t
same_answer kind xs p q (Ok s) (Ok u) place e h g = let same : s ≡ u = cc in ap Ok same
same_answer kind xs p q (Ok s) (Err l) place e h g = absurd cc
same_answer kind xs p q (Err k) (Ok u) place e h g = absurd cc
same_answer kind xs p q (Err k) (Err l) place e h g =
    let known : Some k ≡ Some l = sym h ∙ ap (λ n. kind (drop n xs)) place ∙ g in
    let same : k ≡ l = cc in
    ap Err same

pub same_item : {E : Type 0} (kind : List ℕ → Option E) (xs : List ℕ) (x y : Placed E) → piece_of x ≡ piece_of y → HasKind kind xs x → HasKind kind xs y → x ≡ y
same_item kind xs x y e h g =
    let place : x.0 ≡ y.0 = ap (λ p. p.start) e in
    let len : x.2 ≡ y.2 = ap (λ p. p.len) e in
    let answer : x.1 ≡ y.1 = same_answer kind xs x.0 y.0 x.1 y.1 place (ap (λ p. p.char) e) h g in
    ap (λ p. (p, x.1, x.2)) place ∙ ap (λ r. (y.0, r, x.2)) answer ∙ ap (λ n. (y.0, y.1, n)) len

same_items : {E : Type 0} (kind : List ℕ → Option E) (xs : List ℕ) (items others : List (Placed E)) → map piece_of items ≡ map piece_of others
    → All (HasKind kind xs) items → All (HasKind kind xs) others → items ≡ others
same_items kind xs [] [] e h g = refl
same_items kind xs [] (y ∷ others) e h g = absurd cc
same_items kind xs (x ∷ items) [] e h g = absurd cc
same_items kind xs (x ∷ items) (y ∷ others) e h g =
    let first : piece_of x ≡ piece_of y = cc in
    let rest : map piece_of items ≡ map piece_of others = cc in
    ap₂ (λ z zs. z ∷ zs) (same_item kind xs x y first (h 0 x (omega arith)) (g 0 y (omega arith)))
    (same_items kind xs items others rest (λ k d lt. h (suc k) d (omega arith)) (λ k d lt. g (suc k) d (omega arith)))

pub run_between_unique : {E : Type 0} (code : ℕ → List ℕ) (kind : List ℕ → Option E) → IsCode code → (xs : List ℕ) (i j : ℕ) (items others : List (Placed E))
    → IsRunBetween code kind xs i j items → IsRunBetween code kind xs i j others → items ≡ others
run_between_unique code kind c xs i j items others a b =
    same_items kind xs items others (cut_unique code c xs i j (map piece_of items) (map piece_of others) a.cut b.cut) a.kinds b.kinds

pub run_unique : {E : Type 0} (code : ℕ → List ℕ) (kind : List ℕ → Option E) → IsCode code → (xs : List ℕ) (items others : List (Placed E))
    → IsRun code kind xs items → IsRun code kind xs others → items ≡ others
run_unique code kind c xs items others a b = run_between_unique code kind c xs 0 (length xs) items others a b

-- the results of items that are the pieces of joined codes
answers_of_chars : {E : Type 0} (code : ℕ → List ℕ) (i : ℕ) (items : List (Placed E)) (scalars : List ℕ) → map piece_of items ≡ char_pieces code i scalars
    → answers_of items ≡ map Ok scalars
answers_of_chars code i [] [] e = refl
answers_of_chars code i [] (s ∷ scalars) e = absurd cc
answers_of_chars code i (x ∷ items) [] e = absurd cc
answers_of_chars code i (x ∷ items) (s ∷ scalars) e =
    let first : piece_of x ≡ record { start = i; len = length (code s); char = Some s } = cc in
    let rest : map piece_of items ≡ char_pieces code (i + length (code s)) scalars = cc in
    ap₂ (λ r rs. r ∷ rs) (ok_of x.1 s (ap (λ p. p.char) first)) (answers_of_chars code (i + length (code s)) items scalars rest)
  where
    ok_of : {E : Type 0} (r : Result ℕ E) (s : ℕ) → result_ok r ≡ Some s → r ≡ Ok s
    ok_of (Ok t) s e = let same : t ≡ s = cc in ap Ok same
    ok_of (Err k) s e = absurd cc

-- pieces whose results are all characters
no_fault_of_chars : {E : Type 0} (items : List (Placed E)) (scalars : List ℕ) → answers_of items ≡ map Ok scalars → HaveNoFault (map piece_of items)
no_fault_of_chars [] scalars e = All-nil (λ x. is_some x.char ≡ true)
no_fault_of_chars (x ∷ items) [] e = absurd cc
no_fault_of_chars (x ∷ items) (s ∷ scalars) e =
    let first : x.1 ≡ Ok s = cc in
    let rest : answers_of items ≡ map Ok scalars = cc in
    All-cons (λ x. is_some x.char ≡ true) (piece_of x) (map piece_of items) (ap (λ r. is_some (result_ok r)) first) (no_fault_of_chars items scalars rest)

same_scalars : {E : Type 0} (ss ts : List ℕ) → ◌≡◌ {A = List (Result ℕ E)} (map Ok ss) (map Ok ts) → ss ≡ ts
same_scalars [] [] e = refl
same_scalars [] (t ∷ ts) e = absurd cc
same_scalars (s ∷ ss) [] e = absurd cc
same_scalars {E} (s ∷ ss) (t ∷ ts) e =
    let first : s ≡ t = cc in
    let rest : ◌≡◌ {A = List (Result ℕ E)} (map Ok ss) (map Ok ts) = cc in
    ap₂ (λ x xs. x ∷ xs) first (same_scalars ss ts rest)

-- the run over joined codes returns their scalars
pub run_of_joined : {E : Type 0} (code : ℕ → List ℕ) (kind : List ℕ → Option E) → IsCode code → Finds code → (xs scalars : List ℕ) (items : List (Placed E))
    → IsJoined code xs scalars → IsRun code kind xs items → answers_of items ≡ map Ok scalars
run_of_joined code kind c find xs scalars items h run =
    answers_of_chars code 0 items scalars ((no_fault_in_joined_codes code c find).joined xs scalars (map piece_of items) h run.cut)

-- a run whose results are all scalars is over their joined codes
pub joined_of_run : {E : Type 0} (code : ℕ → List ℕ) (kind : List ℕ → Option E) → IsCode code → Finds code → (xs scalars : List ℕ) (items : List (Placed E))
    → IsRun code kind xs items → answers_of items ≡ map Ok scalars → IsJoined code xs scalars
joined_of_run {E} code kind c find xs scalars items run e =
    let found = (no_fault_in_joined_codes code c find).only xs (map piece_of items) run.cut (no_fault_of_chars items scalars e) in
    let same : found.0 ≡ scalars = same_scalars {E = E} found.0 scalars (sym (run_of_joined code kind c find xs found.0 items found.1 run) ∙ e) in
    rw (← same) found.1
