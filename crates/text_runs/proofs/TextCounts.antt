-- Text by its bytes that begin a code: the number of pieces, and the offset of one of them.
use Rattle.std.proofs.Common.{◌≡◌, ℕ, zero, suc, ◌+◌, ◌-◌, ◌<◌, ◌≤◌, ◌⊎◌, ⊎_elim, Bool, true, false, not, cond, List, [], ◌∷◌, length, get_or, take, drop, flat_map, arith, refl, ap, sym, ◌∙◌, Some, le-leb, lt-ltb, le-ltb, length-drop, true≢false}
use Rattle.std.proofs.lemmas.Bool.{cases_lt, lt-leb}
use Rattle.std.proofs.lemmas.List.{get_or-drop, get_or-take, length-map, take_all}
use Rattle.std.proofs.lemmas.List.Sums.{sum_by-append, sum_by-cons}
use Rattle.std.proofs.lemmas.Option.{slice_get-get_or}
use Rattle.std.proofs.lemmas.Str.{IsUtf8-take}
use Rattle.std.specs.Prelude.{All, Ok, option_map, slice_get, slice_range, nat_le, ◌&&◌}
use Rattle.std.specs.Str.{IsUtf8, IsCharBoundary}
use Rattle.utf_base.specs.Code.{utf8}
use Rattle.utf_base.specs.Decoded.{decoded}
use Rattle.utf_base.specs.Kinds.{fault_kind}
use Rattle.utf_base.specs.Piece.{Inside}
use Rattle.utf_base.specs.Scalar.{IsScalar}
use Rattle.utf_base.proofs.FrontLemmas.{utf8_finds}
use Rattle.utf_base.proofs.TextScalars.{joined_from_text}
use Rattle.utf_base.proofs.Utf8Code.{utf8_is_code, utf8-continuation_byte, utf8-first}
use Rattle.utf_lanes.specs.Starts.{IsStartOf, is_start, start_count}
use Rattle.encode_unicode.specs.Pieces.{pieces, pieces_by}
use Rattle.encode_unicode.specs.Window.{Item}
use Rattle.text_runs.specs.Items.{answers_of}
use Rattle.text_runs.proofs.ForwardRuns.{pieces_are_the_run}
use Rattle.text_runs.proofs.RunLaws.{run_of_joined}
use Rattle.text_runs.proofs.SplitNumbers.{count_is, place_in_rest}

-- a continuation byte, recognised by its bounds
is_continuing : (b : ℕ) → 0x80 ≤ b → b < 0xC0 → is_start b ≡ false
is_continuing b lo hi = rw (le-leb 0x80 b lo, lt-ltb b 0xC0 hi) refl

is_first : (b : ℕ) → (b < 0x80) ⊎ (0xC2 ≤ b) → is_start b ≡ true
is_first b told = ⊎_elim (λ (low : b < 0x80). rw (lt-leb 0x80 b low) refl) (λ (high : 0xC2 ≤ b). rw (le-ltb b 0xC0 (omega arith)) (no_more (nat_le 0x80 b))) told
  where
    no_more : (c : Bool) → not (c && false) ≡ true
    no_more true = refl
    no_more false = refl

no_starts : (xs : List ℕ) → ((k : ℕ) → k < length xs → is_start (get_or xs k 0) ≡ false) → start_count xs ≡ 0
no_starts [] none = refl
no_starts (x ∷ xs) none =
    let sum = sum_by-cons (λ b. cond (is_start b) 1 0) x xs in
    let first : cond {A = ℕ} (is_start x) 1 0 ≡ 0 = ap (λ b. cond b 1 0) (none 0 (omega arith)) in
    let rest = no_starts xs (λ k lt. none (suc k) (omega arith)) in
    omega arith

one_start : (xs : List ℕ) → 0 < length xs → is_start (get_or xs 0 0) ≡ true → ((k : ℕ) → 0 < k → k < length xs → is_start (get_or xs k 0) ≡ false) → start_count xs ≡ 1
one_start [] some first none = absurd (omega arith)
one_start (x ∷ xs) some first none =
    let sum = sum_by-cons (λ b. cond (is_start b) 1 0) x xs in
    let one : cond {A = ℕ} (is_start x) 1 0 ≡ 1 = ap (λ b. cond b 1 0) first in
    let rest = no_starts xs (λ k lt. none (suc k) (omega arith) (omega arith)) in
    omega arith

pub one_of_code : (s : ℕ) → IsScalar s → start_count (utf8 s) ≡ 1
one_of_code s scalar =
    one_start (utf8 s) (utf8_is_code.some s scalar) (is_first (get_or (utf8 s) 0 0) (utf8-first s scalar))
    (λ k some lt. let (lo, hi) = utf8-continuation_byte s k scalar some lt in is_continuing _ lo hi)

starts_of_codes : (scalars : List ℕ) → All IsScalar scalars → start_count (flat_map utf8 scalars) ≡ length scalars
starts_of_codes [] all = refl
starts_of_codes (s ∷ scalars) all =
    let rest = starts_of_codes scalars (λ k d lt. all (suc k) d (omega arith)) in
    let one = one_of_code s (all 0 s (omega arith)) in
    let both = sum_by-append (λ b. cond (is_start b) 1 0) (utf8 s) (flat_map utf8 scalars) in
    omega arith

-- Text has as many pieces as bytes that begin a code.
pub text_counted : (xs : List ℕ) → IsUtf8 xs → length (pieces xs) ≡ start_count xs
text_counted xs text =
    let (scalars, joined) = joined_from_text xs text in
    let answers = run_of_joined utf8 fault_kind utf8_is_code utf8_finds xs scalars (pieces xs) joined (pieces_are_the_run xs) in
    let of_pieces : length (answers_of (pieces xs)) ≡ length (pieces xs) = length-map (pieces xs) (λ x. x.1) in
    let same : length (answers_of (pieces xs)) ≡ length scalars = ap length answers ∙ length-map scalars Ok in
    let starts : start_count xs ≡ length scalars = ap start_count joined.1 ∙ starts_of_codes scalars joined.0 in
    omega arith

-- No code covers the offset of such a byte.
start_outside : (xs : List ℕ) (p : ℕ) → is_start (get_or xs p 0) ≡ true → Inside utf8 xs p → ⊥
start_outside xs p start i =
    let stands = i.stands in
    let begins = i.begins in
    let ends = i.ends in
    let k = p - i.from in
    let width : i.from + length (utf8 i.char) - i.from ≡ length (utf8 i.char) = omega arith in
    let at : i.from + k ≡ p = omega arith in
    let byte : get_or (utf8 i.char) k 0 ≡ get_or xs p 0
    = ap (λ ys. get_or ys k 0) (sym stands.equal) ∙ (get_or-take _ (drop i.from xs) k 0 (omega arith) ∙ (get_or-drop i.from xs k 0 ∙ ap (λ n. get_or xs n 0) at)) in
    let (lo, hi) = utf8-continuation_byte i.char k stands.scalar (omega arith) (omega arith) in
    true≢false (sym start ∙ is_continuing (get_or xs p 0) (rw (← byte) lo) (rw (← byte) hi))

-- text may be divided at the offset of such a byte
start_divides : (xs : List ℕ) (p : ℕ) → p < length xs → is_start (get_or xs p 0) ≡ true → IsCharBoundary xs p
start_divides xs p lt start = (
  omega arith,
  λ _ high.
      ⊎_elim
      (λ (low : get_or xs p 0 < 192). absurd (true≢false (sym start ∙ is_continuing (get_or xs p 0) high low)))
      (λ (first : 192 ≤ get_or xs p 0). first)
      (cases_lt (get_or xs p 0) 192),
)

-- the first piece begins at the front
first_of : (n : ℕ) (ys : List ℕ) (d : Item) → 0 < n → 0 < length ys → ((get_or (pieces_by decoded n 0 ys) 0 d).0 ≡ 0) × (0 < length (pieces_by decoded n 0 ys))
unfolding pieces_by
first_of zero ys d some more = absurd (omega arith)
first_of (suc n) [] d some more = absurd (omega arith)
first_of (suc n) (y ∷ ys) d some more = (refl, omega arith)

pub front_piece : (xs : List ℕ) (d : Item) → 0 < length xs → ((get_or (pieces xs) 0 d).0 ≡ 0) × (0 < length (pieces xs))
front_piece xs d some =
    let all : slice_range xs 0 (length xs) ≡ xs = take_all _ xs (omega arith) in
    let long = ap length all in
    first_of (length (slice_range xs 0 (length xs))) (slice_range xs 0 (length xs)) d (omega arith) (omega arith)

pub some_piece : (xs : List ℕ) → 0 < length xs → 0 < length (pieces xs)
some_piece xs some = (front_piece xs (0, Ok 0, 0) some).1

-- The piece of text with a number begins at the byte with that number that begins a code.
pub text_numbered : (xs : List ℕ) (number p : ℕ) → IsUtf8 xs → IsStartOf xs number p → Some p ≡ option_map (λ (x : Item). x.0) (slice_get (pieces xs) number)
text_numbered xs number p text is =
    let lt = is.within in
    let out = start_outside xs p is.start in
    let front : IsUtf8 (take p xs) = IsUtf8-take xs p text (start_divides xs p lt is.start) in
    let before : length (pieces (take p xs)) ≡ number = text_counted (take p xs) front ∙ is.before in
    let runs = pieces_are_the_run in
    let count = count_is utf8 utf8_is_code fault_kind xs p (omega arith) out (pieces xs) (pieces (take p xs)) (pieces (drop p xs)) (runs xs) (runs (take p xs)) (runs (drop p xs)) in
    let left : 0 < length (pieces (drop p xs)) = some_piece (drop p xs) (omega (arith, length-drop p xs)) in
    let d : Item = get_or (pieces xs) 0 (0, Ok 0, 0) in
    let here = place_in_rest utf8 utf8_is_code fault_kind xs p (omega arith) out (pieces xs) (pieces (take p xs)) (pieces (drop p xs)) (runs xs) (runs (take p xs)) (runs (drop p xs)) number d (omega arith) (omega arith) in
    let none : number - length (pieces (take p xs)) ≡ 0 = omega arith in
    let first : (get_or (pieces (drop p xs)) (number - length (pieces (take p xs))) d).0 ≡ 0 = ap (λ n. (get_or (pieces (drop p xs)) n d).0) none ∙ (front_piece (drop p xs) d (omega (arith, length-drop p xs))).0 in
    let place : (get_or (pieces xs) number d).0 ≡ p = omega arith in
    ap Some (sym place) ∙ sym (ap (option_map (λ (x : Item). x.0)) (slice_get-get_or (pieces xs) number d (omega arith)))
