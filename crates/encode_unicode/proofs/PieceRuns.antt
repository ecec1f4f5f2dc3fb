-- A run of a decoder, or of an iterator over a text, gives the list of its pieces, or of its characters.
use Rattle.std.proofs.Common.{◌≡◌, ℕ, zero, suc, ◌+◌, ◌-◌, ◌*◌, ◌≤◌, List, [], ◌∷◌, ◌++◌, length, take, drop, Option, Some, None, Ok, Err, Result, map, refl, ap, sym, subst, ◌∙◌, arith, length-append, length-drop, append-nil}
use Rattle.std.specs.Iterator.{Yields, YieldsLast}
use Rattle.std.specs.Iterator.Runs.{Run, EveryRun, EachRunFrom, WholeRun, AllItems}
use Rattle.std.proofs.iter.runs.Lists.{Everywhere}
use Rattle.std.proofs.iter.runs.Made.{took, each}
use Rattle.std.proofs.iter.runs.Sources.{as_is, as_is_back, from_back, from_front}
use Rattle.std.specs.List.{flat_map, fold, last_or}
use Rattle.std.specs.Prelude.{IfOk, slice_index, slice_range, option_map}
use Rattle.std.specs.Str.{chars, IsCharBoundary, IsUtf8}
use Rattle.std.proofs.lemmas.Grind.{common_steps}
use Rattle.std.proofs.lemmas.Str.{IsUtf8-append, chars-append, chars-nil, chars_past_char, encodes-chars}
use Rattle.std.proofs.lemmas.Iterator.{YieldsList, items_from_drains}
use Rattle.std.proofs.lemmas.Iterator.Consumers.{YieldsList-from_shown}
use Rattle.std.proofs.lemmas.List.{map-id, take_all}
use Rattle.utf_base.specs.Back.{decoded_end, decoded_pairs_end}
use Rattle.utf_base.specs.Code.{utf8, utf16}
use Rattle.utf_base.specs.declared.errors.Utf8ErrorKind.{Utf8ErrorKind}
use Rattle.utf_base.specs.declared.errors.units.Utf16PairError.{Utf16PairError}
use Rattle.utf_base.specs.Decoded.{decoded, decoded_pairs, unless_fault, units_asked}
use Rattle.utf_base.specs.Units.{unit_back_kind, unit_fault_kind, unit_value}
use Rattle.utf_base.specs.Kinds.{back_kind, fault_kind, value}
use Rattle.utf_base.proofs.DecodedLemmas.{answer_of_bytes, decoded_code}
use Rattle.utf_base.proofs.FrontLemmas.{code_where_no_fault}
use Rattle.utf_base.proofs.Utf8Code.{utf8_is_code, length_utf8}
use Rattle.utf_base.proofs.StdText.{encodes_are_codes, utf8_is_std, utf8_is_text}
use Rattle.utf_chars.proofs.Ranges.{range_after}
use Rattle.utf_base.proofs.JoinedLengths.{some_utf8}
use Rattle.encode_unicode.proofs.RunTests.{tells, tells_back}
use Rattle.encode_unicode.specs.Pieces.{Gives, GivesReversed, LengthsFit, LiesWithin, LiesInText, LiesInTextWindow, LiesInWindow, PiecesFit, pieces, unit_pieces, pieces_by, pieces_left, unit_pieces_left, placed_chars, chars_left, placed_chars_left}
use Rattle.encode_unicode.specs.Sources.{IsListed, IsListedBack}
use Rattle.encode_unicode.specs.TextWindow.{NextScalar, NextPlaced, BackScalar, BackPlaced, GivesFirstChar, GivesLastChar}
use Rattle.encode_unicode.specs.Window.{Window, Placed, elements, whole_window, without_front, as_piece, GivesNone, GivesFrontOf, GivesBackOf, HasCode, NextGives, NextGivesUnits, NextBackGives, NextBackGivesUnits}

-- A list of the remaining items of each state is the list that each run gives.
pub listed_run : {S A : Type 0} (steps : S → Option A → S → Type 0) (rest : S → List A) → IsListed steps rest → EveryRun steps (λ p. Gives p (rest p.from))
listed_run {S} {A} steps rest listed p seen =
    let mapped = from_front steps (λ (x : A). x) rest (λ s t h. ap length (listed s None t h).0) (λ s x t h. listed s (Some x) t h) p seen in
    let items = as_is p (rest p.from) mapped in
    (items, mapped, tells p (rest p.from) items)

-- A list of the remaining items of each state, last first, is the list that each run from the end gives.
pub listed_run_back : {S A : Type 0} (back : S → Option A → S → Type 0) (rest : S → List A) → ((s : S) (r : Option A) (t : S) → back s r t → YieldsLast rest s r t)
    → EveryRun back (λ p. GivesReversed p (rest p.from))
listed_run_back {S} {A} back rest listed p seen =
    let mapped = from_back back (λ (x : A). x) rest (λ s t h. ap length (listed s None t h).0) (λ s x t h. listed s (Some x) t h) p seen in
    let items = as_is_back p (rest p.from) mapped in
    (items, mapped, tells_back p (rest p.from) items)

-- Pieces.

pieces_none : {E : Type 0} (answer : List ℕ → Result (ℕ × ℕ) E) (n place : ℕ) (xs : List ℕ) → length xs ≤ 0 → pieces_by answer n place xs ≡ []
unfolding pieces_by
pieces_none answer zero place xs h = refl
pieces_none answer (suc n) place [] h = refl
pieces_none answer (suc n) place (x ∷ xs) h = absurd (omega arith)

-- the bound does not matter if it is no less than the number of elements
pieces_enough : {E : Type 0} (answer : List ℕ → Result (ℕ × ℕ) E) → ((xs : List ℕ) → 1 ≤ (as_piece (answer xs)).1) → (n m place : ℕ) (xs : List ℕ) → length xs ≤ n → length xs ≤ m
    → pieces_by answer n place xs ≡ pieces_by answer m place xs
unfolding pieces_by
pieces_enough answer some zero m place xs a b = sym (pieces_none answer m place xs a)
pieces_enough answer some (suc n) zero place xs a b = pieces_none answer (suc n) place xs b
pieces_enough answer some (suc n) (suc m) place [] a b = refl
pieces_enough answer some (suc n) (suc m) place (x ∷ xs) a b =
    let one = some (x ∷ xs) in
    let less = length-drop (as_piece (answer (x ∷ xs))).1 (x ∷ xs) in
    ap (λ rest. (place, (as_piece (answer (x ∷ xs))).0, (as_piece (answer (x ∷ xs))).1) ∷ rest) (pieces_enough answer some n m (place + (as_piece (answer (x ∷ xs))).1) (drop (as_piece (answer (x ∷ xs))).1 (x ∷ xs)) (omega arith) (omega arith))

-- each piece has at least one element, and at most as many as a code

pub len_of_bytes : (xs : List ℕ) → (1 ≤ (as_piece (decoded xs)).1) × ((as_piece (decoded xs)).1 ≤ 4)
len_of_bytes xs = by_kind (fault_kind xs) refl
  where
    by_kind : (k : Option Utf8ErrorKind) → fault_kind xs ≡ k → (1 ≤ (as_piece (decoded xs)).1) × ((as_piece (decoded xs)).1 ≤ 4)
    by_kind None e =
        let code = code_where_no_fault xs e in
        let some = utf8_is_code.some (value xs) code.0.scalar in
        let few = length_utf8 (value xs) in
        rw (decoded_code xs (value xs) code.0) (omega arith, omega arith)
    by_kind (Some k) e = rw (← answer_of_bytes xs (Err k) e) (omega arith, omega arith)

pub len_of_units : (xs : List ℕ) → (1 ≤ (as_piece (decoded_pairs xs)).1) × ((as_piece (decoded_pairs xs)).1 ≤ 2)
unfolding decoded_pairs
len_of_units xs = by_kind (unit_fault_kind xs)
  where
    asks : (u : ℕ) → (1 ≤ units_asked u) × (units_asked u ≤ 2)
    asks u = (grind (arith, common_steps), grind (arith, common_steps))

    by_kind : (k : Option Utf16PairError) → (1 ≤ (as_piece (unless_fault k (unit_value xs, units_asked (slice_index xs 0)))).1) × ((as_piece (unless_fault k (unit_value xs, units_asked (slice_index xs 0)))).1 ≤ 2)
    by_kind None = asks (slice_index xs 0)
    by_kind (Some k) = (omega arith, omega arith)

pub some_bytes : (xs : List ℕ) → 1 ≤ (as_piece (decoded xs)).1
some_bytes xs = (len_of_bytes xs).0

pub some_units : (xs : List ℕ) → 1 ≤ (as_piece (decoded_pairs xs)).1
some_units xs = (len_of_units xs).0

module _ {E : Type 0} (code : ℕ → List ℕ) (most : ℕ) (kind : List ℕ → Option E) (answer : List ℕ → Result (ℕ × ℕ) E) (some : (xs : List ℕ) → 1 ≤ (as_piece (answer xs)).1) where
  pub first_piece : (n place : ℕ) (xs ys : List ℕ) (x : Placed E) → 1 ≤ length xs → length xs ≤ n → x.0 ≡ place → (x.1, x.2) ≡ as_piece (answer xs) → ys ≡ drop x.2 xs
      → pieces_by answer n place xs ≡ x ∷ pieces_by answer (length ys) (place + x.2) ys
  unfolding pieces_by
  first_piece zero place xs ys x h enough e known rest = absurd (omega arith)
  first_piece (suc n) place [] ys x h enough e known rest = absurd (omega arith)
  first_piece (suc n) place (b ∷ bs) ys x h enough e known rest =
      let one = some (b ∷ bs) in
      let len : x.2 ≡ (as_piece (answer (b ∷ bs))).1 = ap (λ y. y.1) known in
      let less : length ys ≡ length (b ∷ bs) - x.2 = ap length rest ∙ length-drop x.2 (b ∷ bs) in
      let same : pieces_by answer n (place + x.2) ys ≡ pieces_by answer (length ys) (place + x.2) ys
      = pieces_enough answer some n (length ys) (place + x.2) ys (omega arith) (omega arith) in
      let first : (place, (as_piece (answer (b ∷ bs))).0, (as_piece (answer (b ∷ bs))).1) ≡ x = ap (λ y. (place, y.0, y.1)) (sym known) ∙ ap (λ p. (p, x.1, x.2)) (sym e) in
      let following : pieces_by answer n (place + (as_piece (answer (b ∷ bs))).1) (drop (as_piece (answer (b ∷ bs))).1 (b ∷ bs)) ≡ pieces_by answer n (place + x.2) ys
      = ap (λ k. pieces_by answer n (place + k) (drop k (b ∷ bs))) (sym len) ∙ ap (pieces_by answer n (place + x.2)) (sym rest) in
      ap (λ y. y ∷ pieces_by answer n (place + (as_piece (answer (b ∷ bs))).1) (drop (as_piece (answer (b ∷ bs))).1 (b ∷ bs))) first ∙ ap (λ l. x ∷ l) (following ∙ same)

  piece_taken : (w v : Window) (x : Placed E) → GivesFrontOf code most kind answer w x v
      → pieces_by answer (length (elements w)) w.front (elements w) ≡ x ∷ pieces_by answer (length (elements v)) v.front (elements v)
  piece_taken w v x g =
      let most : length (elements w) ≤ w.back - w.front = grind (arith, common_steps) in
      let rest : elements (without_front w x.2) ≡ drop x.2 (elements w) = range_after w.whole w.front w.back x.2 (omega arith) in
      rw g.left (first_piece (length (elements w)) w.front (elements w) (elements (without_front w x.2)) x (omega arith) (omega arith) g.place g.known rest)

  no_piece : (w v : Window) → GivesNone w v → pieces_by answer (length (elements w)) w.front (elements w) ≡ []
  no_piece w v g =
      let zero : length (elements w) ≤ 0 = grind (arith, common_steps) in
      pieces_none answer (length (elements w)) w.front (elements w) zero

-- the remaining pieces of a decoder of bytes, and of a decoder of units
pub decoder_listed : IsListed NextGives pieces_left
decoder_listed w None v h = (no_piece utf8 4 fault_kind decoded some_bytes w v h, rw h.left (no_piece utf8 4 fault_kind decoded some_bytes w v h))
decoder_listed w (Some x) v h = piece_taken utf8 4 fault_kind decoded some_bytes w v x h

pub unit_decoder_listed : IsListed NextGivesUnits unit_pieces_left
unit_decoder_listed w None v h = (no_piece utf16 2 unit_fault_kind decoded_pairs some_units w v h, rw h.left (no_piece utf16 2 unit_fault_kind decoded_pairs some_units w v h))
unit_decoder_listed w (Some x) v h = piece_taken utf16 2 unit_fault_kind decoded_pairs some_units w v x h

-- Characters.

no_chars : (w v : Window) → GivesNone w v → chars_left w ≡ []
no_chars w v h =
    let zero : w.back - w.front ≡ 0 = omega arith in
    ap (λ n. chars (take n (drop w.front w.whole))) zero ∙ chars-nil

first_char : (w v : Window) (place s : ℕ) → GivesFirstChar w place s v → chars_left w ≡ s ∷ chars_left v
first_char w v place s h =
    chars_past_char (elements w) (elements v) s (rw h.code (IsUtf8-append (utf8 s) (elements v) (utf8_is_text s h.scalar) h.between.text))
    (h.code ∙ ap (λ code. code ++ elements v) (sym (utf8_is_std s)))

-- an iterator over the characters of a text gives the characters of the window
pub scalars_listed : IsListed NextScalar chars_left
scalars_listed w None v h = (no_chars w v h, ap chars_left h.left ∙ no_chars w v h)
scalars_listed w (Some s) v h = first_char w v w.front s h

-- an iterator with offsets gives the characters of the window with their offsets
pub placed_listed : IsListed NextPlaced placed_chars_left
placed_listed w None v h =
    let none = ap (placed_chars w.front) (no_chars w v h) in
    (none, ap placed_chars_left h.left ∙ none)
placed_listed w (Some x) v h =
    let front : v.front ≡ w.front + length (utf8 x.1) = ap (λ (u : Window). u.front) h.left in
    ap (placed_chars w.front) (first_char w v x.0 x.1 h) ∙ ap (λ p. (p, x.1) ∷ placed_chars (w.front + length (utf8 x.1)) (chars_left v)) (sym h.at_front)
    ∙ ap (λ p. x ∷ placed_chars p (chars_left v)) (sym front)

-- An iterator from the end gives the characters of the window, last first.

no_chars_back : (w v : Window) → GivesNone w v → (chars_left w ≡ []) × (chars_left v ≡ [])
no_chars_back w v h = let none = no_chars w v h in (none, ap chars_left h.left ∙ none)

last_char : (w v : Window) (place s : ℕ) → GivesLastChar w place s v → chars_left w ≡ chars_left v ++ s ∷ []
last_char w v place s h =
    let one : chars (utf8 s) ≡ s ∷ [] = ap chars (sym (append-nil (utf8 s))) ∙ chars_past_char (utf8 s ++ []) [] s (rw (append-nil (utf8 s)) (utf8_is_text s h.scalar)) (ap (λ code. code ++ []) (sym (utf8_is_std s))) ∙ ap (λ xs. s ∷ xs) chars-nil in
    ap chars h.code ∙ chars-append (elements v) (utf8 s) h.between.text ∙ ap (λ xs. chars_left v ++ xs) one

pub scalars_last : (w : Window) (r : Option ℕ) (v : Window) → BackScalar w r v → YieldsLast chars_left w r v
scalars_last w None v h = no_chars_back w v h
scalars_last w (Some s) v h = last_char w v v.back s h

-- std's encoding agrees with the codes; the codes of the characters of a text are the text
pub codes_of_text : (text : List ℕ) → IsUtf8 text → flat_map utf8 (chars text) ≡ text
codes_of_text text h = sym (encodes_are_codes (chars text)) ∙ encodes-chars text h

length_range : (xs : List ℕ) (i j : ℕ) → j ≤ length xs → length (slice_range xs i j) ≡ j - i
length_range xs i j h = grind (arith, common_steps)

placed-append : (place : ℕ) (xs ys : List ℕ) → placed_chars place (xs ++ ys) ≡ placed_chars place xs ++ placed_chars (place + length (flat_map utf8 xs)) ys
placed-append place [] ys = ap (λ p. placed_chars p ys) (omega arith)
placed-append place (x ∷ xs) ys =
    let sum : place + length (utf8 x) + length (flat_map utf8 xs) ≡ place + length (flat_map utf8 (x ∷ xs)) = omega (arith, length-append (utf8 x) (flat_map utf8 xs)) in
    ap (λ l. (place, x) ∷ l) (placed-append (place + length (utf8 x)) xs ys ∙ ap (λ p. placed_chars (place + length (utf8 x)) xs ++ placed_chars p ys) sum)

pub placed_last : (w : Window) (r : Option (ℕ × ℕ)) (v : Window) → BackPlaced w r v → YieldsLast placed_chars_left w r v
placed_last w None v h = let none = no_chars_back w v h in (ap (placed_chars w.front) none.0, ap (placed_chars v.front) none.1)
placed_last w (Some x) v h =
    let front : v.front ≡ w.front = ap (λ (u : Window). u.front) h.left in
    let back : v.back ≡ w.back - length (utf8 x.1) = ap (λ (u : Window). u.back) h.left in
    let fits = h.between.back.0 in
    let both : length (elements w) ≡ length (elements v) + length (utf8 x.1) = ap length h.code ∙ length-append (elements v) (utf8 x.1) in
    let most : length (elements w) ≤ w.back - w.front = grind (arith, common_steps) in
    let some = some_utf8 x.1 in
    let count : length (elements v) ≡ v.back - v.front = length_range v.whole v.front v.back fits in
    let place : w.front + length (flat_map utf8 (chars_left v)) ≡ x.0 = rw (codes_of_text (elements v) h.between.text) (omega arith) in
    ap (placed_chars w.front) (last_char w v x.0 x.1 h) ∙ placed-append w.front (chars_left v) (x.1 ∷ []) ∙ ap (λ p. placed_chars w.front (chars_left v) ++ (p, x.1) ∷ []) place
    ∙ ap (λ p. placed_chars p (chars_left v) ++ x ∷ []) (sym front)

last_push : {A : Type 0} (o : Option A) (xs : List A) (x : A) → last_or o (xs ++ x ∷ []) ≡ Some x
last_push o [] x = refl
last_push o (y ∷ ys) x = last_push (Some y) ys x

-- a call that takes the last item returns it
listed_back : {S A : Type 0} (rest : S → List A) (s : S) (r : Option A) (t : S) → YieldsLast rest s r t → YieldsLast rest s r t × (r ≡ last_or None (rest s))
listed_back rest s None t h = (h, ap (last_or None) (sym h.0))
listed_back rest s (Some x) t h = (h, sym (ap (last_or None) h ∙ last_push None (rest t) x))

pub scalars_listed_back : IsListedBack BackScalar chars_left
scalars_listed_back w r v h = listed_back chars_left w r v (scalars_last w r v h)

pub placed_listed_back : IsListedBack BackPlaced placed_chars_left
placed_listed_back w r v h = listed_back placed_chars_left w r v (placed_last w r v h)

-- The characters of a window of the whole text.

pub whole_text : (text : List ℕ) → elements (whole_window text) ≡ text
whole_text text = take_all _ text (omega arith)

pub chars_of_text : (text : List ℕ) (w : Window) → w ≡ whole_window text → (chars_left w ≡ chars text) × (placed_chars_left w ≡ placed_chars 0 (chars text))
chars_of_text text w e = let left = ap chars_left e ∙ ap chars (whole_text text) in (left, ap placed_chars_left e ∙ ap (λ xs. placed_chars 0 (chars xs)) (whole_text text))

-- The offsets at which their items lie.

at_cons : {A : Type 0} (P : A → Type 0) (x : A) (xs : List A) → P x → Everywhere xs P → Everywhere (x ∷ xs) P
at_cons P x xs h rest zero = h
at_cons P x xs h rest (suc k) = rest k

module _ {S A : Type 0} (steps : S → Option A → S → Type 0) (Keeps : S → Type 0) (P : A → Type 0) (step : (s : S) (x : A) (t : S) → Keeps s → steps s (Some x) t → P x × Keeps t) where
  everywhere : (xs : List A) (s t : S) → Keeps s → Yields steps s xs t → Everywhere xs P
  everywhere [] s t k y = λ n. tt
  everywhere (x ∷ xs) s t k y =
      let one = step s x y.0 k y.1 in
      at_cons P x xs one.0 (everywhere xs y.0 t one.1 y.2)

  all_items : (p : Run steps) → Keeps p.from → AllItems p P
  all_items p k = each p P (everywhere p.items p.from (took p).0 k (took p).1)

place_kept : {E : Type 0} (code : ℕ → List ℕ) (most : ℕ) (kind : List ℕ → Option E) (answer : List ℕ → Result (ℕ × ℕ) E) (n : ℕ) (w v : Window) (x : Placed E)
    → w.back ≡ n → GivesFrontOf code most kind answer w x v → LiesWithin most n x × (v.back ≡ n)
place_kept code most kind answer n w v x end g =
    let all : length (elements w) ≤ w.back - w.front = grind (arith, common_steps) in
    ((omega arith, omega arith, omega arith, omega arith), ap (λ (u : Window). u.back) g.left ∙ end)

pub decoder_places : (xs : List ℕ) (s : Window) → s ≡ whole_window xs → EachRunFrom NextGives s (λ p. AllItems p (LiesWithin 4 (length xs)))
decoder_places xs s e p seen from =
    all_items NextGives (λ w. w.back ≡ length xs) (LiesWithin 4 (length xs)) (λ w x v k g. place_kept utf8 4 fault_kind decoded (length xs) w v x k g) p
    (ap (λ (u : Window). u.back) (from ∙ e))

pub unit_decoder_places : (xs : List ℕ) (s : Window) → s ≡ whole_window xs → EachRunFrom NextGivesUnits s (λ p. AllItems p (LiesWithin 2 (length xs)))
unit_decoder_places xs s e p seen from =
    all_items NextGivesUnits (λ w. w.back ≡ length xs) (LiesWithin 2 (length xs)) (λ w x v k g. place_kept utf16 2 unit_fault_kind decoded_pairs (length xs) w v x k g) p
    (ap (λ (u : Window). u.back) (from ∙ e))

-- The items of a decoder after earlier calls lie in its window.
window_kept : {E : Type 0} (code : ℕ → List ℕ) (most : ℕ) (kind : List ℕ → Option E) (answer : List ℕ → Result (ℕ × ℕ) E) (u w v : Window) (x : Placed E)
    → (w.back ≡ u.back) × (u.front ≤ w.front) → GivesFrontOf code most kind answer w x v → LiesInWindow most u x × ((v.back ≡ u.back) × (u.front ≤ v.front))
window_kept code most kind answer u w v x k g =
    let kept = place_kept code most kind answer u.back w v x k.0 g in
    let front : v.front ≡ w.front + x.2 = ap (λ (z : Window). z.front) g.left in
    let place = g.place in
    ((kept.0, omega arith), (kept.1, omega arith))

pub decoder_places_on : EveryRun NextGives (λ p. AllItems p (LiesInWindow 4 p.from))
decoder_places_on p seen =
    all_items NextGives (λ w. (w.back ≡ p.from.back) × (p.from.front ≤ w.front)) (LiesInWindow 4 p.from) (λ w x v k g. window_kept utf8 4 fault_kind decoded p.from w v x k g) p (refl, omega arith)

pub unit_decoder_places_on : EveryRun NextGivesUnits (λ p. AllItems p (LiesInWindow 2 p.from))
unit_decoder_places_on p seen =
    all_items NextGivesUnits (λ w. (w.back ≡ p.from.back) × (p.from.front ≤ w.front)) (LiesInWindow 2 p.from) (λ w x v k g. window_kept utf16 2 unit_fault_kind decoded_pairs p.from w v x k g) p (refl, omega arith)

piece_kept_back : {E : Type 0} (code : ℕ → List ℕ) (most : ℕ) (kind : ℕ → E) (answer : List ℕ → Result (ℕ × ℕ) E) (n : ℕ) (w v : Window) (x : Placed E)
    → w.back ≤ n → GivesBackOf code most kind answer w x v → LiesWithin most n x × (v.back ≤ n)
piece_kept_back code most kind answer n w v x end g =
    let back : v.back ≡ w.back - x.2 = ap (λ (u : Window). u.back) g.left in
    ((omega arith, omega arith, omega arith, omega arith), omega arith)

pub decoder_places_back : (xs : List ℕ) (s : Window) → s ≡ whole_window xs → EachRunFrom NextBackGives s (λ p. AllItems p (LiesWithin 4 (length xs)))
decoder_places_back xs s e p seen from =
    let end : p.from.back ≡ length xs = ap (λ (u : Window). u.back) (from ∙ e) in
    all_items NextBackGives (λ w. w.back ≤ length xs) (LiesWithin 4 (length xs)) (λ w x v k g. piece_kept_back utf8 4 back_kind decoded_end (length xs) w v x k g) p (omega arith)

pub unit_decoder_places_back : (xs : List ℕ) (s : Window) → s ≡ whole_window xs → EachRunFrom NextBackGivesUnits s (λ p. AllItems p (LiesWithin 2 (length xs)))
unit_decoder_places_back xs s e p seen from =
    let end : p.from.back ≡ length xs = ap (λ (u : Window). u.back) (from ∙ e) in
    all_items NextBackGivesUnits (λ w. w.back ≤ length xs) (LiesWithin 2 (length xs)) (λ w x v k g. piece_kept_back utf16 2 unit_back_kind decoded_pairs_end (length xs) w v x k g) p (omega arith)

window_kept_back : {E : Type 0} (code : ℕ → List ℕ) (most : ℕ) (kind : ℕ → E) (answer : List ℕ → Result (ℕ × ℕ) E) (u w v : Window) (x : Placed E)
    → (w.back ≤ u.back) × (w.front ≡ u.front) → GivesBackOf code most kind answer w x v → LiesInWindow most u x × ((v.back ≤ u.back) × (v.front ≡ u.front))
window_kept_back code most kind answer u w v x k g =
    let kept = piece_kept_back code most kind answer u.back w v x k.0 g in
    let all : length (elements w) ≤ w.back - w.front = grind (arith, common_steps) in
    let front : v.front ≡ w.front = ap (λ (z : Window). z.front) g.left in
    let some = g.some in
    let place = g.place in
    let len = g.len in
    ((kept.0, omega arith), (kept.1, omega arith))

pub decoder_places_back_on : EveryRun NextBackGives (λ p. AllItems p (LiesInWindow 4 p.from))
decoder_places_back_on p seen =
    all_items NextBackGives (λ w. (w.back ≤ p.from.back) × (w.front ≡ p.from.front)) (LiesInWindow 4 p.from) (λ w x v k g. window_kept_back utf8 4 back_kind decoded_end p.from w v x k g) p (omega arith, refl)

pub unit_decoder_places_back_on : EveryRun NextBackGivesUnits (λ p. AllItems p (LiesInWindow 2 p.from))
unit_decoder_places_back_on p seen =
    all_items NextBackGivesUnits (λ w. (w.back ≤ p.from.back) × (w.front ≡ p.from.front)) (LiesInWindow 2 p.from) (λ w x v k g. window_kept_back utf16 2 unit_back_kind decoded_pairs_end p.from w v x k g) p (omega arith, refl)

-- If they are characters, their codes are at their offsets.

code_kept : {E : Type 0} (code : ℕ → List ℕ) (most : ℕ) (kind : List ℕ → Option E) (answer : List ℕ → Result (ℕ × ℕ) E) (xs : List ℕ) (w v : Window) (x : Placed E)
    → w.whole ≡ xs → GivesFrontOf code most kind answer w x v → HasCode code xs x × (v.whole ≡ xs)
code_kept code most kind answer xs w v x is g = (subst (λ ys. HasCode code ys x) is g.there, ap (λ (u : Window). u.whole) g.left ∙ is)

code_kept_back : {E : Type 0} (code : ℕ → List ℕ) (most : ℕ) (kind : ℕ → E) (answer : List ℕ → Result (ℕ × ℕ) E) (xs : List ℕ) (w v : Window) (x : Placed E)
    → w.whole ≡ xs → GivesBackOf code most kind answer w x v → HasCode code xs x × (v.whole ≡ xs)
code_kept_back code most kind answer xs w v x is g = (subst (λ ys. HasCode code ys x) is g.there, ap (λ (u : Window). u.whole) g.left ∙ is)

module _ {E : Type 0} (code : ℕ → List ℕ) (steps : Window → Option (Placed E) → Window → Type 0) (step : (xs : List ℕ) (w v : Window) (x : Placed E) → w.whole ≡ xs → steps w (Some x) v → HasCode code xs x × (v.whole ≡ xs)) where
  codes_there : (xs : List ℕ) (s : Window) → s ≡ whole_window xs → EachRunFrom steps s (λ p. AllItems p (HasCode code xs))
  codes_there xs s e p seen from = all_items steps (λ w. w.whole ≡ xs) (HasCode code xs) (λ w x v k g. step xs w v x k g) p (ap (λ (u : Window). u.whole) (from ∙ e))

pub decoder_codes : (xs : List ℕ) (s : Window) → s ≡ whole_window xs → EachRunFrom NextGives s (λ p. AllItems p (HasCode utf8 xs))
decoder_codes = codes_there utf8 NextGives (λ xs w v x k g. code_kept utf8 4 fault_kind decoded xs w v x k g)

pub decoder_codes_back : (xs : List ℕ) (s : Window) → s ≡ whole_window xs → EachRunFrom NextBackGives s (λ p. AllItems p (HasCode utf8 xs))
decoder_codes_back = codes_there utf8 NextBackGives (λ xs w v x k g. code_kept_back utf8 4 back_kind decoded_end xs w v x k g)

pub unit_decoder_codes : (xs : List ℕ) (s : Window) → s ≡ whole_window xs → EachRunFrom NextGivesUnits s (λ p. AllItems p (HasCode utf16 xs))
unit_decoder_codes = codes_there utf16 NextGivesUnits (λ xs w v x k g. code_kept utf16 2 unit_fault_kind decoded_pairs xs w v x k g)

pub unit_decoder_codes_back : (xs : List ℕ) (s : Window) → s ≡ whole_window xs → EachRunFrom NextBackGivesUnits s (λ p. AllItems p (HasCode utf16 xs))
unit_decoder_codes_back = codes_there utf16 NextBackGivesUnits (λ xs w v x k g. code_kept_back utf16 2 unit_back_kind decoded_pairs_end xs w v x k g)

-- a character that begins a window of a text, and one that ends it, lies in the text
char_first : (w v : Window) (x : ℕ × ℕ) → GivesFirstChar w x.0 x.1 v → LiesInText w.whole x
char_first w v x g =
    let whole : v.whole ≡ w.whole = ap (λ (u : Window). u.whole) g.left in
    let front : v.front ≡ x.0 + length (utf8 x.1) = ap (λ (u : Window). u.front) g.left ∙ ap (λ p. p + length (utf8 x.1)) (sym g.at_front) in
    let some = some_utf8 x.1 in
    let here : IsCharBoundary w.whole x.0 = rw (← g.at_front) at g.begins in
    let after : IsCharBoundary w.whole (x.0 + length (utf8 x.1)) = rw (whole, front) at g.between.front in
    (omega arith, here, omega arith, after)

char_last : (w v : Window) (x : ℕ × ℕ) → GivesLastChar w x.0 x.1 v → LiesInText w.whole x × (x.0 + length (utf8 x.1) ≡ w.back) × (w.front ≤ x.0)
char_last w v x g =
    let whole : v.whole ≡ w.whole = ap (λ (u : Window). u.whole) g.left in
    let back : v.back ≡ w.back - length (utf8 x.1) = ap (λ (u : Window). u.back) g.left in
    let some = some_utf8 x.1 in
    let both : length (elements w) ≡ length (elements v) + length (utf8 x.1) = ap length g.code ∙ length-append (elements v) (utf8 x.1) in
    let most : length (elements w) ≤ w.back - w.front = grind (arith, common_steps) in
    let at : x.0 ≡ v.back = g.at_back in
    let end : x.0 + length (utf8 x.1) ≡ w.back = omega arith in
    let here : IsCharBoundary w.whole x.0 = rw (whole, ← at) at g.between.back in
    let after : IsCharBoundary w.whole (x.0 + length (utf8 x.1)) = rw end g.ends in
    ((omega arith, here, omega arith, after), end, omega arith)

-- the part of a text that calls from a window u have left
record IsLeftOf (u w : Window) : Type 0 where
  whole : w.whole ≡ u.whole
  front : u.front ≤ w.front
  back : w.back ≤ u.back

all_left : (u : Window) → IsLeftOf u u
all_left u = record { whole = refl; front = omega arith; back = omega arith }

placed_on : (u w v : Window) (x : ℕ × ℕ) → IsLeftOf u w → GivesFirstChar w x.0 x.1 v → LiesInTextWindow u x × IsLeftOf u v
placed_on u w v x k g =
    let front : v.front ≡ w.front + length (utf8 x.1) = ap (λ (z : Window). z.front) g.left in
    let back : v.back ≡ w.back = ap (λ (z : Window). z.back) g.left in
    let at = g.at_front in
    let some = some_utf8 x.1 in
    let both : length (elements w) ≡ length (utf8 x.1) + length (elements v) = ap length g.code ∙ length-append (utf8 x.1) (elements v) in
    let most : length (elements w) ≤ w.back - w.front = grind (arith, common_steps) in
    ((rw k.whole at (char_first w v x g), omega arith, omega arith), record { whole = ap (λ (z : Window). z.whole) g.left ∙ k.whole; front = omega arith; back = omega arith })

placed_back_on : (u w v : Window) (x : ℕ × ℕ) → IsLeftOf u w → GivesLastChar w x.0 x.1 v → LiesInTextWindow u x × IsLeftOf u v
placed_back_on u w v x k g =
    let front : v.front ≡ w.front = ap (λ (z : Window). z.front) g.left in
    let back : v.back ≡ w.back - length (utf8 x.1) = ap (λ (z : Window). z.back) g.left in
    let lies = char_last w v x g in
    ((rw k.whole at lies.0, omega arith, omega arith), record { whole = ap (λ (z : Window). z.whole) g.left ∙ k.whole; front = omega arith; back = omega arith })

pub text_places_on : EveryRun NextPlaced (λ p. AllItems p (LiesInTextWindow p.from))
text_places_on p seen = all_items NextPlaced (IsLeftOf p.from) (LiesInTextWindow p.from) (λ w x v k g. placed_on p.from w v x k g) p (all_left p.from)

pub text_places_back_on : EveryRun BackPlaced (λ p. AllItems p (LiesInTextWindow p.from))
text_places_back_on p seen = all_items BackPlaced (IsLeftOf p.from) (LiesInTextWindow p.from) (λ w x v k g. placed_back_on p.from w v x k g) p (all_left p.from)

pub text_places : (text : List ℕ) (s : Window) → s ≡ whole_window text → EachRunFrom NextPlaced s (λ p. AllItems p (LiesInText text))
text_places text s e p seen from =
    let whole : p.from.whole ≡ text = ap (λ (w : Window). w.whole) (from ∙ e) in
    rw whole at (all_items NextPlaced (λ w. w.whole ≡ p.from.whole) (LiesInText p.from.whole) (λ w x v k g. (rw k at (char_first w v x g), ap (λ (z : Window). z.whole) g.left ∙ k)) p refl)

-- characters that are taken from the end lie in the text
pub text_places_back : (text : List ℕ) (s : Window) → s ≡ whole_window text → EachRunFrom BackPlaced s (λ p. AllItems p (LiesInText text))
text_places_back text s e p seen from =
    let whole : p.from.whole ≡ text = ap (λ (w : Window). w.whole) (from ∙ e) in
    rw whole at (all_items BackPlaced (λ w. w.whole ≡ p.from.whole) (LiesInText p.from.whole) (λ w x v k g. (rw k at (char_last w v x g).0, ap (λ (z : Window). z.whole) g.left ∙ k)) p refl)

-- The sum of the lengths of their codes.

pub lengths_added : (code : ℕ → List ℕ) (n : ℕ) (xs : List ℕ) → fold (λ a c. a + length (code c)) n xs ≡ n + length (flat_map code xs)
lengths_added code n [] = sym (omega arith)
lengths_added code n (x ∷ xs) =
    let rest = lengths_added code (n + length (code x)) xs in
    let both = length-append (code x) (flat_map code xs) in
    rest ∙ (omega arith)

pub no_longer : (s : ℕ) → length (utf16 s) ≤ length (utf8 s)
unfolding utf8 utf16
no_longer s = grind (arith, common_steps)

pub three_for_each : (s : ℕ) → length (utf8 s) ≤ 3 * length (utf16 s)
unfolding utf8 utf16
three_for_each s = grind (arith, common_steps)

all_no_longer : (xs : List ℕ) → length (flat_map utf16 xs) ≤ length (flat_map utf8 xs)
all_no_longer [] = omega arith
all_no_longer (x ∷ xs) =
    let first = no_longer x in
    let rest = all_no_longer xs in
    let of_units = length-append (utf16 x) (flat_map utf16 xs) in
    let of_bytes = length-append (utf8 x) (flat_map utf8 xs) in
    omega arith

lengths_fit : (code : ℕ → List ℕ) (text : List ℕ) (s : Window) → s ≡ whole_window text → length (flat_map code (chars text)) ≤ length text → EachRunFrom NextScalar s (LengthsFit code (length text))
lengths_fit code text s e le p seen from =
    let gives : Gives p (chars text) = subst (Gives p) (ap chars_left from ∙ (chars_of_text text s e).0) (listed_run NextScalar chars_left scalars_listed p seen) in
    let most : fold (λ a c. a + length (code c)) 0 p.items ≤ fold (λ a c. a + length (code c)) 0 (chars text) = gives.0.5 (λ a c. a + length (code c)) 0 (λ a c. omega arith) in
    let all = lengths_added code 0 (chars text) in
    omega arith

pub codes_fit : (text : List ℕ) (s : Window) → IsUtf8 text → s ≡ whole_window text → EachRunFrom NextScalar s (LengthsFit utf8 (length text))
codes_fit text s h e = lengths_fit utf8 text s e (omega (arith, ap length (codes_of_text text h)))

pub units_fit : (text : List ℕ) (s : Window) → IsUtf8 text → s ≡ whole_window text → EachRunFrom NextScalar s (LengthsFit utf16 (length text))
units_fit text s h e = lengths_fit utf16 text s e (omega (arith, ap length (codes_of_text text h), all_no_longer (chars text)))

-- The sum of the lengths of pieces.

piece_takes : {E : Type 0} (code : ℕ → List ℕ) (most : ℕ) (kind : List ℕ → Option E) (answer : List ℕ → Result (ℕ × ℕ) E) (w v : Window) (x : Placed E) → GivesFrontOf code most kind answer w x v
    → (v.back ≡ w.back) × (v.front ≡ w.front + x.2) × (w.front + x.2 ≤ w.back)
piece_takes code most kind answer w v x g =
    let most : length (elements w) ≤ w.back - w.front = grind (arith, common_steps) in
    (ap (λ (u : Window). u.back) g.left, ap (λ (u : Window). u.front) g.left, omega arith)

module _ {E : Type 0} (steps : Window → Option (Placed E) → Window → Type 0) (takes : (w v : Window) (x : Placed E) → steps w (Some x) v → (v.back ≡ w.back) × (v.front ≡ w.front + x.2) × (w.front + x.2 ≤ w.back)) where
  taken_fit : (n : ℕ) (xs : List (Placed E)) (w t : Window) → Yields steps w xs t → fold (λ sum x. sum + x.2) n xs ≤ n + (w.back - w.front)
  taken_fit n [] w t y = omega arith
  taken_fit n (x ∷ xs) w t y =
      let one = takes w y.0 x y.1 in
      let rest = taken_fit (n + x.2) xs y.0 t y.2 in
      omega arith

  run_fits : EveryRun steps (λ p. PiecesFit (p.from.back - p.from.front) p)
  run_fits p seen = let most = taken_fit 0 p.items p.from (took p).0 (took p).1 in omega arith

pub pieces_fit : EveryRun NextGives (λ p. PiecesFit (p.from.back - p.from.front) p)
pieces_fit = run_fits NextGives (λ w v x g. piece_takes utf8 4 fault_kind decoded w v x g)

pub unit_pieces_fit : EveryRun NextGivesUnits (λ p. PiecesFit (p.from.back - p.from.front) p)
unit_pieces_fit = run_fits NextGivesUnits (λ w v x g. piece_takes utf16 2 unit_fault_kind decoded_pairs w v x g)

-- The lists that runs give, as std's lemmas on chains need them.

pub listed_yields : {S A : Type 0} (steps : S → Option A → S → Type 0) (rest : S → List A) → IsListed steps rest → (s : S) → YieldsList steps (λ x. x) s (rest s)
listed_yields {S} {A} steps rest listed = YieldsList-from_shown steps (λ (x : A). x) rest (λ s t h. ap length (listed s None t h).0) (λ s x t h. listed s (Some x) t h)

pub as_it_is : {A : Type 0} (r : Option A) → option_map (λ x. x) r ≡ r
as_it_is None = refl
as_it_is (Some x) = refl

pub pieces_yielded : {s : Window} (xs : List ℕ) → s ≡ whole_window xs → YieldsList NextGives (λ x. x) s (pieces xs)
pieces_yielded xs e = rw e (listed_yields NextGives pieces_left decoder_listed (whole_window xs))

pub unit_pieces_yielded : {s : Window} (xs : List ℕ) → s ≡ whole_window xs → YieldsList NextGivesUnits (λ x. x) s (unit_pieces xs)
unit_pieces_yielded xs e = rw e (listed_yields NextGivesUnits unit_pieces_left unit_decoder_listed (whole_window xs))

pub chars_yielded : {s : Window} (text : List ℕ) → s ≡ whole_window text → YieldsList NextScalar (λ x. x) s (chars text)
chars_yielded text e =
    let all = listed_yields NextScalar chars_left scalars_listed (whole_window text) in
    rw e (subst (λ xs. YieldsList NextScalar (λ x. x) (whole_window text) (chars xs)) (whole_text text) all)

pub placed_yielded : {s : Window} (text : List ℕ) → s ≡ whole_window text → YieldsList NextPlaced (λ x. x) s (placed_chars 0 (chars text))
placed_yielded text e =
    let all = listed_yields NextPlaced placed_chars_left placed_listed (whole_window text) in
    rw e (subst (λ xs. YieldsList NextPlaced (λ x. x) (whole_window text) (placed_chars 0 (chars xs))) (whole_text text) all)

-- what holds for the items of some whole run holds for the list that each run gives
run_of_yielded : {S A : Type 0} {steps : S → Option A → S → Type 0} {s : S} (xs : List A) (P : List A → Type 0) → WholeRun steps s (λ p. P p.items) → YieldsList steps (λ x. x) s xs → P xs
run_of_yielded {S} {A} {steps} {s} xs P all yields =
    let end = took all.0 in
    let same : map (λ x. x) all.0.items ≡ xs = items_from_drains all.0.items (end.0, subst (λ from. Yields steps from all.0.items end.0) all.1 end.1, λ _. end.2 all.2) yields in
    subst P (sym (map-id all.0.items) ∙ same) all.3

-- the result of `collect_bytes` and similar calls on a chain whose list is known
pub collected_from_yields : {S A C E B : Type 0} {steps : S → Option A → S → Type 0} {s : S} (code : A → List B) (held : C → List B) (xs : List A) (r : Result C E)
    → IfOk r (λ made. WholeRun steps s (λ p. held made ≡ flat_map code p.items)) → YieldsList steps (λ x. x) s xs → IfOk r (λ made. held made ≡ flat_map code xs)
collected_from_yields code held xs (Ok made) all yields = run_of_yielded xs (λ items. held made ≡ flat_map code items) all yields
collected_from_yields code held xs (Err e) all yields = tt
