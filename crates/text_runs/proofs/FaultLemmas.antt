-- Lists of faults: the effect of a character, of a fault and of text at the front.
use Rattle.std.proofs.Common.{◌≡◌, ℕ, zero, suc, ◌+◌, ◌<◌, ◌≤◌, List, [], ◌∷◌, length, length-drop, filter, is_err, map, drop, Result, Ok, Err, arith, refl, ap, subst, sym, ◌∙◌}
use Rattle.std.proofs.lemmas.List.{drop-drop, drop_all, take_rest}
use Rattle.std.proofs.lemmas.List.Sums.{length-filter}
use Rattle.std.specs.Prelude.{slice_range}
use Rattle.utf_base.specs.Decoded.{decoded}
use Rattle.utf_base.specs.Front.{IsFrontLen}
use Rattle.encode_unicode.specs.Pieces.{pieces, pieces_by}
use Rattle.encode_unicode.specs.Window.{Placed, Window, as_piece, elements, whole_window}
use Rattle.text_runs.specs.ForwardRuns.{faulty_item_count}
use Rattle.text_runs.specs.ShardRuns.{faults, moved}
use Rattle.text_runs.specs.WellFormed.{valid_len}

-- The faults of a list whose first element is at an offset, by what a decoding returns.
abbrev pub faults_by : {E : Type 0} → (List ℕ → Result (ℕ × ℕ) E) → ℕ → List ℕ → List (Placed E)
faults_by answer place w = filter (λ x. is_err x.1) (pieces_by answer (length w) place w)

module _ {E : Type 0} (answer : List ℕ → Result (ℕ × ℕ) E) (some : (xs : List ℕ) → 1 ≤ (as_piece (answer xs)).1) where
  same_by : (n m place : ℕ) (w : List ℕ) → length w ≤ n → length w ≤ m → pieces_by answer n place w ≡ pieces_by answer m place w
  unfolding pieces_by
  same_by zero zero place w h k = refl
  same_by zero (suc m) place [] h k = refl
  same_by zero (suc m) place (b ∷ w) h k = absurd (omega arith)
  same_by (suc n) zero place [] h k = refl
  same_by (suc n) zero place (b ∷ w) h k = absurd (omega arith)
  same_by (suc n) (suc m) place [] h k = refl
  same_by (suc n) (suc m) place (b ∷ w) h k =
      let x = as_piece (answer (b ∷ w)) in
      let one = some (b ∷ w) in
      let left = length-drop x.1 (b ∷ w) in
      ap (λ ps. (place, x.0, x.1) ∷ ps) (same_by n m (place + x.1) (drop x.1 (b ∷ w)) (omega arith) (omega arith))

  -- one piece, and then the pieces of the rest
  pub pieces_first : (place : ℕ) (w : List ℕ) → 0 < length w
      → pieces_by answer (length w) place w ≡ (place, (as_piece (answer w)).0, (as_piece (answer w)).1) ∷ pieces_by answer (length (drop (as_piece (answer w)).1 w)) (place + (as_piece (answer w)).1) (drop (as_piece (answer w)).1 w)
  unfolding pieces_by
  pieces_first place [] h = absurd (omega arith)
  pieces_first place (b ∷ w) h =
      let x = as_piece (answer (b ∷ w)) in
      let one = some (b ∷ w) in
      let left = length-drop x.1 (b ∷ w) in
      ap (λ ps. (place, x.0, x.1) ∷ ps) (same_by (length w) (length (drop x.1 (b ∷ w))) (place + x.1) (drop x.1 (b ∷ w)) (omega arith) (omega arith))

  pieces_known : (place : ℕ) (w : List ℕ) (x : Result ℕ E × ℕ) → 0 < length w → as_piece (answer w) ≡ x
      → pieces_by answer (length w) place w ≡ (place, x.0, x.1) ∷ pieces_by answer (length (drop x.1 w)) (place + x.1) (drop x.1 w)
  pieces_known place w x h e = pieces_first place w h ∙ ap (λ (y : Result ℕ E × ℕ). (place, y.0, y.1) ∷ pieces_by answer (length (drop y.1 w)) (place + y.1) (drop y.1 w)) e

  pub faults_none : (place : ℕ) → faults_by answer place [] ≡ []
  unfolding pieces_by
  faults_none place = refl

  pub char_step : (place : ℕ) (w : List ℕ) (s n : ℕ) → 0 < length w → as_piece (answer w) ≡ (Ok s, n) → faults_by answer place w ≡ faults_by answer (place + n) (drop n w)
  char_step place w s n h e = ap (filter (λ x. is_err x.1)) (pieces_known place w (Ok s, n) h e)

  pub fault_step : (place : ℕ) (w : List ℕ) (k : E) (n : ℕ) → 0 < length w → as_piece (answer w) ≡ (Err k, n) → faults_by answer place w ≡ (place, Err k, n) ∷ faults_by answer (place + n) (drop n w)
  fault_step place w k n h e = ap (filter (λ x. is_err x.1)) (pieces_known place w (Err k, n) h e)

  -- text has none
  pub text_step_by : (fuel place p : ℕ) (w : List ℕ) (n : ℕ) → length w ≤ fuel → n ≡ valid_len (pieces_by answer (length w) p w) → faults_by answer place w ≡ faults_by answer (place + n) (drop n w)
  text_step_by fuel place p [] n le e = faults_none place ∙ sym (ap (faults_by answer (place + n)) (drop_nothing n) ∙ faults_none (place + n))
    where
      drop_nothing : (n : ℕ) → drop {A = ℕ} n [] ≡ []
      drop_nothing n = drop_all n [] (omega arith)
  text_step_by zero place p (b ∷ w) n le e = absurd (omega arith)
  text_step_by (suc fuel) place p (b ∷ w) n le e = by (as_piece (answer (b ∷ w))) refl (some (b ∷ w)) (λ place p v n. text_step_by fuel place p v n)
    where
      by : (x : Result ℕ E × ℕ) → as_piece (answer (b ∷ w)) ≡ x → 1 ≤ x.1
          → ((place p : ℕ) (v : List ℕ) (n : ℕ) → length v ≤ fuel → n ≡ valid_len (pieces_by answer (length v) p v) → faults_by answer place v ≡ faults_by answer (place + n) (drop n v))
          → faults_by answer place (b ∷ w) ≡ faults_by answer (place + n) (drop n (b ∷ w))
      by (Ok s, m) h one shorter =
          let k = valid_len (pieces_by answer (length (drop m (b ∷ w))) (p + m) (drop m (b ∷ w))) in
          let sum : n ≡ m + k = e ∙ ap valid_len (pieces_known p (b ∷ w) (Ok s, m) (omega arith) h) in
          let rest = shorter (place + m) (p + m) (drop m (b ∷ w)) k (omega (arith, length-drop m (b ∷ w))) refl in
          let at : place + m + k ≡ place + n = omega arith in
          char_step place (b ∷ w) s m (omega arith) h ∙ rest ∙ ap (λ v. faults_by answer (place + m + k) v) (drop-drop k m (b ∷ w) ∙ ap (λ j. drop j (b ∷ w)) (sym sum)) ∙ ap (λ j. faults_by answer j (drop n (b ∷ w))) at
      by (Err f, m) h one shorter =
          let none : n ≡ 0 = e ∙ ap valid_len (pieces_known p (b ∷ w) (Err f, m) (omega arith) h) in
          let at : place ≡ place + n = omega arith in
          ap (λ j. faults_by answer j (b ∷ w)) at ∙ ap (λ j. faults_by answer (place + n) (drop j (b ∷ w))) (sym none)

  -- the list of pieces at another offset
  pub pieces_on : (i n place : ℕ) (w : List ℕ) → pieces_by answer n (i + place) w ≡ map (moved i) (pieces_by answer n place w)
  unfolding pieces_by
  pieces_on i zero place w = refl
  pieces_on i (suc n) place [] = refl
  pieces_on i (suc n) place (b ∷ w) =
      let x = as_piece (answer (b ∷ w)) in
      let at : i + place + x.1 ≡ i + (place + x.1) = omega arith in
      ap (λ ps. (i + place, x.0, x.1) ∷ ps) (ap (λ j. pieces_by answer n j (drop x.1 (b ∷ w))) at ∙ pieces_on i n (place + x.1) (drop x.1 (b ∷ w)))

-- A run that counts faults has reached an offset, and counted those before it.
pub record AreCounted {E : Type 0} (answer : List ℕ → Result (ℕ × ℕ) E) (xs : List ℕ) (read count : ℕ) : Type 0 where
  pub all : length (faults_by answer 0 xs) ≡ count + length (faults_by answer read (drop read xs))
  pub within : read ≤ length xs
  pub few : count ≤ read

module _ {E : Type 0} (answer : List ℕ → Result (ℕ × ℕ) E) (some : (xs : List ℕ) → 1 ≤ (as_piece (answer xs)).1) (xs : List ℕ) where
  -- after a character, and the text after it
  pub counted_text : (read count s m n : ℕ) → AreCounted answer xs read count → read < length xs → m ≤ length (drop read xs) → as_piece (answer (drop read xs)) ≡ (Ok s, m)
      → n ≤ length (drop (read + m) xs) → n ≡ valid_len (pieces_by answer (length (drop (read + m) xs)) 0 (drop (read + m) xs)) → AreCounted answer xs (read + m + n) count
  counted_text read count s m n h lt fits known most e =
      let left = length-drop read xs in
      let left_then = length-drop (read + m) xs in
      let within = h.within in
      let few = h.few in
      let char = char_step answer some read (drop read xs) s m (omega arith) known ∙ ap (faults_by answer (read + m)) (drop-drop m read xs) in
      let text = text_step_by answer some (length (drop (read + m) xs)) (read + m) 0 (drop (read + m) xs) n (omega arith) e ∙ ap (faults_by answer (read + m + n)) (drop-drop n (read + m) xs) in
      record { all = h.all ∙ ap (λ fs. count + length fs) (char ∙ text); within = omega arith; few = omega arith }

  pub counted_fault : (read count n : ℕ) (k : E) → AreCounted answer xs read count → read < length xs → n ≤ length (drop read xs) → as_piece (answer (drop read xs)) ≡ (Err k, n) → AreCounted answer xs (read + n) (count + 1)
  counted_fault read count n k h lt fits known =
      let left = length-drop read xs in
      let least : 1 ≤ n = subst (λ j. 1 ≤ j) (ap (λ x. x.1) known) (some (drop read xs)) in
      let within = h.within in
      let few = h.few in
      let fault : length (faults_by answer read (drop read xs)) ≡ suc (length (faults_by answer (read + n) (drop n (drop read xs)))) = ap length (fault_step answer some read (drop read xs) k n (omega arith) known) in
      let there = ap (λ v. length (faults_by answer (read + n) v)) (drop-drop n read xs) in
      record { all = omega (arith, h.all, fault, there); within = omega arith; few = omega arith }

  pub counted_all : (read count : ℕ) → AreCounted answer xs read count → length xs ≤ read → count ≡ length (faults_by answer 0 xs)
  counted_all read count h end =
      let no_fault : length (faults_by answer read (drop read xs)) ≡ 0 = ap (λ w. length (faults_by answer read w)) (drop_all read xs end) ∙ ap length (faults_none answer some read) in
      omega (arith, h.all)

-- The result of a decoder of the rest of a list, and the length of text at its front, stated for the rest.

pub front_known : {E : Type 0} (answer : List ℕ → Result (ℕ × ℕ) E) (xs : List ℕ) (place : ℕ) (w : Window) (r : Result ℕ E) (n : ℕ) → w ≡ whole_window (slice_range xs place (length xs))
    → (r, n) ≡ as_piece (answer (elements w)) → as_piece (answer (drop place xs)) ≡ (r, n)
front_known answer xs place w r n is known =
    let v = slice_range xs place (length xs) in
    ap (λ y. as_piece (answer y)) (sym (ap elements is ∙ take_rest v 0 ∙ take_rest xs place)) ∙ sym known

pub front_fits : (most : ℕ) (xs : List ℕ) (place : ℕ) (w : Window) (n : ℕ) → w ≡ whole_window (slice_range xs place (length xs)) → IsFrontLen most (elements w) n → n ≤ length (drop place xs)
front_fits most xs place w n is h =
    let v = slice_range xs place (length xs) in
    let within = h.2 in
    let e = ap length (ap elements is ∙ take_rest v 0 ∙ take_rest xs place) in
    omega arith

pub front_some : (xs : List ℕ) (place : ℕ) (w : Window) → w ≡ whole_window (slice_range xs place (length xs)) → w.front < w.back → place < length xs
front_some xs place w is lt =
    let front = ap (λ (u : Window). u.front) is in
    let back = ap (λ (u : Window). u.back) is in
    let e = ap length (take_rest xs place) in
    omega (arith, length-drop place xs)

pub front_none : (xs : List ℕ) (place : ℕ) (w : Window) → w ≡ whole_window (slice_range xs place (length xs)) → w.front ≡ w.back → length xs ≤ place
front_none xs place w is same =
    let front = ap (λ (u : Window). u.front) is in
    let back = ap (λ (u : Window). u.back) is in
    let e = ap length (take_rest xs place) in
    omega (arith, length-drop place xs)

pub text_known : {E : Type 0} (answer : List ℕ → Result (ℕ × ℕ) E) (xs : List ℕ) (place n : ℕ)
    → n ≡ valid_len (pieces_by answer (length (elements (whole_window (slice_range xs place (length xs))))) 0 (elements (whole_window (slice_range xs place (length xs)))))
    → n ≡ valid_len (pieces_by answer (length (drop place xs)) 0 (drop place xs))
text_known answer xs place n e =
    let v = slice_range xs place (length xs) in
    e ∙ ap (λ y. valid_len (pieces_by answer (length y) 0 y)) (take_rest v 0 ∙ take_rest xs place)

-- the result of a decoder at an offset, and the length of text there, stated for the whole list
pub text_at_front : {E : Type 0} (answer : List ℕ → Result (ℕ × ℕ) E) (xs : List ℕ) (n : ℕ) → n ≡ valid_len (pieces_by answer (length (elements (whole_window xs))) 0 (elements (whole_window xs)))
    → n ≡ valid_len (pieces_by answer (length xs) 0 xs)
text_at_front answer xs n e = e ∙ ap (λ y. valid_len (pieces_by answer (length y) 0 y)) (take_rest xs 0)

pub text_fits : (xs : List ℕ) (place n : ℕ) → n ≤ length (slice_range xs place (length xs)) → n ≤ length (drop place xs)
text_fits xs place n h = rw (take_rest xs place) at h

-- The faults of bytes, as a decoder finds them.

pub faults_are : (w : List ℕ) → faults w ≡ faults_by decoded 0 w
faults_are w = ap (faults_by decoded 0) (take_rest w 0)

pub fault_count_is : (w : List ℕ) → faulty_item_count (pieces w) ≡ length (faults_by decoded 0 w)
fault_count_is w = sym (length-filter (λ x. is_err x.1) (pieces w)) ∙ ap length (faults_are w)
