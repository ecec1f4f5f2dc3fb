-- A run that searches for faults and writes them: its progress, and its end.
use Rattle.std.proofs.Common.{◌≡◌, ℕ, ◌+◌, ◌<◌, ◌≤◌, Bool, true, false, List, [], ◌∷◌, ◌++◌, length, length-append, length-drop, length-set, filter, is_err, map, min, set, take, drop, cond, Result, Ok, Err, arith, refl, ap, sym, subst, ◌∙◌, append_assoc}
use Rattle.std.proofs.Math.Seq.{drop-append_seam, take-append_seam}
use Rattle.std.proofs.lemmas.List.{drop-drop, drop-set-lt, drop_all, map-append, take_more_set, take_rest}
use Rattle.utf_base.specs.Decoded.{decoded_pairs}
use Rattle.encode_unicode.specs.Pieces.{pieces_by}
use Rattle.encode_unicode.specs.Window.{Placed, as_piece}
use Rattle.text_stream.specs.FaultLists.{BeginsWithFault, FindsFaults, IsSoFar, unit_faults}
use Rattle.text_runs.specs.ShardRuns.{moved}
use Rattle.text_runs.specs.WellFormed.{valid_len}
use Rattle.text_runs.proofs.FaultLemmas.{faults_by, pieces_on, faults_none, char_step, fault_step, text_step_by}

filter_moved : {E : Type 0} (i : ℕ) (items : List (Placed E)) → filter (λ x. is_err x.1) (map (moved i) items) ≡ map (moved i) (filter (λ x. is_err x.1) items)
filter_moved i [] = refl
filter_moved {E} i (x ∷ items) = by (is_err x.1) (filter_moved i items)
  where
    by : (b : Bool) → filter (λ x. is_err x.1) (map (moved i) items) ≡ map (moved i) (filter (λ x. is_err x.1) items)
        → cond b (moved i x ∷ filter (λ x. is_err x.1) (map (moved i) items)) (filter (λ x. is_err x.1) (map (moved i) items)) ≡ map (moved i) (cond b (x ∷ filter (λ x. is_err x.1) items) (filter (λ x. is_err x.1) items))
    by true e = ap (λ ys. moved i x ∷ ys) e
    by false e = e

module _ {E P : Type 0} (made : Placed E → P) (answer : List ℕ → Result (ℕ × ℕ) E) (some : (xs : List ℕ) → 1 ≤ (as_piece (answer xs)).1) (xs : List ℕ) (old : List P) where
  -- after the text at the front
  pub so_far_front : (n : ℕ) → n ≤ length xs → n ≡ valid_len (pieces_by answer (length xs) 0 xs) → IsSoFar made answer xs 0 old old n 0
  so_far_front n most e = record {
    found = [];
    all = (let at : 0 + n ≡ n = omega arith in text_step_by answer some (length xs) 0 0 xs n (omega arith) e ∙ ap (λ j. faults_by answer j (drop n xs)) at);
    count = refl;
    front = refl;
    rest = refl;
    len = refl;
    within = most;
    fits = omega arith;
  }

  -- what was found from there on is all that was found
  pub so_far_from : (n : ℕ) (new : List P) (read wrote : ℕ) → n ≡ valid_len (pieces_by answer (length xs) 0 xs) → IsSoFar made answer xs n old new read wrote → IsSoFar made answer xs 0 old new read wrote
  so_far_from n new read wrote e h = record {
    found = h.found;
    all = (let at : 0 + n ≡ n = omega arith in text_step_by answer some (length xs) 0 0 xs n (omega arith) e ∙ ap (λ j. faults_by answer j (drop n xs)) at ∙ h.all);
    count = h.count;
    front = h.front;
    rest = h.rest;
    len = h.len;
    within = h.within;
    fits = h.fits;
  }

  -- where nothing more was read
  pub so_far_none : (n : ℕ) → n ≤ length xs → IsSoFar made answer xs n old old n 0
  so_far_none n most = record { found = []; all = refl; count = refl; front = refl; rest = refl; len = refl; within = most; fits = omega arith }

  -- past elements that have no fault
  pub so_far_on : {start : ℕ} (new : List P) (read wrote then : ℕ) → IsSoFar made answer xs start old new read wrote → then ≤ length xs → faults_by answer read (drop read xs) ≡ faults_by answer then (drop then xs) → IsSoFar made answer xs start old new then wrote
  so_far_on new read wrote then h most e = record {
    found = h.found;
    all = h.all ∙ ap (λ ys. h.found ++ ys) e;
    count = h.count;
    front = h.front;
    rest = h.rest;
    len = h.len;
    within = most;
    fits = h.fits;
  }

  -- after a character, and the text after it
  pub so_far_text : {start : ℕ} (new : List P) (read wrote s m n : ℕ) → IsSoFar made answer xs start old new read wrote → read < length xs → m ≤ length (drop read xs) → as_piece (answer (drop read xs)) ≡ (Ok s, m)
      → n ≤ length (drop (read + m) xs) → n ≡ valid_len (pieces_by answer (length (drop (read + m) xs)) 0 (drop (read + m) xs)) → IsSoFar made answer xs start old new (read + (m + n)) wrote
  so_far_text {start} new read wrote s m n h lt fits known most e =
      let left = length-drop read xs in
      let left_then = length-drop (read + m) xs in
      let within = h.within in
      let at : read + m + n ≡ read + (m + n) = omega arith in
      let char = char_step answer some read (drop read xs) s m (omega arith) known ∙ ap (faults_by answer (read + m)) (drop-drop m read xs) in
      let text = text_step_by answer some (length (drop (read + m) xs)) (read + m) 0 (drop (read + m) xs) n (omega arith) e ∙ ap (faults_by answer (read + m + n)) (drop-drop n (read + m) xs) in
      record {
        found = h.found;
        all = h.all ∙ ap (λ ys. h.found ++ ys) (char ∙ text ∙ ap (λ j. faults_by answer j (drop j xs)) at);
        count = h.count;
        front = h.front;
        rest = h.rest;
        len = h.len;
        within = omega arith;
        fits = h.fits;
      }

  -- after a fault, which is written
  pub so_far_fault : {start : ℕ} (new : List P) (read wrote n : ℕ) (k : E) (piece : P) → IsSoFar made answer xs start old new read wrote → read < length xs → as_piece (answer (drop read xs)) ≡ (Err k, n) → n ≤ length (drop read xs)
      → wrote < length new → piece ≡ made (read, Err k, n) → IsSoFar made answer xs start old (set new wrote piece) (read + n) (wrote + 1)
  so_far_fault {start} new read wrote n k piece h lt known fits room is =
      let left = length-drop read xs in
      let len = h.len in
      let count = h.count in
      let fault = fault_step answer some read (drop read xs) k n (omega arith) known ∙ ap (λ v. (read, Err k, n) ∷ faults_by answer (read + n) v) (drop-drop n read xs) in
      record {
        found = h.found ++ (read, Err k, n) ∷ [];
        all = h.all ∙ ap (λ ys. h.found ++ ys) fault ∙ sym (append_assoc h.found ((read, Err k, n) ∷ []) (faults_by answer (read + n) (drop (read + n) xs)));
        count = length-append h.found ((read, Err k, n) ∷ []) ∙ omega arith;
        front = take_more_set new wrote piece room ∙ ap (λ ps. ps ++ piece ∷ []) h.front ∙ ap (λ p. map made h.found ++ p ∷ []) is ∙ sym (map-append made h.found ((read, Err k, n) ∷ []));
        rest = drop-set-lt (wrote + 1) new wrote piece (omega arith) ∙ sym (drop-drop 1 wrote new) ∙ ap (drop 1) h.rest ∙ drop-drop 1 wrote old;
        len = length-set new wrote piece ∙ len;
        within = omega arith;
        fits = omega arith;
      }

  -- a run for faults ends at the end of the list, or before a fault for which there is no capacity
  module _ (faults : List ℕ → List (Placed E)) (is : (w : List ℕ) → faults w ≡ faults_by answer 0 w) where
    left_faults : (read : ℕ) → faults_by answer read (drop read xs) ≡ map (moved read) (faults (drop read xs))
    left_faults read =
        let w = drop read xs in
        let at : read ≡ read + 0 = omega arith in
        ap (λ j. faults_by answer j w) at ∙ ap (filter (λ x. is_err x.1)) (pieces_on answer some read (length w) 0 w) ∙ filter_moved read (pieces_by answer (length w) 0 w) ∙ ap (map (moved read)) (sym (is w))

    finds : (new : List P) (read wrote : ℕ) → IsSoFar made answer xs 0 old new read wrote → wrote ≡ min (length old) (wrote + length (faults_by answer read (drop read xs)))
        → (read < length xs → BeginsWithFault faults (drop read xs)) → FindsFaults made faults xs old new read wrote
    finds new read wrote h count stops =
        let all : faults xs ≡ h.found ++ faults_by answer read (drop read xs) = is xs ∙ h.all in
        let sum : length (faults xs) ≡ wrote + length (faults_by answer read (drop read xs)) = ap length all ∙ length-append h.found (faults_by answer read (drop read xs)) ∙ ap (λ n. n + length (faults_by answer read (drop read xs))) h.count in
        let front : take wrote (faults xs) ≡ h.found = ap (take wrote) all ∙ ap (λ n. take n (h.found ++ faults_by answer read (drop read xs))) (sym h.count) ∙ take-append_seam h.found (faults_by answer read (drop read xs)) in
        let back : drop wrote (faults xs) ≡ faults_by answer read (drop read xs) = ap (drop wrote) all ∙ ap (λ n. drop n (h.found ++ faults_by answer read (drop read xs))) (sym h.count) ∙ drop-append_seam h.found (faults_by answer read (drop read xs)) in
        record {
          count = count ∙ ap (min (length old)) (sym sum);
          front = h.front ∙ ap (map made) (sym front);
          rest = h.rest;
          len = h.len;
          within = h.within;
          left = back ∙ left_faults read;
          stops = stops;
        }

    pub finds_all : (new : List P) (read wrote : ℕ) → IsSoFar made answer xs 0 old new read wrote → length xs ≤ read → FindsFaults made faults xs old new (length xs) wrote
    finds_all new read wrote h end =
        let none : drop read xs ≡ [] = drop_all read xs end in
        let no_fault : length (faults_by answer read (drop read xs)) ≡ 0 = ap (λ w. length (faults_by answer read w)) none ∙ ap length (faults_none answer some read) in
        let fits = h.fits in
        let within = h.within in
        let all : read ≡ length xs = omega arith in
        subst (λ n. FindsFaults made faults xs old new n wrote) all (finds new read wrote h (omega arith) (λ lt. absurd (omega arith)))

    pub finds_full : (new : List P) (read wrote n : ℕ) (k : E) → IsSoFar made answer xs 0 old new read wrote → read < length xs → as_piece (answer (drop read xs)) ≡ (Err k, n) → wrote ≡ length new → FindsFaults made faults xs old new read wrote
    finds_full new read wrote n k h lt known full =
        let len = h.len in
        let some_left : 0 < length (drop read xs) = omega (arith, length-drop read xs) in
        finds new read wrote h (omega arith)
        (λ _. record { first = (0, Err k, n); rest = faults_by answer (0 + n) (drop n (drop read xs)); all = is (drop read xs) ∙ fault_step answer some 0 (drop read xs) k n some_left known; place = refl })

pub unit_faults_are : (w : List ℕ) → unit_faults w ≡ faults_by decoded_pairs 0 w
unit_faults_are w = ap (faults_by decoded_pairs 0) (take_rest w 0)
