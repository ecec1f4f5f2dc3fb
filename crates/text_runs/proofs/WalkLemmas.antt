-- A walk, one result after another: only from the contract of one call and the laws of walks. It is generic
-- in the encoding.
use Rattle.std.proofs.Common.{◌≡◌, ℕ, suc, ◌+◌, ◌-◌, ◌<◌, ◌≤◌, List, [], ◌∷◌, ◌++◌, length, map, take, get_or, refl, ap, sym, subst, ◌∙◌, arith, Option, Some, None, Ok, Err, Result}
use Rattle.std.proofs.lemmas.Grind.{common_steps}
use Rattle.std.proofs.lemmas.List.{map-append, length-map, take_all}
use Rattle.std.specs.Prelude.{slice_range, IfErr}
use Rattle.std.specs.Result.{result_ok}
use Rattle.utf_base.specs.Back.{decoded_end, decoded_pairs_end}
use Rattle.utf_base.specs.Code.{IsCode}
use Rattle.utf_base.specs.Decoded.{decoded, decoded_pairs}
use Rattle.utf_base.specs.Ends.{last_of}
use Rattle.utf_base.specs.Piece.{IsPieceAt, Stands}
use Rattle.utf_base.specs.Walk.{Encoding, utf8_bytes, utf16_units, Side, from_front, from_back, Placed, Walks, IsWalk, AnswersFront, AnswersBack}
use Rattle.utf_base.specs.WalkLaws.{StaysOutside, GivesEachOnce}
use Rattle.utf_base.proofs.Cuts.{front_char, front_fault, back_char, back_fault}
use Rattle.utf_base.proofs.FrontLemmas.{no_code_where_fault}
use Rattle.utf_base.proofs.UnitLemmas.{no_units_where_kind}
use Rattle.utf_base.proofs.Utf8Code.{utf8_is_code}
use Rattle.utf_base.proofs.Utf16Code.{utf16_is_code}
use Rattle.utf_base.proofs.WalkPieces.{walk_gives_each_once}
use Rattle.utf_base.proofs.Walks.{IsOpen, open_whole, stays_open, walk_stays_outside, Walks-append}
use Rattle.encode_unicode.specs.Window.{Window, Item, UnitItem, whole_window, GivesFrontOf, GivesBackOf, GivesNone, IsFrontOf, IsBackOf, NextGives, NextBackGives, NextGivesUnits, NextBackGivesUnits}
use Rattle.text_runs.specs.declared.runs.items.End.{End}
use Rattle.text_runs.specs.declared.runs.items.End.TheVariants.{Front, Back}
use Rattle.text_runs.specs.Walks.{side, CallGives}
use Rattle.text_runs.proofs.PieceRuns.{Excludes}

-- The results are the walk of the letters up to the window.
pub record IsWalkSoFar {E : Type 0} (e : Encoding E) (xs : List ℕ) (word : List End) (answers : List (Option (Placed E))) (w : Window) : Type 0 where
  pub whole : w.whole ≡ xs
  pub walks : Walks e xs 0 (length xs) (map side word) answers w.front w.back

last_of_part : (xs : List ℕ) (i j : ℕ) → i < j → j ≤ length xs → last_of (slice_range xs i j) ≡ get_or xs (j - 1) 0
last_of_part xs i j lt le = grind (arith, common_steps)

module _ {E : Type 0} where
  pub IsWalkSoFar-none : (e : Encoding E) (xs : List ℕ) → IsWalkSoFar e xs [] [] (whole_window xs)
  IsWalkSoFar-none e xs = record { whole = refl; walks = (refl, refl) }

  -- neither end of its window lies inside a code
  window_open : (e : Encoding E) → IsCode e.code → (xs : List ℕ) (word : List End) (answers : List (Option (Placed E))) (w : Window) → IsWalkSoFar e xs word answers w → IsOpen e.code xs w.front w.back
  window_open e c xs word answers w f = stays_open e c xs 0 (length xs) (map side word) answers w.front w.back (open_whole e.code xs) f.walks

  -- A piece at the front of such a window, and one at its end, as pieces of the whole list.

  at_front : (e : Encoding E) → IsCode e.code → Excludes e.code e.forward → (xs : List ℕ) (i j n : ℕ) (r : Result ℕ E) → IsOpen e.code xs i j → i < j → IsFrontOf e.code e.forward (slice_range xs i j) r n
      → IsPieceAt e.code xs i n (result_ok r) × IfErr r (λ k. e.forward (slice_range xs i j) ≡ Some k)
  at_front e c apart xs i j n (Ok s) o lt h =
      let f = front_char e.code c xs i j s o.ordered o.within h.0 in
      ((f.0.0, h.1), tt)
  at_front e c apart xs i j n (Err k) o lt h =
      let f = front_fault e.code xs i j o.front o.back lt o.within (λ s st. apart _ k s h.0 st) in
      ((f.0.0, h.1, f.0.2), h.0)

  at_back : (e : Encoding E) → IsCode e.code → (xs : List ℕ) (i j p n : ℕ) (r : Result ℕ E) → IsOpen e.code xs i j → i < j → p + n ≡ j → IsBackOf e.code e.backward (slice_range xs i j) r n
      → IsPieceAt e.code xs p n (result_ok r) × IfErr r (λ k. e.backward (get_or xs (j - 1) 0) ≡ k)
  at_back e c xs i j p n (Ok s) o lt ends h =
      let f = back_char e.code c xs i j s n o.ordered o.within h in
      let place : j - n ≡ p = omega arith in
      ((subst (λ q. Stands e.code xs q s) place f.0.0, f.1), tt)
  at_back e c xs i j p n (Err k) o lt ends h =
      let f = back_fault e.code xs i j o.front o.back lt o.within h.0 in
      let place : j - 1 ≡ p = omega arith in
      (subst (λ q. IsPieceAt e.code xs q n None) place (f.0.0, h.2, f.0.2), ap e.backward (sym (last_of_part xs i j lt o.within)) ∙ sym h.1)

  answers_front : (e : Encoding E) → IsCode e.code → Excludes e.code e.forward → (most : ℕ) (answer : List ℕ → Result (ℕ × ℕ) E) (xs : List ℕ) (w v : Window) (x : Placed E) → w.whole ≡ xs → IsOpen e.code xs w.front w.back
      → GivesFrontOf e.code most e.forward answer w x v → AnswersFront e xs w.front w.back x
  answers_front e c apart most answer xs w v x is o g =
      let piece : IsFrontOf e.code e.forward (slice_range xs w.front w.back) x.1 x.2 = rw is at g.piece in
      let p = at_front e c apart xs w.front w.back x.2 x.1 o g.some piece in
      record { some = g.some; piece = rw g.place p.0; begins = g.place; kind = p.1 }

  answers_back : (e : Encoding E) → IsCode e.code → (most : ℕ) (answer : List ℕ → Result (ℕ × ℕ) E) (xs : List ℕ) (w v : Window) (x : Placed E) → w.whole ≡ xs → IsOpen e.code xs w.front w.back
      → GivesBackOf e.code most e.backward answer w x v → AnswersBack e xs w.front w.back x
  answers_back e c most answer xs w v x is o g =
      let piece : IsBackOf e.code e.backward (slice_range xs w.front w.back) x.1 x.2 = rw is at g.piece in
      let p = at_back e c xs w.front w.back x.0 x.2 x.1 o g.some g.place piece in
      record { some = g.some; piece = p.0; ends = g.place; kind = p.1 }

  -- One more result.

  none_more : (e : Encoding E) (xs : List ℕ) (word : List End) (answers : List (Option (Placed E))) (w v : Window) (end : End) → IsWalkSoFar e xs word answers w → GivesNone w v
      → IsWalkSoFar e xs (word ++ end ∷ []) (answers ++ None ∷ []) v
  none_more e xs word answers w v end f g = rw g.left (record {
    whole = f.whole;
    walks = rw map-append (Walks-append e xs 0 (length xs) (map side word) answers w.front w.back (side end ∷ []) (None ∷ []) w.front w.back f.walks (g.none, (refl, refl)));
  })

  front_more : (e : Encoding E) → IsCode e.code → Excludes e.code e.forward → (most : ℕ) (answer : List ℕ → Result (ℕ × ℕ) E) (xs : List ℕ) (word : List End) (answers : List (Option (Placed E))) (w v : Window) (x : Placed E)
      → IsWalkSoFar e xs word answers w → GivesFrontOf e.code most e.forward answer w x v → IsWalkSoFar e xs (word ++ Front ∷ []) (answers ++ Some x ∷ []) v
  front_more e c apart most answer xs word answers w v x f g =
      let given = answers_front e c apart most answer xs w v x f.whole (window_open e c xs word answers w f) g in
      let place : w.front + x.2 ≡ x.0 + x.2 = ap (λ p. p + x.2) (sym g.place) in
      rw g.left (record {
        whole = f.whole;
        walks = rw map-append (Walks-append e xs 0 (length xs) (map side word) answers w.front w.back (side Front ∷ []) (Some x ∷ []) (w.front + x.2) w.back f.walks (given, (place, refl)));
      })

  back_more : (e : Encoding E) → IsCode e.code → (most : ℕ) (answer : List ℕ → Result (ℕ × ℕ) E) (xs : List ℕ) (word : List End) (answers : List (Option (Placed E))) (w v : Window) (x : Placed E)
      → IsWalkSoFar e xs word answers w → GivesBackOf e.code most e.backward answer w x v → IsWalkSoFar e xs (word ++ Back ∷ []) (answers ++ Some x ∷ []) v
  back_more e c most answer xs word answers w v x f g =
      let given = answers_back e c most answer xs w v x f.whole (window_open e c xs word answers w f) g in
      let place : w.back - x.2 ≡ x.0 = omega arith in
      rw g.left (record {
        whole = f.whole;
        walks = rw map-append (Walks-append e xs 0 (length xs) (map side word) answers w.front w.back (side Back ∷ []) (Some x ∷ []) w.front (w.back - x.2) f.walks (given, (refl, place)));
      })

  -- after the last letter it is the walk of the word
  pub IsWalk-all : (e : Encoding E) {xs : List ℕ} (word : List End) {answers : List (Option (Placed E))} {w : Window} (n : ℕ) → length word ≤ n → IsWalkSoFar e xs (take n word) answers w
      → IsWalk e xs (map side word) answers
  IsWalk-all e word {w} n all f =
      let whole : take n word ≡ word = take_all n word all in
      record { front = w.front; back = w.back; walks = rw whole at f.walks }

  -- every walk has one entry a letter and each piece once, and neither end is inside a code

  entries_of : (e : Encoding E) (xs : List ℕ) (i j : ℕ) (word : List Side) (answers : List (Option (Placed E))) (k l : ℕ) → Walks e xs i j word answers k l → length answers ≡ length word
  entries_of e xs i j [] [] k l w = refl
  entries_of e xs i j [] (a ∷ answers) k l w = absurd w
  entries_of e xs i j (s ∷ word) [] k l w = absurd w
  entries_of e xs i j (s ∷ word) (None ∷ answers) k l w = ap suc (entries_of e xs i j word answers k l w.1)
  entries_of e xs i j (from_front ∷ word) (Some x ∷ answers) k l w = ap suc (entries_of e xs (x.0 + x.2) j word answers k l w.1)
  entries_of e xs i j (from_back ∷ word) (Some x ∷ answers) k l w = ap suc (entries_of e xs i x.0 word answers k l w.1)

  pub walk_entries : (e : Encoding E) (xs : List ℕ) (word : List End) (answers : List (Option (Placed E))) → IsWalk e xs (map side word) answers → length answers ≡ length word
  walk_entries e xs word answers w = entries_of e xs 0 (length xs) (map side word) answers w.front w.back w.walks ∙ length-map word side

  pub walk_each_once : (e : Encoding E) → IsCode e.code → (xs : List ℕ) (word : List End) (answers : List (Option (Placed E))) → IsWalk e xs (map side word) answers → GivesEachOnce e.code xs answers
  walk_each_once e c xs word answers w = walk_gives_each_once e c xs (map side word) answers w

  pub walk_outside : (e : Encoding E) → IsCode e.code → (xs : List ℕ) (word : List End) (answers : List (Option (Placed E))) → IsWalk e xs (map side word) answers → StaysOutside e xs (map side word) answers
  walk_outside e c xs word answers w = walk_stays_outside e c xs (map side word) answers w

  -- one more call, at either end, of what gives pieces of the encoding
  call_more : (e : Encoding E) → IsCode e.code → Excludes e.code e.forward → (next back : Window → Option (Placed E) → Window → Type 0) (most : ℕ) (answer answer_back : List ℕ → Result (ℕ × ℕ) E)
      → ((w v : Window) → next w None v → GivesNone w v) → ((w v : Window) (x : Placed E) → next w (Some x) v → GivesFrontOf e.code most e.forward answer w x v)
      → ((w v : Window) → back w None v → GivesNone w v) → ((w v : Window) (x : Placed E) → back w (Some x) v → GivesBackOf e.code most e.backward answer_back w x v)
      → (xs : List ℕ) (word : List End) (answers : List (Option (Placed E))) (w v : Window) (end : End) (a : Option (Placed E)) → IsWalkSoFar e xs word answers w → CallGives next back end w a v
      → IsWalkSoFar e xs (word ++ end ∷ []) (answers ++ a ∷ []) v
  call_more e c apart next back most answer answer_back none some none_back some_back xs word answers w v Front None f g = none_more e xs word answers w v Front f (none w v g)
  call_more e c apart next back most answer answer_back none some none_back some_back xs word answers w v Front (Some x) f g = front_more e c apart most answer xs word answers w v x f (some w v x g)
  call_more e c apart next back most answer answer_back none some none_back some_back xs word answers w v Back None f g = none_more e xs word answers w v Back f (none_back w v g)
  call_more e c apart next back most answer answer_back none some none_back some_back xs word answers w v Back (Some x) f g = back_more e c most answer_back xs word answers w v x f (some_back w v x g)

-- One more call of the decoder of bytes, and of the decoder of units.

pub byte_more : {xs : List ℕ} {word : List End} {answers : List (Option Item)} {w v : Window} (end : End) (a : Option Item) → IsWalkSoFar utf8_bytes xs word answers w
    → CallGives NextGives NextBackGives end w a v → IsWalkSoFar utf8_bytes xs (word ++ end ∷ []) (answers ++ a ∷ []) v
byte_more {xs} {word} {answers} {w} {v} end a f g =
    call_more utf8_bytes utf8_is_code no_code_where_fault NextGives NextBackGives 4 decoded decoded_end (λ w v g. g) (λ w v x g. g) (λ w v g. g) (λ w v x g. g)
    xs word answers w v end a f g

pub unit_more : {xs : List ℕ} {word : List End} {answers : List (Option UnitItem)} {w v : Window} (end : End) (a : Option UnitItem) → IsWalkSoFar utf16_units xs word answers w
    → CallGives NextGivesUnits NextBackGivesUnits end w a v → IsWalkSoFar utf16_units xs (word ++ end ∷ []) (answers ++ a ∷ []) v
unit_more {xs} {word} {answers} {w} {v} end a f g =
    call_more utf16_units utf16_is_code no_units_where_kind NextGivesUnits NextBackGivesUnits 2 decoded_pairs decoded_pairs_end (λ w v g. g) (λ w v x g. g) (λ w v g. g) (λ w v x g. g)
    xs word answers w v end a f g
