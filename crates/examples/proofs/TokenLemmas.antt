-- Tokens, piece by piece.
use Rattle.std.proofs.Common.{◌≡◌, ℕ, ◌+◌, ◌-◌, ◌<◌, ◌≤◌, List, [], ◌∷◌, ◌++◌, length, get_or, drop, refl, ap, sym, ◌∙◌, arith, Some, Ok, Err, append_assoc, append-nil, ⊎_elim, length-append}
use Rattle.std.proofs.lemmas.Grind.{common_steps}
use Rattle.std.proofs.lemmas.Bool.{cases_lt}
use Rattle.std.proofs.lemmas.List.{flat_map_more, map-append, take-append-drop, drop-drop, drop_more}
use Rattle.std.proofs.lemmas.List.Elements.{All-push}
use Rattle.std.specs.Borrow.{Bor}
use Rattle.std.specs.List.{flat_map}
use Rattle.std.specs.Prelude.{◌≢◌, All, map, slice_range}
use Rattle.encode_unicode.specs.Code.{utf8}
use Rattle.encode_unicode.specs.CutLaws.{AsciiStandsAlone, CodesNeverOverlap}
use Rattle.encode_unicode.specs.Kinds.{fault_kind}
use Rattle.encode_unicode.specs.Piece.{Stands}
use Rattle.encode_unicode.specs.Window.{Window, Item, GivesFront, elements}
use Rattle.encode_unicode.specs.declared.error.Utf8ErrorKind.{Utf8ErrorKind}
use Rattle.encode_unicode.proofs.ForCallers.{utf8_is_code, front_char, no_code_where_fault}
use Rattle.examples.specs.Tokens.{AreTokensOf, joined}

-- each token with a delimiter after it
abbrev closed : ℕ → List (List ℕ) → List ℕ
closed d ts = flat_map (λ t. t ++ d ∷ []) ts

joined_last : (d : ℕ) (ts : List (List ℕ)) (t : List ℕ) → joined d (ts ++ t ∷ []) ≡ closed d ts ++ t
joined_last d [] t = refl
joined_last d (x ∷ []) t = sym (ap (λ ys. ys ++ t) (append-nil (x ++ d ∷ [])) ∙ append_assoc x (d ∷ []) t)
joined_last d (x ∷ y ∷ ts) t =
    ap (λ ys. x ++ d ∷ ys) (joined_last d (y ∷ ts) t)
    ∙ sym (append_assoc x (d ∷ []) (closed d (y ∷ ts) ++ t))
    ∙ sym (append_assoc (x ++ d ∷ []) (closed d (y ∷ ts)) t)

-- no delimiter is at an offset from i on and before j
abbrev IsClean : List ℕ → ℕ → ℕ → ℕ → Type 0
IsClean xs d i j = (q : ℕ) → i ≤ q → q < j → get_or xs q 0 ≢ d

-- the tokens in front of the offset `start`, and no delimiter from there to the window
pub record IsTokenizedSoFar (xs : List ℕ) (d : ℕ) (tokens : List (List ℕ)) (start : ℕ) (w : Window) : Type 0 where
  pub whole : w.whole ≡ xs
  pub back : w.back ≡ length xs
  pub ordered : start ≤ w.front
  pub within : w.front ≤ length xs
  pub split : xs ≡ closed d tokens ++ drop start xs
  pub apart : All (λ t. All (λ b. b ≢ d) t) tokens
  pub clean : IsClean xs d start w.front

at_range : (xs : List ℕ) (i j k other : ℕ) → k < j - i → j ≤ length xs → get_or (slice_range xs i j) k other ≡ get_or xs (i + k) 0
at_range xs i j k other lt le = grind (arith, common_steps)

clean_range : (xs : List ℕ) (d i j : ℕ) → j ≤ length xs → IsClean xs d i j → All (λ b. b ≢ d) (slice_range xs i j)
clean_range xs d i j le clean k other lt =
    let there : k < j - i = grind (arith, common_steps) in
    rw (at_range xs i j k other there le) (clean (i + k) (omega arith) (omega arith))

after_range : (xs : List ℕ) (i j : ℕ) → i ≤ j → drop i xs ≡ slice_range xs i j ++ drop j xs
after_range xs i j le =
    let sum : i + (j - i) ≡ j = omega arith in
    sym (take-append-drop (j - i) (drop i xs)) ∙ ap (λ ys. slice_range xs i j ++ ys) (drop-drop (j - i) i xs ∙ ap (λ n. drop n xs) sum)

ascii_code : (s : ℕ) → s < 128 → utf8 s ≡ s ∷ []
unfolding utf8
ascii_code s lt = grind (arith, common_steps)

-- the window after one piece
record IsNext (xs : List ℕ) (w v : Window) (n : ℕ) : Type 0 where
  pub whole : v.whole ≡ xs
  pub back : v.back ≡ length xs
  pub front : v.front ≡ w.front + n
  pub within : v.front ≤ length xs
  pub same : elements w ≡ slice_range xs w.front (length xs)

next_of : (xs : List ℕ) (d start : ℕ) (ts : List (List ℕ)) (w v : Window) (x : Item) → IsTokenizedSoFar xs d ts start w → GivesFront w x v → IsNext xs w v x.2
next_of xs d start ts w v x before step =
    let front : v.front ≡ w.front + x.2 = ap (λ (u : Window). u.front) step.left in
    let same : elements w ≡ slice_range xs w.front (length xs) = rw (before.whole, before.back) refl in
    let room : length (elements w) ≡ length xs - w.front = ap length same ∙ range_length xs w.front in
    let back = before.back in
    record {
      whole = ap (λ (u : Window). u.whole) step.left ∙ before.whole;
      back = ap (λ (u : Window). u.back) step.left ∙ before.back;
      front = front;
      within = omega arith;
      same = same;
    }
  where
    range_length : (xs : List ℕ) (i : ℕ) → length (slice_range xs i (length xs)) ≡ length xs - i
    range_length xs i = grind (arith, common_steps)

go_on : (xs : List ℕ) (d start : ℕ) (ts : List (List ℕ)) (w v : Window) (n : ℕ) → IsTokenizedSoFar xs d ts start w → IsNext xs w v n → IsClean xs d w.front (w.front + n) → IsTokenizedSoFar xs d ts start v
go_on xs d start ts w v n before next clean = record {
  whole = next.whole;
  back = next.back;
  ordered = omega (arith, before.ordered, next.front);
  within = next.within;
  split = before.split;
  apart = before.apart;
  clean = λ q lo hi. ⊎_elim (λ lt. before.clean q lo lt) (λ ge. clean q ge (omega (arith, next.front))) (cases_lt q w.front);
}

-- the character at the front of the window is at its offset in the whole too
standing : (xs : List ℕ) (w v : Window) (n s : ℕ) → IsNext xs w v n → w.front ≤ length xs → Stands utf8 (elements w) 0 s → Stands utf8 xs w.front s
standing xs w v n s next le h = (front_char utf8 utf8_is_code xs w.front (length xs) s le (omega arith) (rw (← next.same) h)).0.0

-- another character has no delimiter among its bytes
pub tokens_other : AsciiStandsAlone → CodesNeverOverlap utf8 → {xs : List ℕ} {d start : ℕ} {ts : List (List ℕ)} {w v : Window} {x : Item} (s : ℕ) → d < 128
    → IsTokenizedSoFar xs d ts start w → GivesFront w x v → x.1 ≡ Ok s → s ≢ d → IsTokenizedSoFar xs d ts start v
tokens_other alone apart {xs} {d} {start} {ts} {w} {v} {x} s ascii before step is other =
    let next = next_of xs d start ts w v x before step in
    let begins : Stands utf8 (elements w) 0 s × (x.2 ≡ length (utf8 s)) = rw is at step.piece in
    let first = standing xs w v x.2 s next before.within begins.0 in
    let front = next.front in
    go_on xs d start ts w v x.2 before next (λ q lo hi e.
    let found : Stands utf8 xs q d = rw e at ((alone xs q (omega arith) (rw e ascii)).0) in
    let both = apart xs w.front q s d first found in
    ⊎_elim (λ lt. let over = both.1 lt in let len = begins.1 in absurd (omega arith)) (λ ge. absurd (other (both.0 (omega arith)))) (cases_lt w.front q))

-- an invalid byte is no delimiter
pub tokens_fault : AsciiStandsAlone → {xs : List ℕ} {d start : ℕ} {ts : List (List ℕ)} {w v : Window} {x : Item} {k : Utf8ErrorKind} → d < 128
    → IsTokenizedSoFar xs d ts start w → GivesFront w x v → x.1 ≡ Err k → IsTokenizedSoFar xs d ts start v
tokens_fault alone {xs} {d} {start} {ts} {w} {v} {x} {k} ascii before step is =
    let next = next_of xs d start ts w v x before step in
    let fault : (fault_kind (elements w) ≡ Some k) × (x.2 ≡ 1) = rw is at step.piece in
    let one = fault.1 in
    let front = next.front in
    go_on xs d start ts w v x.2 before next (λ q lo hi e.
    let same : q ≡ w.front = omega arith in
    let at : get_or (elements w) 0 0 ≡ d = rw next.same (at_range xs w.front (length xs) 0 0 (omega arith) (omega arith) ∙ ap (λ i. get_or xs i 0) (omega arith) ∙ e) in
    let found : Stands utf8 (elements w) 0 d = rw at at ((alone (elements w) 0 (omega arith) (rw at ascii)).0) in
    no_code_where_fault (elements w) k d fault.0 found)

pub shown_push : (tokens before : List (Bor (List ℕ))) (token : Bor (List ℕ)) → tokens ≡ before ++ token ∷ [] → map (λ x. x.now) tokens ≡ map (λ x. x.now) before ++ token.now ∷ []
shown_push tokens before token is = ap (map (λ x. x.now)) is ∙ map-append (λ (x : Bor (List ℕ)). x.now) before (token ∷ [])

-- a delimiter ends a token
pub tokens_push : {xs : List ℕ} {d start : ℕ} {ts : List (List ℕ)} {w v : Window} {x : Item} (s : ℕ) {t : List ℕ} → d < 128
    → IsTokenizedSoFar xs d ts start w → GivesFront w x v → x.1 ≡ Ok s → s ≡ d → t ≡ slice_range xs start w.front → IsTokenizedSoFar xs d (ts ++ t ∷ []) (w.front + 1) v
tokens_push {xs} {d} {start} {ts} {w} {v} {x} s {t} ascii before step is delimiter token =
    let next = next_of xs d start ts w v x before step in
    let begins : Stands utf8 (elements w) 0 d × (x.2 ≡ length (utf8 d)) = rw (is, delimiter) at step.piece in
    let code = ascii_code d ascii in
    let one : length (utf8 d) ≡ 1 = ap length code in
    let first = standing xs w v x.2 d next before.within begins.0 in
    let within = first.within in
    let at : get_or xs w.front 0 ≡ d =
    ap (λ i. get_or xs i 0) (omega arith) ∙ sym (at_range xs w.front (w.front + length (utf8 d)) 0 0 (omega arith) within) ∙ ap (λ l. get_or l 0 0) (first.equal ∙ code) in
    let rest : drop start xs ≡ t ++ d ∷ drop (w.front + 1) xs =
    after_range xs start w.front before.ordered ∙ (λ i. sym token i ++ (drop_more xs w.front 0 (omega arith) ∙ ap (λ b. b ∷ drop (w.front + 1) xs) at) i) in
    let front = next.front in
    record {
      whole = next.whole;
      back = next.back;
      ordered = omega arith;
      within = next.within;
      split = before.split ∙ ap (λ ys. closed d ts ++ ys) (rest ∙ sym (append_assoc t (d ∷ []) (drop (w.front + 1) xs))) ∙ sym (append_assoc (closed d ts) (t ++ d ∷ []) (drop (w.front + 1) xs))
          ∙ ap (λ ys. ys ++ drop (w.front + 1) xs) (flat_map_more (λ y. y ++ d ∷ []) [] ts t);
      apart = All-push (λ y. All (λ b. b ≢ d) y) ts t before.apart (rw token (clean_range xs d start w.front before.within before.clean));
      clean = λ q lo hi. absurd (omega arith);
    }

-- what is left is the last token
pub tokens_all : {xs : List ℕ} {d start : ℕ} {ts : List (List ℕ)} {w : Window} {t : List ℕ} → IsTokenizedSoFar xs d ts start w → w.front ≡ w.back → t ≡ slice_range xs start (length xs) → AreTokensOf xs d (ts ++ t ∷ [])
tokens_all {xs} {d} {start} {ts} {w} {t} before end token =
    let back = before.back in
    let all : w.front ≡ length xs = end ∙ before.back in
    let rest : drop start xs ≡ t = after_range xs start (length xs) (omega (arith, before.ordered)) ∙ (λ i. sym token i ++ none i) ∙ append-nil t in
    record {
      some = length_some ts t;
      whole = joined_last d ts t ∙ ap (λ ys. closed d ts ++ ys) (sym rest) ∙ sym before.split;
      apart = All-push (λ y. All (λ b. b ≢ d) y) ts t before.apart (rw token (clean_range xs d start (length xs) (omega arith) (rw (← all) before.clean)));
    }
  where
    none : drop (length xs) xs ≡ []
    none = grind (arith, common_steps)

    length_some : (ts : List (List ℕ)) (t : List ℕ) → 0 < length (ts ++ t ∷ [])
    length_some ts t = omega (arith, length-append ts (t ∷ []))
