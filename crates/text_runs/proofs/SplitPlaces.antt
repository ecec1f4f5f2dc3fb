-- The offsets of parts and lines: each part lies between two offsets that no code covers. So do the items of
-- runs that give them.
use Rattle.std.proofs.Common.{◌≡◌, ℕ, zero, suc, ◌+◌, ◌-◌, ◌<◌, ◌≤◌, Bool, true, false, nat_eq, List, [], ◌∷◌, ◌++◌, length, take, drop, reverse, slice_index, slice_index_or, Option, Some, None, refl, ap, sym, subst, ◌∙◌, arith, length-append, length-drop}
use Rattle.std.proofs.iter.runs.Lists.{slice_get_within}
use Rattle.std.proofs.lemmas.Bool.{eqb-true, false≢true}
use Rattle.std.proofs.lemmas.List.{drop-drop, get_or-append-add, get_or-drop, get_or-take, length-reverse, length-take-le, take_at, take_rest, take-take}
use Rattle.std.specs.Prelude.{IfSome, if◌then◌else◌}
use Rattle.std.specs.Iterator.{YieldsLast}
use Rattle.std.specs.Iterator.Runs.{EveryRun}
use Rattle.std.specs.List.{All, join_with_byte}
use Rattle.encode_unicode.proofs.ForCallers.{ascii_before, ascii_after, listed_run, listed_run_back}
use Rattle.encode_unicode.specs.AsciiBytes.{IsAsciiAt}
use Rattle.encode_unicode.specs.Pieces.{Gives, GivesReversed}
use Rattle.encode_unicode.specs.Sources.{IsListed}
use Rattle.text_runs.proofs.SplitLemmas.{is_split}
use Rattle.text_runs.specs.PieceBoundaries.{IsBetween}
use Rattle.text_runs.specs.Splits.{BackSpan, EachLies, LiesBetween, NextSpan, PlacedBytes, ended_line, lines_by, lines_of, parts_by, placed_from, split_by}

all-cons : {A : Type 0} (P : A → Type 0) (x : A) (xs : List A) → P x → All P xs → All P (x ∷ xs)
all-cons P x xs px pxs zero d lt = px
all-cons P x xs px pxs (suc k) d lt = pxs k d (omega arith)

starts_between : (xs : List ℕ) → IsBetween xs 0
starts_between xs = record { within = omega arith; outside = λ inside. let begins = inside.begins in omega arith }

ends_between : (xs : List ℕ) → IsBetween xs (length xs)
ends_between xs = record { within = omega arith; outside = λ inside. let ends = inside.ends in let fits = inside.stands.within in omega arith }

module _ (separator : ℕ) (ascii : separator < 128) (xs : List ℕ) where
  lie_between : (place : ℕ) (parts : List (List ℕ)) → place ≤ length xs → IsBetween xs place → drop place xs ≡ join_with_byte separator parts → All (LiesBetween xs) (placed_from place parts)
  lie_between place [] le begins e = λ k d lt. absurd (omega arith)
  lie_between place (part ∷ []) le begins e =
      let len : length xs - place ≡ length part = sym (length-drop place xs) ∙ ap length e in
      let end : place + length part ≡ length xs = omega arith in
      all-cons (LiesBetween xs) (record { start = place; bytes = part }) [] (record {
        within = omega arith;
        there = rw end (rw (take_rest xs place) (sym e));
        begins = begins;
        ends = rw end (ends_between xs);
      }) (λ k d lt. absurd (omega arith))
  lie_between place (part ∷ next ∷ parts) le begins e =
      let rest : List ℕ = join_with_byte separator (next ∷ parts) in
      let lens : length xs - place ≡ length part + suc (length rest) = sym (length-drop place xs) ∙ ap length e ∙ length-append part (separator ∷ rest) in
      let at_end : length part ≡ length part + 0 = omega arith in
      let here : slice_index xs (place + length part) ≡ separator = sym (get_or-drop place xs (length part) 0) ∙ ap (λ l. slice_index l (length part)) e ∙ ap (λ n. slice_index (part ++ separator ∷ rest) n) at_end ∙ get_or-append-add part (separator ∷ rest) 0 0 in
      let byte : IsAsciiAt xs (place + length part) = (omega arith, rw here ascii) in
      let same : place + length part - place ≡ length part = omega arith in
      let after : drop (place + (length part + 1)) xs ≡ rest = sym (drop-drop (length part + 1) place xs) ∙ ap (drop (length part + 1)) e ∙ drop_past part separator rest in
      let sum : place + (length part + 1) ≡ place + length part + 1 = omega arith in
      all-cons (LiesBetween xs) (record { start = place; bytes = part }) (placed_from (place + length part + 1) (next ∷ parts)) (record {
        within = omega arith;
        there = rw (same, e) (sym (take_at part (separator ∷ rest) (length part) refl));
        begins = begins;
        ends = record { within = omega arith; outside = ascii_before xs (place + length part) byte };
      }) (lie_between (place + length part + 1) (next ∷ parts) (omega arith) (record { within = omega arith; outside = ascii_after xs (place + length part) byte }) (rw (← sum) after))
    where
      drop_past : (ys : List ℕ) (y : ℕ) (zs : List ℕ) → drop (length ys + 1) (ys ++ y ∷ zs) ≡ zs
      drop_past ys y zs = let next : length ys + 1 ≡ suc (length ys) = omega arith in ap (λ n. drop n (ys ++ y ∷ zs)) next ∙ past ys y zs
        where
          past : (ys : List ℕ) (y : ℕ) (zs : List ℕ) → drop (suc (length ys)) (ys ++ y ∷ zs) ≡ zs
          past [] y zs = refl
          past (z ∷ ys) y zs = past ys y zs

  pub parts_lie : All (LiesBetween xs) (split_by separator xs)
  parts_lie = lie_between 0 (parts_by separator xs) (omega arith) (starts_between xs) (sym (is_split separator xs).joined)

-- A line that ended with a line feed has lost its carriage return, which is a byte below 0x80.

some_last : (l : List ℕ) → nat_eq (slice_index l (length l - 1)) 13 ≡ true → 0 < length l
some_last [] e = absurd (false≢true e)
some_last (x ∷ l) e = omega arith

ended_lies : (xs : List ℕ) (x : PlacedBytes) → LiesBetween xs x → LiesBetween xs (ended_line x)
ended_lies xs x h = by_last (nat_eq (slice_index x.bytes (length x.bytes - 1)) 13) refl
  where
    by_last : (b : Bool) → nat_eq (slice_index x.bytes (length x.bytes - 1)) 13 ≡ b → LiesBetween xs (record { start = x.start; bytes = if b then take (length x.bytes - 1) x.bytes else x.bytes })
    by_last false e = h
    by_last true e =
        let l : List ℕ = x.bytes in
        let n : ℕ = length l - 1 in
        let some = some_last l e in
        let fits = h.within in
        let len : length (take n l) ≡ n = length-take-le n l (omega arith) in
        let whole : x.start + length l - x.start ≡ length l = omega arith in
        let there : l ≡ take (length l) (drop x.start xs) = subst (λ m. l ≡ take m (drop x.start xs)) whole h.there in
        let here : slice_index xs (x.start + n) ≡ slice_index l n = sym (get_or-drop x.start xs n 0) ∙ sym (get_or-take (length l) (drop x.start xs) n 0 (omega arith)) ∙ ap (λ m. slice_index m n) (sym there) in
        let byte : IsAsciiAt xs (x.start + n) = (omega arith, rw (here, eqb-true (slice_index l n) 13 e) (omega arith)) in
        let same : x.start + n - x.start ≡ n = omega arith in
        record {
          within = rw len (omega arith);
          there = rw (len, same) (ap (take n) there ∙ take-take n (length l) (drop x.start xs) (omega arith));
          begins = h.begins;
          ends = rw len (record { within = omega arith; outside = ascii_before xs (x.start + n) byte });
        }

-- Runs that give a list, whose items lie between such offsets.

spans_listed : IsListed NextSpan (λ left. left)
spans_listed s r t h = h

module _ (P : PlacedBytes → Type 0) where
  item_lies : (s : List PlacedBytes) (o : Option PlacedBytes) (k : ℕ) → All P s → ((x : PlacedBytes) → o ≡ Some x → k < length s) → IfSome o (λ x. x ≡ slice_index_or s k x) → IfSome o P
  item_lies s None k all within same = tt
  item_lies s (Some x) k all within same = subst P (sym same) (all k x (within x refl))

pub each_lies : (xs : List ℕ) (s : List PlacedBytes) → All (LiesBetween xs) s → EachLies NextSpan xs s
each_lies xs s all p seen from k =
    let gives : Gives p s = subst (Gives p) from (listed_run NextSpan (λ left. left) spans_listed p seen) in
    item_lies (LiesBetween xs) s (p.at k) k all (λ x e. slice_get_within s k x (gives.2.5.0 k x e)) (gives.0.6 k)

-- Runs that give a list from the end, whose items lie between such offsets.

spans_last : (s : List PlacedBytes) (r : Option PlacedBytes) (t : List PlacedBytes) → BackSpan s r t → YieldsLast (λ left. left) s r t
spans_last s r t h = h

pub each_lies_back : (xs : List ℕ) (s : List PlacedBytes) → All (LiesBetween xs) s → EachLies BackSpan xs s
each_lies_back xs s all p seen from k =
    let gives : GivesReversed p s = subst (GivesReversed p) from (listed_run_back BackSpan (λ left. left) spans_last p seen) in
    at_back (p.at k) (λ x e. let there = slice_get_within (reverse s) k x (gives.2.5.0 k x e) in omega (arith, length-reverse s)) (gives.0.5 k)
  where
    at_back : (o : Option PlacedBytes) → ((x : PlacedBytes) → o ≡ Some x → 0 < length s) → IfSome o (λ x. x ≡ slice_index_or s (length s - 1 - k) x) → IfSome o (LiesBetween xs)
    at_back None some same = tt
    at_back (Some x) some same = let there = some x refl in subst (LiesBetween xs) (sym same) (all (length s - 1 - k) x (omega arith))

pub spans_run : EveryRun NextSpan (λ p. Gives p p.from)
spans_run = listed_run NextSpan (λ left. left) spans_listed

pub spans_run_back : EveryRun BackSpan (λ p. GivesReversed p p.from)
spans_run_back = listed_run_back BackSpan (λ left. left) spans_last

-- If parts lie between such offsets, their lines do.

pub lines_lie_of : (xs : List ℕ) (parts : List PlacedBytes) → All (LiesBetween xs) parts → All (LiesBetween xs) (lines_of parts)
lines_lie_of xs [] all = all
lines_lie_of xs (x ∷ []) all = by_len (nat_eq (length x.bytes) 0)
  where
    by_len : (b : Bool) → All (LiesBetween xs) (if b then [] else x ∷ [])
    by_len true = λ k d lt. absurd (omega arith)
    by_len false = all
lines_lie_of xs (x ∷ y ∷ parts) all =
    all-cons (LiesBetween xs) (ended_line x) (lines_of (y ∷ parts)) (ended_lies xs x (all 0 x (omega arith))) (lines_lie_of xs (y ∷ parts) (λ k d lt. all (suc k) d (omega arith)))

pub lines_lie : (xs : List ℕ) → All (LiesBetween xs) (lines_by xs)
lines_lie xs = lines_lie_of xs (split_by 10 xs) (parts_lie 10 (omega arith) xs)
