-- The parts of a list: taken from the front and from the end, and joined again.
use Rattle.std.proofs.Common.{◌≡◌, ℕ, zero, suc, ◌+◌, ◌-◌, ◌<◌, ◌≤◌, Bool, true, false, nat_eq, count_by, List, [], ◌∷◌, ◌++◌, length, take, drop, map, slice_index_or, refl, ap, sym, subst, ◌∙◌, arith, ne_eqb, length-append, length-drop}
use Rattle.std.proofs.lemmas.Bool.{eq-eqb}
use Rattle.std.proofs.lemmas.List.{get_or-drop, length-take-le, take_all, take_rest}
use Rattle.std.proofs.lemmas.List.Sums.{count_by-le-length, sum_by-cons}
use Rattle.std.proofs.lemmas.List.Splits.{join_with_byte-slice_split, length-slice_split, slice_split_at, slice_split_none}
use Rattle.std.specs.Prelude.{slice_range, sum_by}
use Rattle.std.specs.List.{All, IsAfterLastMatch, IsFirstMatchOrLen, join_with_byte, onto_first}
use Rattle.text_runs.specs.Splits.{IsSplit, OneSplit, PlacedBytes, parts_by, placed_from, split_by, split_left}

-- the first of the parts has n elements
record EndsFirst (separator : ℕ) (xs : List ℕ) (n : ℕ) : Type 0 where
  within : n ≤ length xs
  more : n < length xs → parts_by separator xs ≡ take n xs ∷ parts_by separator (drop (suc n) xs)
  last : n ≡ length xs → parts_by separator xs ≡ xs ∷ []

-- the last of the parts begins at the offset n
record BeginsLast (separator : ℕ) (xs : List ℕ) (n : ℕ) : Type 0 where
  within : n ≤ length xs
  more : 0 < n → parts_by separator xs ≡ parts_by separator (take (n - 1) xs) ++ drop n xs ∷ []
  first : n ≡ 0 → parts_by separator xs ≡ xs ∷ []

module _ (separator : ℕ) where
  first_cut : (xs : List ℕ) (n : ℕ) → n ≤ length xs → IsFirstMatchOrLen (λ y. nat_eq y separator) xs n → EndsFirst separator xs n
  first_cut [] zero le h = record { within = le; more = λ lt. absurd (omega arith); last = λ e. refl }
  first_cut [] (suc n) le h = absurd (omega arith)
  first_cut (x ∷ xs) zero le h = record {
    within = le;
    more = λ lt. rw (h.1 lt 0) refl;
    last = λ e. absurd (omega arith);
  }
  first_cut (x ∷ xs) (suc n) le h =
      let other : nat_eq x separator ≡ false = h.0 0 0 (omega arith) (omega arith) in
      let rest = first_cut xs n (omega arith) (λ k d lo hi. h.0 (suc k) d (omega arith) (omega arith), λ lt. h.1 (omega arith)) in
      record {
        within = le;
        more = λ lt. rw (other, rest.more (omega arith)) refl;
        last = λ e. rw (other, rest.last (omega arith)) refl;
      }

  onto_first-append : (x : ℕ) (parts more : List (List ℕ)) → 0 < length parts → onto_first x (parts ++ more) ≡ onto_first x parts ++ more
  onto_first-append x [] more some = absurd (omega arith)
  onto_first-append x (part ∷ parts) more some = refl

  pub some_part : (xs : List ℕ) → 0 < length (parts_by separator xs)
  some_part xs = omega (arith, length-slice_split (λ x. nat_eq x separator) xs)

  -- the separator between two lists
  pub parts-append : (xs ys : List ℕ) (y : ℕ) → nat_eq y separator ≡ true → parts_by separator (xs ++ y ∷ ys) ≡ parts_by separator xs ++ parts_by separator ys
  parts-append [] ys y here = rw here refl
  parts-append (x ∷ xs) ys y here = by_head (nat_eq x separator) refl (parts-append xs ys y here)
    where
      by_head : (b : Bool) → nat_eq x separator ≡ b → parts_by separator (xs ++ y ∷ ys) ≡ parts_by separator xs ++ parts_by separator ys → parts_by separator (x ∷ (xs ++ y ∷ ys)) ≡ parts_by separator (x ∷ xs) ++ parts_by separator ys
      by_head true e rest = rw (e, rest) refl
      by_head false e rest = rw (e, rest) (onto_first-append x (parts_by separator xs) (parts_by separator ys) (some_part xs))

  last_cut : (xs : List ℕ) (n : ℕ) → n ≤ length xs → IsAfterLastMatch (λ y. nat_eq y separator) xs n → BeginsLast separator xs n
  last_cut xs n le h = record { within = le; more = more; first = first }
    where
      none : parts_by separator (drop n xs) ≡ drop n xs ∷ []
      none =
          let len = length-drop n xs in
          (first_cut (drop n xs) (length (drop n xs)) (omega arith) (
            λ k d lo hi. rw (get_or-drop n xs k d) (h.0 (n + k) d (omega arith) (omega arith)),
            λ lt. absurd (omega arith),
          )).last refl

      first : n ≡ 0 → parts_by separator xs ≡ xs ∷ []
      first e = rw e at none

      at_last : (ys : List ℕ) (k : ℕ) → k < length ys → ys ≡ take k ys ++ slice_index_or ys k 0 ∷ drop (suc k) ys
      at_last [] k lt = absurd (omega arith)
      at_last (y ∷ ys) zero lt = refl
      at_last (y ∷ ys) (suc k) lt = ap (λ l. y ∷ l) (at_last ys k (omega arith))

      more : 0 < n → parts_by separator xs ≡ parts_by separator (take (n - 1) xs) ++ drop n xs ∷ []
      more lt =
          let suc_n : suc (n - 1) ≡ n = omega arith in
          let cut : xs ≡ take (n - 1) xs ++ slice_index_or xs (n - 1) 0 ∷ drop n xs = subst (λ m. xs ≡ take (n - 1) xs ++ slice_index_or xs (n - 1) 0 ∷ drop m xs) suc_n (at_last xs (n - 1) (omega arith)) in
          ap (parts_by separator) cut ∙ parts-append (take (n - 1) xs) (drop n xs) (slice_index_or xs (n - 1) 0) (h.1 lt 0) ∙ ap (λ l. parts_by separator (take (n - 1) xs) ++ l) none

-- the number of offsets that parts take, with one after each
abbrev places_taken : List (List ℕ) → ℕ
places_taken [] = 0
places_taken (part ∷ parts) = length part + 1 + places_taken parts

placed-append : (place : ℕ) (ps qs : List (List ℕ)) → placed_from place (ps ++ qs) ≡ placed_from place ps ++ placed_from (place + places_taken ps) qs
placed-append place [] qs = ap (λ p. placed_from p qs) (omega arith)
placed-append place (p ∷ ps) qs =
    let sum : place + length p + 1 + places_taken ps ≡ place + (length p + 1 + places_taken ps) = omega arith in
    ap (λ l. record { start = place; bytes = p } ∷ l) (placed-append (place + length p + 1) ps qs ∙ ap (λ n. placed_from (place + length p + 1) ps ++ placed_from n qs) sum)

joined_taken : (separator : ℕ) (parts : List (List ℕ)) → 0 < length parts → places_taken parts ≡ length (join_with_byte separator parts) + 1
joined_taken separator [] some = absurd (omega arith)
joined_taken separator (part ∷ []) some = omega arith
joined_taken separator (part ∷ next ∷ parts) some =
    let rest = joined_taken separator (next ∷ parts) (omega arith) in
    let both = length-append part (separator ∷ join_with_byte separator (next ∷ parts)) in
    omega arith

all_taken : (separator : ℕ) (xs : List ℕ) → places_taken (parts_by separator xs) ≡ length xs + 1
all_taken separator xs = joined_taken separator (parts_by separator xs) (some_part separator xs) ∙ ap (λ l. length l + 1) (join_with_byte-slice_split separator xs)

-- One part taken from the front, followed by others or by none.
module _ (place : ℕ) (xs : List ℕ) (separator : ℕ) (n : ℕ) (le : n ≤ length xs) (first : IsFirstMatchOrLen (λ y. nat_eq y separator) xs n) where
  pub front_more : n < length xs → split_left place xs separator false ≡ record { start = place; bytes = take n xs } ∷ split_left (place + n + 1) (slice_range xs (n + 1) (length xs)) separator false
  front_more lt =
      let len : length (take n xs) ≡ n = length-take-le n xs le in
      let next : suc n ≡ n + 1 = omega arith in
      rw (take_rest xs (n + 1), ← next, (first_cut separator xs n le first).more lt, len) refl

  pub front_last : ¬ (n < length xs) → split_left place xs separator false ≡ record { start = place; bytes = take n xs } ∷ []
  front_last ge =
      let all : n ≡ length xs = omega arith in
      rw ((first_cut separator xs n le first).last all, take_all n xs (omega arith)) refl

-- One part taken from the end.
module _ (place : ℕ) (xs : List ℕ) (separator : ℕ) (n : ℕ) (le : n ≤ length xs) (last : IsAfterLastMatch (λ y. nat_eq y separator) xs n) where
  pub back_more : 0 < n → split_left place xs separator false ≡ split_left place (take (n - 1) xs) separator false ++ record { start = place + n; bytes = slice_range xs n (length xs) } ∷ []
  back_more lt =
      let len : length (take (n - 1) xs) ≡ n - 1 = length-take-le (n - 1) xs (omega arith) in
      let sum : place + places_taken (parts_by separator (take (n - 1) xs)) ≡ place + n = rw (all_taken separator (take (n - 1) xs), len) (omega arith) in
      rw (take_rest xs n) (ap (placed_from place) ((last_cut separator xs n le last).more lt) ∙ placed-append place (parts_by separator (take (n - 1) xs)) (drop n xs ∷ [])
      ∙ ap (λ k. placed_from place (parts_by separator (take (n - 1) xs)) ++ record { start = k; bytes = drop n xs } ∷ []) sum)

  pub back_first : ¬ (0 < n) → split_left place xs separator false ≡ record { start = place + n; bytes = slice_range xs n (length xs) } ∷ []
  back_first none =
      let zero_n : n ≡ 0 = omega arith in
      let here : place + 0 ≡ place = omega arith in
      rw (take_rest xs n, (last_cut separator xs n le last).first zero_n, zero_n, here) refl

-- The number of the parts, and the parts without their offsets.

pub placed_length : (place : ℕ) (parts : List (List ℕ)) → length (placed_from place parts) ≡ length parts
placed_length place [] = refl
placed_length place (part ∷ parts) = ap (λ n. suc n) (placed_length (place + length part + 1) parts)

pub placed_bytes : (place : ℕ) (parts : List (List ℕ)) → map (λ x. x.bytes) (placed_from place parts) ≡ parts
placed_bytes place [] = refl
placed_bytes place (part ∷ parts) = ap (λ l. part ∷ l) (placed_bytes (place + length part + 1) parts)

pub split_bytes : (separator : ℕ) (xs : List ℕ) → map (λ x. x.bytes) (split_by separator xs) ≡ parts_by separator xs
split_bytes separator xs = placed_bytes 0 (parts_by separator xs)

pub split_length : (separator : ℕ) (xs : List ℕ) → length (split_by separator xs) ≡ count_by (λ x. nat_eq x separator) xs + 1
split_length separator xs = placed_length 0 (parts_by separator xs) ∙ length-slice_split (λ x. nat_eq x separator) xs

-- Joined they are the bytes, none has a separator, and no other parts are so.

module _ (separator : ℕ) where
  abbrev Clean : List ℕ → Type 0
  Clean xs = All (λ x. nat_eq x separator ≡ false) xs

  clean_onto_first : (x : ℕ) (parts : List (List ℕ)) → nat_eq x separator ≡ false → All Clean parts → All Clean (onto_first x parts)
  clean_onto_first x [] other clean zero d lt = λ j e less. one j e less
    where
      one : (j e : ℕ) → j < length (x ∷ []) → nat_eq (slice_index_or (x ∷ []) j e) separator ≡ false
      one zero e less = other
      one (suc j) e less = absurd (omega arith)
  clean_onto_first x [] other clean (suc k) d lt = absurd (omega arith)
  clean_onto_first x (part ∷ parts) other clean zero d lt = λ j e less. one j e less
    where
      one : (j e : ℕ) → j < length (x ∷ part) → nat_eq (slice_index_or (x ∷ part) j e) separator ≡ false
      one zero e less = other
      one (suc j) e less = clean 0 d (omega arith) j e (omega arith)
  clean_onto_first x (part ∷ parts) other clean (suc k) d lt = clean (suc k) d lt

  clean_after : (parts : List (List ℕ)) → All Clean parts → All Clean ([] ∷ parts)
  clean_after parts clean zero d lt = λ j e less. absurd (omega arith)
  clean_after parts clean (suc k) d lt = clean k d (omega arith)

  parts_clean : (xs : List ℕ) → All Clean (parts_by separator xs)
  parts_clean [] = clean_after [] (λ k d lt. absurd (omega arith))
  parts_clean (x ∷ xs) = by_head (nat_eq x separator) refl (parts_clean xs)
    where
      by_head : (b : Bool) → nat_eq x separator ≡ b → All Clean (parts_by separator xs) → All Clean (parts_by separator (x ∷ xs))
      by_head true e rest = rw e (clean_after (parts_by separator xs) rest)
      by_head false e rest = rw e (clean_onto_first x (parts_by separator xs) e rest)

  unique_parts : (parts : List (List ℕ)) → 0 < length parts → All Clean parts → parts ≡ parts_by separator (join_with_byte separator parts)
  unique_parts [] some clean = absurd (omega arith)
  unique_parts (part ∷ []) some clean = sym (slice_split_none (λ x. nat_eq x separator) part (clean 0 part (omega arith)))
  unique_parts (part ∷ next ∷ parts) some clean =
      let rest = unique_parts (next ∷ parts) (omega arith) (λ k d lt. clean (suc k) d (omega arith)) in
      ap (λ l. part ∷ l) rest ∙ sym (slice_split_at (λ x. nat_eq x separator) part separator (join_with_byte separator (next ∷ parts)) (clean 0 part (omega arith)) (eq-eqb separator separator refl))

pub is_split : (separator : ℕ) (xs : List ℕ) → IsSplit separator xs (parts_by separator xs)
is_split separator xs = record { some = some_part separator xs; clean = parts_clean separator xs; joined = join_with_byte-slice_split separator xs }

pub one_split : OneSplit
one_split separator xs parts h = unique_parts separator parts h.some h.clean ∙ ap (parts_by separator) h.joined

-- if none is left all parts were given
pub done_left : (place : ℕ) (xs : List ℕ) (separator : ℕ) (done : Bool) → done ≡ nat_eq (length (split_left place xs separator done)) 0
done_left place xs separator true = refl
done_left place xs separator false =
    let some = some_part separator xs in
    let long = placed_length place (parts_by separator xs) in
    sym (ne_eqb (length (placed_from place (parts_by separator xs))) 0 (λ e. absurd (omega arith)))

-- at least one part is left until all were given, and at most one more than there are bytes
pub some_left : (place : ℕ) (xs : List ℕ) (separator : ℕ) → 1 ≤ length (split_left place xs separator false)
some_left place xs separator =
    let some = some_part separator xs in
    let long = placed_length place (parts_by separator xs) in
    omega arith

pub few_left : (place : ℕ) (xs : List ℕ) (separator : ℕ) → length (split_left place xs separator false) ≤ length xs + 1
few_left place xs separator =
    let long = placed_length place (parts_by separator xs) in
    let count = length-slice_split (λ x. nat_eq x separator) xs in
    let most = count_by-le-length (λ x. nat_eq x separator) xs in
    omega arith

-- the parts that are left have one more than there are bytes, if each has one for its end
placed_taken : (place : ℕ) (parts : List (List ℕ)) → sum_by (λ (x : PlacedBytes). length x.bytes + 1) (placed_from place parts) ≡ places_taken parts
placed_taken place [] = refl
placed_taken place (part ∷ parts) =
    sum_by-cons (λ (x : PlacedBytes). length x.bytes + 1) (record { start = place; bytes = part }) (placed_from (place + length part + 1) parts)
    ∙ ap (λ n. length part + 1 + n) (placed_taken (place + length part + 1) parts)

pub bytes_left : (place : ℕ) (xs : List ℕ) (separator : ℕ) → sum_by (λ (x : PlacedBytes). length x.bytes + 1) (split_left place xs separator false) ≡ length xs + 1
bytes_left place xs separator = placed_taken place (parts_by separator xs) ∙ all_taken separator xs
