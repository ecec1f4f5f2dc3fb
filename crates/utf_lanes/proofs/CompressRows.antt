-- Tables with the offsets of the bytes that each mask keeps, computed at each mask; and the vector of the
-- kept bytes.
use Rattle.std.proofs.Common.{◌≡◌, ℕ, ◌+◌, ◌*◌, ◌/◌, ◌<◌, ◌≤◌, Bool, true, false, cond, ◌&&◌, eqb, ltb, leb, List, [], ◌∷◌, ◌++◌, map, length, get_or, take, drop, count_ones, arith, refl, sym, ap, ap₂, ◌∙◌, append_assoc, length-append, length-take, take-append-drop, w8, ltb-true, leb-true, eqb-true}
use Rattle.std.proofs.lemmas.Bool.{and_parts}
use Rattle.std.proofs.lemmas.Simd.{Each1-from_get_or, swz_l, SwzOk, SwzOk-from_below, length-swz_l, get_or-swz_l_below, take_more_put_chunk}
use Rattle.std.proofs.lemmas.List.{ext_get_or, get_or-map, length-map, take-map, take-take, take_at, map-append}
use lib.Lanes.{put_chunk}
use Rattle.utf_lanes.proofs.PairTables.{each_below, at_each}
use Rattle.utf_lanes.proofs.Joined.{joined_map, joined_same}
use Rattle.utf_lanes.specs.Utf8ToUtf16.{concat_range, IsRow, places_at, pair_at}
use Rattle.std.specs.Int.{bit_at}
use lib.Count.{ones, ones_in}
use Rattle.utf_lanes.specs.declared.shuffles.TheConstants.{COMPRESS_PAIRS, COMPRESS_ENDS, COMPRESS_LANES}
use Rattle.utf_lanes.proofs.WideShuffles.{front_at_places, back_at_places}
use Rattle.utf_lanes.specs.UnitCodes.{row_places, row_bytes, row_slots, row_of}

abbrev same : List ℕ → List ℕ → Bool
same [] [] = true
same [] (y ∷ ys) = false
same (x ∷ xs) [] = false
same (x ∷ xs) (y ∷ ys) = eqb x y && same xs ys

same_is : (xs ys : List ℕ) → same xs ys ≡ true → xs ≡ ys
same_is [] [] h = refl
same_is [] (y ∷ ys) h = absurd cc
same_is (x ∷ xs) [] h = absurd cc
same_is (x ∷ xs) (y ∷ ys) h = let p = and_parts (eqb x y) (same xs ys) h in ap₂ (λ z zs. z ∷ zs) (eqb-true x y p.0) (same_is xs ys p.1)

-- A table, the offsets that a mask keeps of the part number i, and their number for n parts.
module _ (table : List (List ℕ)) (places : ℕ → ℕ → List ℕ) (len : ℕ → ℕ) (n : ℕ) where
  abbrev is_right : ℕ → List ℕ → Bool
  is_right m row = leb (count_ones m) 8 && (each_below (λ k. ltb (get_or row k 0) 16) 16 && same (take (len m) row) (concat_range (places m) 0 n))

  abbrev pub RowsAreRight : Type 0
  RowsAreRight = each_below (λ m. is_right m (get_or table m [])) 256 ≡ true

  module _ (right : RowsAreRight) (m : ℕ) (lt : m < 256) where
    row_right : is_right m (get_or table m []) ≡ true
    row_right = at_each (λ k. is_right k (get_or table k [])) 256 right m lt

    pub is_row : IsRow (get_or table m []) m (len m) n (places m)
    is_row =
        let row = get_or table m [] in
        let p = and_parts (leb (count_ones m) 8) _ row_right in
        let q = and_parts (each_below (λ i. ltb (get_or row i 0) 16) 16) _ p.1 in
        record {
          few = leb-true (count_ones m) 8 p.0;
          within = λ k in_row. ltb-true _ 16 (at_each (λ i. ltb (get_or row i 0) 16) 16 q.0 k in_row);
          listed = same_is (take (len m) row) (concat_range (places m) 0 n) q.1;
        }

-- The elements of the vector at those offsets.

pub in_vector : (js : List ℕ) → length js ≡ 16 → ((k : ℕ) → k < 16 → get_or js k 0 < 16) → SwzOk w8 16 16 0 js
in_vector js long below = SwzOk-from_below w8 16 1 16 0 js refl (omega (arith, long)) (Each1-from_get_or (λ j. j < 16) js 0 (λ k lt. below k (omega (arith, long))))

-- the vector at some offsets is the list of its elements there
at_places : (v js : List ℕ) → length js ≡ 16 → ((k : ℕ) → k < 16 → get_or js k 0 < 16) → swz_l w8 16 v 0 js ≡ map (λ j. get_or v j 0) js
at_places v js long below =
    ext_get_or 0 (swz_l w8 16 v 0 js) (map (λ j. get_or v j 0) js) (length-swz_l w8 16 v 0 js ∙ sym (length-map js (λ j. get_or v j 0)))
    (λ i lt.
    let few : i < 16 = omega (arith, length-swz_l w8 16 v 0 js, long) in
    let at : 16 * ((0 + i) / 16) + get_or js i 0 ≡ get_or js i 0 = omega arith in
    get_or-swz_l_below w8 16 v 0 js i (omega (arith, long)) (below i few) ∙ ap (λ n. get_or v n 0) at
    ∙ sym (get_or-map (λ j. get_or v j 0) js i 0 0 (omega (arith, long))))

-- bytes at the offsets of parts are the bytes of the parts
pub places_kept : (places bytes : ℕ → List ℕ) (len n : ℕ) (v js : List ℕ) → ((i : ℕ) → map (λ j. get_or v j 0) (places i) ≡ bytes i)
    → take len js ≡ concat_range places 0 n → map (λ j. get_or v j 0) (take len js) ≡ concat_range bytes 0 n
places_kept places bytes len n v js each are =
    ap (map (λ j. get_or v j 0)) are ∙ joined_map (λ j. get_or v j 0) places 0 n ∙ joined_same (λ i. map (λ j. get_or v j 0) (places i)) bytes 0 n (λ i ge lt. each i)

-- a part that is kept only if a bit is set
pub kept_where : (h : ℕ → ℕ) (b : Bool) (xs : List ℕ) → map h (cond b xs []) ≡ cond b (map h xs) []
kept_where h true xs = refl
kept_where h false xs = refl

-- the first of the kept bytes
pub front_kept : (v js : List ℕ) (len : ℕ) → length js ≡ 16 → ((k : ℕ) → k < 16 → get_or js k 0 < 16) → take len (swz_l w8 16 v 0 js) ≡ map (λ j. get_or v j 0) (take len js)
front_kept v js len long below = ap (take len) (at_places v js long below) ∙ take-map (λ j. get_or v j 0) len js

-- Bytes stored from an offset on, of which the first n count.
pub part_stored : (xs ys : List ℕ) (i n : ℕ) → n ≤ length ys → i + length ys ≤ length xs → take (i + n) (put_chunk i xs ys) ≡ take i xs ++ take n ys
part_stored xs ys i n few room =
    let front : length (take i xs ++ take n ys) ≡ i + n = omega (arith, length-append (take i xs) (take n ys), length-take i xs, length-take n ys) in
    let parts : take i xs ++ ys ≡ (take i xs ++ take n ys) ++ drop n ys
    = ap (λ zs. take i xs ++ zs) (sym (take-append-drop n ys)) ∙ sym (append_assoc (take i xs) (take n ys) (drop n ys)) in
    sym (take-take (i + n) (i + length ys) (put_chunk i xs ys) (omega arith))
    ∙ ap (take (i + n)) (take_more_put_chunk i xs ys (i + length ys) refl room ∙ parts)
    ∙ take_at (take i xs ++ take n ys) (drop n ys) (i + n) front

-- A list that grew, was written to and was truncated: of the buffer at its end the part that was added stays.
pub written_back : (old nuls grown room more new added : List ℕ) (start len end : ℕ) → grown ≡ old ++ nuls → start ≡ length old → length room ≡ len
    → take end room ≡ take start grown ++ added → new ≡ take end (take len (room ++ more)) → new ≡ old ++ added
written_back old nuls grown room more new added start len end e f long written cut =
    let front : take start grown ≡ old = ap (take start) e ∙ take_at old nuls start (sym f) in
    cut ∙ ap (take end) (take_at room more len long) ∙ written ∙ ap (λ xs. xs ++ added) front

abbrev pub pairs_len : ℕ → ℕ
pairs_len m = 2 * count_ones m

pub pairs_right : RowsAreRight COMPRESS_PAIRS places_at pairs_len 8
unfolding concat_range ones ones_in
pairs_right = refl

pair_of_places : (m : ℕ) (v : List ℕ) (i : ℕ) → map (λ j. get_or v j 0) (places_at m i) ≡ pair_at m v i
pair_of_places m v i = kept_where (λ j. get_or v j 0) (eqb (bit_at m i) 1) (2 * i ∷ (2 * i + 1) ∷ [])

pub kept_pairs : (m : ℕ) (v js : List ℕ) → length js ≡ 16 → IsRow js m (pairs_len m) 8 (places_at m) → take (pairs_len m) (swz_l w8 16 v 0 js) ≡ concat_range (pair_at m v) 0 8
kept_pairs m v js long row = front_kept v js (pairs_len m) long row.within ∙ places_kept (places_at m) (pair_at m v) (pairs_len m) 8 v js (pair_of_places m v) row.listed

abbrev pub row_len : Bool → ℕ → ℕ
row_len short m = cond short 8 4 + count_ones m

pub slots_right : RowsAreRight COMPRESS_LANES (row_places false) (row_len false) 4
unfolding concat_range ones ones_in
slots_right = refl

pub ends_right : RowsAreRight COMPRESS_ENDS (row_places true) (row_len true) 8
unfolding concat_range ones ones_in
ends_right = refl

bytes_of_places : (short : Bool) (m : ℕ) (v : List ℕ) (i : ℕ) → map (λ j. get_or v j 0) (row_places short m i) ≡ row_bytes short m v i
bytes_of_places true m v i = map-append (λ j. get_or v j 0) (cond (eqb (bit_at m i) 1) ((2 * i) ∷ []) []) ((2 * i + 1) ∷ []) ∙ ap (λ xs. xs ++ (get_or v (2 * i + 1) 0 ∷ [])) (kept_where (λ j. get_or v j 0) (eqb (bit_at m i) 1) ((2 * i) ∷ []))
bytes_of_places false m v i =
    let h : ℕ → ℕ = λ j. get_or v j 0 in
    let s : Bool = eqb (bit_at m (2 * i)) 1 in
    let t : Bool = eqb (bit_at m (2 * i + 1)) 1 in
    map-append h (cond s ((4 * i) ∷ []) []) (cond t ((4 * i + 2) ∷ []) [] ++ ((4 * i + 1) ∷ []))
    ∙ ap₂ (λ xs ys. xs ++ ys) (kept_where h s ((4 * i) ∷ []))
    (map-append h (cond t ((4 * i + 2) ∷ []) []) ((4 * i + 1) ∷ []) ∙ ap (λ xs. xs ++ (get_or v (4 * i + 1) 0 ∷ [])) (kept_where h t ((4 * i + 2) ∷ [])))

pub row_kept : (short : Bool) (m len : ℕ) (v js : List ℕ) → IsRow js m len (row_slots short) (row_places short m) → map (λ j. get_or v j 0) (take len js) ≡ concat_range (row_bytes short m v) 0 (row_slots short)
row_kept short m len v js row = places_kept (row_places short m) (row_bytes short m v) len (row_slots short) v js (bytes_of_places short m v) row.listed

-- The rows of one vector of sixteen lanes, and of the halves of one of thirty-two.

pub kept_row : (short : Bool) (m len : ℕ) (v js : List ℕ) → length js ≡ 16 → IsRow js m len (row_slots short) (row_places short m) → take len (swz_l w8 16 v 0 js) ≡ row_of short m v
kept_row short m len v js long row = front_kept v js len long row.within ∙ row_kept short m len v js row

module _ (short : Bool) {m n len more_len : ℕ} (v : List ℕ) {js more : List ℕ} (long : length js ≡ 16) (more_long : length more ≡ 16) (row : IsRow js m len (row_slots short) (row_places short m))
    (other : IsRow more n more_len (row_slots short) (row_places short n)) where
  pub front_row : take len (take 16 (swz_l w8 16 v 0 (js ++ more))) ≡ row_of short m (take 16 v)
  front_row =
      ap (take len) (front_at_places v js more long more_long row.within other.within) ∙ take-map (λ j. get_or (take 16 v) j 0) len js ∙ row_kept short m len (take 16 v) js row

  pub back_row : take more_len (drop 16 (swz_l w8 16 v 0 (js ++ more))) ≡ row_of short n (drop 16 v)
  back_row =
      ap (take more_len) (back_at_places v js more long more_long row.within other.within) ∙ take-map (λ j. get_or (drop 16 v) j 0) more_len more ∙ row_kept short n more_len (drop 16 v) more other
