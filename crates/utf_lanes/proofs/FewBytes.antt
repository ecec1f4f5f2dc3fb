-- A few bytes as one vector: the first and the last of them, and the lanes that they go to; and their
-- validation in one step, as text that NULs precede.
use Rattle.std.proofs.Common.{◌≡◌, ◌↔◌, ℕ, suc, ◌+◌, ◌-◌, ◌*◌, ◌/◌, ◌<◌, ◌≤◌, Bool, true, cond, ◌&&◌, ◌||◌, eqb, ltb, List, [], ◌∷◌, ◌++◌, length, get_or, take, replicate, arith, sym, ap, subst, ◌∙◌, inl, inr, w8, eqb-true, ltb-true, length-take, zero, drop, refl, lit<, IsUtf8, length-append}
use Rattle.std.proofs.lemmas.Bool.{and_parts, cases_lt, lt-ltb, le-ltb}
use Rattle.std.proofs.lemmas.List.{ext_get_or, get_or_append_left, get_or-append_right, get_or-replicate, get_or-take, length-replicate, length-append, get_or-append-add, take_at, drop_at, take-append-le}
use Rattle.std.proofs.lemmas.Simd.{swz_l, length-swz_l, get_or-swz_l, get_or-swz_l_below, get_or-chunk}
use lib.Lanes.{chunk}
use mir.Val.{zeroes}
use Rattle.utf_lanes.specs.AsciiTexts.{AreAscii}
use Rattle.utf_lanes.specs.Lanes.{end_place}
use Rattle.utf_lanes.specs.TextBlocks.{Follows, AllMayFollow, EndsCharacter}
use Rattle.utf_lanes.proofs.PairTables.{each_below, at_each}
use Rattle.std.proofs.lemmas.Str.{IsUtf8-from_ascii, IsUtf8-drop, IsCharBoundary-from_take}
use Rattle.std.specs.Str.{IsAscii}
use Rattle.utf_lanes.proofs.JudgedText.{Begins, judged_text}

-- one fact at each number below 16
pub below_16 : (P : ℕ → Type 0) → ((k : ℕ) → k < 8 → P k) → ((k : ℕ) → k < 8 → P (8 + k)) → (k : ℕ) → k < 16 → P k
below_16 P low high k lt =
    elim (cases_lt k 8) [
      | inl less ↦ low k less
      | inr more ↦ (let at : 8 + (k - 8) ≡ k = omega arith in subst P at (high (k - 8) (omega arith)))
    ]

-- the first and the last of some bytes
pub ends_at : (w : ℕ) (xs : List ℕ) → w ≤ length xs → (k : ℕ) → k < w + w → get_or (take w xs ++ chunk (length xs - w) w xs) k 0 ≡ get_or xs (end_place w (length xs) k) 0
ends_at w xs within k lt =
    let first : length (take w xs) ≡ w = omega (arith, length-take w xs) in
    elim (cases_lt k w) [
      | inl less ↦ rw (lt-ltb k w less) (get_or_append_left (take w xs) (chunk (length xs - w) w xs) 0 k (omega (arith, first)) ∙ get_or-take w xs k 0 less)
      | inr more ↦ rw (le-ltb k w more) (get_or-append_right (take w xs) (chunk (length xs - w) w xs) w k 0 first more ∙ get_or-chunk (length xs - w) w xs (k - w) 0 (omega arith))
    ]

-- The table has a row for each number i of bytes past four: they follow NULs. Of less than eight there are
-- four at either end.

abbrev pub half : ℕ → ℕ
half i = cond (ltb i 4) 4 8

-- the lane that the lane k is taken from
abbrev is_past : List (List ℕ) → ℕ → ℕ → Bool
is_past table i k =
    let r = get_or (get_or table i []) k 0 in
    (zeroes 16 w8 r || ltb r 16) && cond (ltb k (12 - i)) (eqb r 128) (ltb r (half i + half i) && eqb (end_place (half i) (i + 4) r) (k - (12 - i)))

abbrev row_is_past : List (List ℕ) → ℕ → Bool
row_is_past table i = eqb (length (get_or table i [])) 16 && each_below (is_past table i) 16

abbrev pub ArePast : List (List ℕ) → Type 0
ArePast table = each_below (row_is_past table) 13 ≡ true

module _ (table : List (List ℕ)) (right : ArePast table) (i : ℕ) (few : i < 13) where
  abbrev row : List ℕ
  row = get_or table i []

  parts : (eqb (length row) 16 ≡ true) × (each_below (is_past table i) 16 ≡ true)
  parts = and_parts (eqb (length row) 16) (each_below (is_past table i) 16) (at_each (row_is_past table) 13 right i few)

  pub row_len : length (get_or table i []) ≡ 16
  row_len = eqb-true (length row) 16 parts.0

  one : (k : ℕ) → k < 16 → is_past table i k ≡ true
  one k lt = at_each (is_past table i) 16 parts.1 k lt

  module _ (v bytes : List ℕ) (len : length bytes ≡ i + 4) (lanes : (r : ℕ) → r < half i + half i → get_or v r 0 ≡ get_or bytes (end_place (half i) (length bytes) r) 0) where
    a_nul : (k : ℕ) → k < 16 → k < 12 - i → get_or (swz_l w8 16 v 0 row) k 0 ≡ get_or (replicate (12 - i) 0 ++ bytes) k 0
    a_nul k lt less =
        let ok = (and_parts (zeroes 16 w8 (get_or row k 0) || ltb (get_or row k 0) 16) _ (one k lt)).1 in
        let past : get_or row k 0 ≡ 128 = eqb-true (get_or row k 0) 128 (rw (lt-ltb k (12 - i) less) at ok) in
        let nul : get_or (replicate (12 - i) 0 ++ bytes) k 0 ≡ 0
        = get_or_append_left (replicate (12 - i) 0) bytes 0 k (omega (arith, length-replicate {A = ℕ} (12 - i) 0)) ∙ get_or-replicate (12 - i) k 0 0 less in
        get_or-swz_l w8 16 v 0 row k (omega (arith, row_len)) ∙ rw past (sym nul)

    a_byte : (k : ℕ) → k < 16 → 12 - i ≤ k → get_or (swz_l w8 16 v 0 row) k 0 ≡ get_or (replicate (12 - i) 0 ++ bytes) k 0
    a_byte k lt more =
        let r = get_or row k 0 in
        let ok = rw (le-ltb k (12 - i) more) at (and_parts (zeroes 16 w8 r || ltb r 16) _ (one k lt)).1 in
        let both = and_parts (ltb r (half i + half i)) (eqb (end_place (half i) (i + 4) r) (k - (12 - i))) ok in
        let below : r < half i + half i = ltb-true r (half i + half i) both.0 in
        let wide : half i + half i ≤ 16 = most i in
        let at : 16 * ((0 + k) / 16) + r ≡ r = omega arith in
        let there : end_place (half i) (length bytes) r ≡ k - (12 - i) = ap (λ n. end_place (half i) n r) len ∙ eqb-true _ (k - (12 - i)) both.1 in
        get_or-swz_l_below w8 16 v 0 row k (omega (arith, row_len)) (omega arith) ∙ ap (λ n. get_or v n 0) at ∙ lanes r below ∙ ap (λ n. get_or bytes n 0) there
        ∙ sym (get_or-append_right (replicate (12 - i) 0) bytes (12 - i) k 0 (length-replicate (12 - i) 0) more)
      where
        most : (i : ℕ) → half i + half i ≤ 16
        most i = elim (cases_lt i 4) [ inl less ↦ rw (lt-ltb i 4 less) (omega arith) | inr more ↦ rw (le-ltb i 4 more) (omega arith) ]

    pub padded_row : swz_l w8 16 v 0 (get_or table i []) ≡ replicate (12 - i) 0 ++ bytes
    padded_row =
        ext_get_or 0 (swz_l w8 16 v 0 row) (replicate (12 - i) 0 ++ bytes)
        (length-swz_l w8 16 v 0 row ∙ row_len ∙ omega (arith, length-append (replicate (12 - i) 0) bytes, length-replicate {A = ℕ} (12 - i) 0))
        (λ k lt.
        let below : k < 16 = omega (arith, length-swz_l w8 16 v 0 row, row_len) in
        elim (cases_lt k (12 - i)) [ inl less ↦ a_nul k below less | inr more ↦ a_byte k below more ])

-- Lanes after NULs.
pub past_follow : (here first second third : List ℕ) → ((k : ℕ) → k < 16 → get_or first k 0 ≡ get_or (0 ∷ 0 ∷ 0 ∷ here) (k + 2) 0)
    → ((k : ℕ) → k < 16 → get_or second k 0 ≡ get_or (0 ∷ 0 ∷ 0 ∷ here) (k + 1) 0) → ((k : ℕ) → k < 16 → get_or third k 0 ≡ get_or (0 ∷ 0 ∷ 0 ∷ here) k 0)
    → (k : ℕ) → k < 16 → Follows (get_or third k 0) (get_or second k 0) (get_or first k 0) (get_or here k 0) ↔ AllMayFollow (0 ∷ 0 ∷ 0 ∷ here) (3 + k) (3 + k + 1)
past_follow here first second third f g h k lt =
    let last : k + 3 ≡ suc (suc (suc k)) = omega arith in
    let same : get_or (0 ∷ 0 ∷ 0 ∷ here) (k + 3) 0 ≡ get_or here k 0 = ap (λ n. get_or (0 ∷ 0 ∷ 0 ∷ here) n 0) last in (
      λ follows j least most. let at : k ≡ j = omega arith in rw (f k lt, g k lt, h k lt, ← same, at) at follows,
      λ all. rw (f k lt, g k lt, h k lt, ← same) (all k (omega arith) (omega arith)),
    )

-- If all lanes are ASCII, all bytes are: each is in some lane.
pub ends_ascii : (w : ℕ) (v bytes : List ℕ) → w ≤ length bytes → length bytes ≤ w + w → w ≤ 8 → ((k : ℕ) → k < w + w → get_or v k 0 ≡ get_or bytes (end_place w (length bytes) k) 0)
    → ((k : ℕ) → k < 16 → get_or v k 0 < 0x80) → AreAscii bytes 0 (length bytes)
ends_ascii w v bytes enough few narrow lanes low k least most =
    elim (cases_lt k w) [
      | inl less ↦ (
          let same : get_or v k 0 ≡ get_or bytes k 0 = rw (lt-ltb k w less) at (lanes k (omega arith)) in
          rw same at (low k (omega arith)))
      | inr more ↦ (
          let r = w + w - length bytes + k in
          let at : length bytes - w + (r - w) ≡ k = omega arith in
          let same : get_or v r 0 ≡ get_or bytes k 0 = rw (le-ltb r w (omega arith), at) at (lanes r (omega arith)) in
          rw same at (low r (omega arith)))
    ]

-- If all bytes are ASCII, the lanes that have them are.
pub ascii_ends : (w : ℕ) (v bytes : List ℕ) → w ≤ length bytes → ((k : ℕ) → k < w + w → get_or v k 0 ≡ get_or bytes (end_place w (length bytes) k) 0)
    → AreAscii bytes 0 (length bytes) → (k : ℕ) → k < w + w → get_or v k 0 < 0x80
ascii_ends w v bytes enough lanes ascii k lt =
    elim (cases_lt k w) [
      | inl less ↦ (let same = rw (lt-ltb k w less) at (lanes k lt) in rw same (ascii k (omega arith) (omega arith)))
      | inr more ↦ (let same = rw (le-ltb k w more) at (lanes k lt) in rw same (ascii (length bytes - w + (k - w)) (omega arith) (omega arith)))
    ]

module _ (xs : List ℕ) where
  abbrev ended : List ℕ
  ended = xs ++ 0 ∷ []

  same : (k : ℕ) → k < length xs → get_or ended k 0 ≡ get_or xs k 0
  same k lt = get_or_append_left xs (0 ∷ []) 0 k lt

  nul : get_or ended (length xs) 0 ≡ 0
  nul = let at : length xs - length xs ≡ 0 = omega arith in get_or-append_right xs (0 ∷ []) (length xs) (length xs) 0 refl (omega arith) ∙ ap (λ j. get_or (0 ∷ []) j 0) at

  -- a NUL may follow if no byte is asked for
  nul_follows : EndsCharacter xs (length xs) → (k : ℕ) → k + 3 ≡ length xs → Follows (get_or ended k 0) (get_or ended (k + 1) 0) (get_or ended (k + 2) 0) (get_or ended (k + 3) 0)
  nul_follows closed k at =
      let before = closed k at in
      let a = before.0 in
      let b = before.1 in
      let c = before.2 in
      let d : get_or ended (k + 3) 0 ≡ 0 = ap (λ j. get_or ended j 0) at ∙ nul in
      rw (same k (omega arith), same (k + 1) (omega arith), same (k + 2) (omega arith), d) (record {
        early = λ _ _. record { first = λ _ high. absurd (omega arith); second = λ high. absurd (omega arith) };
        third = λ high. absurd (omega arith);
        fourth = λ high. absurd (omega arith);
      })

  all_follow : (p : ℕ) → AllMayFollow xs p (length xs) → EndsCharacter xs (length xs) → AllMayFollow ended p (length xs + 1)
  all_follow p all closed k least most = elim (cases_lt (k + 3) (length xs)) [
    | inl lt ↦ rw (same k (omega arith), same (k + 1) (omega arith), same (k + 2) (omega arith), same (k + 3) lt) (all k least lt)
    | inr ge ↦ nul_follows closed k (omega arith)
  ]

  begins : (p : ℕ) → p ≤ length xs → Begins xs p → Begins ended p
  begins p le first = elim (cases_lt p (length xs)) [
    | inl lt ↦ rw (same p lt) first
    | inr ge ↦ (let at : p ≡ length xs = omega arith in rw (at, nul) (λ high. absurd (omega arith)))
  ]

  -- Bytes are text to their end if the last of them ask for no more.
  pub whole_text : (p : ℕ) → 3 ≤ p → p ≤ length xs → IsUtf8 (take p xs) → Begins xs p → AllMayFollow xs p (length xs) → EndsCharacter xs (length xs) → IsUtf8 xs
  whole_text p three le text first all closed =
      let long : length ended ≡ length xs + 1 = length-append xs (0 ∷ []) in
      let front : take p ended ≡ take p xs = take-append-le p xs (0 ∷ []) le in
      let whole : take (length xs) ended ≡ xs = take_at xs (0 ∷ []) (length xs) refl in
      rw whole at (judged_text ended p (length xs) three le (omega (arith, long)) (rw front text) (begins p le first) (rw nul (λ high. absurd (omega arith))) (all_follow p all closed))

pub nuls_ascii : (m : ℕ) → IsAscii (replicate m 0)
nuls_ascii zero i = lit< tt
nuls_ascii (suc m) zero = lit< tt
nuls_ascii (suc m) (suc i) = nuls_ascii m i

first_begins : (d : ℕ) → Follows 0 0 0 d → 0x80 ≤ d → 0xC0 ≤ d
first_begins d f high = let may = f.early (lit< tt) (lit< tt) in may.first (lit< tt) high

-- At least three bytes after NULs.
module _ (j : ℕ) (bytes : List ℕ) where
  abbrev nuls : List ℕ
  nuls = 0 ∷ 0 ∷ 0 ∷ replicate j 0

  abbrev past : List ℕ
  past = 0 ∷ 0 ∷ 0 ∷ (replicate j 0 ++ bytes)

  nuls_len : length nuls ≡ j + 3
  nuls_len = ap (λ n. suc (suc (suc n))) (length-replicate j 0) ∙ omega arith

  past_len : length past ≡ j + 3 + length bytes
  past_len = omega (arith, length-append nuls bytes, nuls_len)

  past_at : (k : ℕ) → get_or past (j + 3 + k) 0 ≡ get_or bytes k 0
  past_at k = let at : length nuls + k ≡ j + 3 + k = omega (arith, nuls_len) in rw at at (get_or-append-add nuls bytes k 0)

  without_nuls : IsUtf8 past → IsUtf8 bytes
  without_nuls text =
      let front : take (j + 3) past ≡ nuls = take_at nuls bytes (j + 3) nuls_len in
      let back : drop (j + 3) past ≡ bytes = drop_at nuls bytes (j + 3) nuls_len in
      let before : IsUtf8 (take (j + 3) past) = rw front (IsUtf8-from_ascii nuls (nuls_ascii (suc (suc (suc j))))) in
      let boundary = IsCharBoundary-from_take past (j + 3) text (omega (arith, length-append nuls bytes, nuls_len)) before in
      rw back at (IsUtf8-drop past (j + 3) text boundary)

  closed_past : 3 ≤ length bytes → EndsCharacter bytes (length bytes) → EndsCharacter past (length past)
  closed_past enough closed k at =
      let m = length bytes - 3 in
      let last = closed m (omega arith) in
      let one : j + 3 + m ≡ k = omega (arith, past_len) in
      let two : j + 3 + (m + 1) ≡ k + 1 = omega (arith, past_len) in
      let three : j + 3 + (m + 2) ≡ k + 2 = omega (arith, past_len) in
      rw (← past_at m, ← past_at (m + 1), ← past_at (m + 2), one, two, three) at last

  -- bytes after NULs are text to their end if the last of them ask for no more
  pub text_padded : 3 ≤ length bytes → AllMayFollow past 3 (length past) → EndsCharacter bytes (length bytes) → IsUtf8 bytes
  text_padded enough all closed =
      let first : Follows 0 0 0 (get_or (replicate j 0 ++ bytes) 0 0) = all 0 (omega arith) (omega (arith, past_len)) in
      without_nuls
      (whole_text past 3 (omega arith) (omega (arith, past_len)) (IsUtf8-from_ascii (0 ∷ 0 ∷ 0 ∷ []) (nuls_ascii 3)) (first_begins (get_or (replicate j 0 ++ bytes) 0 0) first) all (closed_past enough closed))

-- sixteen lanes, at most as many of which are bytes
pub few_text : (here bytes : List ℕ) (j : ℕ) → here ≡ replicate j 0 ++ bytes → length here ≡ 16 → 3 ≤ length bytes → AllMayFollow (0 ∷ 0 ∷ 0 ∷ here) 3 19 → EndsCharacter bytes (length bytes) → IsUtf8 bytes
few_text here bytes j e long enough all closed =
    let size : length (0 ∷ 0 ∷ 0 ∷ (replicate j 0 ++ bytes)) ≡ 19 = ap (λ ys. length (0 ∷ 0 ∷ 0 ∷ ys)) (sym e) ∙ omega (arith, long) in
    text_padded j bytes enough (subst (λ n. AllMayFollow (0 ∷ 0 ∷ 0 ∷ (replicate j 0 ++ bytes)) 3 n) (sym size) (subst (λ ys. AllMayFollow (0 ∷ 0 ∷ 0 ∷ ys) 3 19) e all)) closed

-- Bytes after three NULs.
module _ (xs : List ℕ) where
  -- the first sixteen, and then others
  pub follows_first : (n : ℕ) → n ≤ 16 → AllMayFollow (0 ∷ 0 ∷ 0 ∷ take 16 xs) 3 (3 + n) → AllMayFollow (0 ∷ 0 ∷ 0 ∷ xs) 3 (n + 3)
  follows_first n few all k least most =
      let here : (i : ℕ) → i < 19 → get_or (0 ∷ 0 ∷ 0 ∷ take 16 xs) i 0 ≡ get_or (0 ∷ 0 ∷ 0 ∷ xs) i 0 = λ i lt. get_or-take 19 (0 ∷ 0 ∷ 0 ∷ xs) i 0 lt in
      rw (here k (omega arith), here (k + 1) (omega arith), here (k + 2) (omega arith), here (k + 3) (omega arith)) at (all k least (omega arith))

  pub at_byte : (k : ℕ) → get_or (0 ∷ 0 ∷ 0 ∷ xs) (k + 3) 0 ≡ get_or xs k 0
  at_byte k = let at : k + 3 ≡ suc (suc (suc k)) = omega arith in ap (λ n. get_or (0 ∷ 0 ∷ 0 ∷ xs) n 0) at

  pub follows_later : (i j : ℕ) → 3 ≤ i → AllMayFollow xs i j → AllMayFollow (0 ∷ 0 ∷ 0 ∷ xs) (i + 3) (j + 3)
  follows_later i j three all k least most =
      let one : k - 3 + 3 ≡ k = omega arith in
      let two : k - 3 + 1 + 3 ≡ k + 1 = omega arith in
      let three : k - 3 + 2 + 3 ≡ k + 2 = omega arith in
      let four : k - 3 + 3 + 3 ≡ k + 3 = omega arith in
      rw (← at_byte (k - 3), ← at_byte (k - 3 + 1), ← at_byte (k - 3 + 2), ← at_byte (k - 3 + 3), four, one, two, three) at (all (k - 3) (omega arith) (omega arith))

  pub first_follows : (n : ℕ) → n ≤ 16 → AllMayFollow (0 ∷ 0 ∷ 0 ∷ xs) 3 (n + 3) → AllMayFollow (0 ∷ 0 ∷ 0 ∷ take 16 xs) 3 (3 + n)
  first_follows n few all k least most =
      let here : (i : ℕ) → i < 19 → get_or (0 ∷ 0 ∷ 0 ∷ take 16 xs) i 0 ≡ get_or (0 ∷ 0 ∷ 0 ∷ xs) i 0 = λ i lt. get_or-take 19 (0 ∷ 0 ∷ 0 ∷ xs) i 0 lt in
      rw (here k (omega arith), here (k + 1) (omega arith), here (k + 2) (omega arith), here (k + 3) (omega arith)) (all k least (omega arith))

  pub later_follows : (n : ℕ) → AllMayFollow (0 ∷ 0 ∷ 0 ∷ xs) 3 (n + 3) → AllMayFollow xs 3 n
  later_follows n all k least most =
      let one : k + 1 + 3 ≡ k + 3 + 1 = omega arith in
      let two : k + 2 + 3 ≡ k + 3 + 2 = omega arith in
      rw (← at_byte k, ← at_byte (k + 1), ← at_byte (k + 2), ← at_byte (k + 3), one, two) (all (k + 3) (omega arith) (omega arith))

  -- text up to an offset at which a code begins
  pub text_to : (p end : ℕ) → p < end → end ≤ length xs → Begins xs p → AllMayFollow (0 ∷ 0 ∷ 0 ∷ xs) 3 (end + 3) → IsUtf8 (take p xs)
  text_to p end lt within begins all =
      let first : Follows 0 0 0 (get_or xs 0 0) = all 0 (omega arith) (omega arith) in
      let at : p + 3 ≡ suc (suc (suc p)) = omega arith in
      let there : Begins (0 ∷ 0 ∷ 0 ∷ xs) (p + 3) = rw (at_byte p) begins in
      let text : IsUtf8 (take (p + 3) (0 ∷ 0 ∷ 0 ∷ xs))
      = judged_text (0 ∷ 0 ∷ 0 ∷ xs) 3 (p + 3) (omega arith) (omega arith) (omega arith) (IsUtf8-from_ascii (0 ∷ 0 ∷ 0 ∷ []) (nuls_ascii 3)) (first_begins (get_or xs 0 0) first) there
      (λ k ge le. all k ge (omega arith)) in
      without_nuls 0 (take p xs) (rw at at text)
