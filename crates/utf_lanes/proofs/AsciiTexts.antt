-- Texts of only ASCII, by their lanes; and as units: each byte and a NUL.
use Rattle.std.proofs.Common.{◌≡◌, ℕ, zero, suc, ◌+◌, ◌-◌, ◌<◌, ◌≤◌, List, [], ◌∷◌, length, get_or, arith, lit<, IsUtf8, Bool, true, false, ◌++◌, map, replicate, refl, sym, ap, ap₂, ◌∙◌, inl, inr}
use Rattle.std.proofs.lemmas.Simd.{get_or-chunk, length-chunk, get_or-replicate}
use Rattle.std.proofs.lemmas.Str.{IsUtf8-from_ascii}
use lib.Lanes.{chunk}
use Rattle.utf_lanes.specs.AsciiTexts.{AreAscii}
use Rattle.utf_lanes.proofs.LaneLemmas.{reach_mask, none_reach, reach_none}
use Rattle.std.proofs.lemmas.Bool.{cases_lt}
use Rattle.std.proofs.lemmas.Grind.{common_steps}
use Rattle.std.proofs.lemmas.List.{get_or_append_left, get_or-append_right, length-replicate}
use Rattle.utf_lanes.specs.TextBlocks.{EndsCharacter}
use Rattle.utf_lanes.specs.Utf8ToUtf16.{concat_range, utf16_bytes, utf16_bytes_at, ends_unit, halves, halves_at, unit_low, unit_high}
use Rattle.utf_lanes.proofs.Joined.{joined_same, joined_moved}
use Rattle.utf_lanes.proofs.TextUnits.{given_here}

pub ascii_lanes : (bytes : List ℕ) (place : ℕ) → place + 16 ≤ length bytes → reach_mask 16 0x80 (chunk place 16 bytes) ≡ 0 → AreAscii bytes place (place + 16)
ascii_lanes bytes place within none k ge lt =
    let at : place + (k - place) ≡ k = omega arith in
    rw (get_or-chunk place 16 bytes (k - place) 0 (omega arith), at) at (none_reach 0x80 (chunk place 16 bytes) (lit< tt) (length-chunk place 16 bytes within) none (k - place) (omega arith))

pub lanes_ascii : (bytes : List ℕ) (place : ℕ) → place + 16 ≤ length bytes → AreAscii bytes place (place + 16) → reach_mask 16 0x80 (chunk place 16 bytes) ≡ 0
lanes_ascii bytes place within ascii =
    reach_none 0x80 (chunk place 16 bytes) (lit< tt) (length-chunk place 16 bytes within) (λ k lt. rw (get_or-chunk place 16 bytes k 0 lt) (ascii (place + k) (omega arith) (omega arith)))

-- ASCII is text
pub ascii_text : (xs : List ℕ) → AreAscii xs 0 (length xs) → IsUtf8 xs
ascii_text xs low = IsUtf8-from_ascii xs (λ i. each xs low i)
  where
    each : (xs : List ℕ) → AreAscii xs 0 (length xs) → (i : ℕ) → get_or xs i 0 < 128
    each [] low i = lit< tt
    each (x ∷ xs) low zero = low 0 (omega arith) (omega arith)
    each (x ∷ xs) low (suc i) = each xs (λ k ge lt. low (suc k) (omega arith) (omega arith)) i

-- The offsets of two vectors of d lanes, side by side.
abbrev side_places : ℕ → ℕ → ℕ → List ℕ
side_places d p zero = []
side_places d p (suc n) = p ∷ (p + d) ∷ side_places d (suc p) n

beside : (ys : List ℕ) (d p n : ℕ) → map (λ k. get_or ys k 0) (side_places d p n) ≡ concat_range (λ k. get_or ys k 0 ∷ get_or ys (k + d) 0 ∷ []) p n
unfolding concat_range
beside ys d p zero = refl
beside ys d p (suc n) = ap (λ zs. get_or ys p 0 ∷ get_or ys (p + d) 0 ∷ zs) (beside ys d (suc p) n)

-- two vectors interleaved: the lane of one, and that of the other
pub interleaved_lanes : {d : ℕ} (xs ys : List ℕ) → length xs ≡ d → length ys ≡ d → (p n : ℕ) → p + n ≤ d
    → map (λ k. get_or (xs ++ ys) k 0) (side_places d p n) ≡ concat_range (λ k. get_or xs k 0 ∷ get_or ys k 0 ∷ []) p n
interleaved_lanes {d} xs ys long wide p n within = beside (xs ++ ys) d p n ∙ joined_same _ _ p n (λ k ge lt. both k (omega arith))
  where
    both : (k : ℕ) → k < d → get_or (xs ++ ys) k 0 ∷ get_or (xs ++ ys) (k + d) 0 ∷ [] ≡ get_or xs k 0 ∷ get_or ys k 0 ∷ []
    both k lt =
        let back : k + d - d ≡ k = omega arith in
        ap₂ (λ x y. x ∷ y ∷ []) (get_or_append_left xs ys 0 k (omega (arith, long))) (get_or-append_right xs ys d (k + d) 0 long (omega arith) ∙ ap (λ j. get_or ys j 0) back)

module _ (d : ℕ) (xs : List ℕ) (long : length xs ≡ d) where
  abbrev nuls : List ℕ
  nuls = replicate d 0

  pub nuls_second : (p n : ℕ) → p + n ≤ d → map (λ k. get_or (xs ++ nuls) k 0) (side_places d p n) ≡ concat_range (λ k. halves false (get_or xs k 0) 0) p n
  nuls_second p n within =
      interleaved_lanes xs nuls long (length-replicate d 0) p n within ∙ joined_same _ _ p n (λ k ge lt. ap (λ y. get_or xs k 0 ∷ y ∷ []) (get_or-replicate d k 0 0 (omega arith)))

  pub nuls_first : (p n : ℕ) → p + n ≤ d → map (λ k. get_or (nuls ++ xs) k 0) (side_places d p n) ≡ concat_range (λ k. halves true (get_or xs k 0) 0) p n
  nuls_first p n within =
      interleaved_lanes nuls xs (length-replicate d 0) long p n within ∙ joined_same _ _ p n (λ k ge lt. ap (λ x. x ∷ get_or xs k 0 ∷ []) (get_or-replicate d k 0 0 (omega arith)))

-- beside NULs
pub nuls_beside : (high : Bool) (xs : List ℕ) (p n : ℕ) → p + n ≤ 64 → concat_range (halves_at high xs (replicate 64 0)) p n ≡ concat_range (λ k. halves high (get_or xs k 0) 0) p n
nuls_beside high xs p n within = joined_same _ _ p n (λ k ge lt. ap (halves high (get_or xs k 0)) (get_or-replicate {A = ℕ} 64 k 0 0 (omega arith)))

-- the unit of an ASCII byte after bytes that ask for no more
one_given : (high : Bool) (xs : List ℕ) (k : ℕ) → get_or xs k 0 < 0xF0 → get_or xs (k + 1) 0 < 0xE0 → get_or xs (k + 2) 0 < 0xC0 → get_or xs (k + 3) 0 < 0x80
    → utf16_bytes_at high xs k ≡ halves high (get_or xs (k + 3) 0) 0
unfolding utf16_bytes_at
one_given high xs k a b c d = rw (opens _ _ d c, low _ _ _ b d, upper _ _ _ _ a b d) refl
  where
    opens : (c d : ℕ) → d < 0x80 → c < 0xC0 → ends_unit c d ≡ true
    opens c d x y = grind (arith, common_steps)

    low : (b c d : ℕ) → b < 0xE0 → d < 0x80 → unit_low b c d ≡ d
    low b c d x y = grind (arith, common_steps)

    upper : (a b c d : ℕ) → a < 0xF0 → b < 0xE0 → d < 0x80 → unit_high a b c d ≡ 0
    upper a b c d x y z = grind (arith, common_steps)

-- the units of a text of ASCII
pub ascii_units_given : (high : Bool) (text : List ℕ) → ((k : ℕ) → k < length text → get_or text k 0 < 0x80)
    → concat_range (λ k. halves high (get_or text k 0) 0) 0 (length text) ≡ utf16_bytes high text 0 (length text)
ascii_units_given high text low =
    joined_same _ _ 0 (length text) (λ k ge lt.
    let n : length text ≡ 0 + length text = omega arith in
    let here : k < length text = omega arith in
    let next : k + 3 ≡ suc (suc (suc k)) = omega arith in
    let third = padded k (omega arith) in
    let second = padded (k + 1) (omega arith) in
    let first = padded (k + 2) (omega arith) in
    let own = padded (k + 3) (omega arith) in
    let same : get_or (0 ∷ 0 ∷ 0 ∷ text) (k + 3) 0 ≡ get_or text k 0 = rw next refl in
    sym (one_given high (0 ∷ 0 ∷ 0 ∷ text) k (omega arith) (omega arith) (omega arith) own ∙ ap (λ b. halves high b 0) same))
  where
    padded : (k : ℕ) → k < length text + 3 → get_or (0 ∷ 0 ∷ 0 ∷ text) k 0 < 0x80
    padded zero lt = omega arith
    padded (suc zero) lt = omega arith
    padded (suc (suc zero)) lt = omega arith
    padded (suc (suc (suc k))) lt = low k (omega arith)

pub ascii_given : (high : Bool) (text : List ℕ) (place i n : ℕ) → 3 ≤ place → i + n ≤ 64 → EndsCharacter text place → ((k : ℕ) → k < 64 → get_or text (place + k) 0 < 0x80)
    → concat_range (λ k. halves high (get_or (chunk place 64 text) k 0) 0) i n ≡ utf16_bytes high text (place + i) n
ascii_given high text place i n start within closed low =
    joined_moved _ (utf16_bytes_at high text) i (place - 3 + i) n (λ k lt.
    let before = closed (place - 3) (omega arith) in
    let ends : (j : ℕ) → place ≤ j + 1 → j < place + 64 → get_or text j 0 < 0xC0
    = λ j ge more. elim (cases_lt j place) [
      | inl less ↦ (let e : place - 3 + 2 ≡ j = omega arith in rw e at before.2)
      | inr here ↦ (let e : place + (j - place) ≡ j = omega arith in let g = rw e at (low (j - place) (omega arith)) in omega arith)
    ] in
    let second : (j : ℕ) → place ≤ j + 2 → j < place + 64 → get_or text j 0 < 0xE0
    = λ j ge more. elim (cases_lt (j + 1) place) [
      | inl less ↦ (let e : place - 3 + 1 ≡ j = omega arith in rw e at before.1)
      | inr here ↦ (let g = ends j here more in omega arith)
    ] in
    let third : (j : ℕ) → place ≤ j + 3 → j < place + 64 → get_or text j 0 < 0xF0
    = λ j ge more. elim (cases_lt (j + 2) place) [
      | inl less ↦ (let e : place - 3 ≡ j = omega arith in rw e at before.0)
      | inr here ↦ (let g = second j here more in omega arith)
    ] in
    let at : place - 3 + i + k + 3 ≡ place + (i + k) = omega arith in
    let byte : get_or text (place - 3 + i + k + 3) 0 < 0x80 = rw at (low (i + k) (omega arith)) in
    let loaded : get_or (chunk place 64 text) (i + k) 0 ≡ get_or text (place - 3 + i + k + 3) 0 = get_or-chunk place 64 text (i + k) 0 (omega arith) ∙ ap (λ j. get_or text j 0) (sym at) in
    ap (λ d. halves high d 0) loaded
    ∙ sym (one_given high text (place - 3 + i + k) (third (place - 3 + i + k) (omega arith) (omega arith)) (second (place - 3 + i + k + 1) (omega arith) (omega arith)) (ends (place - 3 + i + k + 2) (omega arith) (omega arith)) byte))
    ∙ given_here high text place i n start
