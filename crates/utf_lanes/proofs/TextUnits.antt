-- The codes in UTF-16 of some text are the units of its offsets, in order.
use Rattle.std.proofs.Common.{◌≡◌, ℕ, zero, suc, ◌+◌, ◌-◌, ◌*◌, ◌/◌, ◌%◌, ◌<◌, ◌≤◌, Bool, true, false, cond, ltb, ◌⊎◌, List, [], ◌∷◌, ◌++◌, length, get_or, take, drop, replicate, flat_map, arith, refl, sym, ap, ap₂, ◌∙◌, inl, inr, append_assoc, length-append, ltb-true, ltb-false}
use Rattle.std.proofs.Math.Seq.{drop-append_seam}
use Rattle.std.proofs.lemmas.Bool.{cases_lt}
use Rattle.std.proofs.lemmas.Grind.{common_steps}
use Rattle.std.proofs.lemmas.List.{append-nil, drop-drop, get_or-append_right, get_or-drop, get_or-take, length-replicate}
use Rattle.std.specs.Prelude.{All}
use Rattle.utf_base.specs.Code.{utf8, utf16}
use Rattle.utf_base.specs.Scalar.{IsScalar}
use Rattle.utf_base.proofs.Utf8Code.{utf8-1, utf8-2, utf8-3, utf8-4}
use Rattle.utf_base.proofs.Utf16Code.{utf16-1, utf16-2}
use Rattle.utf_lanes.specs.BytePairs.{bytes_of}
use Rattle.utf_lanes.specs.UnitCodes.{Writes}
use Rattle.utf_lanes.specs.Utf8ToUtf16.{concat_range, utf16_bytes, utf16_bytes_at, ends_unit, halves, unit_low, unit_high}
use Rattle.utf_lanes.proofs.Joined.{joined_add, joined_moved, joined_same, joined_1, joined_2, joined_3, joined_4}

-- Offsets of a text, and of the bytes with NULs before them.

at_place : (high : Bool) (xs : List ℕ) (k : ℕ) → utf16_bytes_at high (0 ∷ 0 ∷ 0 ∷ xs) (3 + k) ≡ utf16_bytes_at high xs k
unfolding utf16_bytes_at
at_place high xs k =
    let a : 3 + k ≡ suc (suc (suc k)) = omega arith in
    let b : 3 + k + 1 ≡ suc (suc (suc (k + 1))) = omega arith in
    let c : 3 + k + 2 ≡ suc (suc (suc (k + 2))) = omega arith in
    let d : 3 + k + 3 ≡ suc (suc (suc (k + 3))) = omega arith in
    rw (b, c, d, a) refl

pub given_here : (high : Bool) (xs : List ℕ) (place s n : ℕ) → 3 ≤ place → concat_range (utf16_bytes_at high xs) (place - 3 + s) n ≡ utf16_bytes high xs (place + s) n
given_here high xs place s n start =
    joined_moved (utf16_bytes_at high xs) (utf16_bytes_at high (0 ∷ 0 ∷ 0 ∷ xs)) (place - 3 + s) (place + s) n
    (λ i lt. let at : 3 + (place - 3 + s + i) ≡ place + s + i = omega arith in sym (at_place high xs (place - 3 + s + i)) ∙ ap (utf16_bytes_at high (0 ∷ 0 ∷ 0 ∷ xs)) at)

same_at : (high : Bool) (front zs : List ℕ) (i : ℕ) → i < 16 → front ≡ take 19 zs → utf16_bytes_at high front i ≡ utf16_bytes_at high zs i
unfolding utf16_bytes_at
same_at high front zs i lt w =
    let a : get_or front i 0 ≡ get_or zs i 0 = ap (λ ys. get_or ys i 0) w ∙ get_or-take 19 zs i 0 (omega arith) in
    let b : get_or front (i + 1) 0 ≡ get_or zs (i + 1) 0 = ap (λ ys. get_or ys (i + 1) 0) w ∙ get_or-take 19 zs (i + 1) 0 (omega arith) in
    let c : get_or front (i + 2) 0 ≡ get_or zs (i + 2) 0 = ap (λ ys. get_or ys (i + 2) 0) w ∙ get_or-take 19 zs (i + 2) 0 (omega arith) in
    let d : get_or front (i + 3) 0 ≡ get_or zs (i + 3) 0 = ap (λ ys. get_or ys (i + 3) 0) w ∙ get_or-take 19 zs (i + 3) 0 (omega arith) in
    rw (a, b, c, d) refl

-- the first sixteen offsets
pub given_first : (high : Bool) (xs front : List ℕ) → front ≡ 0 ∷ 0 ∷ 0 ∷ take 16 xs → concat_range (utf16_bytes_at high front) 0 16 ≡ utf16_bytes high xs 0 16
given_first high xs front e = joined_same (utf16_bytes_at high front) (utf16_bytes_at high (0 ∷ 0 ∷ 0 ∷ xs)) 0 16 (λ i ge lt. same_at high front (0 ∷ 0 ∷ 0 ∷ xs) i (omega arith) e)

-- the last NULs before the text
nuls_before : (m : ℕ) (xs : List ℕ) → 0 ∷ 0 ∷ 0 ∷ (replicate m 0 ++ xs) ≡ replicate m 0 ++ (0 ∷ 0 ∷ 0 ∷ xs)
nuls_before zero xs = refl
nuls_before (suc m) xs = ap (λ ys. 0 ∷ ys) (nuls_before m xs)

moved_at : (high : Bool) (xs : List ℕ) (m k : ℕ) → utf16_bytes_at high (replicate m 0 ++ xs) (m + k) ≡ utf16_bytes_at high xs k
unfolding utf16_bytes_at
moved_at high xs m k =
    let nuls : List ℕ = replicate m 0 in
    let len : length nuls ≡ m = length-replicate m 0 in
    let at : (j : ℕ) → get_or (nuls ++ xs) (m + j) 0 ≡ get_or xs j 0 = λ j. let back : m + j - m ≡ j = omega arith in get_or-append_right nuls xs m (m + j) 0 len (omega arith) ∙ ap (λ n. get_or xs n 0) back in
    let b : m + k + 1 ≡ m + (k + 1) = omega arith in
    let c : m + k + 2 ≡ m + (k + 2) = omega arith in
    let d : m + k + 3 ≡ m + (k + 3) = omega arith in
    rw (b, c, d, at k, at (k + 1), at (k + 2), at (k + 3)) refl

pub given_few : (high : Bool) (xs here : List ℕ) (m : ℕ) → m + length xs ≡ 16 → here ≡ replicate m 0 ++ xs
    → concat_range (utf16_bytes_at high (0 ∷ 0 ∷ 0 ∷ here)) (3 - 3 + m) (16 - m) ≡ utf16_bytes high xs 0 (length xs)
given_few high xs here m whole e =
    let n : 16 - m ≡ length xs = omega arith in
    let start : 3 - 3 + m ≡ m = omega arith in
    rw (n, start, e, nuls_before m xs)
    (joined_moved (utf16_bytes_at high (replicate m 0 ++ (0 ∷ 0 ∷ 0 ∷ xs))) (utf16_bytes_at high (0 ∷ 0 ∷ 0 ∷ xs)) m 0 (length xs)
    (λ i lt. let at : 0 + i ≡ i = omega arith in rw at (moved_at high (0 ∷ 0 ∷ 0 ∷ xs) m i)))

pub given_nothing : (high : Bool) (xs old : List ℕ) (p : ℕ) → old ≡ old ++ utf16_bytes high xs p 0
unfolding concat_range
given_nothing high xs old p = sym (append-nil old)

-- the units of more offsets
pub given_more : (high : Bool) (xs old mid new : List ℕ) (p m q n t : ℕ) → mid ≡ old ++ utf16_bytes high xs p m → new ≡ mid ++ utf16_bytes high xs q n → p + m ≡ q → m + n ≡ t → new ≡ old ++ utf16_bytes high xs p t
given_more high xs old mid new p m q n t e f at sum =
    let whole = joined_add (utf16_bytes_at high (0 ∷ 0 ∷ 0 ∷ xs)) p m n in
    let next : utf16_bytes high xs (p + m) n ≡ utf16_bytes high xs q n = ap (λ j. utf16_bytes high xs j n) at in
    f ∙ ap (λ ys. ys ++ utf16_bytes high xs q n) e ∙ append_assoc old (utf16_bytes high xs p m) (utf16_bytes high xs q n)
    ∙ ap (λ ys. old ++ ys) (ap (λ ys. utf16_bytes high xs p m ++ ys) (sym next) ∙ sym whole ∙ ap (utf16_bytes high xs p) sum)

pub Writes-then : {old mid new first second all : List ℕ} {at middle end : ℕ} → Writes old mid at middle first → Writes mid new middle end second → first ++ second ≡ all → Writes old new at end all
Writes-then {old} {mid} {new} {first} {second} {all} {at} f g e = record {
  len = g.len ∙ f.len;
  front = g.front ∙ ap (λ ys. ys ++ second) f.front ∙ append_assoc (take at old) first second ∙ ap (λ ys. take at old ++ ys) e;
}

-- One code.

-- the bytes before a code ask for no more
record Closed (xs : List ℕ) (k : ℕ) : Type 0 where
  third : get_or xs k 0 < 0xF0
  second : get_or xs (k + 1) 0 < 0xE0
  first : get_or xs (k + 2) 0 < 0xC0

-- The unit of the byte d after a, b and c.
abbrev here : Bool → ℕ → ℕ → ℕ → ℕ → List ℕ
here high a b c d = cond (ends_unit c d) (halves high (unit_low b c d) (unit_high a b c d)) []

gives_none : (high : Bool) (a b c d : ℕ) → (0xC0 ≤ d) ⊎ (0xE0 ≤ c) → here high a b c d ≡ []
gives_none high a b c d h = rw (closes c d h) refl
  where
    closes : (c d : ℕ) → (0xC0 ≤ d) ⊎ (0xE0 ≤ c) → ends_unit c d ≡ false
    closes c d (inl ge) = grind (arith, common_steps)
    closes c d (inr ge) = grind (arith, common_steps)

gives_unit : (high : Bool) (a b c d u : ℕ) → d < 0xC0 → c < 0xE0 → unit_low b c d ≡ u % 256 → unit_high a b c d ≡ u / 256 → here high a b c d ≡ bytes_of high u
gives_unit high a b c d u lt below e f = rw (opens c d lt below, e, f) (either high)
  where
    opens : (c d : ℕ) → d < 0xC0 → c < 0xE0 → ends_unit c d ≡ true
    opens c d lt below = grind (arith, common_steps)

    either : (high : Bool) → halves high (u % 256) (u / 256) ≡ bytes_of high u
    either true = refl
    either false = refl

-- Halves of the units, by the length of the code.

low_1 : (b c d : ℕ) → b < 0xF0 → d < 0x80 → unit_low b c d ≡ d % 256
low_1 b c d x y = grind (arith, common_steps)

high_1 : (a b c d : ℕ) → a < 0xF0 → b < 0xE0 → d < 0x80 → unit_high a b c d ≡ d / 256
high_1 a b c d x y z = grind (arith, common_steps)

low_more : (b c d : ℕ) → b < 0xF0 → 0x80 ≤ d → unit_low b c d ≡ (d % 128 + c * 64 % 256) % 256
low_more b c d x y = grind (arith, common_steps)

high_more : (a b c d : ℕ) → a < 0xF0 → b < 0xF0 → 0x80 ≤ d → unit_high a b c d ≡ (c / 4 % 16 + (b - 0xE0) * 16 % 256) % 256
high_more a b c d x y z = grind (arith, common_steps)

low_leading : (b c d : ℕ) → 0xF0 ≤ b → unit_low b c d ≡ (c % 64 * 4 + d % 64 / 16 + 0xC0) % 256
low_leading b c d x = grind (arith, common_steps)

high_leading : (a b c d : ℕ) → 0xF0 ≤ b → unit_high a b c d ≡ b % 8 + cond (ltb ((c % 64 * 4 + d % 64 / 16 + 0xC0) % 256) 0xC0) 0xD8 0xD7
high_leading a b c d x = grind (arith, common_steps)

high_trailing : (a b c d : ℕ) → 0xF0 ≤ a → b < 0xF0 → unit_high a b c d ≡ 0xDC + c / 4 % 4
high_trailing a b c d x y = grind (arith, common_steps)

two_low : (s : ℕ) → s < 0x800 → ((0x80 + s % 64) % 128 + (0xC0 + s / 64) * 64 % 256) % 256 ≡ s % 256
two_low s h = omega arith

two_high : (b s : ℕ) → b < 0xE0 → s < 0x800 → ((0xC0 + s / 64) / 4 % 16 + (b - 0xE0) * 16 % 256) % 256 ≡ s / 256
two_high b s l h = omega arith

three_low : (s : ℕ) → s < 0x1_0000 → ((0x80 + s % 64) % 128 + (0x80 + s / 64 % 64) * 64 % 256) % 256 ≡ s % 256
three_low s h = omega arith

three_high : (s : ℕ) → s < 0x1_0000 → ((0x80 + s / 64 % 64) / 4 % 16 + (0xE0 + s / 4096 - 0xE0) * 16 % 256) % 256 ≡ s / 256
three_high s h = omega arith

abbrev leading : ℕ → ℕ
leading s = 0xD800 + (s - 0x1_0000) / 1024

abbrev trailing : ℕ → ℕ
trailing s = 0xDC00 + (s - 0x1_0000) % 1024

leading_low_is : (s : ℕ) → 0x1_0000 ≤ s → s < 0x11_0000 → ((0x80 + s / 4096 % 64) % 64 * 4 + (0x80 + s / 64 % 64) % 64 / 16 + 0xC0) % 256 ≡ leading s % 256
leading_low_is s h k = omega arith

leading_high_is : (s : ℕ) → 0x1_0000 ≤ s → s < 0x11_0000
    → (0xF0 + s / 262144) % 8 + cond (ltb (((0x80 + s / 4096 % 64) % 64 * 4 + (0x80 + s / 64 % 64) % 64 / 16 + 0xC0) % 256) 0xC0) 0xD8 0xD7 ≡ leading s / 256
leading_high_is s h k = rw (leading_low_is s h k) (either (ltb (leading s % 256) 0xC0) refl)
  where
    either : (t : Bool) → ltb (leading s % 256) 0xC0 ≡ t → (0xF0 + s / 262144) % 8 + cond t 0xD8 0xD7 ≡ leading s / 256
    either true e = let below = ltb-true (leading s % 256) 0xC0 e in omega arith
    either false e = let above = ltb-false (leading s % 256) 0xC0 e in omega arith

trailing_low_is : (s : ℕ) → 0x1_0000 ≤ s → ((0x80 + s % 64) % 128 + (0x80 + s / 64 % 64) * 64 % 256) % 256 ≡ trailing s % 256
trailing_low_is s h = omega arith

trailing_high_is : (s : ℕ) → 0x1_0000 ≤ s → 0xDC + (0x80 + s / 64 % 64) / 4 % 4 ≡ trailing s / 256
trailing_high_is s h = omega arith

-- The bytes of one code that begins at the offset k + 3 of some bytes.
module _ (high : Bool) (xs rest : List ℕ) (k s : ℕ) (scalar : IsScalar s) (before : Closed xs k) (code : drop (k + 3) xs ≡ utf8 s ++ rest) where
  place_gives : (m a b c d : ℕ) → get_or xs m 0 ≡ a → get_or xs (m + 1) 0 ≡ b → get_or xs (m + 2) 0 ≡ c → get_or xs (m + 3) 0 ≡ d → utf16_bytes_at high xs m ≡ here high a b c d
  unfolding utf16_bytes_at
  place_gives m a b c d e f g h = rw (e, f, g, h) refl

  byte : (w : List ℕ) (j m : ℕ) → utf8 s ++ rest ≡ w → k + 3 + j ≡ m → get_or xs m 0 ≡ get_or w j 0
  byte w j m e at = ap (λ n. get_or xs n 0) (sym at) ∙ sym (get_or-drop (k + 3) xs j 0) ∙ ap (λ ys. get_or ys j 0) (code ∙ e)

  old : (m n : ℕ) → m ≡ n → get_or xs m 0 ≡ get_or xs n 0
  old m n e = ap (λ i. get_or xs i 0) e

  -- The offsets of the code, one by one.

  gives_at_0 : (w : List ℕ) → utf8 s ++ rest ≡ w → utf16_bytes_at high xs k ≡ here high (get_or xs k 0) (get_or xs (k + 1) 0) (get_or xs (k + 2) 0) (get_or w 0 0)
  gives_at_0 w e = place_gives k _ _ _ _ refl refl refl (byte w 0 (k + 3) e (omega arith))

  gives_at_1 : (w : List ℕ) → utf8 s ++ rest ≡ w → utf16_bytes_at high xs (k + 1) ≡ here high (get_or xs (k + 1) 0) (get_or xs (k + 2) 0) (get_or w 0 0) (get_or w 1 0)
  gives_at_1 w e = place_gives (k + 1) _ _ _ _ refl (old (k + 1 + 1) (k + 2) (omega arith)) (byte w 0 (k + 1 + 2) e (omega arith)) (byte w 1 (k + 1 + 3) e (omega arith))

  gives_at_2 : (w : List ℕ) → utf8 s ++ rest ≡ w → utf16_bytes_at high xs (k + 2) ≡ here high (get_or xs (k + 2) 0) (get_or w 0 0) (get_or w 1 0) (get_or w 2 0)
  gives_at_2 w e = place_gives (k + 2) _ _ _ _ refl (byte w 0 (k + 2 + 1) e (omega arith)) (byte w 1 (k + 2 + 2) e (omega arith)) (byte w 2 (k + 2 + 3) e (omega arith))

  gives_at_3 : (w : List ℕ) → utf8 s ++ rest ≡ w → utf16_bytes_at high xs (k + 3) ≡ here high (get_or w 0 0) (get_or w 1 0) (get_or w 2 0) (get_or w 3 0)
  gives_at_3 w e = place_gives (k + 3) _ _ _ _ (byte w 0 (k + 3) e (omega arith)) (byte w 1 (k + 3 + 1) e (omega arith)) (byte w 2 (k + 3 + 2) e (omega arith)) (byte w 3 (k + 3 + 3) e (omega arith))

  -- The offsets of the code give its units, and then the bytes before the next ask for no more.
  record CodeGiven (ws : List ℕ) : Type 0 where
    units : concat_range (utf16_bytes_at high xs) k (length ws) ≡ flat_map (bytes_of high) (utf16 s)
    after : Closed xs (k + length ws)

  one : s < 0x80 → CodeGiven (utf8 s)
  one h =
      let e = utf8-1 s h in
      let w = s ∷ rest in
      let is : utf8 s ++ rest ≡ w = ap (λ ys. ys ++ rest) e in
      let a = before.third in
      let b = before.second in
      let unit = gives_unit high (get_or xs k 0) (get_or xs (k + 1) 0) (get_or xs (k + 2) 0) s s (omega arith) (omega arith) (low_1 _ _ s (omega arith) h) (high_1 _ _ _ s a b h) in
      let last : get_or xs (k + 3) 0 ≡ s = byte w 0 (k + 3) is (omega arith) in
      let p : get_or xs (k + 1 + 1) 0 ≡ get_or xs (k + 2) 0 = old (k + 1 + 1) (k + 2) (omega arith) in
      let q : get_or xs (k + 1 + 2) 0 ≡ s = old (k + 1 + 2) (k + 3) (omega arith) ∙ last in
      rw e (record {
        units = rw (utf16-1 s (omega arith)) (joined_1 (utf16_bytes_at high xs) k ∙ gives_at_0 w is ∙ unit ∙ sym (append-nil (bytes_of high s)));
        after = record { third = omega arith; second = omega (arith, p); first = omega (arith, q) };
      })

  two : 0x80 ≤ s → s < 0x800 → CodeGiven (utf8 s)
  two g h =
      let e = utf8-2 s g h in
      let w0 = 0xC0 + s / 64 in
      let w1 = 0x80 + s % 64 in
      let w = w0 ∷ w1 ∷ rest in
      let is : utf8 s ++ rest ≡ w = ap (λ ys. ys ++ rest) e in
      let b1 = get_or xs (k + 1) 0 in
      let c1 = get_or xs (k + 2) 0 in
      let none = gives_at_0 w is ∙ gives_none high (get_or xs k 0) b1 c1 w0 (inl (omega arith)) in
      let unit = gives_at_1 w is ∙ gives_unit high b1 c1 w0 w1 s (omega arith) (omega arith)
      (low_more c1 w0 w1 (omega arith) (omega arith) ∙ two_low s h) (high_more b1 c1 w0 w1 (omega arith) (omega arith) (omega arith) ∙ two_high c1 s (omega arith) h) in
      let p : get_or xs (k + 2 + 1) 0 ≡ w0 = byte w 0 (k + 2 + 1) is (omega arith) in
      let q : get_or xs (k + 2 + 2) 0 ≡ w1 = byte w 1 (k + 2 + 2) is (omega arith) in
      rw e (record {
        units = rw (utf16-1 s (omega arith)) (joined_2 (utf16_bytes_at high xs) k ∙ ap₂ (λ ys zs. ys ++ zs) none unit ∙ sym (append-nil (bytes_of high s)));
        after = record { third = omega arith; second = omega (arith, p); first = omega (arith, q) };
      })

  three : 0x800 ≤ s → s < 0x1_0000 → CodeGiven (utf8 s)
  three g h =
      let e = utf8-3 s g h in
      let w0 = 0xE0 + s / 4096 in
      let w1 = 0x80 + s / 64 % 64 in
      let w2 = 0x80 + s % 64 in
      let w = w0 ∷ w1 ∷ w2 ∷ rest in
      let is : utf8 s ++ rest ≡ w = ap (λ ys. ys ++ rest) e in
      let b1 = get_or xs (k + 1) 0 in
      let c1 = get_or xs (k + 2) 0 in
      let none = gives_at_0 w is ∙ gives_none high (get_or xs k 0) b1 c1 w0 (inl (omega arith)) in
      let second = gives_at_1 w is ∙ gives_none high b1 c1 w0 w1 (inr (omega arith)) in
      let unit = gives_at_2 w is ∙ gives_unit high c1 w0 w1 w2 s (omega arith) (omega arith)
      (low_more w0 w1 w2 (omega arith) (omega arith) ∙ three_low s h) (high_more c1 w0 w1 w2 (omega arith) (omega arith) (omega arith) ∙ three_high s h) in
      let o : get_or xs (k + 3) 0 ≡ w0 = byte w 0 (k + 3) is (omega arith) in
      let p : get_or xs (k + 3 + 1) 0 ≡ w1 = byte w 1 (k + 3 + 1) is (omega arith) in
      let q : get_or xs (k + 3 + 2) 0 ≡ w2 = byte w 2 (k + 3 + 2) is (omega arith) in
      rw e (record {
        units = rw (utf16-1 s h) (joined_3 (utf16_bytes_at high xs) k ∙ ap₂ (λ ys zs. ys ++ zs) none (ap₂ (λ ys zs. ys ++ zs) second unit) ∙ sym (append-nil (bytes_of high s)));
        after = record { third = omega (arith, o); second = omega (arith, p); first = omega (arith, q) };
      })

  four : 0x1_0000 ≤ s → CodeGiven (utf8 s)
  four g =
      let below = scalar.below in
      let e = utf8-4 s g in
      let w0 = 0xF0 + s / 262144 in
      let w1 = 0x80 + s / 4096 % 64 in
      let w2 = 0x80 + s / 64 % 64 in
      let w3 = 0x80 + s % 64 in
      let w = w0 ∷ w1 ∷ w2 ∷ w3 ∷ rest in
      let is : utf8 s ++ rest ≡ w = ap (λ ys. ys ++ rest) e in
      let b1 = get_or xs (k + 1) 0 in
      let c1 = get_or xs (k + 2) 0 in
      let none = gives_at_0 w is ∙ gives_none high (get_or xs k 0) b1 c1 w0 (inl (omega arith)) in
      let second = gives_at_1 w is ∙ gives_none high b1 c1 w0 w1 (inr (omega arith)) in
      let first_unit = gives_at_2 w is ∙ gives_unit high c1 w0 w1 w2 (leading s) (omega arith) (omega arith)
      (low_leading w0 w1 w2 (omega arith) ∙ leading_low_is s g below) (high_leading c1 w0 w1 w2 (omega arith) ∙ leading_high_is s g below) in
      let last_unit = gives_at_3 w is ∙ gives_unit high w0 w1 w2 w3 (trailing s) (omega arith) (omega arith)
      (low_more w1 w2 w3 (omega arith) (omega arith) ∙ trailing_low_is s g) (high_trailing w0 w1 w2 w3 (omega arith) (omega arith) ∙ trailing_high_is s g) in
      let o : get_or xs (k + 4) 0 ≡ w1 = byte w 1 (k + 4) is (omega arith) in
      let p : get_or xs (k + 4 + 1) 0 ≡ w2 = byte w 2 (k + 4 + 1) is (omega arith) in
      let q : get_or xs (k + 4 + 2) 0 ≡ w3 = byte w 3 (k + 4 + 2) is (omega arith) in
      rw e (record {
        units = rw (utf16-2 s g)
            (joined_4 (utf16_bytes_at high xs) k ∙ ap₂ (λ ys zs. ys ++ zs) none (ap₂ (λ ys zs. ys ++ zs) second (ap₂ (λ ys zs. ys ++ zs) first_unit (last_unit ∙ sym (append-nil (bytes_of high (trailing s)))))));
        after = record { third = omega (arith, o); second = omega (arith, p); first = omega (arith, q) };
      })

  code_given : CodeGiven (utf8 s)
  code_given =
      elim (cases_lt s 0x80) [
        | inl small ↦ one small
        | inr g ↦ elim (cases_lt s 0x800) [
          | inl h ↦ two g h
          | inr i ↦ elim (cases_lt s 0x1_0000) [ inl j ↦ three i j | inr j ↦ four j ]
        ]
      ]

-- All codes of a text.

codes_given : (high : Bool) (xs cs rest : List ℕ) (k : ℕ) → All IsScalar cs → Closed xs k → drop (k + 3) xs ≡ flat_map utf8 cs ++ rest
    → concat_range (utf16_bytes_at high xs) k (length (flat_map utf8 cs)) ≡ flat_map (λ s. flat_map (bytes_of high) (utf16 s)) cs
unfolding concat_range
codes_given high xs [] rest k all before e = refl
codes_given high xs (s ∷ cs) rest k all before e =
    let more = flat_map utf8 cs in
    let n = length (utf8 s) in
    let whole : drop (k + 3) xs ≡ utf8 s ++ (more ++ rest) = e ∙ append_assoc (utf8 s) more rest in
    let first = code_given high xs (more ++ rest) k s (all 0 s (omega arith)) before whole in
    let at : k + 3 + n ≡ k + n + 3 = omega arith in
    let left : drop (k + n + 3) xs ≡ more ++ rest = ap (λ j. drop j xs) (sym at) ∙ sym (drop-drop n (k + 3) xs) ∙ ap (drop n) whole ∙ drop-append_seam (utf8 s) (more ++ rest) in
    ap (concat_range (utf16_bytes_at high xs) k) (length-append (utf8 s) more) ∙ joined_add (utf16_bytes_at high xs) k n (length more)
    ∙ ap₂ (λ ys zs. ys ++ zs) first.units (codes_given high xs cs rest (k + n) (λ j d lt. all (suc j) d (omega arith)) first.after left)

pub text_given : (high : Bool) (cs : List ℕ) → All IsScalar cs → utf16_bytes high (flat_map utf8 cs) 0 (length (flat_map utf8 cs)) ≡ flat_map (λ s. flat_map (bytes_of high) (utf16 s)) cs
text_given high cs all =
    codes_given high (0 ∷ 0 ∷ 0 ∷ flat_map utf8 cs) cs [] 0 all (record { third = omega arith; second = omega arith; first = omega arith }) (sym (append-nil (flat_map utf8 cs)))
