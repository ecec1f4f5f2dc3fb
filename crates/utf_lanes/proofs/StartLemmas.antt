-- Bytes that begin a code, counted with SIMD, block by block.
use Rattle.std.proofs.Common.{◌≡◌, ℕ, suc, ◌+◌, ◌-◌, ◌%◌, ◌^◌, ◌<◌, ◌≤◌, true, cond, leb, List, [], ◌∷◌, ◌++◌, map, length, get_or, take, drop, replicate, count_ones, refl, ap, ap₂, sym, ◌∙◌, inl, inr, arith, w8, Fits, le-leb, lt-ltb, le-ltb}
use Rattle.std.proofs.lemmas.Bool.{cases_lt, lt-leb}
use Rattle.std.proofs.Math.Seq.{take-add}
use Rattle.std.proofs.lemmas.List.{drop-drop, take-append-drop}
use Rattle.std.proofs.lemmas.List.Sums.{sum_by-append, sum_by-cons}
use Rattle.std.proofs.lemmas.Simd.{chunk-fits, length-chunk, zip2_splat, map-map, ones-mask_l}
use Rattle.std.specs.Prelude.{slice_range}
use lib.Lanes.{Each1, chunk, mask_l, zip2}
use Rattle.utf_lanes.specs.AsciiTexts.{AreAscii}
use Rattle.utf_lanes.specs.Starts.{is_start, start_count}
use Rattle.utf_lanes.proofs.LaneLemmas.{reach_mask, reach_mask_is, wide_with}

-- the byte plus 0x80, modulo 256
abbrev pub moved_up : ℕ → ℕ → ℕ
moved_up a b = (a + b) % 2 ^ 8

-- a byte is a continuation byte if and only if that is below 0x40
start_told : (b : ℕ) → b < 256 → leb 0x40 (moved_up b 0x80) ≡ is_start b
start_told b lt = elim (cases_lt b 0x80) [
  | inl low ↦ rw (lt-leb 0x80 b low) (le-leb 0x40 (moved_up b 0x80) (omega arith))
  | inr high ↦ elim (cases_lt b 0xC0) [
    | inl within ↦ rw (le-leb 0x80 b high, lt-ltb b 0xC0 within) (lt-leb 0x40 (moved_up b 0x80) (omega arith))
    | inr above ↦ rw (le-leb 0x80 b high, le-ltb b 0xC0 above) (le-leb 0x40 (moved_up b 0x80) (omega arith))
  ]
]

starts_told : (xs : List ℕ) → Each1 (Fits w8) xs → map (λ b. leb 0x40 (moved_up b 0x80)) xs ≡ map is_start xs
starts_told [] fits = refl
starts_told (x ∷ xs) fits = ap₂ (λ b bs. b ∷ bs) (start_told x fits.0.fits) (starts_told xs fits.1)

pub lanes_counted : (n : ℕ) → n ≤ 64 → (xs : List ℕ) (place : ℕ) → place + n ≤ length xs → ((k : ℕ) → Fits w8 (get_or xs k 0))
    → count_ones (reach_mask n 0x40 (zip2 moved_up (chunk place n xs) (replicate n 0x80))) ≡ start_count (slice_range xs place (place + n))
lanes_counted n few xs place within fits =
    let v = chunk place n xs in
    let long : length v ≡ n = length-chunk place n xs within in
    let moved : zip2 moved_up v (replicate n 0x80) ≡ map (λ b. moved_up b 0x80) v = zip2_splat moved_up v n 0x80 long in
    let mask = reach_mask_is 0x40 (zip2 moved_up v (replicate n 0x80)) few (wide_with moved_up v 0x80 long) in
    let tests : map (leb 0x40) (map (λ b. moved_up b 0x80) v) ≡ map is_start v = map-map (leb 0x40) (λ b. moved_up b 0x80) v ∙ starts_told v (chunk-fits w8 place n xs fits) in
    let here : place + n - place ≡ n = omega arith in
    ap count_ones (mask ∙ ap (λ ys. mask_l (map (leb 0x40) ys)) moved ∙ ap mask_l tests) ∙ ones-mask_l is_start v ∙ ap (λ m. start_count (take m (drop place xs))) (sym here)

-- one part after another
pub starts_on : (xs : List ℕ) (i n m : ℕ) → start_count (slice_range xs i (i + n + m)) ≡ start_count (slice_range xs i (i + n)) + start_count (slice_range xs (i + n) (i + n + m))
starts_on xs i n m =
    let first : i + n - i ≡ n = omega arith in
    let both : i + n + m - i ≡ n + m = omega arith in
    let second : i + n + m - (i + n) ≡ m = omega arith in
    rw (first, both, second) (ap start_count (take-add n m (drop i xs) ∙ ap (λ ys. take n (drop i xs) ++ take m ys) (drop-drop n i xs))
    ∙ sum_by-append (λ b. cond (is_start b) 1 0) (take n (drop i xs)) (take m (drop (i + n) xs)))

pub starts_more : (xs : List ℕ) (p n : ℕ) → start_count (take (p + n) xs) ≡ start_count (take p xs) + start_count (slice_range xs p (p + n))
starts_more xs p n =
    let here : p + n - p ≡ n = omega arith in
    rw here (ap start_count (take-add p n xs) ∙ sum_by-append (λ b. cond (is_start b) 1 0) (take p xs) (take n (drop p xs)))

-- the count of the whole is the count before an offset plus the count from it on
pub starts_all : (xs : List ℕ) (p : ℕ) → start_count xs ≡ start_count (take p xs) + start_count (drop p xs)
starts_all xs p = ap start_count (sym (take-append-drop p xs)) ∙ sum_by-append (λ b. cond (is_start b) 1 0) (take p xs) (drop p xs)

-- all bytes of ASCII begin a code
pub ascii_starts : (xs : List ℕ) → AreAscii xs 0 (length xs) → start_count xs ≡ length xs
ascii_starts [] low = refl
ascii_starts (x ∷ xs) low =
    let sum = sum_by-cons (λ b. cond (is_start b) 1 0) x xs in
    let one : cond {A = ℕ} (is_start x) 1 0 ≡ 1 = ap (λ b. cond {A = ℕ} b 1 0) (low_starts x (low 0 (omega arith) (omega arith))) in
    let rest = ascii_starts xs (λ k ge lt. low (suc k) (omega arith) (omega arith)) in
    omega arith
  where
    low_starts : (b : ℕ) → b < 0x80 → is_start b ≡ true
    low_starts b lt = rw (lt-leb 0x80 b lt) refl
