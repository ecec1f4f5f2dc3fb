-- Counts with those of some windows added.
use Rattle.std.proofs.Common.{◌≡◌, ℕ, zero, suc, ◌+◌, ◌-◌, ◌^◌, ◌<◌, ◌≤◌, List, ◌∷◌, ◌++◌, length, take, drop, get_or, sym, ap, ◌∙◌, arith, add_assoc, add-zero, zero-add, lit<, length-take, length-drop}
use Rattle.std.proofs.Math.Nat.{add-mod-mod, mod-add-mod, mod-eq_of_lt, mod-lt}
use Rattle.std.proofs.lemmas.Grind.{common_steps}
use Rattle.std.proofs.lemmas.List.{drop-drop, drop-take, take-append-drop, take-take}
use Rattle.std.proofs.Math.Seq.{take-add}
use Rattle.utf_lanes.specs.AsciiTexts.{AreAscii}
use Rattle.surveys.specs.declared.utf8_counts.Utf8Counts.{Utf8Counts}
use Rattle.surveys.specs.SurveyCounts.{all_seen, counted, nothing, plus, seen, wrapped}
use Rattle.surveys.specs.SurveyWindows.{front_len}
use Rattle.surveys.proofs.AsciiWindows.{seen-ascii}
use Rattle.surveys.proofs.CharWindows.{front_len-longer, seen_inside}
use Rattle.surveys.proofs.WindowSums.{window_sum-few, window_sum-more, window_sum-split}

pub wrapped-add : (a b : ℕ) → wrapped (wrapped a + b) ≡ wrapped (a + b)
unfolding wrapped
wrapped-add a b = mod-add-mod a (2 ^ 64) b

pub wrapped-small : (a : ℕ) → a < 2 ^ 64 → wrapped a ≡ a
unfolding wrapped
wrapped-small a h = mod-eq_of_lt h

add-wrapped : (a b : ℕ) → wrapped (a + wrapped b) ≡ wrapped (a + b)
unfolding wrapped
add-wrapped a b = add-mod-mod a b (2 ^ 64)

wrapped-fits : (a : ℕ) → wrapped a < 2 ^ 64
unfolding wrapped
wrapped-fits a = mod-lt a (lit< tt)

-- the sum of two counts, of any size
abbrev sums : Utf8Counts → Utf8Counts → Utf8Counts
sums c d = record {
  chars = c.chars + d.chars;
  faults = c.faults + d.faults;
  third = c.third + d.third;
  signs = c.signs + d.signs;
  undefined = c.undefined + d.undefined;
  surrogates = c.surrogates + d.surrogates;
  twice = c.twice + d.twice;
  twice_chars = c.twice_chars + d.twice_chars;
}

plus-plus : (c d e : Utf8Counts) → plus (plus c d) e ≡ plus c (sums d e)
plus-plus c d e = simp (wrapped-add, add_assoc)

sums-nothing : (e : Utf8Counts) → sums nothing e ≡ e
sums-nothing e = simp zero-add

all_seen-more : (b : ℕ) (bytes : List ℕ) → 17 ≤ length (b ∷ bytes) → all_seen (b ∷ bytes) ≡ sums (seen (take 17 (b ∷ bytes))) (all_seen bytes)
all_seen-more b bytes long = simp window_sum-more

all_seen-few : (bytes : List ℕ) → length bytes < 17 → all_seen bytes ≡ nothing
all_seen-few bytes few = simp window_sum-few

all_seen-split : (a b later : List ℕ) → length b ≡ 16 → all_seen (a ++ (b ++ later)) ≡ sums (all_seen (a ++ b)) (all_seen (b ++ later))
all_seen-split a b later h = simp window_sum-split

-- Each count is one that 64 bits hold.
pub record Fit (c : Utf8Counts) : Type 0 where
  pub chars : c.chars < 2 ^ 64
  pub faults : c.faults < 2 ^ 64
  pub third : c.third < 2 ^ 64
  pub signs : c.signs < 2 ^ 64
  pub undefined : c.undefined < 2 ^ 64
  pub surrogates : c.surrogates < 2 ^ 64
  pub twice : c.twice < 2 ^ 64
  pub twice_chars : c.twice_chars < 2 ^ 64

plus-nothing : (c : Utf8Counts) → Fit c → plus c nothing ≡ c
plus-nothing c fit =
    simp (
      add-zero,
      wrapped-small c.chars fit.chars,
      wrapped-small c.faults fit.faults,
      wrapped-small c.third fit.third,
      wrapped-small c.signs fit.signs,
      wrapped-small c.undefined fit.undefined,
      wrapped-small c.surrogates fit.surrogates,
      wrapped-small c.twice fit.twice,
      wrapped-small c.twice_chars fit.twice_chars,
    )

pub counted-few : (c : Utf8Counts) (bytes : List ℕ) → Fit c → length bytes < 17 → counted c bytes ≡ c
unfolding counted
counted-few c bytes fit few = ap (plus c) (all_seen-few bytes few) ∙ plus-nothing c fit

pub counted-split : (c : Utf8Counts) (a b later : List ℕ) → length b ≡ 16 → counted c (a ++ (b ++ later)) ≡ counted (counted c (a ++ b)) (b ++ later)
unfolding counted
counted-split c a b later h = ap (plus c) (all_seen-split a b later h) ∙ sym (plus-plus c (all_seen (a ++ b)) (all_seen (b ++ later)))

counted-cons : (c : Utf8Counts) (b : ℕ) (bytes : List ℕ) → 17 ≤ length (b ∷ bytes) → counted (plus c (seen (take 17 (b ∷ bytes)))) bytes ≡ counted c (b ∷ bytes)
unfolding counted
counted-cons c b bytes long = plus-plus c (seen (take 17 (b ∷ bytes))) (all_seen bytes) ∙ sym (ap (plus c) (all_seen-more b bytes long))

pub counted-one : (c : Utf8Counts) (bytes : List ℕ) (i : ℕ) → i + 17 ≤ length bytes → counted (plus c (seen (take 17 (drop i bytes)))) (drop (i + 1) bytes) ≡ counted c (drop i bytes)
counted-one c bytes i long =
    let here : drop i bytes ≡ get_or bytes i 0 ∷ drop (i + 1) bytes = grind (arith, common_steps) in
    let more : 17 ≤ length (get_or bytes i 0 ∷ drop (i + 1) bytes) = grind (arith, common_steps) in
    rw here (counted-cons c (get_or bytes i 0) (drop (i + 1) bytes) more)

-- a window that adds nothing
all_seen-none : (b : ℕ) (bytes : List ℕ) → 17 ≤ length (b ∷ bytes) → seen (take 17 (b ∷ bytes)) ≡ nothing → all_seen bytes ≡ all_seen (b ∷ bytes)
all_seen-none b bytes long none = sym (all_seen-more b bytes long ∙ ap (λ s. sums s (all_seen bytes)) none ∙ sums-nothing (all_seen bytes))

-- n windows that add nothing
skipped : (bytes : List ℕ) (i n : ℕ) → i + n + 16 ≤ length bytes → ((k : ℕ) → k < n → seen (take 17 (drop (i + k) bytes)) ≡ nothing) → all_seen (drop (i + n) bytes) ≡ all_seen (drop i bytes)
skipped bytes i zero within none = ap (λ k. all_seen (drop k bytes)) (add-zero i)
skipped bytes i (suc n) within none =
    let here : drop (i + n) bytes ≡ get_or bytes (i + n) 0 ∷ drop (i + n + 1) bytes = grind (arith, common_steps) in
    let long : 17 ≤ length (get_or bytes (i + n) 0 ∷ drop (i + n + 1) bytes) = grind (arith, common_steps) in
    let next : i + suc n ≡ i + n + 1 = omega arith in
    let one : seen (take 17 (get_or bytes (i + n) 0 ∷ drop (i + n + 1) bytes)) ≡ nothing = ap (λ z. seen (take 17 z)) (sym here) ∙ none n (omega arith) in
    rw next
    (all_seen-none (get_or bytes (i + n) 0) (drop (i + n + 1) bytes) long one ∙ sym (ap all_seen here) ∙ skipped bytes i n (omega arith) (λ k lt. none k (omega arith)))

ascii_none : (bytes : List ℕ) (i j k : ℕ) → j + 16 ≤ length bytes → AreAscii bytes (i + 3) (j + 3) → i + k < j → seen (take 17 (drop (i + k) bytes)) ≡ nothing
ascii_none bytes i j k within ascii lt =
    let low : get_or (take 17 (drop (i + k) bytes)) 3 0 < 0x80 = grind (arith, common_steps, ascii (i + k + 3)) in
    seen-ascii (take 17 (drop (i + k) bytes)) (grind (arith, common_steps)) low

pub counted-skip : (c : Utf8Counts) (bytes : List ℕ) (i j : ℕ) → i < j → j + 16 ≤ length bytes → AreAscii bytes (i + 3) (j + 3) → counted c (drop j bytes) ≡ counted c (drop i bytes)
unfolding counted
counted-skip c bytes i j more within ascii =
    let to : i + (j - i) ≡ j = omega arith in
    ap (plus c) (sym (ap (λ k. all_seen (drop k bytes)) to) ∙ skipped bytes i (j - i) (omega arith) (λ k lt. ascii_none bytes i j k within ascii (omega arith)))

-- the window of a character's byte after the first
pub inside_none : (bytes : List ℕ) (i n k : ℕ) → i + n + 16 ≤ length bytes → n ≤ 4 → n ≡ front_len (drop 3 (take 17 (drop i bytes))) → 0 < k → k < n → seen (take 17 (drop (i + k) bytes)) ≡ nothing
inside_none bytes i n k within few len some lt =
    let w = take 17 (drop (i + k) bytes) in
    let y = take (14 + k) (drop (i + 3) bytes) in
    let sum : 3 - k + (14 + k) ≡ 17 = omega arith in
    let place : i + k + (3 - k) ≡ i + 3 = omega arith in
    let there : drop (3 - k) w ≡ y
    = rw sum at (drop-take (3 - k) (14 + k) (drop (i + k) bytes)) ∙ ap (take (14 + k)) (drop-drop (3 - k) (i + k) bytes ∙ ap (λ j. drop j bytes) place) in
    let begun : take 14 y ≡ drop 3 (take 17 (drop i bytes))
    = take-take 14 (14 + k) (drop (i + 3) bytes) (omega arith) ∙ sym (drop-take 3 14 (drop i bytes) ∙ ap (take 14) (drop-drop 3 i bytes)) in
    let longer = front_len-longer 14 y (rw begun (omega arith)) in
    let same : front_len (drop (3 - k) w) ≡ n = ap front_len there ∙ longer ∙ ap front_len begun ∙ sym len in
    seen_inside w k some (omega arith) (omega arith)

-- a character of several bytes
pub counted-char : (c : Utf8Counts) (bytes : List ℕ) (i n : ℕ) → i + n + 16 ≤ length bytes → 1 < n → n ≤ 4 → n ≡ front_len (drop 3 (take 17 (drop i bytes)))
    → counted (plus c (seen (take 17 (drop i bytes)))) (drop (i + n) bytes) ≡ counted c (drop i bytes)
unfolding counted
counted-char c bytes i n within some few len =
    let to : i + 1 + (n - 1) ≡ i + n = omega arith in
    let none : (k : ℕ) → k < n - 1 → seen (take 17 (drop (i + 1 + k) bytes)) ≡ nothing
    = λ k lt. let at : i + (k + 1) ≡ i + 1 + k = omega arith in rw at at (inside_none bytes i n (k + 1) within few len (omega arith) (omega arith)) in
    ap (plus (plus c (seen (take 17 (drop i bytes))))) (sym (ap (λ k. all_seen (drop k bytes)) to) ∙ skipped bytes (i + 1) (n - 1) (omega arith) none) ∙ counted-one c bytes i (omega arith)

-- Each count of a sum fits.
pub Fit-plus : (c d : Utf8Counts) → Fit (plus c d)
Fit-plus c d =
    let fits : (n : ℕ) → wrapped n < 2 ^ 64 = wrapped-fits in
    record {
      chars = fits (c.chars + d.chars);
      faults = fits (c.faults + d.faults);
      third = fits (c.third + d.third);
      signs = fits (c.signs + d.signs);
      undefined = fits (c.undefined + d.undefined);
      surrogates = fits (c.surrogates + d.surrogates);
      twice = fits (c.twice + d.twice);
      twice_chars = fits (c.twice_chars + d.twice_chars);
    }

pub Fit-nothing : Fit nothing
Fit-nothing = record { chars = lit< tt; faults = lit< tt; third = lit< tt; signs = lit< tt; undefined = lit< tt; surrogates = lit< tt; twice = lit< tt; twice_chars = lit< tt }

-- the counts of bytes, added to others
pub plus-counted : (c : Utf8Counts) (bytes : List ℕ) → plus c (counted nothing bytes) ≡ counted c bytes
unfolding counted
plus-counted c bytes = simp (add-wrapped, zero-add)

-- counts of too few bytes for a window add nothing
pub counted-short : (c : Utf8Counts) (bytes later : List ℕ) → length bytes < 17 → counted (counted c bytes) later ≡ counted c later
unfolding counted
counted-short c bytes later few =
    ap (λ s. plus (plus c s) (all_seen later)) (all_seen-few bytes few) ∙ plus-plus c nothing (all_seen later) ∙ ap (plus c) (sums-nothing (all_seen later))

plus-sums : (c r d : Utf8Counts) → plus c (sums r d) ≡ plus c (plus r d)
plus-sums c r d = simp add-wrapped

-- the counts of the bytes before a rest, added to others
counted-sum : (c r : Utf8Counts) (rest : List ℕ) → counted (plus c r) rest ≡ plus c (counted r rest)
unfolding counted
counted-sum c r rest = plus-plus c r (all_seen rest) ∙ plus-sums c r (all_seen rest)

pub counted-rest : (c r : Utf8Counts) (front rest : List ℕ) → counted r rest ≡ counted nothing front → counted (plus c r) rest ≡ counted c front
counted-rest c r front rest e = counted-sum c r rest ∙ ap (plus c) e ∙ plus-counted c front

-- the counts of the first windows of some bytes, added to others
pub counted-stretch : (c r : Utf8Counts) (bytes : List ℕ) (i n : ℕ) → i + n + 16 ≤ length bytes → r ≡ counted nothing (take (n + 16) (drop i bytes)) → counted (plus c r) (drop (i + n) bytes) ≡ counted c (drop i bytes)
counted-stretch c r bytes i n within e =
    let front = drop i bytes in
    let edge = take 16 (drop n front) in
    let rest : drop n front ≡ drop (i + n) bytes = drop-drop n i bytes in
    let later = drop 16 (drop n front) in
    let both : edge ++ later ≡ drop n front = take-append-drop 16 (drop n front) in
    let whole : take n front ++ (edge ++ later) ≡ front = ap (λ z. take n front ++ z) both ∙ take-append-drop n front in
    let width : length edge ≡ 16 = omega (arith, length-take 16 (drop n front), ap length rest, length-drop (i + n) bytes) in
    let first : take n front ++ edge ≡ take (n + 16) front = sym (take-add n 16 front) in
    let counts : counted nothing front ≡ counted r (drop (i + n) bytes)
    = sym (ap (counted nothing) whole) ∙ counted-split nothing (take n front) edge later width ∙ ap (λ z. counted (counted nothing z) (edge ++ later)) first ∙ ap (λ d. counted d (edge ++ later)) (sym e)
    ∙ ap (counted r) (both ∙ rest) in
    counted-rest c r front (drop (i + n) bytes) (sym counts)
