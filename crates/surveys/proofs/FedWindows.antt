-- Counts of windows of input that comes in parts.
use Rattle.std.proofs.Common.{◌≡◌, ℕ, ◌+◌, ◌-◌, ◌<◌, ◌≤◌, List, [], ◌++◌, length, min, take, drop, refl, sym, ap, ◌∙◌, arith, append_assoc, ⊎_elim, length-drop, length-append}
use Rattle.std.proofs.lemmas.Bool.{cases_lt}
use Rattle.std.proofs.lemmas.Grind.{common_steps}
use Rattle.std.proofs.lemmas.List.{take-append-drop}
use Rattle.std.proofs.Math.Seq.{drop-append-add}
use Rattle.utf_lanes.specs.AsciiTexts.{AreAscii}
use Rattle.surveys.specs.declared.utf8_counts.Utf8Counts.{Utf8Counts}
use Rattle.surveys.specs.declared.utf8_parts.Utf8Parts.{Utf8Parts}
use Rattle.surveys.specs.SurveyCounts.{counted, nothing, plus}
use Rattle.surveys.specs.SurveyParts.{counts_with, last_of, zeros_after}
use Rattle.surveys.proofs.Counting.{Fit, counted-few, counted-skip, counted-short, counted-split, plus-counted}

pub last_of-few : (n : ℕ) (bytes : List ℕ) → length bytes ≤ n → last_of n bytes ≡ bytes
unfolding last_of
last_of-few n bytes few = let none : length bytes - n ≡ 0 = omega arith in rw none refl

pub last_of-append : (n : ℕ) (first bytes : List ℕ) → n ≤ length bytes → last_of n (first ++ bytes) ≡ last_of n bytes
unfolding last_of
last_of-append n first bytes many =
    let front : length (first ++ bytes) - n ≡ length first + (length bytes - n) = omega (arith, length-append first bytes) in
    rw front (drop-append-add first bytes (length bytes - n))

-- once its windows are counted, only the last 16 of some bytes are needed
many_counted : (c : Utf8Counts) (bytes later : List ℕ) → 17 ≤ length bytes → counted (counted c bytes) (last_of 16 bytes ++ later) ≡ counted c (bytes ++ later)
unfolding last_of
many_counted c bytes later many =
    let n = length bytes - 16 in
    let whole : take n bytes ++ drop n bytes ≡ bytes = take-append-drop n bytes in
    let width : length (drop n bytes) ≡ 16 = omega (arith, length-drop n bytes) in
    sym
    (
    ap (λ z. counted c (z ++ later)) (sym whole) ∙ ap (counted c) (append_assoc (take n bytes) (drop n bytes) later) ∙ counted-split c (take n bytes) (drop n bytes) later width
    ∙ ap (λ z. counted (counted c z) (drop n bytes ++ later)) whole
    )

pub counted-last : (c : Utf8Counts) (bytes later : List ℕ) → counted (counted c bytes) (last_of 16 bytes ++ later) ≡ counted c (bytes ++ later)
counted-last c bytes later =
    ⊎_elim
    (λ (few : length bytes < 17). ap (λ z. counted (counted c bytes) (z ++ later)) (last_of-few 16 bytes (omega arith)) ∙ counted-short c bytes (bytes ++ later) few)
    (λ (many : 17 ≤ length bytes). many_counted c bytes later many)
    (cases_lt (length bytes) 17)

-- the windows of what was carried over and the first 16 bytes of a part, and then those of the part
pub counted-both : (c : Utf8Counts) (held part later : List ℕ) → 16 ≤ length part → counted (counted c (held ++ take 16 part)) (part ++ later) ≡ counted c (held ++ (part ++ later))
counted-both c held part later many =
    let width : length (take 16 part) ≡ 16 = grind (arith, common_steps) in
    let whole : take 16 part ++ (drop 16 part ++ later) ≡ part ++ later = sym (append_assoc (take 16 part) (drop 16 part) later) ∙ ap (λ z. z ++ later) (take-append-drop 16 part) in
    sym (ap (λ z. counted c (held ++ z)) (sym whole) ∙ counted-split c held (take 16 part) (drop 16 part ++ later) width ∙ ap (counted (counted c (held ++ take 16 part))) whole)

-- no window of ASCII adds to the counts
pub ascii_counted : (c : Utf8Counts) (bytes : List ℕ) → Fit c → AreAscii bytes 0 (length bytes) → counted c bytes ≡ c
ascii_counted c bytes fit ascii =
    ⊎_elim
    (λ (few : length bytes < 17). counted-few c bytes fit few)
    (λ (many : 17 ≤ length bytes).
    let n = length bytes - 16 in
    let width : length (drop n bytes) < 17 = omega (arith, length-drop n bytes) in
    sym (counted-skip c bytes 0 n (omega arith) (omega arith) (λ k ge lt. ascii k (omega arith) (omega arith))) ∙ counted-few c (drop n bytes) fit width)
    (cases_lt (length bytes) 17)

pub fed_few : (old new : Utf8Parts) (part later : List ℕ) → new.counts ≡ counted old.counts (old.held ++ part) → new.held ≡ last_of 16 (old.held ++ part) → counts_with new later ≡ counts_with old (part ++ later)
unfolding counts_with
fed_few old new part later counts held =
    ap (λ n. counted n (new.held ++ (later ++ zeros_after))) counts ∙ ap (λ z. counted (counted old.counts (old.held ++ part)) (z ++ (later ++ zeros_after))) held
    ∙ counted-last old.counts (old.held ++ part) (later ++ zeros_after) ∙ ap (counted old.counts) (append_assoc old.held part (later ++ zeros_after) ∙ ap (λ z. old.held ++ z) (sym (append_assoc part later zeros_after)))

pub fed_many : (old new : Utf8Parts) (part later : List ℕ) → 16 ≤ length part → new.counts ≡ counted (counted old.counts (old.held ++ take 16 part)) part → new.held ≡ last_of 16 part
    → counts_with new later ≡ counts_with old (part ++ later)
unfolding counts_with
fed_many old new part later many counts held =
    ap (λ n. counted n (new.held ++ (later ++ zeros_after))) counts ∙ ap (λ z. counted (counted (counted old.counts (old.held ++ take 16 part)) part) (z ++ (later ++ zeros_after))) held
    ∙ counted-last (counted old.counts (old.held ++ take 16 part)) part (later ++ zeros_after) ∙ counted-both old.counts old.held part (later ++ zeros_after) many
    ∙ ap (λ z. counted old.counts (old.held ++ z)) (sym (append_assoc part later zeros_after))

-- The steps of a call.

pub added : (c n : Utf8Counts) (bytes : List ℕ) → n ≡ counted nothing bytes → plus c n ≡ counted c bytes
added c n bytes e = ap (plus c) e ∙ plus-counted c bytes

pub ended : (s : Utf8Parts) (c : Utf8Counts) → c ≡ counted s.counts (s.held ++ zeros_after) → c ≡ counts_with s []
unfolding counts_with
ended s c e = e

pub front_taken : (part : List ℕ) (n : ℕ) → n ≡ min (length part) 16 → take n part ≡ take 16 part
front_taken part n e = grind (arith, common_steps)

pub all_taken : (part : List ℕ) → length part ≤ 16 → take 16 part ≡ part
all_taken part few = grind (arith, common_steps)
