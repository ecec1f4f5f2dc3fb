-- Counts over all offsets of bytes, by the window of each.
use Rattle.std.specs.Prelude.{ℕ, ◌+◌, ◌%◌, ◌^◌, Bool, ◌&&◌, nat_lt, nat_le, if◌then◌else◌, List, [], ◌∷◌, length, take}
use Rattle.surveys.specs.declared.utf8_counts.Utf8Counts.{Utf8Counts}
use Rattle.surveys.specs.SurveyWindows.{follows_two, is_char, is_fault, is_in_word, is_surrogate, is_undefined, twice_len}

-- a count, as 64 bits hold it
unfoldable pub wrapped : ℕ → ℕ
wrapped n = n % 2 ^ 64

-- 1 if the test passes, otherwise 0
abbrev pub number : Bool → ℕ
number b = if b then 1 else 0

-- a byte above BF: in text a character of several bytes begins with it
abbrev pub is_lead : ℕ → Bool
is_lead b = nat_le 0xC0 b

-- the length in bytes of a window
abbrev pub window : ℕ
window = 17

-- the sum over all windows in the bytes
unfoldable pub window_sum : (List ℕ → ℕ) → List ℕ → ℕ
window_sum f [] = 0
window_sum f (b ∷ bytes) = (if nat_le 17 (length (b ∷ bytes)) then f (take 17 (b ∷ bytes)) else 0) + window_sum f bytes

-- counts of nothing
abbrev pub nothing : Utf8Counts
nothing = record { chars = 0; faults = 0; third = 0; signs = 0; undefined = 0; surrogates = 0; twice = 0; twice_chars = 0 }

-- what one window adds to the counts
abbrev pub seen : List ℕ → Utf8Counts
seen w = record {
  chars = number (is_char w);
  faults = number (is_fault w);
  third = number (is_fault w && follows_two w);
  signs = number (is_fault w && is_in_word w);
  undefined = number (is_fault w && is_undefined w);
  surrogates = number (is_surrogate w);
  twice = number (nat_lt 0 (twice_len w));
  twice_chars = twice_len w;
}

-- the sum of two counts
abbrev pub plus : Utf8Counts → Utf8Counts → Utf8Counts
plus c d = record {
  chars = wrapped (c.chars + d.chars);
  faults = wrapped (c.faults + d.faults);
  third = wrapped (c.third + d.third);
  signs = wrapped (c.signs + d.signs);
  undefined = wrapped (c.undefined + d.undefined);
  surrogates = wrapped (c.surrogates + d.surrogates);
  twice = wrapped (c.twice + d.twice);
  twice_chars = wrapped (c.twice_chars + d.twice_chars);
}

-- what all windows in the bytes add to the counts
abbrev pub all_seen : List ℕ → Utf8Counts
all_seen bytes = record {
  chars = window_sum (λ w. (seen w).chars) bytes;
  faults = window_sum (λ w. (seen w).faults) bytes;
  third = window_sum (λ w. (seen w).third) bytes;
  signs = window_sum (λ w. (seen w).signs) bytes;
  undefined = window_sum (λ w. (seen w).undefined) bytes;
  surrogates = window_sum (λ w. (seen w).surrogates) bytes;
  twice = window_sum (λ w. (seen w).twice) bytes;
  twice_chars = window_sum (λ w. (seen w).twice_chars) bytes;
}

-- the counts with those of all windows in the bytes
unfoldable pub counted : Utf8Counts → List ℕ → Utf8Counts
counted c bytes = plus c (all_seen bytes)
