-- Counts of windows, of input that comes in parts.
use Rattle.std.specs.Prelude.{◌≡◌, ℕ, ◌-◌, List, [], ◌∷◌, ◌++◌, drop, length}
use Rattle.surveys.specs.declared.utf8_counts.Utf8Counts.{Utf8Counts}
use Rattle.surveys.specs.declared.utf8_parts.Utf8Parts.{Utf8Parts}
use Rattle.surveys.specs.SurveyCounts.{counted}

-- the last n of some bytes, or all if they are fewer
unfoldable pub last_of : ℕ → List ℕ → List ℕ
last_of n bytes = drop (length bytes - n) bytes

-- what windows have before the first byte
abbrev pub three_zeros : List ℕ
three_zeros = 0 ∷ 0 ∷ 0 ∷ []

-- what windows have after the last byte
abbrev pub zeros_after : List ℕ
zeros_after = 0 ∷ 0 ∷ 0 ∷ 0 ∷ 0 ∷ 0 ∷ 0 ∷ 0 ∷ 0 ∷ 0 ∷ 0 ∷ 0 ∷ 0 ∷ []

-- the counts of all input if some bytes follow, and then it ends
unfoldable pub counts_with : Utf8Parts → List ℕ → Utf8Counts
counts_with s later = counted s.counts (s.held ++ (later ++ zeros_after))

-- the counts of all input are the same, whatever follows a part that was fed
abbrev pub FeedsWindows : Utf8Parts → List ℕ → Utf8Parts → Type 0
FeedsWindows old part new = (later : List ℕ) → counts_with new later ≡ counts_with old (part ++ later)
