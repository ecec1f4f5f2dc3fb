-- Texts of only ASCII.
use Rattle.std.specs.Prelude.{ℕ, ◌<◌, ◌≤◌, List, slice_index}

-- the bytes from the offset i on and before j are ASCII
abbrev pub AreAscii : List ℕ → ℕ → ℕ → Type 0
AreAscii xs i j = (k : ℕ) → i ≤ k → k < j → slice_index xs k < 0x80
