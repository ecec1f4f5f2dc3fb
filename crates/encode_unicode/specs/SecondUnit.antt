-- The part of a code that a splitter of units keeps.
use Rattle.std.specs.Prelude.{ℕ, List, [], ◌∷◌, ◌==◌, if◌then◌else◌}

-- the second unit of a code as a list, which is empty for 0
abbrev pub second_unit : ℕ → List ℕ
second_unit unit = if unit == 0 then [] else unit ∷ []
