-- Bytes written as units.
use Rattle.std.specs.Prelude.{ℕ, Bool, List, flat_map}
use Rattle.utf_lanes.specs.Utf8ToUtf16.{halves}

-- each byte with a NUL, which is the high byte of its unit
abbrev pub widened : Bool → List ℕ → List ℕ
widened high_first bytes = flat_map (λ b. halves high_first b 0) bytes
