-- Strings of JSON.
use Rattle.std.specs.Prelude.{ℕ, ◌+◌, Bool, true, false, List, [], ◌∷◌, Option, Some, None, nat_eq, if◌then◌else◌}

-- the offset of the first quote that no backslash escapes, in bytes of which the first is at the offset p
abbrev pub string_end : Bool → ℕ → List ℕ → Option ℕ
string_end escaped p [] = None
string_end true p (b ∷ bytes) = string_end false (p + 1) bytes
string_end false p (b ∷ bytes) = if nat_eq b 0x22 then Some p else string_end (nat_eq b 0x5C) (p + 1) bytes
