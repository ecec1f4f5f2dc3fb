-- Which pieces an edit may have changed.
use Rattle.std.specs.Prelude.{ℕ, Bool, ◌&&◌, ◌<◌, ◌≤◌, ◌↔◌, nat_le, nat_lt, List, Contains}
use Rattle.encode_unicode.specs.Window.{Item}
use Rattle.cuts.specs.Tables.{moved_item}

-- the items that begin before the offset i are the same
abbrev pub StaysBefore : List Item → List Item → ℕ → Type 0
StaysBefore old new i = (x : Item) → x.0 < i → Contains new x ↔ Contains old x

-- the items that begin from the offset i on are the same, with offsets from b where they were from a
abbrev pub MovesFrom : List Item → List Item → ℕ → ℕ → ℕ → Type 0
MovesFrom old new i a b = (x : Item) → i ≤ x.0 → Contains new x ↔ Contains old (moved_item b a x)

-- the item begins from the offset i on and before j
abbrev pub begins_between : ℕ → ℕ → Item → Bool
begins_between i j x = nat_le i x.0 && nat_lt x.0 j
