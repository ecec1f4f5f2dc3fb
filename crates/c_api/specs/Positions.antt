-- What C sees of a position.
use Rattle.std.specs.Prelude.{◌≤◌, take}
use Rattle.cuts.specs.Positions.{Place}
use Rattle.cuts.specs.Recoded.{most_held}
use Rattle.c_api.specs.declared.positions.NodyPosition.{NodyPosition}

-- The struct is a position.
abbrev pub IsPosition : NodyPosition → Type 0
IsPosition p = p.count ≤ most_held

-- the position that it is
abbrev pub place_of : NodyPosition → Place
place_of p = record { line = p.line; column = p.column; byte_column = p.byte_column; held = take p.count p.held }
