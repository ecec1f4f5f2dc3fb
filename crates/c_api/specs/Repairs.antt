-- The tables that C names.
use Rattle.std.specs.Prelude.{ℕ, zero, suc, ◌<◌, List, []}
use Rattle.cuts.specs.RepairTables.{latin_1, windows_1252}

-- the number names a table
abbrev pub IsRepair : ℕ → Type 0
IsRepair number = number < 4

-- the table of a number: none, that of Windows-1252 or of ISO-8859-1, or the caller's
abbrev pub table_of : ℕ → List ℕ → List ℕ
table_of zero table = []
table_of (suc zero) table = windows_1252
table_of (suc (suc zero)) table = latin_1
table_of (suc (suc (suc n))) table = table
