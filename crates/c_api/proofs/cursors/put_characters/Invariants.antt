use Rattle.std.proofs.Common.{◌+◌, ◌-◌, ◌*◌, ◌≤◌, length, drop}
use Rattle.c_api.specs.Api.{first_piece_of}
use Rattle.c_api.proofs.Each.{Filled}
use Rattle.c_api.proofs.cursors.put_characters.Given as goal

-- each piece that may still follow has four bytes
abbrev pub invariant-loop-count : goal.invariant-loop-count
invariant-loop-count l =
    Filled first_piece_of l.fn.bytes (drop l.place l.fn.bytes) l.fn.room l.room l.count × (l.count ≤ l.most) × (l.most ≤ length l.fn.room) × (l.place + (l.most - l.count) * 4 ≤ length l.fn.bytes)

abbrev pub decreases-loop-count : goal.decreases-loop-count
decreases-loop-count l = l.most - l.count
