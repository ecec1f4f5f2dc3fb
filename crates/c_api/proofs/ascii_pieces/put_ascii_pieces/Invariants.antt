use Rattle.std.proofs.Common.{◌-◌, ◌≤◌, drop}
use Rattle.c_api.specs.Api.{first_piece_of}
use Rattle.c_api.proofs.Each.{Filled}
use Rattle.c_api.proofs.ascii_pieces.put_ascii_pieces.Given as goal

abbrev pub invariant-loop-count : goal.invariant-loop-count
invariant-loop-count l =
    Filled first_piece_of l.fn.bytes (drop l.count l.fn.bytes) l.fn.room l.room l.count × (l.count ≤ l.most)

abbrev pub decreases-loop-count : goal.decreases-loop-count
decreases-loop-count l = l.most - l.count
