use Rattle.std.proofs.Common.{◌-◌, length}
use Rattle.c_api.specs.Api.{first_piece_of}
use Rattle.c_api.proofs.Each.{Filled}
use Rattle.c_api.proofs.cursors.nody_utf8_pieces.Given as goal

abbrev pub invariant-loop-count : goal.invariant-loop-count
invariant-loop-count l = Filled first_piece_of l.fn.left.bytes.now l.bytes l.fn.room l.room l.count

abbrev pub decreases-loop-count : goal.decreases-loop-count
decreases-loop-count l = length l.fn.room - l.count
