use Rattle.std.proofs.Common.{◌≡◌, length, map, take}
use Rattle.c_api.specs.Api.{ascii_piece_of}
use Rattle.c_api.proofs.ascii_pieces.put_block.Given as goal

abbrev pub invariant-loop-i : goal.invariant-loop-i
invariant-loop-i l = (length l.room ≡ 8) × (take l.i l.room ≡ map ascii_piece_of (take l.i l.fn.bytes))
