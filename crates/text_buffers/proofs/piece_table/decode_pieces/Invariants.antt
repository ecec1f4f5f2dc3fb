use Rattle.std.proofs.Common.{◌≡◌, ◌+◌, ◌-◌, ◌≤◌, length}
use Rattle.std.specs.Prelude.{vec_capacity}
use Rattle.text_buffers.proofs.Decoding.{IsDecodedTo}
use Rattle.text_buffers.proofs.piece_table.decode_pieces.Given as goal

abbrev pub invariant-loop-next : goal.invariant-loop-next
invariant-loop-next g l = record {
  decoded : IsDecodedTo l.bytes l.fn.range.start l.fn.range.end l.next l.pieces.items;
  counted : l.steps ≡ l.fn.steps + length l.pieces.items;
  room : vec_capacity l.fn.pieces ≤ vec_capacity l.pieces;
}

abbrev pub decreases-loop-next : goal.decreases-loop-next
decreases-loop-next g l = length l.bytes - l.next
