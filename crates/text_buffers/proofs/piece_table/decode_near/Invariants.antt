use Rattle.std.proofs.Common.{◌≡◌, ◌+◌, ◌-◌, List, length}
use Rattle.encode_unicode.specs.Window.{Item}
use Rattle.text_buffers.proofs.Decoding.{IsDecodedTo}
use Rattle.text_buffers.proofs.piece_table.decode_near.Given as goal

abbrev pub invariant-loop-next : goal.invariant-loop-next
invariant-loop-next l = (items : List Item) × IsDecodedTo l.bytes l.initial.next (l.place + 3) l.next items × (l.steps ≡ l.fn.steps + length items)

abbrev pub decreases-loop-next : goal.decreases-loop-next
decreases-loop-next l = length l.bytes - l.next
