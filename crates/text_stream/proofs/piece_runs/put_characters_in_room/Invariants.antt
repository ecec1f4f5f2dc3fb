use Rattle.std.proofs.Common.{◌+◌, ◌-◌, ◌≤◌, length}
use Rattle.recoding.specs.declared.form.Form.TheVariants.{Utf8}
use Rattle.text_stream.specs.Located.{Puts}
use Rattle.text_stream.proofs.piece_runs.put_characters_in_room.Given as goal

-- each byte that may still be read has an element of the array
abbrev pub invariant-loop-at : goal.invariant-loop-at
invariant-loop-at g l =
    Puts g.P.FromPiece.made Utf8 l.fn.bytes l.fn.room l.room l.fn.from l.at × (l.at.read ≤ l.last + 4) × (l.last + 4 ≤ length l.fn.bytes) × (l.at.written + (l.last + 4 - l.at.read) ≤ length l.fn.room)

abbrev pub decreases-loop-at : goal.decreases-loop-at
decreases-loop-at g l = l.last + 4 - l.at.read
