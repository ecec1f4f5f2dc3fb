use Rattle.std.proofs.Common.{◌+◌, ◌-◌, ◌*◌, ◌≤◌, length}
use Rattle.recoding.specs.declared.form.Form.TheVariants.{Utf8}
use Rattle.text_stream.specs.Located.{Puts}
use Rattle.text_stream.proofs.piece_runs.put_many_characters.Given as goal

-- each piece that may still follow has four bytes
abbrev pub invariant-loop-at : goal.invariant-loop-at
invariant-loop-at g l =
    Puts g.P.FromPiece.made Utf8 l.fn.bytes l.fn.room l.room l.fn.from l.at × (l.at.written ≤ l.end) × (l.end ≤ length l.fn.room) × (l.at.read + (l.end - l.at.written) * 4 ≤ length l.fn.bytes)

abbrev pub decreases-loop-at : goal.decreases-loop-at
decreases-loop-at g l = l.end - l.at.written
