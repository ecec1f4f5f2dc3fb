use Rattle.std.proofs.Common.{◌≡◌, ◌+◌}
use Rattle.recoding.specs.declared.form.Form.TheVariants.{Utf8}
use Rattle.text_stream.specs.Located.{Puts}
use Rattle.text_stream.proofs.piece_runs.put_ascii_block.Given as goal

abbrev pub invariant-loop-count : goal.invariant-loop-count
invariant-loop-count g l =
    Puts g.P.FromPiece.made Utf8 l.fn.bytes l.fn.room l.room l.fn.from l.at × (l.at.read ≡ l.fn.from.read + l.count) × (l.at.written ≡ l.fn.from.written + l.count)
