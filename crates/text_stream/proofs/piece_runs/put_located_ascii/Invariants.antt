use Rattle.std.proofs.Common.{◌-◌, length}
use Rattle.recoding.specs.declared.form.Form.TheVariants.{Utf8}
use Rattle.text_stream.specs.Located.{Puts}
use Rattle.text_stream.proofs.piece_runs.put_located_ascii.Given as goal

abbrev pub invariant-loop-at : goal.invariant-loop-at
invariant-loop-at g l = Puts g.P.FromPiece.made Utf8 l.fn.bytes l.fn.room l.room l.fn.from l.at

abbrev pub decreases-loop-at : goal.decreases-loop-at
decreases-loop-at g l = length l.fn.bytes - l.at.read
