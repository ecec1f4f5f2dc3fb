use Rattle.std.proofs.Common.{◌∙◌, sym, ap, not}
use Rattle.text_stream.proofs.MergedFronts.{breaks_where}
use Rattle.text_stream.proofs.first_pieces.breaks_at.Goals as goal

pub returns-then-place-bytes : goal.returns-then-place-bytes
returns-then-place-bytes c = ap not c.is_continuation.ensures ∙ sym (breaks_where c.args.bytes.now c.args.place c.requires.few c.if-place-bytes.true)
