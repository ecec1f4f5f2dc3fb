use Rattle.text_buffers.proofs.CursorPlaces.{spliced_at_end}
use Rattle.std.proofs.Common.{◌∙◌}
use Rattle.text_buffers.proofs.text_streams.append.Goals as goal

pub returns : goal.returns
returns g c = c.in_ok-insert.ensures.ok ∙ spliced_at_end c.args.text.now c.args.part.now c.len-end.result c.len-end.ensures
