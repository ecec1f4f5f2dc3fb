use Rattle.std.proofs.Common.{arith}
use Rattle.text_stream.proofs.FormNumbers.{form_split}
use Rattle.text_stream.proofs.runs.forms.number_of.Goals as goal

pub returns : goal.returns
returns c = rw c.char_count.ensures (form_split c.args.form c.args.bytes.now (omega arith) c.type_inv.bytes c.args.offset c.boundary_after-end.result c.boundary_after-end.ensures.end)
