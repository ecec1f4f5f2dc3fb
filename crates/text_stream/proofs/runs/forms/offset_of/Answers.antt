use Rattle.std.proofs.Common.{◌∙◌, arith}
use Rattle.text_stream.proofs.FormNumbers.{bytes_numbered}
use Rattle.text_stream.proofs.runs.forms.offset_of.Goals as goal

pub returns-in-Utf8 : goal.returns-in-Utf8
returns-in-Utf8 c = rw c.in-Utf8.is (c.offset_of.ensures ∙ bytes_numbered c.args.bytes.now (omega arith) c.args.number)
