use Rattle.std.proofs.Common.{◌∙◌, arith}
use Rattle.text_stream.proofs.FormNumbers.{bytes_in_form}
use Rattle.text_stream.proofs.runs.forms.char_count.Goals as goal

pub returns-in-Utf8 : goal.returns-in-Utf8
returns-in-Utf8 c = rw c.in-Utf8.is (c.char_count.ensures ∙ bytes_in_form c.args.bytes.now (omega arith))
