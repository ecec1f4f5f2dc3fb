use Rattle.std.proofs.Common.{◌∙◌, sym, ap, []}
use Rattle.std.proofs.lemmas.List.{append-nil}
use Rattle.text_stream.specs.Located.{first_told}
use Rattle.text_stream.proofs.first_pieces.last_front.Goals as goal

pub returns-in-Some-clause-told : goal.returns-in-Some-clause-told
returns-in-Some-clause-told c = sym (c.in-Some.ensures.begins.first []) ∙ ap (first_told c.args.form) (append-nil c.args.bytes.now)
