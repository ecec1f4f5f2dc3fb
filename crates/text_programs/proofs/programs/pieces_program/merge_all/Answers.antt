use Rattle.std.proofs.Common.{◌≡◌, ap, ◌∙◌}
use Rattle.std.specs.Slice.Iter.{iter_rest}
use Rattle.encode_unicode.proofs.Listed.{copied_rest, copied_listed}
use Rattle.text_programs.proofs.programs.pieces_program.merge_all.Goals as goal

pub returns : goal.returns
returns g c =
    let source : copied_rest c.copied.result ≡ c.args.bytes.now = ap iter_rest c.copied.ensures.source ∙ c.iter.ensures.rest in
    rw (← source) (c.in_ok-answers.ensures.run copied_rest copied_listed)
