use Rattle.std.proofs.Common.{◌≡◌, ◌∙◌, sym, ap, false, ◌||◌}
use Rattle.utf_base.specs.Kinds.{breaks_at}
use Rattle.text_stream.proofs.MergedFronts.{few_broken}
use Rattle.text_stream.proofs.first_pieces.breaks.Goals as goal

pub returns-else-second : goal.returns-else-second
returns-else-second c =
    let bytes = c.args.bytes.now in
    let one : breaks_at bytes 1 ≡ false = sym c.breaks_at-second.ensures ∙ c.if-second.false in
    c.breaks_at-third.ensures ∙ sym (few_broken bytes c.requires ∙ ap (λ x. x || breaks_at bytes 2) one)
