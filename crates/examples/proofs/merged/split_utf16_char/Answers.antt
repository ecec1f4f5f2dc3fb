use Rattle.std.proofs.Common.{◌++◌, ◌∙◌, ap, sym}
use Rattle.encode_unicode.specs.Code.{utf16}
use Rattle.examples.proofs.merged.split_utf16_char.Goals as goal

pub returns-in-Some-Ok : goal.returns-in-Some-Ok
returns-in-Some-Ok g c rest listed =
    let call = rw (c.to_utf16chars-merger.ensures.merger, c.in-Some-Ok.field-0-is) at c.in-Some-Ok.ensures.steps in
    let left = c.into_inner.ensures.whole rest (call.spent rest listed (λ e. cc)) call.none_held in
    (call.takes rest listed).1 ∙ ap (λ xs. utf16 c.in-Some-Ok.c ++ xs) (sym left)
