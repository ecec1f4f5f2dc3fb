use Rattle.std.proofs.Common.{◌≡◌, length, ap, ◌∙◌, sym, refl, arith}
use Rattle.std.specs.Slice.Iter.{iter_rest}
use Rattle.encode_unicode.proofs.Listed.{copied_rest, copied_listed}
use Rattle.encode_unicode.specs.Mergers.{unread}
use Rattle.c_api.proofs.Merged.{merged_char, merged_error}
use Rattle.c_api.proofs.cursors.streaming_piece.Goals as goal

pub returns-in-None : goal.returns-in-None
returns-in-None c =
    let all : unread copied_rest c.from.result ≡ c.args.bytes.now = ap (unread copied_rest) c.from.ensures ∙ ap iter_rest c.copied.ensures.source ∙ c.iter.ensures.rest in
    let none = (c.in-None.ensures.steps.takes copied_rest copied_listed).0 in
    absurd (omega (arith, ap length (sym all ∙ none)))

pub returns-in-Some-Ok : goal.returns-in-Some-Ok
returns-in-Some-Ok c =
    let all : unread copied_rest c.from.result ≡ c.args.bytes.now = ap (unread copied_rest) c.from.ensures ∙ ap iter_rest c.copied.ensures.source ∙ c.iter.ensures.rest in
    let is = merged_char c.args.bytes.now _ _ c.in-Some-Ok.c _ all c.in-Some-Ok.field-0-is (c.in-Some-Ok.ensures.steps.takes copied_rest copied_listed) in
    rw (is, c.to_char.ensures.char, c.len.ensures.len) refl

pub returns-in-Some-Err : goal.returns-in-Some-Err
returns-in-Some-Err c =
    let all : unread copied_rest c.from.result ≡ c.args.bytes.now = ap (unread copied_rest) c.from.ensures ∙ ap iter_rest c.copied.ensures.source ∙ c.iter.ensures.rest in
    let is = merged_error c.args.bytes.now _ _ c.in-Some-Err.error _ all c.in-Some-Err.field-0-is (c.in-Some-Err.ensures.steps.takes copied_rest copied_listed) in
    rw (is, c.fault_piece.ensures, c.kind_number_of.ensures, c.kind.ensures) refl
