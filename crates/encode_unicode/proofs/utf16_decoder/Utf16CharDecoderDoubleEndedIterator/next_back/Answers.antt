use Rattle.std.proofs.Common.{◌≡◌, ◌<◌, ◌∙◌, ap, sym, arith}
use Rattle.std.specs.Prelude.{slice_range}
use Rattle.utf_base.specs.Code.{utf16}
use Rattle.utf_base.specs.Back.{decoded_pairs_end}
use Rattle.utf_base.specs.Units.{unit_back_kind}
use Rattle.encode_unicode.specs.Window.{elements}
use Rattle.encode_unicode.proofs.ItemCodes.{back_item}
use Rattle.encode_unicode.proofs.utf16_decoder.Utf16CharDecoderDoubleEndedIterator.next_back.Goals as goal

pub returns-clause-steps : goal.returns-clause-steps
returns-clause-steps c =
    let units : c.as_slice.result.now ≡ slice_range c.self.inside.slice.now c.self.inside.front c.self.inside.back = c.as_slice.ensures.left ∙ ap elements (sym c.self.view_is) in
    let some : c.self.inside.front < c.self.inside.back = omega arith in
    rw (← c.self.view_is) (back_item utf16 2 unit_back_kind decoded_pairs_end _ some c.self.invariant.1
    (rw units at c.last_piece-answer.ensures.piece) (rw units at c.last_piece-answer.ensures.known) (rw units at c.last_piece-answer.ensures.len))
