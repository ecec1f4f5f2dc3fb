use Rattle.std.proofs.Common.{◌≡◌, ◌<◌, ◌∙◌, ap, sym, arith}
use Rattle.std.specs.Prelude.{slice_range}
use Rattle.encode_unicode.specs.Window.{elements}
use Rattle.encode_unicode.proofs.ScanLemmas.{gives_back_char, gives_back_fault}
use Rattle.encode_unicode.proofs.decoding_iterators.Utf8CharDecoder.next_back_counted.Goals as goal

pub returns-in-Ok-clause-gives : goal.returns-in-Ok-clause-gives
returns-in-Ok-clause-gives c =
    let bytes : c.as_slice.result.now ≡ slice_range c.self.inside.slice.now c.self.inside.front c.self.inside.back = c.as_slice.ensures.left ∙ ap elements (sym c.self.view_is) in
    let some : c.self.inside.front < c.self.inside.back = omega arith in
    rw (← c.self.view_is) (gives_back_char some c.self.invariant.1 (rw bytes at c.in-Ok.ensures.decodes))

pub returns-in-Err-clause-gives : goal.returns-in-Err-clause-gives
returns-in-Err-clause-gives c =
    let bytes : c.as_slice.result.now ≡ slice_range c.self.inside.slice.now c.self.inside.front c.self.inside.back = c.as_slice.ensures.left ∙ ap elements (sym c.self.view_is) in
    let some : c.self.inside.front < c.self.inside.back = omega arith in
    rw (← c.self.view_is) (gives_back_fault _ _ _ _ some c.self.invariant.1 (rw bytes at c.in-Err.ensures.decodes))
