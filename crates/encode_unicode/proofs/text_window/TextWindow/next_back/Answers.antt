use Rattle.std.proofs.Common.{◌≡◌, ◌∙◌, ap, sym}
use Rattle.std.specs.Prelude.{slice_range}
use Rattle.encode_unicode.specs.Window.{elements}
use Rattle.encode_unicode.proofs.TextEnds.{last_padded}
use Rattle.encode_unicode.proofs.TextLemmas.{last_char_taken}
use Rattle.encode_unicode.proofs.text_window.TextWindow.next_back.Goals as goal

pub from_array_unchecked-requires : goal.from_array_unchecked-requires
from_array_unchecked-requires c = last_padded _ _ _ c.last_code-len.ensures

-- the text that is left is the window
text_is : (c : goal.After-from_array_unchecked) → c.as_bytes.result.now ≡ slice_range c.self.inside.text.now c.self.inside.front c.self.inside.back
text_is c = c.as_bytes.ensures.value ∙ c.as_str-text.ensures.text ∙ sym (ap elements c.self.view_is)

pub invariant_of-self : goal.invariant_of-self
invariant_of-self c = (last_char_taken c.self.invariant (text_is c) c.last_code-len.ensures c.from_array_unchecked.ensures.known).1

pub returns : goal.returns
returns c =
    let taken = last_char_taken c.self.invariant (text_is c) c.last_code-len.ensures c.from_array_unchecked.ensures.known in
    rw (← c.self.view_is) (record { gives = taken.0; shorter = taken.2 })
