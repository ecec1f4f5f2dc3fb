use Rattle.utf_chars.proofs.PaddedLemmas.{padded_ascii, value_padded, IsPadded_padded}
use Rattle.utf_base.proofs.Utf8Code.{ascii_is_scalar}
use Rattle.utf_chars.proofs.utf8_char.Utf8Char.from_ascii_unchecked.Goals as goal

pub invariant_of-result : goal.invariant_of-result
invariant_of-result c = IsPadded_padded _ c.args.ascii (ascii_is_scalar _ c.requires) (padded_ascii _ c.requires)

pub returns : goal.returns
returns c = value_padded _ c.args.ascii (ascii_is_scalar _ c.requires) (padded_ascii _ c.requires)
