use Rattle.encode_unicode.proofs.AsciiPieces.{ascii_counted}
use Rattle.encode_unicode.proofs.laws.ascii_is_counted.Goals as goal

pub returns : goal.returns
returns c = λ ascii. ascii_counted c.args.byte c.args.bytes.now ascii
