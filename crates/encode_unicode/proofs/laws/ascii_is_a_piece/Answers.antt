use Rattle.encode_unicode.proofs.AsciiPieces.{ascii_after, ascii_before, ascii_is_a_piece, ascii_is_an_item}
use Rattle.encode_unicode.proofs.laws.ascii_is_a_piece.Goals as goal

pub returns : goal.returns
returns c = record {
  item = λ h. ascii_is_an_item c.args.bytes.now c.args.place h.0 h.1;
  piece = λ h. ascii_is_a_piece c.args.bytes.now c.args.place h;
  before = λ h. ascii_before c.args.bytes.now c.args.place h;
  after = λ h. ascii_after c.args.bytes.now c.args.place h;
}
