use Rattle.c_api.proofs.AsciiPieces.{piece_at}
use Rattle.c_api.proofs.ascii_pieces.ascii_piece.Goals as goal

pub returns : goal.returns
returns c = piece_at c.args.byte _ c.requires
