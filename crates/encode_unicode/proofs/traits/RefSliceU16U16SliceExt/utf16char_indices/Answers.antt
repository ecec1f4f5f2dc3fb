use Rattle.encode_unicode.proofs.BackPieces.{unit_decoder_listed_back}
use Rattle.encode_unicode.proofs.PieceRuns.{listed_run, unit_decoder_listed}
use Rattle.encode_unicode.proofs.SeenRuns.{unit_pieces_gave}
use Rattle.encode_unicode.proofs.traits.RefSliceU16U16SliceExt.utf16char_indices.Goals as goal

pub returns-clause-runs : goal.returns-clause-runs
returns-clause-runs c = listed_run _ _ unit_decoder_listed

pub returns-clause-runs_back : goal.returns-clause-runs_back
returns-clause-runs_back c = listed_run _ _ unit_decoder_listed_back

pub returns-clause-gave : goal.returns-clause-gave
returns-clause-gave c = unit_pieces_gave c.args.self.now _ c.from.ensures
