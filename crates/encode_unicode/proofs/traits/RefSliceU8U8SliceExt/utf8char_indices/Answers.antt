use Rattle.encode_unicode.proofs.BackPieces.{decoder_listed_back}
use Rattle.encode_unicode.proofs.PieceRuns.{decoder_listed, listed_run}
use Rattle.encode_unicode.proofs.SeenRuns.{pieces_gave}
use Rattle.encode_unicode.proofs.traits.RefSliceU8U8SliceExt.utf8char_indices.Goals as goal

pub returns-clause-runs : goal.returns-clause-runs
returns-clause-runs c = listed_run _ _ decoder_listed

pub returns-clause-runs_back : goal.returns-clause-runs_back
returns-clause-runs_back c = listed_run _ _ decoder_listed_back

pub returns-clause-gave : goal.returns-clause-gave
returns-clause-gave c = pieces_gave c.args.self.now _ c.from.ensures
