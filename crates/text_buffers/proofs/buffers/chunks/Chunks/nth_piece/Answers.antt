use Rattle.std.specs.List.{concat}
use Rattle.text_buffers.proofs.LookupLemmas.{number_has_piece}
use Rattle.text_runs.proofs.NumberPlaces.{number_within}
use Rattle.text_buffers.proofs.buffers.chunks.Chunks.nth_piece.Goals as goal

pub piece_from-requires : goal.piece_from-requires
piece_from-requires g c = number_within (concat c.args.self.now) c.args.number c.in_ok-place.place c.in_ok-place.ensures

pub returns : goal.returns
returns g c =
    number_has_piece (concat c.args.self.now) c.args.number c.in_ok-place.place c.piece_from.result c.in_ok-place.ensures c.piece_from.ensures.place c.piece_from.ensures.piece
