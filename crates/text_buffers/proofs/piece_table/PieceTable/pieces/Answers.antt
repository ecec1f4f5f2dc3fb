use Rattle.std.proofs.Common.{ap, ◌∙◌}
use Rattle.encode_unicode.specs.Pieces.{pieces}
use Rattle.text_runs.specs.Tables.{Table}
use Rattle.text_runs.proofs.CharacterRuns.{run_lies_within}
use Rattle.text_runs.proofs.EqualRunLemmas.{run_is_pieces}
use Rattle.text_buffers.proofs.piece_table.PieceTable.pieces.Goals as goal

pub returns-clause-value : goal.returns-clause-value
returns-clause-value g c =
    c.as_slice.ensures.value ∙ run_is_pieces c.self.inside.bytes.items c.self.inside.pieces.items c.self.invariant ∙ ap (λ (t : Table). pieces t.bytes) c.self.view_is

pub returns-clause-places : goal.returns-clause-places
returns-clause-places g c = rw (← c.self.view_is, c.as_slice.ensures.value) (run_lies_within c.self.inside.bytes.items c.self.inside.pieces.items c.self.invariant)
