use Rattle.std.proofs.Common.{arith}
use Rattle.std.proofs.lemmas.List.{take_rest}
use Rattle.c_api.proofs.Merged.{piece_of_run}
use Rattle.c_api.proofs.cursors.nody_utf8_streamed_at.Goals as goal

pub returns-then-place-bytes-clause-run : goal.returns-then-place-bytes-clause-run
returns-then-place-bytes-clause-run c = piece_of_run c.args.bytes.now c.args.place c.streaming_piece.result (λ _. rw (← take_rest c.args.bytes.now c.args.place) c.streaming_piece.ensures)

pub returns-else-place-bytes-clause-run : goal.returns-else-place-bytes-clause-run
returns-else-place-bytes-clause-run c = piece_of_run c.args.bytes.now c.args.place c.none.result (λ lt. let le = c.if-place-bytes.false in absurd (omega arith))
