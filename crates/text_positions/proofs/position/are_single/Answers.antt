use Rattle.std.proofs.lemmas.List.{take_rest}
use Rattle.text_positions.proofs.SinglePieces.{single_count, single_end}
use Rattle.text_positions.proofs.position.are_single.Goals as goal

pub returns-then-bytes-ge2-clause-pieces : goal.returns-then-bytes-ge2-clause-pieces
returns-then-bytes-ge2-clause-pieces c = λ t. rw c.in-Utf8.is (single_count c.args.bytes.now c.if-bytes-ge2.true (rw (take_rest c.args.bytes.now 1) at (c.is_ascii.ensures.ascii t)))

pub returns-then-bytes-ge2-clause-end : goal.returns-then-bytes-ge2-clause-end
returns-then-bytes-ge2-clause-end c = λ t. rw c.in-Utf8.is (single_end c.args.bytes.now c.if-bytes-ge2.true (rw (take_rest c.args.bytes.now 1) at (c.is_ascii.ensures.ascii t)))
