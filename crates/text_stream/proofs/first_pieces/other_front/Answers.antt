use Rattle.std.proofs.Common.{arith}
use Rattle.text_stream.proofs.LocatedLemmas.{ascii_begins}
use Rattle.text_stream.proofs.first_pieces.other_front.Goals as goal

pub returns-then-bytes-lt128-clause-begins : goal.returns-then-bytes-lt128-clause-begins
returns-then-bytes-lt128-clause-begins c = rw c.from.ensures (ascii_begins c.args.bytes.now 0 (omega arith) (omega arith))
