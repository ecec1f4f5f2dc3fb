use Rattle.std.proofs.Common.{arith}
use Rattle.encode_unicode.specs.Code.{utf8}
use Rattle.encode_unicode.proofs.ForCallers.{outside_front}
use Rattle.run_examples.proofs.cursor.front.Goals as goal

pub returns-clause-between : goal.returns-clause-between
returns-clause-between c = record { within = omega arith; outside = outside_front utf8 _ }
