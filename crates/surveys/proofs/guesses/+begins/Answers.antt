use Rattle.std.proofs.Common.{arith, sym}
use Rattle.std.proofs.lemmas.Grind.{common_steps}
use Rattle.surveys.proofs.Marks.{begins-more, begins-none}
use Rattle.surveys.proofs.guesses.+begins.Goals as goal

pub returns-in-empty : goal.returns-in-empty
returns-in-empty t c = sym (begins-none c.args.mark.now c.args.front.now (omega arith))

pub returns-then-front-byte : goal.returns-then-front-byte
returns-then-front-byte t c = let more = begins-more c.args.mark.now c.args.front.now c.in-len1-up.len_at_least in grind (arith, common_steps)

pub returns-else-front-byte : goal.returns-else-front-byte
returns-else-front-byte t c = let more = begins-more c.args.mark.now c.args.front.now c.in-len1-up.len_at_least in grind (arith, common_steps)
