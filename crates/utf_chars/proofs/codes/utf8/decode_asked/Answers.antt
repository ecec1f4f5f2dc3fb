use Rattle.std.proofs.Common.{◌≤◌, length, arith, lit<}
use Rattle.utf_base.specs.Kinds.{asked_by}
use Rattle.utf_base.proofs.TableSteps.{asks_on}
use Rattle.utf_chars.proofs.Walked.{few_found, there}
use Rattle.utf_chars.proofs.codes.utf8.decode_asked.Goals as goal

pub returns-then-are_too_few : goal.returns-then-are_too_few
returns-then-are_too_few c = rw c.new.ensures (few_found _ _ c.requires.some c.requires.walked c.requires.asks (c.are_too_few.ensures.few c.if-are_too_few.true))

pub decode_second-requires : goal.decode_second-requires
decode_second-requires c =
    let some = c.requires.some in
    let asks = (asks_on c.args.src.now 1 c.args.first (lit< tt) (omega arith) c.requires.walked c.requires.asks).1 in
    let few = c.are_too_few.ensures.enough c.if-are_too_few.false in
    let enough : asked_by c.args.src.now ≤ length c.args.src.now = omega arith in
    record {
      walked = c.requires.walked;
      asks = c.requires.asks;
      some = there c.args.src.now 1 c.args.first (lit< tt) (omega arith) c.requires.walked c.requires.asks enough;
      enough = enough;
    }
