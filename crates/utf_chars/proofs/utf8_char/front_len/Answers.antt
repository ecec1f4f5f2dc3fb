use Rattle.std.proofs.Common.{◌<◌, length, arith}
use Rattle.std.proofs.lemmas.Grind.{common_steps}
use Rattle.utf_base.proofs.KindCases.{kind-empty, begins_with-1}
use Rattle.utf_chars.proofs.Decoded.{front_by_first}
use Rattle.utf_chars.proofs.utf8_char.front_len.Goals as goal

pub returns-then-is_empty-clause-err : goal.returns-then-is_empty-clause-err
returns-then-is_empty-clause-err c = rw c.new.ensures (kind-empty _ (grind (arith, common_steps)))

pub returns-then-src-lt128-clause-ok : goal.returns-then-src-lt128-clause-ok
returns-then-src-lt128-clause-ok c =
    let some : 0 < length c.args.src.now = grind (arith, common_steps) in
    (_, begins_with-1 _ some c.if-src-lt128.true)

pub returns-clause-ok : goal.returns-clause-ok
returns-clause-ok c = front_by_first _ _ _ _ c.in_ok-decode_start.ensures c.code_len.ensures.asked
