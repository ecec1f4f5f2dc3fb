use Rattle.std.proofs.Common.{◌<◌, length, Ok, ap, arith, sym, ◌∙◌}
use Rattle.utf_base.proofs.DecodedLemmas.{decoded_code}
use Rattle.utf_base.proofs.KindCases.{begins_with-1}
use Rattle.utf_lanes.proofs.TextFronts.{none_by_second}
use Rattle.utf_lanes.proofs.text_front.front_of_text.Goals as goal

pub returns-then-src-lt128-clause-some : goal.returns-then-src-lt128-clause-some
returns-then-src-lt128-clause-some c =
    let some : 0 < length c.args.src.now = omega arith in
    rw c.from.ensures (begins_with-1 _ some (omega arith))

pub returns-then-not-is_continuation-clause-none : goal.returns-then-not-is_continuation-clause-none
returns-then-not-is_continuation-clause-none c enough = none_by_second c.args.src.now (omega arith) (sym c.is_continuation.ensures ∙ c.if-not-is_continuation.true)

pub returns-then-src-lt128-clause-known : goal.returns-then-src-lt128-clause-known
returns-then-src-lt128-clause-known c =
    let begins = returns-then-src-lt128-clause-some c in
    decoded_code c.args.src.now _ begins.0 ∙ ap (λ n. Ok (c.from.result, n)) (sym begins.1)
