use Rattle.std.proofs.Common.{◌≡◌, ◌+◌, ◌-◌, drop, take, arith, sym, length-drop}
use Rattle.std.proofs.lemmas.List.{take_all, take_rest}
use Rattle.recoding.proofs.engine.next_at.Goals as goal

pub returns-then-place-bytes-clause-some : goal.returns-then-place-bytes-clause-some
returns-then-place-bytes-clause-some g c =
    let four : c.args.place + 4 - c.args.place ≡ 4 = omega arith in
    rw four at c.next_piece.ensures.some

pub returns-clause-some : goal.returns-clause-some
returns-clause-some g c =
    let bytes = c.args.bytes.now in
    let place = c.args.place in
    let all : take 4 (drop place bytes) ≡ drop place bytes = take_all 4 (drop place bytes) (omega (arith, length-drop place bytes)) in
    rw (all, sym (take_rest bytes place)) c.next_piece-2.ensures.some
