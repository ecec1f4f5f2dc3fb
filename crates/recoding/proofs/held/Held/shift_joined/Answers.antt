use Rattle.std.proofs.Common.{◌++◌, drop, arith, ap, ◌∙◌}
use Rattle.std.proofs.lemmas.List.{take_all}
use Rattle.recoding.proofs.RoomLemmas.{cut_part}
use Rattle.recoding.proofs.held.Held.shift_joined.Goals as goal

pub returns : goal.returns
returns c =
    let len = c.join-len.result.1 in
    let gone = c.args.gone in
    let all = c.join-len.ensures.bytes ∙ ap (λ xs. c.args.self.now ++ xs) (take_all 3 c.args.bytes.now c.requires.more) in
    c.hold.ensures ∙ cut_part gone len c.join-len.result.0 (omega arith) ∙ ap (drop gone) all
