use Rattle.std.proofs.Common.{arith, ◌∙◌, ap, refl, ◌∷◌, [], string_bytes}
use Rattle.text_programs.specs.Arguments.{listed, merged}
use Rattle.text_programs.proofs.ArgumentLemmas.{map_none, map_one, map_two, not_wrong, two_wrong}
use Rattle.text_programs.proofs.programs.requests.request_of.Goals as goal

pub returns-in-empty-clause-wrong : goal.returns-in-empty-clause-wrong
returns-in-empty-clause-wrong g c = λ wrong. absurd (wrong listed (map_none string_bytes c.args.args.now c.in-empty.len_below))

pub returns-then-is_text-clause-wrong : goal.returns-then-is_text-clause-wrong
returns-then-is_text-clause-wrong g c =
    let one = map_one string_bytes c.args.args.now c.option-item.result c.in-len1.len_at_least c.in-len1.len_below c.option-item.is in
    λ wrong. absurd (wrong merged (one ∙ ap (λ text. text ∷ []) (c.is_text.ensures.0 c.if-is_text.true)))

pub returns-in-Ok-clause-wrong : goal.returns-in-Ok-clause-wrong
returns-in-Ok-clause-wrong g c =
    let two = map_two string_bytes c.args.args.now c.option-item-then-args-lt3.result c.word-item.result c.in-len2.len_at_least c.in-len2.len_below c.option-item-then-args-lt3.is c.word-item.is in
    let holds = c.asks_walk.ensures.0 c.if-asks_walk.true in
    λ wrong. absurd (not_wrong _ _ _ two holds.0 holds.1 wrong)

pub returns-in-Err-clause-wrong : goal.returns-in-Err-clause-wrong
returns-in-Err-clause-wrong g c =
    let two = map_two string_bytes c.args.args.now c.option-item-then-args-lt3.result c.word-item.result c.in-len2.len_at_least c.in-len2.len_below c.option-item-then-args-lt3.is c.word-item.is in
    let holds = c.asks_walk.ensures.0 c.if-asks_walk.true in
    λ wrong. absurd (not_wrong _ _ _ two holds.0 holds.1 wrong)

pub returns-in-Err-clause-err : goal.returns-in-Err-clause-err
returns-in-Err-clause-err g c = (1, omega arith, refl)

pub returns-else-asks_walk-clause-right : goal.returns-else-asks_walk-clause-right
returns-else-asks_walk-clause-right g c =
    let two = map_two string_bytes c.args.args.now c.option-item-then-args-lt3.result c.word-item.result c.in-len2.len_at_least c.in-len2.len_below c.option-item-then-args-lt3.is c.word-item.is in
    λ is. two_wrong _ _ _ two (λ holds. let yes = c.asks_walk.ensures.1 holds in let no = c.if-asks_walk.false in cc)
