use Rattle.std.proofs.Common.{arith}
use Rattle.std.proofs.lemmas.Grind.{common_steps}
use Rattle.run_examples.proofs.RoomLemmas.{in_room}
use Rattle.run_examples.proofs.bounds.recode_whole.Goals as goal

pub returns : goal.returns
returns c =
    let law = c.room_is_enough.ensures in
    let fed = c.feed_into-fed.ensures in
    let ended = c.finish_into-ended.ensures in
    in_room law.feeds law.left law.finishes _ _ _ c.new-recoder.ensures.nothing fed.feeds fed.full fed.read ended.finishes ended.full ended.done
    c.feed_into-fed.auto.room (grind (arith, common_steps, c.feed_into-fed.auto.room)) c.finish_into-ended.auto.room c.requires
