use Rattle.recoding.proofs.EnoughRoom.{feeds_in_room, room_is_left, finishes_in_room}
use Rattle.recoding.proofs.laws.room_is_enough.Goals as goal

pub returns : goal.returns
returns c = record { feeds = feeds_in_room; left = room_is_left; finishes = finishes_in_room }
