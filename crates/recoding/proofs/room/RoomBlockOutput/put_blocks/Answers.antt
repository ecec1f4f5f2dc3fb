use Rattle.std.proofs.Common.{rules}
use Rattle.recoding.proofs.TextRuns.{PutsText-as}
use Rattle.recoding.proofs.room.RoomBlockOutput.put_blocks.Goals as goal

pub returns : goal.returns
returns g c = PutsText-as (λ xs put. record { reference = search rules; whole = put.whole; len = put.len; front = put.front }) c.write_blocks-read.ensures
