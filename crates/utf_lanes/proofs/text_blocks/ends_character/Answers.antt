use Rattle.std.proofs.Common.{◌≡◌, ◌+◌, ◌-◌, ◌<◌, ◌∙◌, get_or, arith, lt-ltb}
use Rattle.utf_lanes.proofs.text_blocks.ends_character.Goals.{then-bytes-place-lt192, else-bytes-place-lt192}
use Rattle.utf_lanes.proofs.text_blocks.ends_character.Goals as goal

pub returns-else-bytes-place-lt224-clause-all : goal.returns-else-bytes-place-lt224-clause-all
returns-else-bytes-place-lt224-clause-all c closed =
    let xs = c.args.bytes.now in
    let place = c.args.place in
    let before = closed (place - 3) (omega arith) in
    let two : place - 3 + 1 ≡ place - 2 = omega arith in
    let one : place - 3 + 2 ≡ place - 1 = omega arith in
    let middle : get_or xs (place - 2) 0 < 0xE0 = rw two at before.1 in
    let last : get_or xs (place - 1) 0 < 0xC0 = rw one at before.2 in
    elim c.if-bytes-place-lt192.branch [
      | then-bytes-place-lt192 w ↦ w.value-is ∙ lt-ltb _ _ middle
      | else-bytes-place-lt192 w ↦ (let high = w.if-bytes-place-lt192.false in absurd (omega arith))
    ]
