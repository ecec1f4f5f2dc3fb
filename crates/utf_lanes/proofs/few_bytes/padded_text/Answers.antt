use Rattle.std.proofs.Common.{◌≡◌, ◌-◌, length, arith, refl}
use Rattle.std.proofs.lemmas.Bool.{lt-ltb, le-ltb}
use Rattle.utf_lanes.specs.declared.shuffles.TheConstants.{PADDED_ROWS}
use Rattle.utf_lanes.proofs.FewBytes.{padded_row}
use Rattle.utf_lanes.proofs.few_bytes.padded_text.Goals as goal

pub returns-then-bytes-lt8 : goal.returns-then-bytes-lt8
returns-then-bytes-lt8 c =
    let bytes = c.args.bytes.now in
    let at : 12 - (length bytes - 4) ≡ 16 - length bytes = omega arith in
    rw at at (padded_row PADDED_ROWS refl (length bytes - 4) (omega arith) c.fours.result bytes (omega arith) (rw (lt-ltb (length bytes - 4) 4 (omega arith)) c.fours.ensures.lanes))

pub returns : goal.returns
returns c =
    let bytes = c.args.bytes.now in
    let at : 12 - (length bytes - 4) ≡ 16 - length bytes = omega arith in
    rw at at (padded_row PADDED_ROWS refl (length bytes - 4) (omega arith) c.eights.result bytes (omega arith) (rw (le-ltb (length bytes - 4) 4 (omega arith)) c.eights.ensures.lanes))
