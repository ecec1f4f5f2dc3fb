use Rattle.std.proofs.Common.{arith, length, ◌≤◌}
use Rattle.utf_lanes.proofs.MendedTexts.{MendsFront-text, copied}
use Rattle.utf_lanes.proofs.mending.put_text.Goals as goal

pub returns-clause-mends : goal.returns-clause-mends
returns-clause-mends g c =
    let f = c.requires.so_far in
    let fits = f.fits in
    let len = c.copy_64.ensures.len in
    let xs = c.args.bytes.now in
    let done = c.args.done in
    let all : c.args.end ≤ length xs = omega arith in
    MendsFront-text f c.requires.text (copied xs c.args.made.now c.copy_64.new.room done.len done.read c.args.end c.requires.enough fits c.requires.ordered c.requires.few c.copy_64.ensures.front) c.requires.ordered all (omega arith)
