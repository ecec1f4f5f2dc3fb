use Rattle.std.proofs.Common.{◌-◌, ◌++◌, length, take, arith, ap, ◌∙◌, length-take, length-append, get_or}
use Rattle.std.proofs.lemmas.Simd.{pick_l_whole, length-chunk}
use lib.Lanes.{chunk}
use Rattle.utf_lanes.proofs.FewBytes.{ends_at}
use Rattle.utf_lanes.proofs.few_bytes.eights.Goals as goal

pub returns-clause-lanes : goal.returns-clause-lanes
returns-clause-lanes c k lt =
    let xs = c.args.bytes.now in
    let both = take 8 xs ++ chunk (length xs - 8) 8 xs in
    ap (λ ys. get_or ys k 0) (pick_l_whole 0 both 16 (omega (arith, length-append (take 8 xs) (chunk (length xs - 8) 8 xs), length-take 8 xs, length-chunk (length xs - 8) 8 xs (omega arith)))) ∙ ends_at 8 xs c.requires k lt
