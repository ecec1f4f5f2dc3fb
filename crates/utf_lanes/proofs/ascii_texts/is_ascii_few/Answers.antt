use Rattle.std.proofs.Common.{◌<◌, get_or, arith}
use Rattle.utf_lanes.proofs.FewBytes.{ascii_ends, below_16, ends_ascii}
use Rattle.utf_lanes.proofs.ascii_texts.is_ascii_few.Goals as goal

pub returns-then-bytes-lt8-clause-ascii : goal.returns-then-bytes-lt8-clause-ascii
returns-then-bytes-lt8-clause-ascii c holds = ends_ascii 4 c.fours.result c.args.bytes.now (omega arith) (omega arith) (omega arith) c.fours.ensures.lanes (c.are_low.ensures.low holds)

pub returns-then-bytes-lt8-clause-all : goal.returns-then-bytes-lt8-clause-all
returns-then-bytes-lt8-clause-all c ascii =
    let four = ascii_ends 4 c.fours.result c.args.bytes.now (omega arith) c.fours.ensures.lanes ascii in
    c.are_low.ensures.all (below_16 (λ k. get_or c.fours.result k 0 < 0x80) four (λ k lt. rw (c.fours.ensures.twice k lt) (four k lt)))

pub returns-clause-ascii : goal.returns-clause-ascii
returns-clause-ascii c holds = ends_ascii 8 c.eights.result c.args.bytes.now (omega arith) (omega arith) (omega arith) c.eights.ensures.lanes (c.are_low-2.ensures.low holds)

pub returns-clause-all : goal.returns-clause-all
returns-clause-all c ascii = c.are_low-2.ensures.all (ascii_ends 8 c.eights.result c.args.bytes.now (omega arith) c.eights.ensures.lanes ascii)
