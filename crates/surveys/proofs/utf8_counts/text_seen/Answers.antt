use Rattle.std.proofs.Common.{◌≡◌, ◌-◌, length, arith}
use Rattle.surveys.proofs.TextWindows.{text_counted}
use Rattle.surveys.proofs.utf8_counts.text_seen.Goals as goal

pub returns : goal.returns
returns c =
    let bytes = c.args.bytes.now in
    let n = length bytes - 16 in
    let width : length bytes - 13 - 3 ≡ n = omega arith in
    text_counted bytes n c.count_of.result c.twice_counts-twice.result.sequences c.twice_counts-twice.result.chars (omega (arith, c.requires.long)) (rw width at c.requires.text) c.count_of.type_inv
    (rw width at c.count_of.ensures) c.twice_counts-twice.ensures.sequences c.twice_counts-twice.ensures.chars
