use Rattle.std.proofs.Common.{arith, rules, ◌∙◌}
use Rattle.std.proofs.lemmas.List.{take_all}
use Rattle.utf_lanes.proofs.CompressRows.{part_stored}
use Rattle.utf_lanes.proofs.JudgedUnits.{ascii_text, ascii_codes, WritesUnits-all}
use Rattle.utf_lanes.proofs.utf16_blocks.write_ascii_units.Goals as goal

pub returns : goal.returns
returns g c =
    let low = c.args.low in
    let room = c.args.room.now in
    let at = c.args.at in
    let n = g.row.N in
    let ascii = c.requires.ascii in
    WritesUnits-all (ascii_text low c.args.high c.fits-low.0 ascii)
    (record { len = search rules; front = part_stored room low at n (omega (arith, c.fits-low.0)) (omega (arith, c.fits-low.0, c.requires.room)) })
    (take_all n low (omega (arith, c.fits-low.0)) ∙ ascii_codes low c.args.high c.fits-low.0 ascii) (omega arith)
