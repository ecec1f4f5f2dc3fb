use Rattle.utf_lanes.proofs.JudgedUnits.{text_whole, text_short, last_leads}
use Rattle.utf_lanes.proofs.LaneLemmas.{lane_fits}
use Rattle.utf_lanes.proofs.utf16_blocks.paired_units.Goals as goal

pub returns-then-leading-clause-text : goal.returns-then-leading-clause-text
returns-then-leading-clause-text g c =
    text_whole g.row.N c.requires.least c.requires.within c.args.low c.args.high c.mask_of_top_bits-leading.result c.mask_of_top_bits-trailing.result (λ k lt. lane_fits c.args.low k c.fits-low lt)
    c.mask_of_top_bits-leading.ensures.most c.mask_of_top_bits-leading.ensures.bits c.mask_of_top_bits-trailing.ensures.bits c.if-trailing-leading.false c.if-leading.true

pub returns-else-leading-clause-text : goal.returns-else-leading-clause-text
returns-else-leading-clause-text g c =
    text_short g.row.N c.requires.least c.requires.within c.args.low c.args.high c.mask_of_top_bits-leading.result c.mask_of_top_bits-trailing.result (λ k lt. lane_fits c.args.low k c.fits-low lt)
    c.mask_of_top_bits-leading.ensures.most c.mask_of_top_bits-leading.ensures.bits c.mask_of_top_bits-trailing.ensures.bits c.if-trailing-leading.false c.if-leading.false

pub returns-else-leading-clause-last : goal.returns-else-leading-clause-last
returns-else-leading-clause-last g c all =
    last_leads g.row.N c.requires.least c.requires.within c.args.low c.args.high c.mask_of_top_bits-leading.result c.mask_of_top_bits-trailing.result (λ k lt. lane_fits c.args.low k c.fits-low lt)
    c.mask_of_top_bits-leading.ensures.most c.mask_of_top_bits-leading.ensures.bits c.mask_of_top_bits-trailing.ensures.bits c.if-trailing-leading.false c.if-leading.false
