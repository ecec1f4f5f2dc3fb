use Rattle.encode_unicode.proofs.ScanLemmas.{last_four, last_four_scanned}
use Rattle.encode_unicode.proofs.decoding_iterators.back_scan.decode_end.Goals as goal

pub returns-clause-steps : goal.returns-clause-steps
returns-clause-steps c = last_four_scanned _ _ _ c.if-n-lt4.false (rw (last_four _ c.if-n-lt4.false) c.scan.ensures.steps)
