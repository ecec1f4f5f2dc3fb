use Rattle.std.proofs.Common.{arith}
use Rattle.std.proofs.lemmas.List.{take_more_set}
use Rattle.recoding.proofs.fills.lay_byte.Goals as goal

pub returns-clause-fills : goal.returns-clause-fills
returns-clause-fills c = record {
  ordered = omega arith;
  fits = omega (arith, c.requires);
  front = take_more_set _ _ _ c.requires;
}
