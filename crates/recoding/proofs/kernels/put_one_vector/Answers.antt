use Rattle.std.proofs.Common.{length, arith}
use Rattle.recoding.proofs.GivenBytes.{few_given}
use Rattle.recoding.proofs.kernels.put_one_vector.Goals as goal

pub put-requires : goal.put-requires
put-requires g c = omega (arith, few_given _ c.args.text.now _ 0 (length c.args.text.now) c.write_few-end.ensures.units)

pub returns : goal.returns
returns g c = rw c.write_few-end.ensures.units at c.put.ensures
