use Rattle.recoding.proofs.codes.put_pair.Goals as goal

pub returns : goal.returns
returns g c = g.met.O.Output.appends_more c.args.out.now _ _ _ _ c.put_byte.ensures c.put_byte-2.ensures
