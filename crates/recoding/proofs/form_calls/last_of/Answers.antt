use Rattle.recoding.proofs.Becoming.{BeginsLast-of}
use Rattle.recoding.proofs.NextPieces.{BeginsLast-few}
use Rattle.recoding.proofs.form_calls.last_of.Goals as goal

pub returns-in-Some : goal.returns-in-Some
returns-in-Some c = BeginsLast-of c.in-Some.ensures.some

pub returns-in-None : goal.returns-in-None
returns-in-None c = rw (c.fault_of.ensures.c, c.fault_of.ensures.len, c.fault_of.ensures.faults, c.last_len.ensures) (BeginsLast-few c.args.way c.args.from c.args.bytes.now c.requires c.in-None.ensures.lacks)
