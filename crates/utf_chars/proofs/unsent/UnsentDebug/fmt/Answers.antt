use Rattle.utf_chars.proofs.unsent.UnsentDebug.fmt.Goals as goal

pub returns : goal.returns
returns g c = record { writes = rw (c.len.ensures, c.digits-digits.ensures) at c.write.ensures.writes }
