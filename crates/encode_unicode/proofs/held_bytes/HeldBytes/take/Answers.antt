use Rattle.std.proofs.Common.{◌-◌, arith}
use Rattle.encode_unicode.specs.HeldWord.{count_of}
use Rattle.encode_unicode.proofs.HeldWords.{first_of_word}
use Rattle.encode_unicode.proofs.held_bytes.HeldBytes.take.Goals as goal

pub returns-clause-first : goal.returns-clause-first
returns-clause-first c =
    rw (← c.self.view_is) (first_of_word c.self.inside.word _ (count_of c.self.inside.word - 1) (omega arith) (omega arith) c.without_first-self-inside.ensures)
