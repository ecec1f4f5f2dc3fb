use Rattle.std.proofs.Common.{◌≡◌, map, take}
use Rattle.text_programs.specs.Arguments.{letter}
use Rattle.text_programs.proofs.programs.requests.ends_of.Given as goal

abbrev pub invariant-loop-letter : goal.invariant-loop-letter
invariant-loop-letter g l = map letter l.word.items ≡ take l.letter-index l.letters
