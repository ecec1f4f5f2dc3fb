use Rattle.std.specs.Prelude.{map}
use Rattle.examples.proofs.TokenLemmas.{IsTokenizedSoFar}
use Rattle.examples.proofs.tokens.tokens.Given as goal

abbrev pub invariant-loop-place : goal.invariant-loop-place
invariant-loop-place g l = IsTokenizedSoFar l.bytes l.delimiter (map (λ token. token.now) l.tokens.items) l.start l.place-iterator
