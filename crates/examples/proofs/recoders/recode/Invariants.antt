use Rattle.std.proofs.Common.{string_bytes}
use Rattle.encode_unicode.specs.Mergers.{unread}
use Rattle.examples.proofs.RecodeLemmas.{IsRecodedSoFar, units_left}
use Rattle.examples.proofs.recoders.recode.Given as goal

abbrev pub invariant-loop-answer : goal.invariant-loop-answer
invariant-loop-answer l = IsRecodedSoFar l.text (string_bytes l.again) (unread units_left l.answer-iterator)
