use Rattle.std.proofs.Common.{rules, refl}
use Rattle.std.specs.Prelude.{◌≢◌}
use Rattle.encode_unicode.proofs.ForCallers.{utf8_is_std}
use Rattle.examples.proofs.RecordLemmas.{record_char, record_zero}
use Rattle.examples.proofs.records.next_record.Goals as goal

pub returns-then-eq_u16-clause-record : goal.returns-then-eq_u16-clause-record
returns-then-eq_u16-clause-record g c rest listed =
    record_zero (c.loop-answer.invariant.taken rest listed) c.in-Ok.is (c.if-eq_u16.ensures.equal.0 refl) (c.in-Some.ensures.steps.takes rest listed)

pub loop-answer-preserved : goal.loop-answer-preserved
loop-answer-preserved g c =
    let goes = c.in-Some.ensures.goes.on c.loop-answer.invariant.ends in
    let some : c.in-Ok.c ≢ 0 = search (rules, c.if-eq_u16.ensures.equal) in
    record {
      can = goes.0;
      ends = goes.1;
      taken = λ rest listed.
          let more = record_char c.in-Ok.c (c.loop-answer.invariant.taken rest listed) c.in-Ok.is some (c.in-Some.ensures.steps.takes rest listed) in
          rw (c.in_ok-push-in-Ok.ensures.bytes, c.to_char.ensures.char, utf8_is_std c.in-Ok.c) more;
    }
