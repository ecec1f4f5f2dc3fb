use Rattle.std.proofs.Common.{rules, arith, refl, ap, ◌∙◌, Err, length}
use Rattle.std.proofs.lemmas.Result.{on_ok_weaker}
use Rattle.text_programs.proofs.Relays.{AppendsRecoded-of, IsRelayed-none, IsRelayed-part, IsRelayed-idle, IsRelayed-all, IsRelayed-long, BeginsRecoded-end, BeginsRecoded-fault, BeginsRecoded-now, from_nothing, still_nothing}
use Rattle.std.proofs.KnownBytes.{Keeps-refl}
use Rattle.text_runs.proofs.Readings.{still_false, still_early, is_end-some}
use Rattle.text_programs.proofs.programs.recode_stream.recode.Goals.{in-Ok+in_ok-write_part-in-Ok, in-Err}
use Rattle.text_programs.proofs.programs.recode_stream.recode.Goals as goal

pub loop-init : goal.loop-init
loop-init g c = record {
  empty = c.new-recoded.ensures.items;
  relayed = IsRelayed-none c.new-recoder.ensures.nothing;
  never_fewer = search rules;
  quiet = refl;
  unbroken = refl;
  unended = λ open_yet. open_yet;
  in_time = λ open_yet. refl;
  drained = λ none. none;
  unheld = λ none. ap (λ r. r.held) c.new-recoder.ensures.nothing;
  other_calls = refl;
}

pub loop-preserved : goal.loop-preserved
loop-preserved g c =
    elim c.match-take.branch [
      | in-Ok+in_ok-write_part-in-Ok w ↦
          let taken = w.in-Ok.ensures in
          let passed = w.in_ok-write_part-in-Ok.ensures in
          let quiet = c.loop.invariant.quiet in
          let other_calls = c.loop.invariant.other_calls in
          let never_fewer = c.loop.invariant.never_fewer in
          let same = taken.failures in
          rw (w.out-is, w.recoder-is, w.recoded-is) (record {
            empty = passed.empty;
            relayed = IsRelayed-part c.loop.invariant.relayed taken.consumes.0 (omega arith) same passed.passes;
            never_fewer = omega arith;
            quiet = passed.writes.quiet (search rules) ∙ quiet;
            unbroken = taken.reads.whole ∙ c.loop.invariant.unbroken;
            unended = λ open_yet. still_false _ _ _ taken.reads.ended (c.loop.invariant.unended open_yet) (is_end-some w.in-Ok.count _ (omega arith));
            in_time = λ open_yet. still_early _ _ _ taken.reads.reads_after_end (c.loop.invariant.unended open_yet) ∙ c.loop.invariant.in_time open_yet;
            drained = λ none. absurd (from_nothing _ _ (rw (c.loop.invariant.drained none) at taken.consumes.0) (omega arith));
            unheld = λ none. absurd (from_nothing _ _ (rw (c.loop.invariant.drained none) at taken.consumes.0) (omega arith));
            other_calls = passed.writes.other_calls ∙ other_calls;
          })
      | in-Err w ↦
          let failed = w.in-Err.ensures in
          let never_fewer = c.loop.invariant.never_fewer in
          let more = failed.failures in
          rw (w.out-is, w.recoder-is, w.recoded-is) (record {
            empty = c.loop.invariant.empty;
            relayed = IsRelayed-idle c.loop.invariant.relayed failed.consumes never_fewer more;
            never_fewer = omega arith;
            quiet = c.loop.invariant.quiet;
            unbroken = failed.reads.interrupted (search rules) ∙ c.loop.invariant.unbroken;
            unended = λ open_yet. still_false _ _ _ failed.reads.ended (c.loop.invariant.unended open_yet) refl;
            in_time = λ open_yet. still_early _ _ _ failed.reads.reads_after_end (c.loop.invariant.unended open_yet) ∙ c.loop.invariant.in_time open_yet;
            drained = λ none. still_nothing _ (rw (c.loop.invariant.drained none) at failed.consumes);
            unheld = c.loop.invariant.unheld;
            other_calls = c.loop.invariant.other_calls;
          })
    ]

pub returns-in-Ok-eq0-clause-recoded : goal.returns-in-Ok-eq0-clause-recoded
returns-in-Ok-eq0-clause-recoded g c =
    let read = rw (c.in-Ok-eq0.is, c.in-Ok-eq0.field-0-test) at c.take.ensures.consumes in
    on_ok_weaker c.write_end.result (IsRelayed-all _ c.loop.invariant.relayed read.0 (read.1 refl (search rules))) c.write_end.ensures.passes

pub returns-in-Ok-eq0-clause-list : goal.returns-in-Ok-eq0-clause-list
returns-in-Ok-eq0-clause-list g c = on_ok_weaker c.write_end.result (AppendsRecoded-of _) (returns-in-Ok-eq0-clause-recoded g c)

pub returns-clause-cannot_read : goal.returns-clause-cannot_read
returns-clause-cannot_read g c e = IsRelayed-long _ c.loop.invariant.relayed c.loop-test.false

pub returns-in-Ok-eq0-clause-front : goal.returns-in-Ok-eq0-clause-front
returns-in-Ok-eq0-clause-front g c =
    let read = rw (c.in-Ok-eq0.is, c.in-Ok-eq0.field-0-test) at c.take.ensures.consumes in
    let ends = c.write_end.ensures in
    BeginsRecoded-end c.write_end.result c.loop.invariant.relayed read.0 ends.passes ends.front
    (λ e. ap (λ out. g.W.Write.contents out.inner) (ends.refused e)) ends.can_read

pub returns-in_err-write_part-in-Ok-clause-front : goal.returns-in_err-write_part-in-Ok-clause-front
returns-in_err-write_part-in-Ok-clause-front g c =
    let taken = c.in-Ok.ensures in
    let ends = c.in_err-write_part-in-Ok.ensures in
    BeginsRecoded-fault _ c.loop.invariant.relayed taken.consumes.0 (λ e. ends.front (ap Err e))
    (λ e. ap (λ out. g.W.Write.contents out.inner) (ends.refused (ap Err e))) (λ e. ends.can_read (ap Err e))

pub returns-in-Err-2-clause-front : goal.returns-in-Err-2-clause-front
returns-in-Err-2-clause-front g c = BeginsRecoded-now c.loop.invariant.relayed c.in-Err-2.ensures.consumes

pub returns-clause-front : goal.returns-clause-front
returns-clause-front g c = BeginsRecoded-now c.loop.invariant.relayed (Keeps-refl _)

pub returns-in-Ok-eq0-clause-nothing : goal.returns-in-Ok-eq0-clause-nothing
returns-in-Ok-eq0-clause-nothing g c none refused = c.write_end.ensures.nothing (ap length (c.loop.invariant.unheld none)) refused
