use Rattle.std.proofs.Common.{rules, arith, refl, ◌∙◌, Err, List, ℕ, Option, Some, None}
use Rattle.std.specs.Prelude.{IfSome, IfErr, Result, Ok}
use Rattle.std.specs.Io.KnownBytes.{IsAtEnd}
use Rattle.std.proofs.lemmas.Result.{err_from_is_err_and, on_ok_weaker}
use Rattle.std.proofs.KnownBytes.{Keeps-refl}
use Rattle.text_programs.specs.StrictRelayed.{IfFaulty, IsFollowed, EndsText}
use Rattle.text_programs.specs.declared.programs.strict.FaultAt.{FaultAt}
use Rattle.text_programs.specs.declared.programs.strict.StrictError.{StrictError}
use Rattle.text_programs.specs.declared.programs.strict.StrictError.TheVariants.{Read, Write, Faulty}
use Rattle.text_runs.proofs.Readings.{still_false, still_early, is_end-some}
use Rattle.text_programs.proofs.StrictRelays.{IsTextRelayed-none, IsTextRelayed-part, IsTextRelayed-idle, IsTextRelayed-all, BeginsText-now, BeginsText-part, StopsFaulty-of}
use Rattle.text_programs.proofs.programs.strict.recode_strict.Goals.{in-Ok+in_ok-pass_part-in-Ok, in-Err}
use Rattle.text_programs.proofs.programs.strict.recode_strict.Goals as goal

-- what holds for an invalid part holds for the whole
faulty_then : {U : Type 0} (result : Result U StrictError) (P Q : FaultAt → Type 0) → ((x : FaultAt) → P x → Q x) → IfErr result (λ e. IfFaulty e P) → IfErr result (λ e. IfFaulty e Q)
faulty_then (Ok done) P Q more h = tt
faulty_then (Err Read) P Q more h = tt
faulty_then (Err Write) P Q more h = tt
faulty_then (Err (Faulty x)) P Q more h = more x h

faulty_error : (e : StrictError) (P Q : FaultAt → Type 0) → ((x : FaultAt) → P x → Q x) → IfFaulty e P → IfFaulty e Q
faulty_error Read P Q more h = tt
faulty_error Write P Q more h = tt
faulty_error (Faulty x) P Q more h = more x h

-- whatever is left of a reader may follow
followed : (a : Option (List ℕ)) → IfSome a IsFollowed
followed None = tt
followed (Some xs) = tt

-- nothing follows if the reader is at its end
ended : (a : Option (List ℕ)) → IsAtEnd a → IfSome a EndsText
ended None h = tt
ended (Some xs) h = h

pub loop-init : goal.loop-init
loop-init g c = record {
  relayed = IsTextRelayed-none c.new.ensures.nothing;
  part = search rules;
  room = search rules;
  never_fewer = search rules;
  quiet = refl;
  unbroken = refl;
  unended = λ open_yet. open_yet;
  in_time = λ open_yet. refl;
  other_calls = refl;
}

pub loop-preserved : goal.loop-preserved
loop-preserved g c =
    elim c.match-take.branch [
      | in-Ok+in_ok-pass_part-in-Ok w ↦
          let taken = w.in-Ok.ensures in
          let passed = w.in_ok-pass_part-in-Ok.ensures in
          let quiet = c.loop.invariant.quiet in
          let other_calls = c.loop.invariant.other_calls in
          let never_fewer = c.loop.invariant.never_fewer in
          let same = taken.failures in
          rw (w.out-is, w.reading-is) (record {
            relayed = IsTextRelayed-part c.loop.invariant.relayed taken.consumes.0 (omega arith) same passed.passes passed.counted;
            part = search rules;
            room = search rules;
            never_fewer = omega arith;
            quiet = passed.writes.quiet (search rules) ∙ quiet;
            unbroken = taken.reads.whole ∙ c.loop.invariant.unbroken;
            unended = λ open_yet. still_false _ _ _ taken.reads.ended (c.loop.invariant.unended open_yet) (is_end-some w.in-Ok.count _ (omega arith));
            in_time = λ open_yet. still_early _ _ _ taken.reads.reads_after_end (c.loop.invariant.unended open_yet) ∙ c.loop.invariant.in_time open_yet;
            other_calls = passed.writes.other_calls ∙ other_calls;
          })
      | in-Err w ↦
          let failed = w.in-Err.ensures in
          let never_fewer = c.loop.invariant.never_fewer in
          let more = failed.failures in
          rw (w.out-is, w.reading-is) (record {
            relayed = IsTextRelayed-idle c.loop.invariant.relayed _ _ failed.consumes never_fewer more;
            part = search rules;
            room = search rules;
            never_fewer = omega arith;
            quiet = c.loop.invariant.quiet;
            unbroken = failed.reads.interrupted (search rules) ∙ c.loop.invariant.unbroken;
            unended = λ open_yet. still_false _ _ _ failed.reads.ended (c.loop.invariant.unended open_yet) refl;
            in_time = λ open_yet. still_early _ _ _ failed.reads.reads_after_end (c.loop.invariant.unended open_yet) ∙ c.loop.invariant.in_time open_yet;
            other_calls = c.loop.invariant.other_calls;
          })
    ]

pub returns-in-Ok-eq0-clause-text : goal.returns-in-Ok-eq0-clause-text
returns-in-Ok-eq0-clause-text g c =
    let read = rw (c.in-Ok-eq0.is, c.in-Ok-eq0.field-0-test) at c.take.ensures.consumes in
    on_ok_weaker c.pass_end.result (IsTextRelayed-all c.loop.invariant.relayed _ _ read.0 (read.1 refl (search rules))) c.pass_end.ensures.passes

pub returns-in-Ok-eq0-clause-faulty : goal.returns-in-Ok-eq0-clause-faulty
returns-in-Ok-eq0-clause-faulty g c =
    let read = rw (c.in-Ok-eq0.is, c.in-Ok-eq0.field-0-test) at c.take.ensures.consumes in
    faulty_then c.pass_end.result _ _
    (λ x h. StopsFaulty-of c.loop.invariant.relayed _ _ _ EndsText x read.0 (ended _ (read.1 refl (search rules))) h) c.pass_end.ensures.faulty

pub returns-in-Ok-eq0-clause-front : goal.returns-in-Ok-eq0-clause-front
returns-in-Ok-eq0-clause-front g c =
    let read = rw (c.in-Ok-eq0.is, c.in-Ok-eq0.field-0-test) at c.take.ensures.consumes in
    BeginsText-part c.loop.invariant.relayed _ _ _ read.0 c.pass_end.ensures.front

pub returns-in_err-pass_part-in-Ok-clause-faulty : goal.returns-in_err-pass_part-in-Ok-clause-faulty
returns-in_err-pass_part-in-Ok-clause-faulty g c =
    let taken = c.in-Ok.ensures in
    let from = err_from_is_err_and c.from_residual.result c.from_residual.ensures.1 in
    rw (from.1, from.2)
    (faulty_error _ _ _
    (λ x h. StopsFaulty-of c.loop.invariant.relayed _ _ _ IsFollowed x taken.consumes.0 (followed _) h) c.in_err-pass_part-in-Ok.ensures.faulty)

pub returns-in_err-pass_part-in-Ok-clause-front : goal.returns-in_err-pass_part-in-Ok-clause-front
returns-in_err-pass_part-in-Ok-clause-front g c =
    BeginsText-part c.loop.invariant.relayed _ _ _ c.in-Ok.ensures.consumes.0 c.in_err-pass_part-in-Ok.ensures.front

pub returns-in-Err-2-clause-front : goal.returns-in-Err-2-clause-front
returns-in-Err-2-clause-front g c = BeginsText-now c.loop.invariant.relayed _ c.in-Err-2.ensures.consumes

pub returns-clause-front : goal.returns-clause-front
returns-clause-front g c = BeginsText-now c.loop.invariant.relayed _ (Keeps-refl _)
