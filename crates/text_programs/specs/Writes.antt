-- How the calls of a writer went, by what a function returned.
use Rattle.std.specs.Prelude.{◌≡◌, ◌+◌, ◌<◌, OnOk, OnErr, Result}
use Rattle.std.specs.declared.io.Error.{Error}
use Rattle.text_runs.specs.Failures.{Counting, TellsStall}

-- After `Ok` no write had failed, and after an error one had; if one stalled the error says so. Nothing else was called.
pub record CountsWrites {T W : Type 0} (result : Result T Error) (old new : Counting W) : Type 0 where
  pub quiet : OnOk result (new.failures ≡ old.failures)
  pub failed : OnErr result (old.failures < new.failures)
  pub stalls : TellsStall result old.stalls new.stalls
  pub other_calls : new.other_calls ≡ old.other_calls

-- A write failed if this holds, and otherwise none did. Nothing else was called.
pub record FailsIf {W : Type 0} (Failed : Type 0) (old new : Counting W) : Type 0 where
  pub quiet : (Failed → ⊥) → new.failures ≡ old.failures
  pub failed : Failed → old.failures < new.failures
  pub other_calls : new.other_calls ≡ old.other_calls

-- No write failed, and the writer was flushed once, without an error.
pub record IsFlushed {W : Type 0} (old new : Counting W) : Type 0 where
  pub quiet : new.failures ≡ old.failures
  pub flushed : new.other_calls.flushes ≡ old.other_calls.flushes + 1
  pub whole : new.other_calls.failed_flushes ≡ old.other_calls.failed_flushes
