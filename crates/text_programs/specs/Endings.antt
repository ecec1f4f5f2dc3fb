-- The effects of a run of a program once it has ended.
use Rattle.std.specs.Prelude.{◌≡◌, ℕ, ◌+◌, ◌-◌, ◌^◌, ◌<◌, ◌==◌, ◌⊎◌, IsTrue, if◌then◌else◌, List, [], ◌∷◌, ◌++◌, length, Option, IfSome, codes}
use Rattle.std.specs.Io.KnownBytes.{Appends}
use Rattle.text_runs.specs.declared.streams.Source as Source
use Rattle.text_runs.specs.declared.streams.Sink as Sink
use Rattle.text_programs.specs.declared.programs.stops.Stop.{Stop}
use Rattle.text_programs.specs.declared.programs.stops.Stop.TheVariants.{WrongArguments, CannotRead, CannotWrite, NoMemory}
use Rattle.text_runs.specs.Failures.{IsDrained, Counting, NoFailedRead, AppendsFront}
use Rattle.text_programs.specs.Arguments.{Asked, listed, merged, walked}
use Rattle.text_programs.specs.Layouts.{forward_layout, merged_layout, walk_layout, WritesRun, WritesRunFront}
use Rattle.text_programs.specs.declared.programs.recode_stream.RecodeFault.{RecodeFault}
use Rattle.text_programs.specs.declared.programs.recode_stream.RecodeFault.TheVariants.{Read, Write, Memory}

-- the status of a program that ends early
abbrev pub status_of : Stop → ℕ
status_of WrongArguments = 2
status_of CannotRead = 3
status_of CannotWrite = 3
status_of NoMemory = 3

-- the message on standard error
abbrev pub stop_text : Stop → List ℕ
stop_text WrongArguments = codes "wrong arguments"
stop_text CannotRead = codes "cannot read"
stop_text CannotWrite = codes "cannot write"
stop_text NoMemory = codes "no memory"

-- the line on standard error: the program's name, why it ended early, and the end of the line, 10
abbrev pub stop_line : List ℕ → Stop → List ℕ
stop_line name stop = name ++ codes ": " ++ stop_text stop ++ 10 ∷ []

-- known bytes grew by the lines of the request over xs, `faults` of which are error lines
abbrev pub WritesAsked : Asked → List ℕ → Option (List ℕ) → Option (List ℕ) → ℕ → Type 0
WritesAsked listed xs old new faults = WritesRun forward_layout xs old new faults
WritesAsked merged xs old new faults = WritesRun merged_layout xs old new faults
WritesAsked (walked word) xs old new faults = WritesRun (walk_layout word) xs old new faults

-- known bytes grew by a front of the request's lines
abbrev pub WritesAskedFront : Asked → List ℕ → Option (List ℕ) → Option (List ℕ) → Type 0
WritesAskedFront listed xs old new = WritesRunFront forward_layout xs old new
WritesAskedFront merged xs old new = WritesRunFront merged_layout xs old new
WritesAskedFront (walked word) xs old new = WritesRunFront (walk_layout word) xs old new

-- the whole input was read, and the lines of the request were written, `faults` of which are error lines
pub record DoesAsked (asked : Asked) (input old new : Option (List ℕ)) (faults : ℕ) : Type 0 where
  pub bytes : List ℕ
  pub read : IfSome input (λ xs. bytes ≡ xs)
  pub lines : WritesAsked asked bytes old new faults

-- the whole input was read and the request's lines were written, and the status says whether one is an error
-- line
pub record TellsAsked (asked : Asked) (input old new : Option (List ℕ)) (status : ℕ) : Type 0 where
  pub faults : ℕ
  pub run : DoesAsked asked input old new faults
  pub told : status ≡ (if faults == 0 then 0 else 1)

-- what was written is a front of the lines of the request over the input
pub record BeginsAsked (asked : Asked) (input old new : Option (List ℕ)) : Type 0 where
  pub bytes : List ℕ
  pub read : IfSome input (λ xs. bytes ≡ xs)
  pub lines : WritesAskedFront asked bytes old new

-- if a program could not write, its output failed; if it ended early for another reason, the output is as it was
abbrev pub FailsOrStays : {T : Type 0} → Counting T → Counting T → Stop → Type 0
FailsOrStays old new WrongArguments = new ≡ old
FailsOrStays old new CannotRead = new ≡ old
FailsOrStays old new CannotWrite = old.failures < new.failures
FailsOrStays old new NoMemory = new ≡ old

-- if a program could not write, its output failed; if it ended early for another reason, it did not
abbrev pub FailsOrIsQuiet : {T : Type 0} → Counting T → Counting T → Stop → Type 0
FailsOrIsQuiet old new WrongArguments = new.failures ≡ old.failures
FailsOrIsQuiet old new CannotRead = new.failures ≡ old.failures
FailsOrIsQuiet old new CannotWrite = old.failures < new.failures
FailsOrIsQuiet old new NoMemory = new.failures ≡ old.failures

-- a write failed, and the output was not flushed
pub record FailsWriting {T : Type 0} (old new : Counting T) : Type 0 where
  pub failed : old.failures < new.failures
  pub other_calls : new.other_calls ≡ old.other_calls

-- no write failed, and the output was flushed once, which failed
pub record FailsFlushing {T : Type 0} (old new : Counting T) : Type 0 where
  pub quiet : new.failures ≡ old.failures
  pub flushed : new.other_calls.flushes ≡ old.other_calls.flushes + 1
  pub failed : new.other_calls.failed_flushes ≡ old.other_calls.failed_flushes + 1

-- if a program could not write, a write failed, or all was written and the one flush failed; if it ended early for
-- another reason, the output is as it was
abbrev pub FlushFailsOrStays : {T : Type 0} → Counting T → Counting T → Stop → Type 0
FlushFailsOrStays old new WrongArguments = new ≡ old
FlushFailsOrStays old new CannotRead = new ≡ old
FlushFailsOrStays old new CannotWrite = FailsWriting old new ⊎ FailsFlushing old new
FlushFailsOrStays old new NoMemory = new ≡ old

-- all was read, and no read failed, if reads are counted
pub record ReadsAll {R : Type 0} (source : Source.Ghosts R) (old new : R) : Type 0 where
  pub drained : IsDrained (source.remaining old) (source.remaining new)
  pub unbroken : IsTrue source.is_counted → NoFailedRead (source.reads old) (source.reads new)

-- If reads are counted and a program could not read, one of them failed, unless the reader has as many bytes as there
-- are reads; if it ended for another reason, no read failed; and if it could not write, it had read all. `source` is
-- all that the trait `Source` specifies of a reader.
abbrev pub ReadsUntil : {R : Type 0} → Source.Ghosts R → R → R → Stop → Type 0
ReadsUntil source old new CannotRead =
    IsTrue source.is_counted → IfSome (source.remaining old) (λ xs. length xs < 2 ^ 64 - 1 → source.failures old < source.failures new)
ReadsUntil source old new WrongArguments = IsTrue source.is_counted → NoFailedRead (source.reads old) (source.reads new)
ReadsUntil source old new CannotWrite = ReadsAll source old new
ReadsUntil source old new NoMemory = IsTrue source.is_counted → NoFailedRead (source.reads old) (source.reads new)

-- all was read, and no read failed, for a reader whose reads are counted
pub record CountsAll {R : Type 0} (left : R → Option (List ℕ)) (old new : Counting R) : Type 0 where
  pub drained : IsDrained (left old.inner) (left new.inner)
  pub unbroken : NoFailedRead old.reads new.reads

-- the reads failed as the reason says, for a reader whose reads are counted
abbrev pub CountsUntil : {R : Type 0} → (R → Option (List ℕ)) → Counting R → Counting R → Stop → Type 0
CountsUntil left old new CannotRead = IfSome (left old.inner) (λ xs. length xs < 2 ^ 64 - 1 → old.failures < new.failures)
CountsUntil left old new WrongArguments = NoFailedRead old.reads new.reads
CountsUntil left old new CannotWrite = NoFailedRead old.reads new.reads
CountsUntil left old new NoMemory = NoFailedRead old.reads new.reads

-- Known bytes grew by a front of this line, and by the whole of it if writes are counted and none failed. `sink` is
-- all that the trait `Sink` specifies of a writer.
pub record Says {E : Type 0} (sink : Sink.Ghosts E) (old new : E) (line : List ℕ) : Type 0 where
  pub front : AppendsFront (sink.contents old) (sink.contents new) line
  pub whole : IsTrue sink.is_counted → sink.failures new ≡ sink.failures old → Appends (sink.contents old) (sink.contents new) line

-- a program ended early, and its input, output, line on standard error and status all have the same reason
pub record EndsEarly (name : List ℕ) (reads writes : Stop → Type 0) (says : List ℕ → Type 0) (status : ℕ) : Type 0 where
  pub reason : Stop
  pub input : reads reason
  pub output : writes reason
  pub line : says (stop_line name reason)
  pub told : status ≡ status_of reason

-- the reason why a program ends at a fault
abbrev pub reason_of : RecodeFault → Stop
reason_of Read = CannotRead
reason_of Write = CannotWrite
reason_of Memory = NoMemory
