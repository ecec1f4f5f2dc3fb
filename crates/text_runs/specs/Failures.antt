-- A reader or writer together with counts of its calls, and what a failed write leaves.
use Rattle.std.specs.Prelude.{◌≡◌, ◌≢◌, ℕ, ◌+◌, ◌<◌, ◌==◌, Bool, false, IfErr, OnOk, ◌||◌, List, [], ◌∷◌, take, Option, Result, Ok, Err, if◌then◌else◌, Some, IfSome}
use Rattle.std.specs.Io.KnownBytes.{Appends}
use Rattle.std.specs.IoError.{error_kind}
use Rattle.std.specs.declared.io.Error.{Error}
use Rattle.std.specs.declared.io.ErrorKind.TheVariants.{Interrupted, WriteZero}

-- The counts of the reads so far: how many failed, which is by an error other than an interruption; whether one
-- returned the end; and how many were made after that.
pub record ReadCounts : Type 0 where
  pub failed_reads : ℕ
  pub ended : Bool
  pub reads_after_end : ℕ

-- the calls of a writer that wrote no bytes: how many writes had none, how often it was flushed, and how many flushes
-- failed
pub record OtherCalls : Type 0 where
  pub empty_puts : ℕ
  pub flushes : ℕ
  pub failed_flushes : ℕ

-- what callers see of a `Counted`: the reader or writer inside, how many of its reads or writes failed, how many of
-- those were stalls, which are writes that took nothing, and its other counts
pub record Counting (T : Type 0) : Type 0 where
  pub inner : T
  pub failures : ℕ
  pub stalls : ℕ
  pub reads : ReadCounts
  pub other_calls : OtherCalls

-- A relation between what was known of the reader or writer inside and what is known of it now: of a writer the bytes
-- that it holds, of a reader those that are left.
abbrev pub Known : {T : Type 0} {Z : Type 1} → (T → Option (List ℕ)) → (Option (List ℕ) → Option (List ℕ) → Z) → Counting T → Counting T → Z
Known bytes relation old new = relation (bytes old.inner) (bytes new.inner)

-- a relation between what is known of a reader and of the writer that gets its bytes
abbrev pub Pipes : {R W : Type 0} {Z : Type 1} → (R → Option (List ℕ)) → (W → Option (List ℕ))
    → (Option (List ℕ) → Option (List ℕ) → Option (List ℕ) → Option (List ℕ) → Z)
    → Counting R → Counting R → Counting W → Counting W → Z
Pipes left held relation input_old input_new out_old out_new = Known held (Known left relation input_old input_new) out_old out_new

-- no read failed meanwhile
abbrev pub NoFailedRead : ReadCounts → ReadCounts → Type 0
NoFailedRead old new = new.failed_reads ≡ old.failed_reads

-- if no read had returned the end before, none was made after one that did
abbrev pub NoReadAfterEnd : ReadCounts → ReadCounts → Type 0
NoReadAfterEnd old new = old.ended ≡ false → new.reads_after_end ≡ old.reads_after_end

-- 1 if a write of these bytes returned an error, or took none though there were some, otherwise 0
abbrev pub put_failures : {E : Type 0} → Result ℕ E → List ℕ → ℕ
put_failures (Err error) bytes = 1
put_failures (Ok count) [] = 0
put_failures (Ok count) (byte ∷ bytes) = if count == 0 then 1 else 0

-- 1 if a write of these bytes took none though there were some, which is a stall and no error, otherwise 0
abbrev pub put_stalls : {E : Type 0} → Result ℕ E → List ℕ → ℕ
put_stalls (Err error) bytes = 0
put_stalls (Ok count) [] = 0
put_stalls (Ok count) (byte ∷ bytes) = if count == 0 then 1 else 0

-- if all was written no write stalled, and if one stalled the error says so
abbrev pub TellsStall : {T : Type 0} → Result T Error → ℕ → ℕ → Type 0
TellsStall (Ok done) old new = new ≡ old
TellsStall (Err error) old new = old < new → error_kind error ≡ WriteZero

-- a write of no bytes is counted among the other calls
abbrev pub after_put : OtherCalls → List ℕ → OtherCalls
after_put calls [] = record calls { empty_puts = calls.empty_puts + 1 }
after_put calls (byte ∷ bytes) = calls

-- 1 if a flush returned an error, otherwise 0
abbrev pub flush_failures : {T E : Type 0} → Result T E → ℕ
flush_failures (Err error) = 1
flush_failures (Ok done) = 0

-- a flush is counted among the other calls
abbrev pub after_flush : {T E : Type 0} → OtherCalls → Result T E → OtherCalls
after_flush calls result = record { empty_puts = calls.empty_puts; flushes = calls.flushes + 1; failed_flushes = calls.failed_flushes + flush_failures result }

-- 1 if a read returned an error, otherwise 0
abbrev pub take_failures : {E : Type 0} → Result ℕ E → ℕ
take_failures (Err error) = 1
take_failures (Ok count) = 0

-- whether a read into this buffer returned the end: it gave nothing, though the buffer was not empty
abbrev pub is_end : {E : Type 0} → Result ℕ E → List ℕ → Bool
is_end (Err error) places = false
is_end (Ok count) [] = false
is_end (Ok count) (place ∷ places) = count == 0

-- the counts of one read into this buffer
pub record CountsRead (old new : ReadCounts) (result : Result ℕ Error) (places : List ℕ) : Type 0 where
  pub whole : OnOk result (NoFailedRead old new)
  pub interrupted : IfErr result (λ error. error_kind error ≡ Interrupted → NoFailedRead old new)
  pub failed_reads : IfErr result (λ error. error_kind error ≢ Interrupted → new.failed_reads ≡ old.failed_reads + 1)
  pub ended : new.ended ≡ (old.ended || is_end result places)
  pub reads_after_end : new.reads_after_end ≡ (if old.ended then old.reads_after_end + 1 else old.reads_after_end)

-- known bytes grew by a front of these, as when a writer fails on the way
abbrev pub AppendsFront : Option (List ℕ) → Option (List ℕ) → List ℕ → Type 0
AppendsFront old new bytes = (count : ℕ) × Appends old new (take count bytes)

-- a reader whose bytes were known is at their end
abbrev pub IsDrained : Option (List ℕ) → Option (List ℕ) → Type 0
IsDrained old new = IfSome old (λ xs. new ≡ Some [])
