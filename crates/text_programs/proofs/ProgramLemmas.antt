-- A run of a program, and then a flush of its output, which changes nothing that was written.
use Rattle.std.proofs.Common.{◌≡◌, ℕ, inl, List, Option, refl, arith, flat_map}
use Rattle.std.specs.Prelude.{take}
use Rattle.std.specs.Io.KnownBytes.{Keeps}
use Rattle.std.proofs.KnownBytes.{Appends-kept}
use Rattle.text_programs.specs.declared.programs.stops.Stop.{Stop}
use Rattle.text_programs.specs.declared.programs.stops.Stop.TheVariants.{WrongArguments, CannotRead, CannotWrite, NoMemory}
use Rattle.text_programs.specs.Arguments.{Asked, listed, merged, walked}
use Rattle.text_runs.specs.Failures.{Counting}
use Rattle.text_programs.specs.Layouts.{Layout, WritesRun, WritesRunFront, forward_layout, merged_layout, walk_layout}
use Rattle.text_programs.specs.Endings.{status_of, WritesAsked, WritesAskedFront, FailsOrStays, FlushFailsOrStays}

WritesRun-kept : {X : Type 0} (layout : Layout X) (xs : List ℕ) (old mid new : Option (List ℕ)) (n : ℕ) → WritesRun layout xs old mid n → Keeps mid new → WritesRun layout xs old new n
WritesRun-kept layout xs old mid new n h keeps = record {
  entries = h.entries;
  run = h.run;
  lines = record { written = Appends-kept old mid new (flat_map layout.line h.entries) h.lines.written keeps; counted = h.lines.counted };
}

WritesRunFront-kept : {X : Type 0} (layout : Layout X) (xs : List ℕ) (old mid new : Option (List ℕ)) → WritesRunFront layout xs old mid → Keeps mid new → WritesRunFront layout xs old new
WritesRunFront-kept layout xs old mid new h keeps = record {
  entries = h.entries;
  run = h.run;
  written = (h.written.0, Appends-kept old mid new (take h.written.0 (flat_map layout.line h.entries)) h.written.1 keeps);
}

pub WritesAsked-kept : (asked : Asked) (xs : List ℕ) (old mid new : Option (List ℕ)) (n : ℕ) → WritesAsked asked xs old mid n → Keeps mid new → WritesAsked asked xs old new n
WritesAsked-kept listed xs old mid new n h keeps = WritesRun-kept forward_layout xs old mid new n h keeps
WritesAsked-kept merged xs old mid new n h keeps = WritesRun-kept merged_layout xs old mid new n h keeps
WritesAsked-kept (walked word) xs old mid new n h keeps = WritesRun-kept (walk_layout word) xs old mid new n h keeps

pub WritesAskedFront-kept : (asked : Asked) (xs : List ℕ) (old mid new : Option (List ℕ)) → WritesAskedFront asked xs old mid → Keeps mid new → WritesAskedFront asked xs old new
WritesAskedFront-kept listed xs old mid new h keeps = WritesRunFront-kept forward_layout xs old mid new h keeps
WritesAskedFront-kept merged xs old mid new h keeps = WritesRunFront-kept merged_layout xs old mid new h keeps
WritesAskedFront-kept (walked word) xs old mid new h keeps = WritesRunFront-kept (walk_layout word) xs old mid new h keeps

-- only invalid arguments have the status 2
pub wrong_by_status : (stop : Stop) → status_of stop ≡ 2 → stop ≡ WrongArguments
wrong_by_status WrongArguments e = refl
wrong_by_status CannotRead e = absurd (omega (arith, e))
wrong_by_status CannotWrite e = absurd (omega (arith, e))
wrong_by_status NoMemory e = absurd (omega (arith, e))

-- The output was not flushed.
pub unflushed : {T : Type 0} (stop : Stop) (old new : Counting T) → FailsOrStays old new stop → new.other_calls ≡ old.other_calls → FlushFailsOrStays old new stop
unflushed WrongArguments old new same calls = same
unflushed CannotRead old new same calls = same
unflushed CannotWrite old new failed calls = inl (record { failed = failed; other_calls = calls })
unflushed NoMemory old new same calls = same
