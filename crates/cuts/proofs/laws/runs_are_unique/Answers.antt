use Rattle.utf_base.specs.Code.{utf8, utf16}
use Rattle.utf_base.specs.Kinds.{fault_kind, merger_kind}
use Rattle.utf_base.specs.Units.{unit_fault_kind}
use Rattle.utf_base.proofs.Utf8Code.{utf8_is_code}
use Rattle.utf_base.proofs.Utf16Code.{utf16_is_code}
use Rattle.text_runs.proofs.EqualRunLemmas.{merged_run_unique}
use Rattle.text_runs.proofs.RunLaws.{run_unique}
use Rattle.cuts.proofs.laws.runs_are_unique.Goals as goal

pub returns : goal.returns
returns c = record {
  bytes = run_unique utf8 fault_kind utf8_is_code;
  units = run_unique utf16 unit_fault_kind utf16_is_code;
  merged_bytes = merged_run_unique utf8 merger_kind utf8_is_code;
  merged_units = merged_run_unique utf16 unit_fault_kind utf16_is_code;
}
