-- A list has one run: consequences for mergers, and for the number of faults in a listing.
use Rattle.std.proofs.Common.{◌≡◌, ℕ, List, Option, ap, sym, ◌∙◌}
use Rattle.utf_base.specs.Code.{IsCode, utf8}
use Rattle.utf_base.specs.Kinds.{fault_kind}
use Rattle.utf_base.proofs.Utf8Code.{utf8_is_code}
use Rattle.encode_unicode.specs.Pieces.{pieces}
use Rattle.encode_unicode.specs.Window.{Item}
use Rattle.text_runs.specs.EqualRuns.{OneMergedRun}
use Rattle.text_runs.specs.Items.{answers_of}
use Rattle.text_runs.specs.ForwardRuns.{IsForwardRun}
use Rattle.text_runs.proofs.ForwardRuns.{pieces_are_the_run}
use Rattle.text_runs.proofs.RunLaws.{run_unique}

pub merged_run_unique : {E : Type 0} (code : ℕ → List ℕ) (kind : List ℕ → Option E) → IsCode code → OneMergedRun code kind
merged_run_unique code kind c xs answers others a b = a.same ∙ ap answers_of (run_unique code kind c xs a.items b.items a.run b.run) ∙ sym b.same

-- the run over some bytes is the list of the decoder's items
pub run_is_pieces : (xs : List ℕ) (items : List Item) → IsForwardRun xs items → items ≡ pieces xs
run_is_pieces xs items run = run_unique utf8 fault_kind utf8_is_code xs items (pieces xs) run (pieces_are_the_run xs)
