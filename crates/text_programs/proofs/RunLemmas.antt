-- The output of a whole run.
use Rattle.std.proofs.Common.{◌≡◌, ℕ, List, [], map, flat_map, Option, Some, None, refl, subst}
use Rattle.std.specs.Prelude.{IfSome}
use Rattle.std.specs.Io.KnownBytes.{Keeps}
use Rattle.utf_base.proofs.ByteWalks.{byte_walk_exists}
use Rattle.text_programs.specs.Arguments.{Asked, listed, merged, walked, Asks}
use Rattle.text_programs.specs.Layouts.{Layout, WritesRunFront, merged_layout, walk_layout}
use Rattle.text_programs.specs.Endings.{WritesAsked, WritesAskedFront, DoesAsked, BeginsAsked}
use Rattle.text_runs.specs.Walks.{side}
use Rattle.text_programs.proofs.ArgumentLemmas.{one_asked}
use Rattle.text_programs.proofs.ProgramLemmas.{WritesAsked-kept, WritesAskedFront-kept}
use Rattle.text_runs.proofs.Fronts.{AppendsFront-none}
use Rattle.text_programs.proofs.ListingLemmas.{WritesListingFront-none}
use Rattle.text_programs.proofs.RunExists.{merged_exists}

-- nothing is a front of any lines
WritesRunFront-none : {X : Type 0} (layout : Layout X) (xs : List ℕ) (held : Option (List ℕ)) (entries : List X) → layout.over xs entries → WritesRunFront layout xs held held
WritesRunFront-none layout xs held entries run = record { entries = entries; run = run; written = AppendsFront-none held (flat_map layout.line entries) }

pub WritesAskedFront-none : (asked : Asked) (xs : List ℕ) (held : Option (List ℕ)) → WritesAskedFront asked xs held held
WritesAskedFront-none listed xs held = WritesListingFront-none xs held
WritesAskedFront-none merged xs held =
    let run = merged_exists xs in WritesRunFront-none merged_layout xs held run.0 run.1
WritesAskedFront-none (walked word) xs held =
    let run = byte_walk_exists xs (map side word) in WritesRunFront-none (walk_layout word) xs held run.0 run.1

pub BeginsAsked-none : (asked : Asked) (input held : Option (List ℕ)) → BeginsAsked asked input held held
BeginsAsked-none asked None held = record { bytes = []; read = tt; lines = WritesAskedFront-none asked [] held }
BeginsAsked-none asked (Some xs) held = record { bytes = xs; read = refl; lines = WritesAskedFront-none asked xs held }

-- a request has one result, which a flush leaves as it is
pub DoesAsked-flushed : (args : List (List ℕ)) (a : Asked) (bytes : List ℕ) (mid : Option (List ℕ)) {input old new : Option (List ℕ)} {faults : ℕ}
    → Asks args a → IfSome input (λ xs. bytes ≡ xs) → WritesAsked a bytes old mid faults → Keeps mid new
    → (asked : Asked) → Asks args asked → DoesAsked asked input old new faults
DoesAsked-flushed args a bytes mid {input} {old} {new} {faults} is read lines keeps asked asks =
    subst (λ b. DoesAsked b input old new faults) (one_asked args a asked is asks)
    (record { bytes = bytes; read = read; lines = WritesAsked-kept a bytes old mid new faults lines keeps })

pub BeginsAsked-all : (args : List (List ℕ)) (a : Asked) (bytes : List ℕ) {input old new : Option (List ℕ)}
    → Asks args a → IfSome input (λ xs. bytes ≡ xs) → WritesAskedFront a bytes old new
    → (asked : Asked) → Asks args asked → BeginsAsked asked input old new
BeginsAsked-all args a bytes {input} {old} {new} is read lines asked asks =
    subst (λ b. BeginsAsked b input old new) (one_asked args a asked is asks) (record { bytes = bytes; read = read; lines = lines })

pub BeginsAsked-flushed : (args : List (List ℕ)) (a : Asked) (bytes : List ℕ) (mid : Option (List ℕ)) {input old new : Option (List ℕ)}
    → Asks args a → IfSome input (λ xs. bytes ≡ xs) → WritesAskedFront a bytes old mid → Keeps mid new
    → (asked : Asked) → Asks args asked → BeginsAsked asked input old new
BeginsAsked-flushed args a bytes mid {input} {old} {new} is read lines keeps =
    BeginsAsked-all args a bytes is read (WritesAskedFront-kept a bytes old mid new lines keeps)
