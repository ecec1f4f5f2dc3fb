-- Runs over equal lists are equal: each list has one. Generic in the code.
use Rattle.std.specs.Prelude.{◌≡◌, ℕ, List, Option, Result}
use Rattle.text_runs.specs.Collected.{IsMergedRun}
use Rattle.text_runs.specs.Items.{Placed, IsRun}

-- a list has one run of a decoder
abbrev pub OneRun : {E : Type 0} → (ℕ → List ℕ) → (List ℕ → Option E) → Type 0
OneRun {E} code kind = (xs : List ℕ) (items others : List (Placed E)) → IsRun code kind xs items → IsRun code kind xs others → items ≡ others

-- a list has one run of a merger
abbrev pub OneMergedRun : {E : Type 0} → (ℕ → List ℕ) → (List ℕ → Option E) → Type 0
OneMergedRun {E} code kind =
    (xs : List ℕ) (answers others : List (Result ℕ E)) → IsMergedRun code kind xs answers → IsMergedRun code kind xs others → answers ≡ others
