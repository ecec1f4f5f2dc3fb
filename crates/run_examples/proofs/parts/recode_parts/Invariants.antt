use Rattle.std.proofs.Common.{◌≡◌, ℕ, List, ◌++◌, flat_map, take}
use Rattle.cuts.specs.RecodedBytes.{outcome, recoded}
use Rattle.run_examples.proofs.parts.recode_parts.Given as goal

abbrev pub invariant-loop-part : goal.invariant-loop-part
invariant-loop-part g l = (later : List ℕ) → outcome l.recoder l.joined.items later ≡ recoded l.fn.from l.fn.to (flat_map (λ part. part.items) (take l.part-index l.parts) ++ later)
