use Rattle.std.proofs.Common.{◌≡◌, ℕ, IsTrue, nat_eq, refl, arith}
use Rattle.std.proofs.lemmas.Grind.{common_steps}
use Rattle.encode_unicode.specs.Pieces.{pieces}
use Rattle.run_examples.proofs.faults.is_text.Goals as goal

to_zero : (n m : ℕ) → n ≡ m → IsTrue (nat_eq n 0) → m ≡ 0
to_zero n m e h = grind (arith, common_steps)

from_zero : (n m : ℕ) → n ≡ m → m ≡ 0 → IsTrue (nat_eq n 0)
from_zero n m e h = grind (arith, common_steps)

pub returns : goal.returns
returns c =
    let bytes = c.args.bytes.now in
    let run = (c.pieces_are_the_run.ensures bytes (pieces bytes)).1 refl in
    let none = c.text_has_no_fault.ensures bytes (pieces bytes) run in (
      (λ h. none.0 (to_zero _ _ c.fault_count.ensures h)),
      (λ text. from_zero _ _ c.fault_count.ensures (none.1 text)),
    )
