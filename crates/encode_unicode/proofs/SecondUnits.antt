-- The second unit of a code, or 0 if there is none.
use Rattle.std.proofs.Common.{◌≡◌, ℕ, ◌+◌, ◌-◌, ◌%◌, ◌<◌, ◌≤◌, ⊎_elim, List, ◌∷◌, get_or, refl, arith, false}
use Rattle.std.proofs.lemmas.Bool.{cases_lt}
use Rattle.std.proofs.lemmas.Grind.{common_steps}
use Rattle.std.specs.Prelude.{◌==◌}
use Rattle.utf_base.specs.Code.{utf16}
use Rattle.utf_base.proofs.Utf16Code.{utf16-1, utf16-2}
use Rattle.utf_chars.specs.Padded.{padded}
use Rattle.utf_chars.proofs.PaddedUnits.{padded_unit, padded-pair}
use Rattle.encode_unicode.specs.SecondUnit.{second_unit}

pub code_of_two : (s : ℕ) (units : List ℕ) → units ≡ padded 2 (utf16 s) → get_or units 0 0 ∷ second_unit (get_or units 1 0) ≡ utf16 s
code_of_two s units e =
    ⊎_elim
    (λ (lt : s < 0x1_0000). rw (e, padded_unit s lt, utf16-1 s lt) refl)
    (λ (ge : 0x1_0000 ≤ s).
    let some : (0xDC00 + (s - 0x1_0000) % 1024 == 0) ≡ false = grind (arith, common_steps) in
    rw (e, padded-pair s ge, utf16-2 s ge, some) refl)
    (cases_lt s 0x1_0000)
