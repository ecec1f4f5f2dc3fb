-- The backward kind: determined by the last byte of some bytes that no code ends.
use Rattle.std.proofs.Common.{◌≡◌, ℕ, ◌-◌, ◌<◌, ◌≤◌, ⊎_elim, List, [], ◌∷◌, length, arith, refl, true, Some}
use Rattle.std.proofs.lemmas.Grind.{common_steps}
use Rattle.std.proofs.lemmas.Bool.{cases_lt}
use Rattle.utf_base.specs.declared.errors.Utf8ErrorKind.TheVariants.{UnexpectedContinuationByte}
use Rattle.utf_base.specs.Code.{utf8}
use Rattle.utf_base.specs.Ends.{last_of, EndsWith}
use Rattle.utf_base.specs.KindLaws.{CodeOrLastByte}
use Rattle.utf_base.specs.Kinds.{asked, back_kind, fault_kind, is_continuation}
use Rattle.utf_base.proofs.KindLemmas.{ascii_stands_alone}

-- The backward kind of a continuation byte.

pub back_kind-continuation : (b : ℕ) → 0x80 ≤ b → b < 0xC0 → back_kind b ≡ UnexpectedContinuationByte
unfolding back_kind
back_kind-continuation b low high = let c : is_continuation b ≡ true = grind (arith, common_steps) in rw c refl

-- a byte below 0x80 is a code, so it ends the bytes that it is the last of
pub ascii_ends : (w : List ℕ) → 0 < length w → last_of w < 0x80 → EndsWith utf8 w (last_of w) 1
ascii_ends w some low = let a = ascii_stands_alone w (length w - 1) (omega arith) low in (a.0, a.1)

-- the fault of a single byte
pub alone : (b : ℕ) → 0x80 ≤ b → fault_kind (b ∷ []) ≡ Some (back_kind b)
unfolding fault_kind back_kind asked
alone b low = grind (arith, common_steps)

pub code_or_last_byte : CodeOrLastByte
code_or_last_byte = record {
  code = ascii_ends;
  fault = λ w some none.
      let high : 0x80 ≤ last_of w = ⊎_elim (λ (low : last_of w < 0x80). absurd (none (last_of w) 1 (ascii_ends w some low))) (λ (ge : 0x80 ≤ last_of w). ge) (cases_lt (last_of w) 0x80) in
      (high, alone (last_of w) high);
}
