-- The result of a merger of bytes, derived from a walk over the table of states.
use Rattle.std.proofs.Common.{◌≡◌, ℕ, suc, ◌<◌, ◌≤◌, List, length, get_or, Some, None, true, false, ap, sym, ◌∙◌, arith}
use Rattle.std.proofs.lemmas.Grind.{common_steps}
use Rattle.utf_base.specs.declared.errors.Utf8ErrorKind.TheVariants.{TooFewBytes}
use Rattle.utf_base.specs.declared.errors.Utf8ErrorKind.{Utf8ErrorKind}
use Rattle.utf_base.specs.declared.table.State.{State}
use Rattle.utf_base.specs.declared.table.State.TheVariants.{Done, Interrupted}
use Rattle.utf_base.specs.Code.{utf8}
use Rattle.utf_base.specs.Kinds.{asked_by, is_continuation, merger_kind, value}
use Rattle.utf_base.specs.Scalar.{IsScalar}
use Rattle.utf_base.specs.Table.{class, fault_of, is_running, missing, state_after}
use Rattle.utf_base.proofs.FrontLemmas.{code_where_no_fault}
use Rattle.utf_base.proofs.MergerLemmas.{merger_none, whole_code}
use Rattle.utf_base.proofs.TableSteps.{kind_at_end, kind_of_all, one_less, reached, runs_after}

-- A byte that leads to the end of a code is the last of it.
pub code_after_walk : (w : List ℕ) (k : ℕ) → length w ≡ suc k → 0 < k → is_running (state_after w k) ≡ true → state_after w (suc k) ≡ Done → IsScalar (value w) × (w ≡ utf8 (value w)) × (asked_by w ≡ length w)
code_after_walk w k len some e done =
    let r = runs_after w k (state_after w k) some e (reached w k (omega arith)) in
    let less = one_less (state_after w k) (class (get_or w k 0)) r.1 (λ i. no (sym done ∙ i)) in
    let none = ap missing done in
    let all : asked_by w ≡ length w = omega arith in
    let kind : merger_kind w ≡ None = kind_at_end w (suc k) (omega arith) (ap is_running done) ∙ ap fault_of done in
    let stands = (code_where_no_fault w (merger_none w kind)).0 in
    (stands.scalar, whole_code w (value w) stands (omega arith) (λ _. all), all)
  where
    no : Done ≡ Interrupted → ⊥
    no e = cc

-- If bytes led to a state which asks for more of them, all but the first are continuation bytes.
pub before : (w : List ℕ) (k j : ℕ) (state : State) → state ≡ state_after w k → k ≤ length w → is_running state ≡ true → 0 < j → j < k → is_continuation (get_or w j 0) ≡ true
before w k j state at le runs some lt =
    let range = (runs_after w k (state_after w k) (omega arith) (sym (ap is_running at) ∙ runs) (reached w k le)).0.before j some lt in
    grind (arith, common_steps)

-- If no more follow, they are too few.
pub lacks : (w : List ℕ) (k : ℕ) (state : State) → length w ≡ k → 0 < k → state ≡ state_after w k → is_running state ≡ true → merger_kind w ≡ Some TooFewBytes
lacks w k state len some at runs =
    let r = runs_after w k (state_after w k) some (sym (ap is_running at) ∙ runs) (reached w k (omega arith)) in
    kind_of_all w ∙ ap (λ n. fault_of (state_after w n)) len ∙ r.2

-- An end state determines the kind, whatever follows.
pub kind_of_end : (w : List ℕ) (k : ℕ) (end : State) (kind : Utf8ErrorKind) → k ≤ length w → state_after w k ≡ end → is_running end ≡ false → fault_of end ≡ Some kind → merger_kind w ≡ Some kind
kind_of_end w k end kind le at stops fault = kind_at_end w k le (ap is_running at ∙ stops) ∙ ap fault_of at ∙ fault
