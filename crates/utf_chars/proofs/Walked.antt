-- A walk of some bytes over the table of classes and states, step by step.
use Rattle.std.proofs.Common.{◌≡◌, ℕ, suc, ◌+◌, ◌<◌, ◌≤◌, List, length, get_or, arith, refl, ap, sym, ◌∙◌, Some, None, true, false, ⊎_elim, lit<}
use Rattle.std.proofs.lemmas.Bool.{cases_lt}
use Rattle.std.proofs.lemmas.Grind.{common_steps}
use Rattle.std.specs.Char.{IsScalar as IsStdScalar}
use Rattle.utf_base.specs.declared.errors.Utf8ErrorKind.TheVariants.{TooFewBytes}
use Rattle.utf_base.specs.declared.table.State.{State}
use Rattle.utf_base.specs.declared.table.State.TheVariants.{Start, OneMore, Done, Interrupted}
use Rattle.utf_base.specs.Code.{utf8}
use Rattle.utf_base.specs.Front.{BeginsWith}
use Rattle.utf_base.specs.Kinds.{fault_kind, asked, asked_by, value, is_continuation}
use Rattle.utf_base.specs.Table.{class, fault_of, is_later_fault, is_running, missing, next_state, state_after}
use Rattle.utf_base.proofs.FrontLemmas.{asked_le, asked-no_continuation, decodes_from_none, code_where_no_fault}
use Rattle.utf_base.proofs.KindCases.{kind-few}
use Rattle.utf_base.proofs.TableSteps.{asks_on, asks_runs, completes, fault_at_end, faults_later, first-2, first-3, first-4, one_less}

-- after k bytes the walk has reached the state, which asks for n more
pub record Walk (w : List ℕ) (k : ℕ) (state : State) (n : ℕ) : Type 0 where
  pub at : state_after w k ≡ state
  pub asks : missing state ≡ n

-- the next state, after a byte of which the class is given
pub record Next (w : List ℕ) (k : ℕ) (state : State) (c : ℕ) (next : State) : Type 0 where
  pub class : c ≡ class (get_or w k 0)
  pub step : next ≡ next_state state c

-- the state after the first byte of a code

pub Walk-2 : (w : List ℕ) → 0xC2 ≤ get_or w 0 0 → get_or w 0 0 < 0xE0 → Walk w 1 OneMore 1
Walk-2 w low high = record { at = first-2 (get_or w 0 0) low high; asks = refl }

pub Walk-3 : (w : List ℕ) (c : ℕ) (first : State) → 0xE0 ≤ get_or w 0 0 → get_or w 0 0 < 0xF0 → Next w 0 Start c first → Walk w 1 first 2
Walk-3 w c first low high x =
    let e : next_state Start (class (get_or w 0 0)) ≡ first = rw (← x.class) (sym x.step) in
    record { at = e; asks = sym (ap missing e) ∙ first-3 (get_or w 0 0) low high }

pub Walk-4 : (w : List ℕ) (c : ℕ) (first : State) → 0xF0 ≤ get_or w 0 0 → get_or w 0 0 < 0xF5 → Next w 0 Start c first → Walk w 1 first 3
Walk-4 w c first low high x =
    let e : next_state Start (class (get_or w 0 0)) ≡ first = rw (← x.class) (sym x.step) in
    record { at = e; asks = sym (ap missing e) ∙ first-4 (get_or w 0 0) low high }

pub running : (w : List ℕ) (k n : ℕ) (state : State) → Walk w k state (suc n) → is_running state ≡ true
running w k n state h = asks_runs state (omega (arith, h.asks))

-- the state after the first byte of three or four asks for a second
pub second_runs : (b : ℕ) → 0xE0 ≤ b → b < 0xF5 → is_running (next_state Start (class b)) ≡ true
second_runs b low high =
    ⊎_elim (λ (h : b < 0xF0). let two = first-3 b low h in asks_runs _ (omega arith)) (λ (h : 0xF0 ≤ b). let three = first-4 b h high in asks_runs _ (omega arith)) (cases_lt b 0xF0)

-- the state after one more byte
pub walk_at : (w : List ℕ) (k n c : ℕ) (state next : State) → Walk w k state n → Next w k state c next → state_after w (suc k) ≡ next
walk_at w k n c state next h x = rw (h.at, ← x.class) (sym x.step)

pub walk_on : (w : List ℕ) (k n c : ℕ) (state next : State) → Walk w k state (suc n) → Next w k state c next → (next ≡ Interrupted → ⊥) → Walk w (suc k) next n
walk_on w k n c state next h x on =
    let less = one_less state c (omega (arith, h.asks)) (λ e. on (x.step ∙ e)) in
    let same : missing next ≡ missing (next_state state c) = ap missing x.step in
    record { at = walk_at w k (suc n) c state next h x; asks = omega (arith, h.asks) }

-- If all bytes are there that the first asks for, the next one is.
pub there : (w : List ℕ) (k : ℕ) (state : State) → 0 < k → k ≤ length w → state ≡ state_after w k → is_running state ≡ true → asked_by w ≤ length w → k < length w
there w k state some le at runs enough = let more = (asks_on w k state some le at runs).0 in omega arith

-- after three bytes that is the last
pub last_of_four : (w : List ℕ) (state : State) → 3 ≤ length w → state ≡ state_after w 3 → is_running state ≡ true → missing state ≡ 1
last_of_four w state le at runs =
    let asks = asks_on w 3 state (lit< tt) le at runs in
    omega (arith, asks.0, asks.1, asked_le (get_or w 0 0))

-- an end state determines the fault
pub fault_found : (w : List ℕ) (k : ℕ) (end : State) → k ≤ length w → asked_by w ≤ length w → end ≡ state_after w k → is_running end ≡ false → fault_kind w ≡ fault_of end
fault_found w k end le enough at stops = fault_at_end w k end le enough (sym at) stops

-- an end state other than that of a code is a fault that the first byte does not decide
pub later_found : (w : List ℕ) (k c : ℕ) (state next : State) → 0 < k → k ≤ length w → state ≡ state_after w k → is_running state ≡ true → next ≡ next_state state c → is_running next ≡ false → (next ≡ Done → ⊥)
    → is_later_fault next ≡ true
later_found w k c state next some le at runs step stops other =
    let asks = asks_on w k state some le at runs in
    ap is_later_fault step ∙ faults_later state c (omega (arith, asks.0, asks.1)) (sym (ap is_running step) ∙ stops) (λ e. other (step ∙ e))

-- the end state of a code means that there is no fault
pub code_found : (w : List ℕ) (k : ℕ) (state next : State) → 0 < k → k < length w → state ≡ state_after w k → is_running state ≡ true → next ≡ state_after w (suc k) → next ≡ Done
    → (fault_kind w ≡ None) × (asked_by w ≡ suc k)
code_found w k state next some lt at runs to done =
    let asks = completes w k state some (omega arith) at runs (sym to ∙ done) in
    (fault_at_end w (suc k) Done (omega arith) (omega arith) (sym to ∙ done) refl, asks)

-- Fewer bytes than the first asks for.
pub few_found : (w : List ℕ) (state : State) → 0 < length w → state ≡ state_after w 1 → is_running state ≡ true → length w < 1 + missing state → fault_kind w ≡ Some TooFewBytes
few_found w state some at runs few =
    let asks = (asks_on w 1 state (lit< tt) (omega arith) at runs).1 in
    kind-few w (asked_by w) (record { some = some; first = asked-no_continuation (get_or w 0 0) (omega arith); asks = refl; positive = omega arith }) (omega arith)

-- The first byte of a code, by how many it has.

pub first_of_two : (b : ℕ) → asked b ≡ 2 → (0xC0 ≤ b) × (b < 0xE0)
unfolding asked
first_of_two b e = (grind (arith, common_steps), grind (arith, common_steps))

pub first_of_three : (b : ℕ) → asked b ≡ 3 → (0xE0 ≤ b) × (b < 0xF0)
unfolding asked
first_of_three b e = (grind (arith, common_steps), grind (arith, common_steps))

pub first_of_four : (b : ℕ) → asked b ≡ 4 → (0xF0 ≤ b) × (b < 0xF8)
unfolding asked
first_of_four b e = (grind (arith, common_steps), grind (arith, common_steps))

-- the value of bytes that are a code is a scalar, whose code they are
pub walk_finds : (w : List ℕ) (n v : ℕ) → fault_kind w ≡ None → asked_by w ≡ n → value w ≡ v → BeginsWith utf8 w v n
walk_finds w n v none asks sum = let r = code_where_no_fault w none in (rw sum at r.0, sym asks ∙ r.1 ∙ ap (λ x. length (utf8 x)) sum)

pub continues_in_code : (w : List ℕ) (k : ℕ) → fault_kind w ≡ None → 0 < k → k < asked_by w → is_continuation (get_or w k 0) ≡ true
continues_in_code w k none some lt = let c = (decodes_from_none w none).follow k some lt in grind (arith, common_steps)

-- std's word for the same scalar
pub std_scalar : (w : List ℕ) (v : ℕ) → fault_kind w ≡ None → value w ≡ v → IsStdScalar v
std_scalar w v none sum =
    let h = (decodes_from_none w none).scalar in
    grind (arith, common_steps)
