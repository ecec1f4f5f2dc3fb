-- Each entry of the table of classes and states is its rule.
use Rattle.std.proofs.Common.{◌≡◌, ℕ, zero, suc, ◌+◌, ◌<◌, ◌≤◌, List, [], ◌∷◌, get_or, true, false, refl, arith, ◌∙◌, ap, ◌⊎◌, inl, inr, ⊎_elim, rules}
use Rattle.std.proofs.lemmas.Bool.{cases_lt}
use Rattle.std.proofs.lemmas.Grind.{common_steps}
use Rattle.utf_base.specs.declared.table.State.{State}
use Rattle.utf_base.specs.declared.table.State.TheVariants.{Start, OneMore, TwoMore, ThreeMore, AfterE0, AfterEd, AfterF0, AfterF4, Done, Unexpected, Never, Interrupted}
use Rattle.utf_base.specs.declared.table.TheConstants.{CLASSES, STEPS}
use Rattle.utf_base.specs.Kinds.{asked, is_continuation}
use Rattle.utf_base.specs.Table.{begun, class, is_running, next_state, row}
use Rattle.utf_base.proofs.FrontLemmas.{asked-0}

-- the values of a rule at n numbers from k on, and then some others
abbrev values : {A : Type 0} → (ℕ → A) → ℕ → ℕ → List A → List A
values f k zero others = others
values f k (suc n) others = f k ∷ values f (suc k) n others

values-at : {A : Type 0} (f : ℕ → A) (k n c j : ℕ) (others : List A) (d : A) → k + c ≡ j → c < n → get_or (values f k n others) c d ≡ f j
values-at f k zero c j others d e lt = absurd (omega arith)
values-at f k (suc n) zero j others d e lt = let same : k ≡ j = omega arith in ap f same
values-at f k (suc n) (suc c) j others d e lt = values-at f (suc k) n c j others d (omega arith) (omega arith)

-- The whole table of classes, computed.
classes : CLASSES ≡ values class 0 256 []
unfolding class
classes = refl

pub class_at : (b d : ℕ) → b < 256 → get_or CLASSES b d ≡ class b
class_at b d lt = ap (λ xs. get_or xs b d) classes ∙ values-at class 0 256 b b [] d (omega arith) lt

-- The whole table of steps, computed row by row. The last four entries of a row have no class.
abbrev unused : List State
unused = Interrupted ∷ Interrupted ∷ Interrupted ∷ Interrupted ∷ []

row_at : (state : State) → is_running state ≡ true → (d : List State) → get_or STEPS (row state) d ≡ values (next_state state) 0 12 unused
unfolding next_state
row_at _ r d = search rules

pub step_at : (state : State) → is_running state ≡ true → (c : ℕ) → c < 12 → (d : List State) (e : State) → get_or (get_or STEPS (row state) d) c e ≡ next_state state c
step_at state running c lt d e = ap (λ xs. get_or xs c e) (row_at state running d) ∙ values-at (next_state state) 0 12 c c unused e (omega arith) lt

-- The range of a first byte, by the state after it.
abbrev pub Begins : ℕ → State → Type 0
Begins b Done = b < 0x80
Begins b Unexpected = (0x80 ≤ b) × (b < 0xC0)
Begins b Never = (0xC0 ≤ b) × (b < 0xC2) ⊎ (0xF5 ≤ b)
Begins b OneMore = (0xC2 ≤ b) × (b < 0xE0)
Begins b AfterE0 = b ≡ 0xE0
Begins b AfterEd = b ≡ 0xED
Begins b TwoMore = (0xE0 < b) × (b < 0xF0) × (b ≡ 0xED → ⊥)
Begins b AfterF0 = b ≡ 0xF0
Begins b ThreeMore = (0xF0 < b) × (b < 0xF4)
Begins b AfterF4 = b ≡ 0xF4
Begins b _ = ⊥

begins_as : (b c : ℕ) (state : State) → class b ≡ c → begun c ≡ state → Begins b state → Begins b (next_state Start (class b))
unfolding next_state
begins_as b c state e f h = rw (e, f) h

pub begins : (b : ℕ) → Begins b (next_state Start (class b))
unfolding class
begins b =
    ⊎_elim (λ (h : b < 0x80). begins_as b 0 Done (grind (arith, common_steps)) refl h)
    (λ (l0 : 0x80 ≤ b). ⊎_elim (λ (h : b < 0x90). begins_as b 1 Unexpected (grind (arith, common_steps)) refl (omega arith, omega arith))
    (λ (l1 : 0x90 ≤ b). ⊎_elim (λ (h : b < 0xA0). begins_as b 2 Unexpected (grind (arith, common_steps)) refl (omega arith, omega arith))
    (λ (l2 : 0xA0 ≤ b). ⊎_elim (λ (h : b < 0xC0). begins_as b 3 Unexpected (grind (arith, common_steps)) refl (omega arith, omega arith))
    (λ (l3 : 0xC0 ≤ b). ⊎_elim (λ (h : b < 0xC2). begins_as b 4 Never (grind (arith, common_steps)) refl (inl (omega arith, omega arith)))
    (λ (l4 : 0xC2 ≤ b). ⊎_elim (λ (h : b < 0xE0). begins_as b 5 OneMore (grind (arith, common_steps)) refl (omega arith, omega arith))
    (λ (l5 : 0xE0 ≤ b). ⊎_elim (λ (h : b < 0xE1). begins_as b 6 AfterE0 (grind (arith, common_steps)) refl (omega arith))
    (λ (l6 : 0xE1 ≤ b). ⊎_elim (λ (h : b < 0xED). begins_as b 7 TwoMore (grind (arith, common_steps)) refl (omega arith, omega arith, λ e. omega arith))
    (λ (l7 : 0xED ≤ b). ⊎_elim (λ (h : b < 0xEE). begins_as b 8 AfterEd (grind (arith, common_steps)) refl (omega arith))
    (λ (l8 : 0xEE ≤ b). ⊎_elim (λ (h : b < 0xF0). begins_as b 7 TwoMore (grind (arith, common_steps)) refl (omega arith, omega arith, λ e. omega arith))
    (λ (l9 : 0xF0 ≤ b). ⊎_elim (λ (h : b < 0xF1). begins_as b 9 AfterF0 (grind (arith, common_steps)) refl (omega arith))
    (λ (l10 : 0xF1 ≤ b). ⊎_elim (λ (h : b < 0xF4). begins_as b 10 ThreeMore (grind (arith, common_steps)) refl (omega arith, omega arith))
    (λ (l11 : 0xF4 ≤ b). ⊎_elim (λ (h : b < 0xF5). begins_as b 11 AfterF4 (grind (arith, common_steps)) refl (omega arith))
    (λ (l12 : 0xF5 ≤ b). begins_as b 4 Never (grind (arith, common_steps)) refl (inr (omega arith)))
    (cases_lt b 0xF5)) (cases_lt b 0xF4)) (cases_lt b 0xF1)) (cases_lt b 0xF0)) (cases_lt b 0xEE)) (cases_lt b 0xED)) (cases_lt b 0xE1)) (cases_lt b 0xE0)) (cases_lt b 0xC2)) (cases_lt b 0xC0)) (cases_lt b 0xA0)) (cases_lt b 0x90)) (cases_lt b 0x80)

-- the range of a byte, by the state that was found after it
pub found : (b c : ℕ) (r state : State) → c ≡ class b → r ≡ next_state Start c → r ≡ state → Begins b state
found b c r state e f g = let h = begins b in let same : next_state Start (class b) ≡ state = cc in rw same at h

-- a byte that no code has
pub no_code_byte : (b : ℕ) → (0xC0 ≤ b) × (b < 0xC2) ⊎ (0xF5 ≤ b) → (is_continuation b ≡ false) × (asked b ≡ 0)
no_code_byte b (inl h) = (grind (arith, common_steps), asked-0 b (inl (omega arith, h.1)))
no_code_byte b (inr h) = (grind (arith, common_steps), asked-0 b (inr h))
