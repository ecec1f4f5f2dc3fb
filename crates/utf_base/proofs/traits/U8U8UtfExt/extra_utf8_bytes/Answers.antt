use Rattle.std.proofs.Common.{◌≡◌, ℕ, ◌+◌, ◌-◌, ◌*◌, ◌^◌, ◌<◌, ◌≤◌, ◌⊎◌, inl, inr, refl, arith, true}
use Rattle.std.proofs.lemmas.Grind.{common_steps}
use Rattle.std.specs.Int.{w8, leading_ones}
use Rattle.std.specs.Int.Count.{leading_unique}
use Rattle.utf_base.specs.declared.table.State.{State}
use Rattle.utf_base.specs.declared.table.State.TheVariants.{Start, OneMore, TwoMore, ThreeMore, AfterE0, AfterEd, AfterF0, AfterF4, Done, Unexpected, Never}
use Rattle.utf_base.specs.Kinds.{is_continuation}
use Rattle.utf_base.specs.Table.{class, next_state}
use Rattle.utf_base.proofs.FrontLemmas.{asked-0, asked-1, asked-2, asked-3, asked-4}
use Rattle.utf_base.proofs.TableLemmas.{Begins, found, no_code_byte}
use Rattle.utf_base.proofs.traits.U8U8UtfExt.extra_utf8_bytes.Goals as goal

-- a byte whose complement has m digits has 8 - m leading ones
ones : (b r m : ℕ) → r + m ≡ 8 → 255 - b < 2 ^ m → 2 ^ m ≤ 2 * (255 - b) + 1 → r ≡ leading_ones w8 b
ones b r m e below least = leading_unique 8 (255 - b) r m e below least

-- the states that three bytes and four have in common with their range
found-3 : (b c : ℕ) (r : State) → c ≡ class b → r ≡ next_state Start c → (r ≡ TwoMore) ⊎ ((r ≡ AfterE0) ⊎ (r ≡ AfterEd)) → (0xE0 ≤ b) × (b < 0xF0)
found-3 b c r e f (inl g) = let h = found b c r TwoMore e f g in (omega arith, omega arith)
found-3 b c r e f (inr (inl g)) = let h = found b c r AfterE0 e f g in (omega arith, omega arith)
found-3 b c r e f (inr (inr g)) = let h = found b c r AfterEd e f g in (omega arith, omega arith)

found-4 : (b c : ℕ) (r : State) → c ≡ class b → r ≡ next_state Start c → (r ≡ ThreeMore) ⊎ ((r ≡ AfterF0) ⊎ (r ≡ AfterF4)) → (0xF0 ≤ b) × (b < 0xF5)
found-4 b c r e f (inl g) = let h = found b c r ThreeMore e f g in (omega arith, omega arith)
found-4 b c r e f (inr (inl g)) = let h = found b c r AfterF0 e f g in (omega arith, omega arith)
found-4 b c r e f (inr (inr g)) = let h = found b c r AfterF4 e f g in (omega arith, omega arith)

pub returns-in-Done : goal.returns-in-Done
returns-in-Done c =
    let h = found _ _ _ Done c.class_of.ensures.class c.step.ensures c.in-Done.is in
    record { asks = asked-1 _ h; most = omega arith; unchecked = rw (← ones c.args.self 0 8 refl (omega arith) (omega arith)) refl }

pub returns-in-OneMore : goal.returns-in-OneMore
returns-in-OneMore c =
    let h = found _ _ _ OneMore c.class_of.ensures.class c.step.ensures c.in-OneMore.is in
    record { asks = asked-2 _ h.0 h.1; most = omega arith; unchecked = rw (← ones c.args.self 2 6 refl (omega arith) (omega arith)) refl }

pub returns-in-TwoMore : goal.returns-in-TwoMore
returns-in-TwoMore c =
    let h = found-3 _ _ _ c.class_of.ensures.class c.step.ensures c.in-TwoMore.is in
    record { asks = asked-3 _ h.0 h.1; most = omega arith; unchecked = rw (← ones c.args.self 3 5 refl (omega arith) (omega arith)) refl }

pub returns-in-ThreeMore : goal.returns-in-ThreeMore
returns-in-ThreeMore c =
    let h = found-4 _ _ _ c.class_of.ensures.class c.step.ensures c.in-ThreeMore.is in
    record { asks = asked-4 _ h.0 h.1; most = omega arith; unchecked = rw (← ones c.args.self 4 4 refl (omega arith) (omega arith)) refl }

pub returns-in-Unexpected-clause-asks : goal.returns-in-Unexpected-clause-asks
returns-in-Unexpected-clause-asks c =
    let h = found _ _ _ Unexpected c.class_of.ensures.class c.step.ensures c.in-Unexpected.is in
    let first : is_continuation c.args.self ≡ true = grind (arith, common_steps) in
    (asked-0 _ (inl (omega arith, omega arith)), rw (c.new.ensures, first) refl)

-- the remaining bytes are those that no code has
never : (b : ℕ) (r : State) → Begins b r
    → (r ≡ OneMore → ⊥) × (r ≡ TwoMore → ⊥) × (r ≡ ThreeMore → ⊥) × (r ≡ AfterE0 → ⊥) × (r ≡ AfterEd → ⊥)
    × (r ≡ AfterF0 → ⊥) × (r ≡ AfterF4 → ⊥) × (r ≡ Done → ⊥) × (r ≡ Unexpected → ⊥)
    → (0xC0 ≤ b) × (b < 0xC2) ⊎ (0xF5 ≤ b)
never b OneMore h not = absurd (not.0 refl)
never b TwoMore h not = absurd (not.1 refl)
never b ThreeMore h not = absurd (not.2 refl)
never b AfterE0 h not = absurd (not.3 refl)
never b AfterEd h not = absurd (not.4 refl)
never b AfterF0 h not = absurd (not.5 refl)
never b AfterF4 h not = absurd (not.6 refl)
never b Done h not = absurd (not.7 refl)
never b Unexpected h not = absurd (not.8 refl)
never b Never h not = h
never b _ h not = absurd h

pub returns-in_default : goal.returns-in_default
returns-in_default c =
    let n = c.in_default in
    let range = never c.args.self c.step.result (found _ _ _ c.step.result c.class_of.ensures.class c.step.ensures refl) (n.not-OneMore, n.not-TwoMore, n.not-ThreeMore, n.not-AfterE0, n.not-AfterEd, n.not-AfterF0, n.not-AfterF4, n.not-Done, n.not-Unexpected) in
    let byte = no_code_byte c.args.self range in
    record { asks = (byte.1, rw (c.new-in_default.ensures, byte.0) refl); most = tt; unchecked = tt }
