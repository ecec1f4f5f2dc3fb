use Rattle.std.proofs.Common.{◌≡◌, ◌∙◌, [], ℕ, ◌-◌, ◌≤◌, List, ◌∷◌, arith, ap, refl, length, drop}
use Rattle.std.proofs.lemmas.List.{take_rest}
use Rattle.text_positions.specs.Positions.{Place}
use Rattle.text_positions.proofs.PositionLemmas.{nothing_held, passes_few, passes_many}
use Rattle.text_positions.proofs.position.Position.advance.Goals as goal

pub returns-then-held_len-eq0 : goal.returns-then-held_len-eq0
returns-then-held_len-eq0 c =
    let len = c.held_len.ensures.len in
    λ w h. c.pass.ensures.after w [] c.args.bytes.now (nothing_held c.args.form w c.args.self.now h (none c.args.self.now.held (omega arith))) refl
  where
    none : (xs : List ℕ) → length xs ≤ 0 → xs ≡ []
    none [] le = refl
    none (x ∷ xs) le = absurd (omega arith)

pub returns-else-bytes-gt3 : goal.returns-else-bytes-gt3
returns-else-bytes-gt3 c =
    let joined = rw (ap (λ (p : Place). p.held) c.self.view_is) at c.join-len.ensures.bytes in
    λ w h. passes_few c.args.form w c.args.bytes.now _ c.args.self.now _ _ h c.step_back.ensures.back c.pass-2.ensures.after joined (omega arith)

pub returns-then-bytes-gt3 : goal.returns-then-bytes-gt3
returns-then-bytes-gt3 c =
    let joined = rw (ap (λ (p : Place). p.held) c.self.view_is) at c.join-len.ensures.bytes in
    let len = c.held_len-again.ensures.len in
    let (within, end) = c.pass-2.ensures.held in
    λ w h.
    passes_many c.args.form w c.args.bytes.now _ _ c.args.self.now _ _ _ _ h c.step_back.ensures.back c.pass-2.ensures.after joined within end (omega arith) c.held_len-again.ensures.few
    c.step_back-then-bytes-gt3.ensures.back (take_rest c.args.bytes.now (3 - c.held_len-again.result) ∙ ap (λ k. drop (3 - k) c.args.bytes.now) len) c.pass-then-bytes-gt3.ensures.after
