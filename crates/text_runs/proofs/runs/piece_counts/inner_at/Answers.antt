use Rattle.std.proofs.Common.{◌≡◌, ◌+◌, ◌≤◌, drop, length, get_or, ◌<◌, arith, ap, sym, ◌∙◌, ⊎_elim, true, false, le-leb, length-drop}
use Rattle.std.proofs.lemmas.Bool.{cases_lt, lt-leb}
use Rattle.std.proofs.lemmas.List.{get_or-drop}
use Rattle.text_runs.specs.InnerBytes.{is_longer}
use Rattle.text_runs.proofs.LongerCodes.{inner_four, inner_not_longer, inner_three, inner_two}
use Rattle.text_runs.proofs.runs.piece_counts.inner_at.Goals as goal

pub returns-then-not-is_code-clause-is : goal.returns-then-not-is_code-clause-is
returns-then-not-is_code-clause-is c =
    let xs = c.args.bytes.now in
    let p = c.args.place in
    let w = drop p xs in
    let here : p + 0 ≡ p = omega arith in
    let first : get_or w 0 0 ≡ get_or xs p 0 = get_or-drop p xs 0 0 ∙ ap (λ i. get_or xs i 0) here in
    let test : is_longer (get_or w 0 0) (get_or w 1 0) (get_or w 2 0) (get_or w 3 0) ≡ false
    = rw (first, get_or-drop p xs 1 0, get_or-drop p xs 2 0, get_or-drop p xs 3 0) (sym c.is_longer-is_code.ensures ∙ c.if-not-is_code.true) in
    sym (inner_not_longer w (omega (arith, length-drop p xs)) test)

pub returns-clause-is : goal.returns-clause-is
returns-clause-is c =
    let xs = c.args.bytes.now in
    let p = c.args.place in
    let w = drop p xs in
    let here : p + 0 ≡ p = omega arith in
    let first : get_or w 0 0 ≡ get_or xs p 0 = get_or-drop p xs 0 0 ∙ ap (λ i. get_or xs i 0) here in
    let test : is_longer (get_or w 0 0) (get_or w 1 0) (get_or w 2 0) (get_or w 3 0) ≡ true
    = rw (first, get_or-drop p xs 1 0, get_or-drop p xs 2 0, get_or-drop p xs 3 0) (sym c.is_longer-is_code.ensures ∙ c.if-not-is_code.false) in
    let enough : 4 ≤ length w = omega (arith, length-drop p xs) in
    ⊎_elim
    (λ (two : get_or xs p 0 < 0xE0).
    let more : c.from.result ≡ 0 = rw (lt-leb 0xE0 (get_or xs p 0) two) at c.from.ensures in
    let most : c.from-2.result ≡ 0 = rw (lt-leb 0xF0 (get_or xs p 0) (omega arith)) at c.from-2.ensures in
    omega (arith, inner_two w enough test (omega (arith, first))))
    (λ (long : 0xE0 ≤ get_or xs p 0).
    let more : c.from.result ≡ 1 = rw (le-leb 0xE0 (get_or xs p 0) long) at c.from.ensures in
    ⊎_elim
    (λ (three : get_or xs p 0 < 0xF0).
    let most : c.from-2.result ≡ 0 = rw (lt-leb 0xF0 (get_or xs p 0) three) at c.from-2.ensures in
    omega (arith, inner_three w enough test (omega (arith, first)) (omega (arith, first))))
    (λ (four : 0xF0 ≤ get_or xs p 0).
    let most : c.from-2.result ≡ 1 = rw (le-leb 0xF0 (get_or xs p 0) four) at c.from-2.ensures in
    omega (arith, inner_four w enough test (omega (arith, first))))
    (cases_lt (get_or xs p 0) 0xF0))
    (cases_lt (get_or xs p 0) 0xE0)
