use Rattle.std.proofs.Common.{◌≡◌, [], ◌++◌, drop, arith, ap, sym, ◌∙◌}
use Rattle.std.proofs.lemmas.List.{nil_from_length, take_rest}
use Rattle.recoding.proofs.held.Held.shift.Goals as goal

pub returns-then-len-eq0 : goal.returns-then-len-eq0
returns-then-len-eq0 c =
    let none : c.args.self.now ≡ [] = nil_from_length c.args.self.now (omega arith) in
    c.hold.ensures ∙ take_rest c.args.bytes.now c.args.gone ∙ ap (λ xs. drop c.args.gone (xs ++ c.args.bytes.now)) (sym none)
