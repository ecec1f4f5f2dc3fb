use Rattle.std.proofs.Common.{◌<◌, ◌≤◌, ◌^◌, arith, append_assoc, refl}
use Rattle.text_programs.proofs.Decimal.{decimal_hundreds}
use Rattle.text_programs.proofs.programs.offset.Offset.push_to.Goals as goal

pub returns-else-self-eq0-clause-digits : goal.returns-else-self-eq0-clause-digits
returns-else-self-eq0-clause-digits c =
    let large : 100 ≤ c.args.self.now = omega (arith, c.self.view_is) in
    let fits : c.args.self.now < 2 ^ 64 = omega (arith, c.self.view_is) in
    rw (c.push_text.ensures, c.push_front.ensures, c.hundreds_digits-count.ensures.digits, c.last_two.ensures, decimal_hundreds c.args.self.now large fits, append_assoc) refl
