use Rattle.std.proofs.Common.{rules, arith}
use Rattle.std.proofs.lemmas.Grind.{common_steps}
use Rattle.text_programs.proofs.Decimal.{length_decimal, length_decimal_step, put_digit, put_first_digit}
use Rattle.text_programs.proofs.programs.lines.fill_decimal.Goals as goal

pub loop-rest-init : goal.loop-rest-init
loop-rest-init c = record {
  room = omega (arith, length_decimal c.args.n (omega arith));
  within = search rules;
  digits = grind (arith, common_steps);
}

pub loop-rest-preserved : goal.loop-rest-preserved
loop-rest-preserved c = record {
  room = omega (arith, length_decimal_step c.loop-rest.rest (omega arith) (omega arith));
  within = search rules;
  digits =
      let i = c.loop-rest.invariant in
      put_digit _ _ _ _ (omega arith) (omega arith) i.room i.within i.digits;
}

pub returns-clause-digits : goal.returns-clause-digits
returns-clause-digits c =
    let i = c.loop-rest.invariant in
    put_first_digit c.args.n c.loop-rest.rest _ _ (omega arith) i.room i.within i.digits
