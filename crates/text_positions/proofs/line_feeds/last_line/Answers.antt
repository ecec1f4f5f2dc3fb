use Rattle.std.proofs.Common.{true, false, arith}
use Rattle.text_stream.proofs.UnitFaults.{count_units}
use Rattle.text_positions.proofs.line_feeds.last_line.Goals as goal

pub returns-in-Utf16Le-clause-within : goal.returns-in-Utf16Le-clause-within
returns-in-Utf16Le-clause-within c =
    let within = rw c.units_in.ensures at c.last_line_of-in-Utf16Le.ensures.within in
    let counts = count_units false c.args.bytes.now in
    omega (arith, within, counts.0)

pub overflow_mul-result : goal.overflow_mul-result
overflow_mul-result c = omega (arith, returns-in-Utf16Le-clause-within c)

pub returns-in-Utf16Be-clause-within : goal.returns-in-Utf16Be-clause-within
returns-in-Utf16Be-clause-within c =
    let within = rw c.units_in-in-Utf16Be.ensures at c.last_line_of-in-Utf16Be.ensures.within in
    let counts = count_units true c.args.bytes.now in
    omega (arith, within, counts.0)

pub overflow_mul-result-in-Utf16Be : goal.overflow_mul-result-in-Utf16Be
overflow_mul-result-in-Utf16Be c = omega (arith, returns-in-Utf16Be-clause-within c)
