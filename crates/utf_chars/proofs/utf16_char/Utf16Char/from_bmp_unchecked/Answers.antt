use Rattle.std.proofs.Common.{◌<◌, arith, sym}
use Rattle.utf_base.proofs.Utf16Code.{scalar_unit}
use Rattle.utf_chars.proofs.PaddedUnits.{padded_unit, unit_value_padded, IsPadded_units}
use Rattle.utf_chars.proofs.utf16_char.Utf16Char.from_bmp_unchecked.Goals as goal

pub invariant_of-result : goal.invariant_of-result
invariant_of-result c =
    let fits : c.args.bmp < 0x1_0000 = omega arith in
    IsPadded_units _ c.args.bmp (scalar_unit _ fits c.requires) (sym (padded_unit _ fits))

pub returns : goal.returns
returns c =
    let fits : c.args.bmp < 0x1_0000 = omega arith in
    unit_value_padded _ c.args.bmp (scalar_unit _ fits c.requires) (sym (padded_unit _ fits))
