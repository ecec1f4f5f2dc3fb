use Rattle.std.proofs.Common.{◌≡◌, ◌<◌, length, get_or, rules, ◌∙◌}
use Rattle.utf_chars.proofs.OwnCodes.{own_units}
use Rattle.utf_chars.proofs.PaddedUnits.{IsPadded_units_of, two_elements}
use Rattle.utf_chars.proofs.utf16_char.Utf16Char.from_array_unchecked.Goals as goal

pub returns-clause-known : goal.returns-clause-known
returns-clause-known c =
    let u : get_or c.args.array 0 0 < 0x1_0000 = search rules in
    let v : get_or c.args.array 1 0 < 0x1_0000 = search rules in
    let two : length c.args.array ≡ 2 = search rules in
    let kept = IsPadded_units_of _ _ u v c.requires in
    (own_units c.args.array _ kept.scalar (two_elements c.args.array two ∙ kept.equal)).decodes
