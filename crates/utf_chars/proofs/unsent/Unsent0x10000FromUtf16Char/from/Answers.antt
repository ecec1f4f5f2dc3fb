use Rattle.std.proofs.Common.{◌≡◌, ◌<◌, ◌≤◌, ℕ, ◌∙◌, ap, length, get_or, rules, arith}
use Rattle.utf_chars.specs.Digits.{low_digits}
use Rattle.utf_chars.proofs.DigitLemmas.{first_digits, number_of_units}
use Rattle.utf_chars.proofs.PaddedLemmas.{code_of_padded}
use Rattle.utf_chars.proofs.unsent.Unsent0x10000FromUtf16Char.from.Goals as goal

pub returns : goal.returns
returns c =
    let two : length c.to_array.result ≡ 2 = search rules in
    let below : (i : ℕ) → get_or c.to_array.result i 0 < 0x1_0000 = search rules in
    let within : c.len.result ≤ length c.to_array.result = omega arith in
    c.new.ensures ∙ ap (λ n. low_digits 0x1_0000 c.len.result n) (number_of_units c.to_array.result two)
    ∙ first_digits 0x1_0000 c.len.result c.to_array.result within below ∙ code_of_padded _ _ _ _ c.to_array.ensures.code c.len.ensures.len
