use Rattle.std.proofs.Common.{◌≡◌, ◌⊎◌, ◌<◌, ◌≤◌, length, arith, inl, inr, ⊎_elim}
use Rattle.std.proofs.lemmas.Bool.{cases_lt}
use Rattle.std.proofs.lemmas.List.Elements.{All-from_get_or}
use Rattle.utf_base.specs.Scalar.{IsUnits}
use Rattle.text_runs.proofs.SplitNumbers.{units_split}
use Rattle.text_runs.proofs.runs.numbers.unit_number_of.Goals as goal

pub returns : goal.returns
returns c =
    let xs = c.args.units.now in
    let m = c.args.offset in
    let end = c.unit_boundary_after-end.result in
    let first = c.unit_boundary_after-end.ensures.end in
    let within : end ≤ length xs = first.within in
    let units : IsUnits xs = All-from_get_or (λ u. u < 0x1_0000) xs 0 (λ i lt. (c.type_inv.units i).fits) in
    let far : (m ≤ end) ⊎ (end ≡ length xs) = ⊎_elim (λ (lt : m < length xs). inl (first.after (omega arith))) (λ (ge : length xs ≤ m). inr (first.end ge)) (cases_lt m (length xs)) in
    rw c.unit_char_count.ensures
    (units_split xs units end within first.outside m far (λ n lo hi none. let later = first.first n (omega arith) lo none in omega arith))
