use Rattle.std.proofs.Common.{◌≡◌, ◌⊎◌, ◌<◌, ◌≤◌, length, arith, inl, inr, ⊎_elim}
use Rattle.std.proofs.lemmas.Bool.{cases_lt}
use Rattle.text_runs.proofs.SplitNumbers.{bytes_split}
use Rattle.text_runs.proofs.runs.numbers.number_of.Goals as goal

pub returns : goal.returns
returns c =
    let xs = c.args.bytes.now in
    let m = c.args.offset in
    let end = c.ceil-end.result in
    let first = c.ceil-end.ensures in
    let within : end ≤ length xs = first.between.within in
    let after : c.min.result ≤ end = first.after in
    let far : (m ≤ end) ⊎ (end ≡ length xs) = ⊎_elim (λ (lt : m < length xs). inl (omega arith)) (λ (ge : length xs ≤ m). inr (omega arith)) (cases_lt m (length xs)) in
    rw c.char_count.ensures (bytes_split xs end within first.between.outside m far (λ n lo hi. first.first n (omega arith) hi))
