use Rattle.std.proofs.Common.{◌≡◌, length-take, take, arith}
use Rattle.std.proofs.lemmas.List.{take-take, take_rest}
use Rattle.text_runs.proofs.StepLemmas.{ascii_step, text_and_piece, text_step}
use Rattle.text_runs.proofs.runs.steps.next_step.Goals as goal

pub returns-then-ascii-gt0-clause-step : goal.returns-then-ascii-gt0-clause-step
returns-then-ascii-gt0-clause-step c = ascii_step c.args.bytes.now c.min.result c.ascii_wide_end-ascii.result c.ascii_wide_end-ascii.ensures.within c.ascii_wide_end-ascii.ensures.ascii

pub returns-then-text-bytes-clause-step : goal.returns-then-text-bytes-clause-step
returns-then-text-bytes-clause-step c =
    let xs = c.args.bytes.now in
    let n = c.valid_up_to-text.result in
    let told = c.valid_up_to-text.ensures in
    let within = told.within in
    let part = length-take c.min.result xs in
    let front : take n (take c.min.result xs) ≡ take n xs = take-take n c.min.result xs (omega arith) in
    text_step xs n _ (omega arith) (rw front at told.text) (rw front at c.starts_in-starts.ensures)

pub returns-clause-step : goal.returns-clause-step
returns-clause-step c =
    let xs = c.args.bytes.now in
    let n = c.valid_up_to-text.result in
    let told = c.valid_up_to-text.ensures in
    let within = told.within in
    let part = length-take c.min.result xs in
    let front : take n (take c.min.result xs) ≡ take n xs = take-take n c.min.result xs (omega arith) in
    text_and_piece xs n _ _ (omega arith) (rw front at told.text) (rw front at c.starts_in-starts.ensures) c.piece_step-piece.ensures.one (rw (take_rest xs n) at c.piece_step-piece.ensures.step)
