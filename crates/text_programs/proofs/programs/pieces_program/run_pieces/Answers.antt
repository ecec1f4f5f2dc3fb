use Rattle.std.proofs.lemmas.Result.{err_from_is_err_and}
use Rattle.text_programs.proofs.ProgramLemmas.{unflushed}
use Rattle.text_programs.proofs.RunLemmas.{BeginsAsked-none, BeginsAsked-all, BeginsAsked-flushed, DoesAsked-flushed}
use Rattle.text_programs.proofs.programs.pieces_program.run_pieces.Goals as goal

pub returns-in_err-request-clause-front : goal.returns-in_err-request-clause-front
returns-in_err-request-clause-front g c = λ asked asks. BeginsAsked-none asked _ _

pub returns-in_err-bytes-clause-front : goal.returns-in_err-bytes-clause-front
returns-in_err-bytes-clause-front g c = λ asked asks. BeginsAsked-none asked _ _

pub returns-in_err-faults-clause-front : goal.returns-in_err-faults-clause-front
returns-in_err-faults-clause-front g c =
    let lines = rw c.as_slice.ensures.value at c.write_asked.ensures.front in
    BeginsAsked-all _ _ _ c.in_ok-request.ensures.asked c.in_ok-bytes.ensures.bytes lines

pub returns-in_err-faults-clause-early : goal.returns-in_err-faults-clause-early
returns-in_err-faults-clause-early g c =
    let from = err_from_is_err_and c.from_residual-in_err-faults.result c.from_residual-in_err-faults.ensures.1 in
    rw (from.1, from.2) (unflushed _ _ _ c.in_err-faults.ensures.early c.in_err-faults.ensures.other_calls)

pub returns-in-Ok-clause-lines : goal.returns-in-Ok-clause-lines
returns-in-Ok-clause-lines g c =
    let lines = rw c.as_slice.ensures.value at c.in_ok-faults.ensures.lines in
    DoesAsked-flushed _ _ _ _ c.in_ok-request.ensures.asked c.in_ok-bytes.ensures.bytes lines c.flush.ensures.keeps

pub returns-in-Ok-clause-front : goal.returns-in-Ok-clause-front
returns-in-Ok-clause-front g c =
    let lines = rw c.as_slice.ensures.value at c.in_ok-faults.ensures.front in
    BeginsAsked-flushed _ _ _ _ c.in_ok-request.ensures.asked c.in_ok-bytes.ensures.bytes lines c.flush.ensures.keeps

pub returns-clause-front : goal.returns-clause-front
returns-clause-front g c =
    let lines = rw c.as_slice.ensures.value at c.in_ok-faults.ensures.front in
    BeginsAsked-flushed _ _ _ _ c.in_ok-request.ensures.asked c.in_ok-bytes.ensures.bytes lines c.flush.ensures.keeps
