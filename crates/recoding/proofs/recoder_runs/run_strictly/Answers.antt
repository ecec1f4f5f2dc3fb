use Rattle.std.proofs.Common.{◌≡◌, ◌-◌, ◌++◌, take, drop, arith, sym, ap, ◌∙◌, length-drop}
use Rattle.std.proofs.lemmas.List.{drop-append-le, drop-drop, take_rest}
use Rattle.recoding.proofs.RoomLemmas.{cut_part}
use Rattle.recoding.proofs.StrictSteps.{StopsAt-joined, drop_second, joined_left}
use Rattle.recoding.proofs.TextRuns.{PutsText-after, PutsText-front, PutsText-none}
use Rattle.recoding.proofs.recoder_runs.run_strictly.Goals as goal

pub loop-read-init : goal.loop-read-init
loop-read-init g c = PutsText-none g.met.O.Output.appends_none

pub loop-read-preserved : goal.loop-read-preserved
loop-read-preserved g c =
    let held = c.args.held.now in
    let part = c.args.part.now in
    let read = c.loop-read.read in
    let joined = cut_part read c.join-len.result.1 c.join-len.result.0 (omega arith) ∙ ap (drop read) c.join-len.ensures.bytes ∙ drop-append-le read held (take 3 part) (omega arith) in
    let rest : drop read (held ++ part) ≡ drop read held ++ part = drop-append-le read held part (omega arith) in
    PutsText-after g.met.O.Output.appends_more c.loop-read.invariant (rw (rest, sym (joined_left _ (drop read held) part joined)) (PutsText-front (drop 3 part) c.in-Ok.ensures.puts))

pub returns-in-Err-clause-puts : goal.returns-in-Err-clause-puts
returns-in-Err-clause-puts g c = rw c.in-Err.ensures.kept c.loop-read.invariant

pub returns-in-Err-clause-stops : goal.returns-in-Err-clause-stops
returns-in-Err-clause-stops g c =
    let held = c.args.held.now in
    let part = c.args.part.now in
    let read = c.loop-read.read in
    let joined = cut_part read c.join-len.result.1 c.join-len.result.0 (omega arith) ∙ ap (drop read) c.join-len.ensures.bytes ∙ drop-append-le read held (take 3 part) (omega arith) in
    let rest : drop read (held ++ part) ≡ drop read held ++ part = drop-append-le read held part (omega arith) in
    rw rest (StopsAt-joined (drop read held) part c.in-Err.first joined (omega (arith, length-drop read held)) c.in-Err.ensures.stops)

pub returns-clause-puts : goal.returns-clause-puts
returns-clause-puts g c =
    let held = c.args.held.now in
    let part = c.args.part.now in
    let read = c.loop-read.read in
    let rest = take_rest part (read - c.len-count.result) ∙ ap (λ n. drop (read - n) part) c.len-count.ensures.len ∙ sym (drop_second read held part (omega arith)) in
    PutsText-after g.met.O.Output.appends_more c.loop-read.invariant (rw rest at c.run_by_pieces-more.ensures.puts)

pub returns-clause-stops : goal.returns-clause-stops
returns-clause-stops g c =
    let held = c.args.held.now in
    let part = c.args.part.now in
    let read = c.loop-read.read in
    let more = c.run_by_pieces-more.result.0 in
    let rest = ap (drop more) (take_rest part (read - c.len-count.result) ∙ ap (λ n. drop (read - n) part) c.len-count.ensures.len ∙ sym (drop_second read held part (omega arith))) ∙ drop-drop more read (held ++ part) in
    rw rest at c.run_by_pieces-more.ensures.stops
