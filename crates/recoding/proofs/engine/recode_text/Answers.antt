use Rattle.std.proofs.Common.{take, drop, ◌∙◌, ap}
use Rattle.std.proofs.lemmas.List.{take_rest}
use Rattle.recoding.specs.Strict.{BeginsChar}
use Rattle.recoding.proofs.TextRuns.{PutsText-char, room_for_char}
use Rattle.recoding.proofs.engine.recode_text.Goals as goal

pub put_code-requires : goal.put_code-requires
put_code-requires g c =
    let window = c.first_four.ensures ∙ ap (take 4) (take_rest c.args.bytes.now c.loop-read.read) in
    let d : BeginsChar g.S.Text.form (take 4 (drop c.loop-read.read c.args.bytes.now)) c.in-Some.c c.in-Some.len = rw window at c.in-Some.ensures in
    room_for_char g.met.O.Output.appends_room c.loop-read.invariant d c.requires

pub loop-read-preserved : goal.loop-read-preserved
loop-read-preserved g c =
    let window = c.first_four.ensures ∙ ap (take 4) (take_rest c.args.bytes.now c.loop-read.read) in
    let d : BeginsChar g.S.Text.form (take 4 (drop c.loop-read.read c.args.bytes.now)) c.in-Some.c c.in-Some.len = rw window at c.in-Some.ensures in
    PutsText-char g.met.O.Output.appends_more c.loop-read.invariant d c.put_code.ensures
