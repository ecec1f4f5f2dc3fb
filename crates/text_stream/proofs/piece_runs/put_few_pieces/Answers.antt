use Rattle.std.proofs.Common.{◌∙◌, ◌+◌, ap, arith}
use Rattle.std.proofs.lemmas.List.{take_rest}
use Rattle.text_stream.specs.Located.{told_of, wrapped}
use Rattle.text_stream.proofs.LocatedLemmas.{PutsKept-none, PutsKept-piece, PutsKept-then}
use Rattle.text_stream.proofs.piece_runs.put_few_pieces.Goals as goal

pub loop-count-init : goal.loop-count-init
loop-count-init g c = (PutsKept-none g.K.Kept.keeps_each _ _ _ _ _ c.requires.0 c.requires.1, omega arith)

pub loop-count-preserved : goal.loop-count-preserved
loop-count-preserved g c =
    let at = c.loop-count.at in
    let (puts, on) = c.loop-count.invariant in
    let begins = rw (take_rest c.args.bytes.now at.read) at c.in-Some.ensures.begins in
    let some = begins.some in
    let is_len = c.len.ensures in
    let read_on = c.past-at.ensures.read in
    let piece = PutsKept-piece (told_of c.in-Some.front) begins puts.within (rw c.past-at.ensures.written c.in-Some-write_piece.ensures.some) (read_on ∙ ap (λ n. at.read + n) is_len) (c.past-at.ensures.offset ∙ ap (λ n. wrapped (at.offset + n)) is_len) in
    (PutsKept-then g.K.Kept.keeps_each puts piece, omega arith)

pub returns-then-not-keeps-clause-puts : goal.returns-then-not-keeps-clause-puts
returns-then-not-keeps-clause-puts g c =
    let at = c.loop-count.at in
    let (puts, on) = c.loop-count.invariant in
    let begins = rw (take_rest c.args.bytes.now at.read) at c.in-Some.ensures.begins in
    let is_len = c.len.ensures in
    let piece = PutsKept-piece (told_of c.in-Some.front) begins puts.within (rw c.past-at.ensures.written c.in-Some-write_piece.ensures.some) (c.past-at.ensures.read ∙ ap (λ n. at.read + n) is_len) (c.past-at.ensures.offset ∙ ap (λ n. wrapped (at.offset + n)) is_len) in
    rw c.run_ended-then-not-keeps.ensures (PutsKept-then g.K.Kept.keeps_each puts piece)
