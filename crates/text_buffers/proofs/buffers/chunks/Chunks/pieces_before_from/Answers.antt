use Rattle.std.proofs.Common.{◌≡◌, take, ap, ◌∙◌, arith}
use Rattle.std.proofs.lemmas.List.{take_all}
use Rattle.std.specs.List.{concat}
use Rattle.text_buffers.specs.Counts.{counts_of}
use Rattle.text_buffers.specs.declared.buffers.counts.Counts.{Counts}
use Rattle.text_runs.proofs.JoinedCounts.{pieces_few}
use Rattle.text_buffers.proofs.NumberLemmas.{ChunkAt, all_found, number_found}
use Rattle.text_buffers.proofs.buffers.chunks.Chunks.pieces_before_from.Goals as goal

pub returns-then-mark-len : goal.returns-then-mark-len
returns-then-mark-len g c =
    let chunks = c.args.self.now in
    let mark = c.mark_from-mark.result in
    let all : take mark.number chunks ≡ chunks = take_all mark.number chunks (omega arith) in
    let before = c.mark_from-mark.ensures.mark.before in
    let counted : mark.before ≡ counts_of (concat chunks) = before ∙ ap (λ cs. counts_of (concat cs)) all in
    rw counted (all_found chunks c.args.at c.len.ensures.held.ends (omega (arith, ap (λ (k : Counts). k.bytes) counted, c.mark_from-mark.ensures.before)))

pub overflow_add-result : goal.overflow_add-result
overflow_add-result g c =
    let mark = c.mark_from-mark.result in
    let at : ChunkAt c.args.self.now mark.number mark.before.bytes c.chunk-chunk.result.now
    = record { ends = c.len.ensures.held.ends; spot = c.mark_from-mark.ensures.spot; lt = omega (arith, c.mark_from-mark.ensures.spot.within); is = c.chunk-chunk.ensures.is } in
    let found = number_found c.args.self.now mark.number mark.before.bytes c.chunk-chunk.result.now at c.args.at c.ceil-end.result c.mark_from-mark.ensures.before c.mark_from-mark.ensures.has
    (rw (c.min.ensures, c.len-2.ensures, c.bytes.ensures) at c.ceil-end.ensures) in
    let of_mark = ap (λ (k : Counts). k.pieces) c.mark_from-mark.ensures.mark.before in
    omega (arith, found.within, pieces_few (concat c.args.self.now), c.len.ensures.held.small, c.pieces_up_to.ensures)

pub returns : goal.returns
returns g c =
    let mark = c.mark_from-mark.result in
    let at : ChunkAt c.args.self.now mark.number mark.before.bytes c.chunk-chunk.result.now
    = record { ends = c.len.ensures.held.ends; spot = c.mark_from-mark.ensures.spot; lt = omega (arith, c.mark_from-mark.ensures.spot.within); is = c.chunk-chunk.ensures.is } in
    let found = number_found c.args.self.now mark.number mark.before.bytes c.chunk-chunk.result.now at c.args.at c.ceil-end.result c.mark_from-mark.ensures.before c.mark_from-mark.ensures.has
    (rw (c.min.ensures, c.len-2.ensures, c.bytes.ensures) at c.ceil-end.ensures) in
    rw (ap (λ (k : Counts). k.pieces) c.mark_from-mark.ensures.mark.before, c.pieces_up_to.ensures) found
