use Rattle.std.proofs.Common.{◌+◌, length, take, drop, sym, subst, ◌∙◌}
use Rattle.std.proofs.KnownBytes.{Appends-trans}
use Rattle.std.proofs.lemmas.List.{take-append-drop}
use Rattle.text_runs.specs.Failures.{AppendsFront}
use Rattle.text_buffers.proofs.CursorPlaces.{next_part}
use Rattle.text_runs.proofs.Fronts.{AppendsFront-first, AppendsFront-then}
use Rattle.text_buffers.proofs.buffers.text_buffer.TextBuffer.write_to.Goals as goal

pub loop-offset-preserved : goal.loop-offset-preserved
loop-offset-preserved g c =
    let part = c.chunk_at-part.result.now in
    let now = c.loop-offset.invariant in
    let next = next_part c.args.self.now part c.loop-offset.offset now.0 c.chunk_at-part.ensures.bytes in
    let put = c.in_ok-write_whole.ensures in (
      next.0,
      rw next.1 (Appends-trans _ _ _ (take c.loop-offset.offset c.args.self.now) part now.1 put.ok),
      λ is. put.quiet is ∙ now.2 is,
      λ is. put.other_calls is ∙ now.3 is,
    )

pub returns-in_err-write_whole-clause-front : goal.returns-in_err-write_whole-clause-front
returns-in_err-write_whole-clause-front g c =
    let part = c.chunk_at-part.result.now in
    let now = c.loop-offset.invariant in
    let old = g.S.Sink.contents c.args.to.now in
    let new = g.S.Sink.contents c.write_whole.new.to in
    let next = next_part c.args.self.now part c.loop-offset.offset now.0 c.chunk_at-part.ensures.bytes in
    let n = c.loop-offset.offset + length part in
    let front : AppendsFront old new (take n c.args.self.now)
    = subst (AppendsFront old new) (sym next.1) (AppendsFront-then old _ new (take c.loop-offset.offset c.args.self.now) part now.1 c.in_err-write_whole.ensures.front) in
    subst (AppendsFront old new) (take-append-drop n c.args.self.now) (AppendsFront-first old new (take n c.args.self.now) (drop n c.args.self.now) front)
