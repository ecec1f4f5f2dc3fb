use Rattle.std.proofs.Common.{◌<◌, ◌≤◌, length, drop, arith, inl, inr, subst, ⊎_elim, length-drop}
use Rattle.std.proofs.lemmas.Bool.{cases_lt}
use Rattle.std.specs.List.{concat}
use Rattle.encode_unicode.specs.Window.{IsFrontPiece}
use Rattle.text_buffers.proofs.LookupLemmas.{front_decides}
use Rattle.text_buffers.proofs.buffers.chunks.Chunks.piece_from.Goals as goal

pub returns-then-here-ge-DECIDE-clause-piece : goal.returns-then-here-ge-DECIDE-clause-piece
returns-then-here-ge-DECIDE-clause-piece g c =
    let here = c.chunk_from-here.result.now in
    front_decides (drop c.args.at (concat c.args.self.now)) (length here) _ _ (inl (omega arith))
    (subst (λ ys. IsFrontPiece ys c.first_piece.result.1 c.first_piece.result.2) c.chunk_from-here.ensures.bytes c.first_piece.ensures.piece)

pub returns-clause-piece : goal.returns-clause-piece
returns-clause-piece g c =
    let rest = drop c.args.at (concat c.args.self.now) in
    let len = c.front_at-front.result.len in
    let left = length-drop c.args.at (concat c.args.self.now) in
    front_decides rest len _ _
    (⊎_elim (λ (few : len < 4). let all = c.front_at-front.ensures.all few in inr (omega arith)) (λ (long : 4 ≤ len). inl long) (cases_lt len 4))
    (rw c.front_at-front.ensures.bytes at c.first_piece-2.ensures.piece)
