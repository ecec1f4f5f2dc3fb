use Rattle.std.proofs.Common.{◌≡◌, length, drop, ap, arith}
use Rattle.std.proofs.lemmas.List.{take_rest}
use Rattle.encode_unicode.specs.Pieces.{pieces}
use Rattle.text_buffers.specs.declared.buffers.counts.Counts.{Counts}
use Rattle.text_runs.proofs.SplitNumbers.{bytes_counted}
use Rattle.text_buffers.proofs.buffers.lookups.pieces_up_to.Goals as goal

pub overflow_sub-result : goal.overflow_sub-result
overflow_sub-result g c =
    let x = c.args.chunk.now in
    let both = bytes_counted x c.args.end c.requires.within c.requires.outside in
    let rest : c.piece_count-2.result ≡ length (pieces (drop c.args.end x)) = rw (c.bytes-bytes.ensures, take_rest x c.args.end) at c.piece_count-2.ensures in
    omega (arith, ap (λ (k : Counts). k.pieces) c.counts.ensures)

pub returns : goal.returns
returns g c =
    let x = c.args.chunk.now in
    let both = bytes_counted x c.args.end c.requires.within c.requires.outside in
    let rest : c.piece_count-2.result ≡ length (pieces (drop c.args.end x)) = rw (c.bytes-bytes.ensures, take_rest x c.args.end) at c.piece_count-2.ensures in
    omega (arith, ap (λ (k : Counts). k.pieces) c.counts.ensures)
