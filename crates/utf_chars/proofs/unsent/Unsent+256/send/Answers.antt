use Rattle.std.proofs.Common.{◌++◌, length, drop, ap, sym, ◌∙◌, arith}
use Rattle.std.proofs.lemmas.List.{take_all}
use Rattle.std.proofs.Math.ListN.{drop_of_length-le}
use Rattle.utf_base.specs.Code.{utf8}
use Rattle.utf_base.proofs.Utf8Code.{length_utf8}
use Rattle.utf_chars.proofs.unsent.Unsent+256.send.Goals as goal

pub returns-then-buf-ge4-clause-count : goal.returns-then-buf-ge4-clause-count
returns-then-buf-ge4-clause-count c =
    let most = length_utf8 c.args.c in
    omega arith

pub returns-then-buf-ge4-clause-written : goal.returns-then-buf-ge4-clause-written
returns-then-buf-ge4-clause-written c =
    let most = length_utf8 c.args.c in
    c.to_slice-count.ensures.written ∙ ap (λ xs. xs ++ drop (length (utf8 c.args.c)) c.args.buf.now) (sym (take_all _ (utf8 c.args.c) (omega arith)))

pub returns-then-buf-ge4-clause-left : goal.returns-then-buf-ge4-clause-left
returns-then-buf-ge4-clause-left c =
    let most = length_utf8 c.args.c in
    c.default.ensures ∙ sym (drop_of_length-le (utf8 c.args.c) (omega arith))
