use Rattle.std.proofs.Common.{◌+◌, ◌/◌, ◌∙◌, length, ap, arith}
use Rattle.std.proofs.lemmas.List.{length-set}
use Rattle.text_buffers.proofs.RowEditLemmas.{exchanged_len, row_of_sum, sums_but, sums_exchanged, sums_left}
use Rattle.text_buffers.proofs.RowLemmas.{no_counts}
use Rattle.text_buffers.proofs.TableRuns.{on_ok}
use Rattle.text_buffers.proofs.buffers.sums.renew_sums.Goals as goal

pub exchange_sum-requires-clause-part : goal.exchange_sum-requires-clause-part
exchange_sum-requires-clause-part g c d lt = (row_of_sum c.requires.exchanged (c.args.exchange.first / 256) (omega arith) (omega arith) (omega arith) d lt).part

pub exchange_sum-requires-clause-small : goal.exchange_sum-requires-clause-small
exchange_sum-requires-clause-small g c d lt = (row_of_sum c.requires.exchanged (c.args.exchange.first / 256) (omega arith) (omega arith) (omega arith) d lt).small

pub returns-then-last-row-clause-sums : goal.returns-then-last-row-clause-sums
returns-then-last-row-clause-sums g c =
    sums_exchanged c.requires.exchanged (c.args.exchange.first / 256) (omega arith) (omega arith) (omega arith) c.exchange_sum.new.sums.items c.exchange_sum.ensures

pub returns-then-last-row-clause-all : goal.returns-then-last-row-clause-all
returns-then-last-row-clause-all g c =
    let same = ap length (c.exchange_sum.ensures no_counts) ∙ length-set c.args.sums.now.items (c.args.exchange.first / 256) _ in
    let long = exchanged_len c.requires.exchanged (omega arith) in
    same ∙ (c.requires.exchanged.all_before ∙ ap (λ n. n / 256) long)

pub returns-then-count-last-2-clause-all : goal.returns-then-count-last-2-clause-all
returns-then-count-last-2-clause-all g c =
    let long = exchanged_len c.requires.exchanged (omega arith) in
    c.renew_rows.ensures.many ∙ (c.requires.exchanged.all_before ∙ ap (λ n. n / 256) long)

pub renew_rows-requires-clause-others : goal.renew_rows-requires-clause-others
renew_rows-requires-clause-others g c = sums_but c.requires.exchanged (c.args.exchange.first / 256) (c.args.exchange.last / 256 + 1) (omega arith) (omega arith) (omega arith)

pub sum_rows-requires-clause-sums : goal.sum_rows-requires-clause-sums
sum_rows-requires-clause-sums g c = rw c.truncate.ensures.items (sums_left c.requires.exchanged (c.args.exchange.first / 256) (omega arith))

pub returns-clause-all : goal.returns-clause-all
returns-clause-all g c = on_ok c.sum_rows.result (c.sum_rows.ensures.room (omega arith)) c.sum_rows.ensures.all
