use Rattle.std.proofs.lemmas.List.{take_rest}
use Rattle.std.proofs.Common.{refl}
use Rattle.text_stream.proofs.FedPieces.{FeedsRest-full, FeedsRest-held, decoding_as}
use Rattle.text_stream.proofs.decoder.Decoder.feed_rest.Goals as goal

pub returns-then-run-clause-feeds : goal.returns-then-run-clause-feeds
returns-then-run-clause-feeds g c = FeedsRest-full c.requires.offset (rw c.form.ensures at c.put_run-run.ensures.puts) (decoding_as c.self.view_is refl c.hold.ensures)

pub returns-clause-feeds : goal.returns-clause-feeds
returns-clause-feeds g c =
    FeedsRest-held c.requires.offset (rw c.form.ensures at c.put_run-run.ensures.puts) (c.put_run-run.ensures.few c.if-run.false) (decoding_as c.self.view_is refl (rw (take_rest c.args.part.now c.put_run-run.result.at.read) at c.hold-2.ensures))
