use Rattle.std.proofs.Common.{length, arith, refl, ap}
use Rattle.std.proofs.lemmas.List.{nil_from_length}
use Rattle.text_stream.specs.Located.{Decoding}
use Rattle.text_stream.proofs.FedPieces.{FeedsKept-front}
use Rattle.text_stream.proofs.decoder.Decoder.feed_kept.Goals as goal

pub returns-then-len-eq0-clause-feeds : goal.returns-then-len-eq0-clause-feeds
returns-then-len-eq0-clause-feeds g c = FeedsKept-front g.K.Kept.keeps_each (nil_from_length c.args.self.now.held (omega (arith, ap (λ (d : Decoding). length d.held) c.self.view_is))) refl refl c.feed_rest.ensures.feeds
