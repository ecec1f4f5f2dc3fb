use Rattle.std.proofs.Common.{length, arith, refl, ap}
use Rattle.std.proofs.lemmas.List.{nil_from_length}
use Rattle.text_stream.specs.Located.{Decoding}
use Rattle.text_stream.proofs.FedPieces.{FeedsKept-rest}
use Rattle.text_stream.proofs.decoder.Decoder.feed_joined.Goals as goal

pub returns-clause-feeds : goal.returns-clause-feeds
returns-clause-feeds g c =
    FeedsKept-rest g.K.Kept.keeps_each c.feed_held-first.ensures.feeds (nil_from_length c.feed_held-first.new.self.held (omega (arith, ap (λ (d : Decoding). length d.held) c.self.view_is))) refl refl c.feed_rest.ensures.feeds
