use Rattle.std.proofs.lemmas.Option.{IfSome_then}
use Rattle.recoding.proofs.FirstPieces.{BeginsChar-utf8}
use Rattle.recoding.proofs.text.Utf8Text.next_valid.Goals as goal

pub returns : goal.returns
returns c = IfSome_then _ c.front_of_text.ensures.some (λ x begins. BeginsChar-utf8 _ _ _ begins)
