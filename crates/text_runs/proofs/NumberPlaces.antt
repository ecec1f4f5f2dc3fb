-- The offset of the piece with a number.
use Rattle.std.proofs.Common.{◌≡◌, ℕ, ◌<◌, List, length, get_or, map, arith, refl, ap, ◌∙◌, Some, None, Option}
use Rattle.std.proofs.lemmas.List.{get_or-map, length-map}
use Rattle.std.proofs.lemmas.Option.{slice_get_within, get_or_from_slice_get}
use Rattle.std.specs.Prelude.{option_map, slice_get}
use Rattle.utf_base.specs.Piece.{Piece}
use Rattle.encode_unicode.specs.Pieces.{pieces}
use Rattle.encode_unicode.specs.Window.{Item}
use Rattle.text_runs.specs.Items.{piece_of}
use Rattle.text_runs.proofs.ForwardRuns.{pieces_are_the_run}

-- the offset of the piece with a number lies in the bytes
pub number_within : (xs : List ℕ) (number i : ℕ) → Some i ≡ option_map (λ (z : Item). z.0) (slice_get (pieces xs) number) → i < length xs
number_within xs number i told = by_item (slice_get (pieces xs) number) refl told
  where
    by_item : (o : Option Item) → slice_get (pieces xs) number ≡ o → Some i ≡ option_map (λ (z : Item). z.0) o → i < length xs
    by_item None e t = absurd cc
    by_item (Some z) e t =
        let at : i ≡ z.0 = cc in
        let lt : number < length (pieces xs) = slice_get_within (pieces xs) number z e in
        let is : get_or (pieces xs) number z ≡ z = get_or_from_slice_get (pieces xs) number z z e in
        let lt' : number < length (map piece_of (pieces xs)) = omega (arith, length-map (pieces xs) piece_of) in
        let read : get_or (map piece_of (pieces xs)) number (piece_of z) ≡ piece_of z = get_or-map piece_of (pieces xs) number z (piece_of z) lt ∙ ap piece_of is in
        let before = ((pieces_are_the_run xs).cut.pieces number (piece_of z) lt').2 in
        omega (arith, ap (λ (w : Piece). w.start) read)
