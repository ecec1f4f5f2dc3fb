-- The pieces of ASCII characters.
use Rattle.std.proofs.Common.{◌≡◌, ℕ, suc, ◌<◌, List, [], ◌∷◌, ◌++◌, get_or, length, map, refl, arith, ◌∙◌, ap, sym}
use Rattle.std.proofs.lemmas.List.FromFn.{get_or-map-range_with_len}
use Rattle.std.specs.List.{range_with_len}
use Rattle.utf_base.proofs.DecodedLemmas.{decoded_code}
use Rattle.utf_base.proofs.KindLemmas.{ascii_stands_alone}
use Rattle.c_api.specs.Api.{ascii_piece_of, first_piece_of, GivesEach}
use Rattle.c_api.specs.declared.ascii_pieces.TheConstants.{PIECES}
use Rattle.c_api.specs.declared.piece.NodyPiece.{NodyPiece}

-- The whole table, computed.
pieces : PIECES ≡ map ascii_piece_of (range_with_len 0 128)
pieces = refl

pub piece_at : (b : ℕ) (d : NodyPiece) → b < 128 → get_or PIECES b d ≡ ascii_piece_of b
piece_at b d lt = ap (λ xs. get_or xs b d) pieces ∙ get_or-map-range_with_len ascii_piece_of 0 128 b b d lt (omega arith)

-- an ASCII byte is the first piece of what it begins
pub ascii_first : (w : List ℕ) → 0 < length w → get_or w 0 0 < 0x80 → ascii_piece_of (get_or w 0 0) ≡ first_piece_of w
ascii_first w some low =
    let (stands, len) = ascii_stands_alone w 0 some low in
    rw (decoded_code w (get_or w 0 0) stands, sym len) refl

-- bytes of ASCII are a piece each, whatever follows them
pub ascii_run : (xs ys : List ℕ) → ((k : ℕ) → k < length xs → get_or xs k 0 < 0x80) → GivesEach first_piece_of (xs ++ ys) (map ascii_piece_of xs) ys
ascii_run [] ys low = refl
ascii_run (x ∷ xs) ys low =
    (omega arith, ascii_first (x ∷ (xs ++ ys)) (omega arith) (low 0 (omega arith)), ascii_run xs ys (λ k lt. low (suc k) (omega (arith, lt))))
