-- The items of calls of a decoder or of an iterator over a text, one after another: the list, once they have ended.
use Rattle.std.proofs.Common.{◌≡◌, ℕ, ◌+◌, ◌≤◌, List, [], ◌∷◌, ◌++◌, length, Option, Some, None, refl, ap, sym, ◌∙◌, arith, append-nil, length-append}
use Rattle.std.specs.Iterator.{Yields}
use Rattle.std.specs.List.{flat_map}
use Rattle.std.specs.Str.{chars, IsUtf8}
use Rattle.utf_base.specs.Code.{utf8}
use Rattle.encode_unicode.specs.Pieces.{GaveAll, GiveAtMost, chars_left, pieces, pieces_left, placed_chars, placed_chars_left, unit_pieces, unit_pieces_left}
use Rattle.encode_unicode.specs.Sources.{IsListed}
use Rattle.encode_unicode.specs.TextWindow.{NextPlaced, NextScalar}
use Rattle.encode_unicode.specs.Window.{Window, NextGives, NextGivesUnits, whole_window}
use Rattle.utf_base.proofs.JoinedLengths.{some_utf8}
use Rattle.encode_unicode.proofs.PieceCounts.{pieces_within, unit_pieces_within}
use Rattle.encode_unicode.proofs.PieceRuns.{chars_of_text, codes_of_text, decoder_listed, placed_listed, scalars_listed, unit_decoder_listed}

module _ {S A : Type 0} (steps : S → Option A → S → Type 0) (rest : S → List A) (listed : IsListed steps rest) where
  pub passed : (seen : List A) (s t : S) → Yields steps s seen t → rest s ≡ seen ++ rest t
  passed [] s t y = ap rest y
  passed (x ∷ seen) s t y = listed s (Some x) y.0 y.1 ∙ ap (λ xs. x ∷ xs) (passed seen y.0 t y.2)

  listed_gave : (s : S) (xs : List A) → rest s ≡ xs → GaveAll steps s xs
  listed_gave s xs e seen t u y none =
      sym (append-nil seen) ∙ ap (λ ys. seen ++ ys) (sym (listed t None u none).0) ∙ sym (passed seen s t y) ∙ e

  listed_few : (s : S) (xs : List A) (n : ℕ) → rest s ≡ xs → length xs ≤ n → GiveAtMost steps s n
  listed_few s xs n e le seen t y = omega (arith, ap length e, ap length (passed seen s t y), length-append seen (rest t))

few_codes : (scalars : List ℕ) → length scalars ≤ length (flat_map utf8 scalars)
few_codes [] = omega arith
few_codes (s ∷ scalars) =
    let some = some_utf8 s in
    let rest = few_codes scalars in
    let both = length-append (utf8 s) (flat_map utf8 scalars) in
    omega arith

few_chars : (text : List ℕ) → IsUtf8 text → length (chars text) ≤ length text
few_chars text h = omega (arith, few_codes (chars text), ap length (codes_of_text text h))

pub length-placed : (place : ℕ) (scalars : List ℕ) → length (placed_chars place scalars) ≡ length scalars
length-placed place [] = refl
length-placed place (s ∷ scalars) = let rest = length-placed (place + length (utf8 s)) scalars in omega arith

pub chars_gave : (text : List ℕ) (s : Window) → s ≡ whole_window text → GaveAll NextScalar s (chars text)
chars_gave text s e = listed_gave NextScalar chars_left scalars_listed s (chars text) (chars_of_text text s e).0

pub chars_few : (text : List ℕ) (s : Window) → IsUtf8 text → s ≡ whole_window text → GiveAtMost NextScalar s (length text)
chars_few text s h e = listed_few NextScalar chars_left scalars_listed s (chars text) (length text) (chars_of_text text s e).0 (few_chars text h)

pub placed_gave : (text : List ℕ) (s : Window) → s ≡ whole_window text → GaveAll NextPlaced s (placed_chars 0 (chars text))
placed_gave text s e = listed_gave NextPlaced placed_chars_left placed_listed s (placed_chars 0 (chars text)) (chars_of_text text s e).1

pub placed_few : (text : List ℕ) (s : Window) → IsUtf8 text → s ≡ whole_window text → GiveAtMost NextPlaced s (length text)
placed_few text s h e =
    let few = few_chars text h in
    listed_few NextPlaced placed_chars_left placed_listed s (placed_chars 0 (chars text)) (length text) (chars_of_text text s e).1 (omega (arith, length-placed 0 (chars text)))

pub pieces_gave : (xs : List ℕ) (s : Window) → s ≡ whole_window xs → GaveAll NextGives s (pieces xs)
pieces_gave xs s e = listed_gave NextGives pieces_left decoder_listed s (pieces xs) (ap pieces_left e)

pub pieces_few : (xs : List ℕ) (s : Window) → s ≡ whole_window xs → GiveAtMost NextGives s (length xs)
pieces_few xs s e = listed_few NextGives pieces_left decoder_listed s (pieces xs) (length xs) (ap pieces_left e) (pieces_within xs)

pub unit_pieces_gave : (xs : List ℕ) (s : Window) → s ≡ whole_window xs → GaveAll NextGivesUnits s (unit_pieces xs)
unit_pieces_gave xs s e = listed_gave NextGivesUnits unit_pieces_left unit_decoder_listed s (unit_pieces xs) (ap unit_pieces_left e)

pub unit_pieces_few : (xs : List ℕ) (s : Window) → s ≡ whole_window xs → GiveAtMost NextGivesUnits s (length xs)
unit_pieces_few xs s e = listed_few NextGivesUnits unit_pieces_left unit_decoder_listed s (unit_pieces xs) (length xs) (ap unit_pieces_left e) (unit_pieces_within xs)
