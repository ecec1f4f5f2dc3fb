-- One step of a cursor, forward and backward.
use Rattle.std.proofs.Common.{◌≡◌, ℕ, ◌+◌, ◌-◌, ◌<◌, List, length, take, Some, None, arith, refl, ap, sym, ◌∙◌}
use Rattle.std.specs.Prelude.{slice_range}
use Rattle.encode_unicode.specs.Code.{utf8}
use Rattle.encode_unicode.specs.CutLaws.{OnePieceEnds}
use Rattle.encode_unicode.specs.Ends.{EndsWith, NoCodeEnds}
use Rattle.encode_unicode.specs.Front.{BeginsWith}
use Rattle.encode_unicode.specs.Piece.{Stands}
use Rattle.encode_unicode.proofs.ForCallers.{utf8_is_code, front_char, front_fault, back_char, back_fault, outside_front, outside_end}
use Rattle.cuts.specs.PieceBoundaries.{IsBetween}
use Rattle.run_examples.specs.Cursor.{IsStep}

pub on_char : (xs : List ℕ) (i s n : ℕ) → IsBetween xs i → BeginsWith utf8 (slice_range xs i (length xs)) s n → IsBetween xs (i + n) × IsStep xs i (i + n)
on_char xs i s n b h =
    let f = front_char utf8 utf8_is_code xs i (length xs) s b.within (omega arith) h.0 in
    rw h.1 (
      record { within = f.1; outside = f.2 },
      record { piece = record { start = i; len = length (utf8 s); char = Some s }; is_piece = f.0; begins = refl; ends = refl },
    )

pub on_fault : (xs : List ℕ) (i : ℕ) → IsBetween xs i → i < length xs → ((s : ℕ) → ¬ Stands utf8 (slice_range xs i (length xs)) 0 s)
    → IsBetween xs (i + 1) × IsStep xs i (i + 1)
on_fault xs i b lt none =
    let f = front_fault utf8 xs i (length xs) b.outside (outside_end utf8 xs) lt (omega arith) none in (
      record { within = omega arith; outside = f.1 },
      record { piece = record { start = i; len = 1; char = None }; is_piece = f.0; begins = refl; ends = refl },
    )

range_front : (xs : List ℕ) (j : ℕ) → slice_range xs 0 j ≡ take j xs
range_front xs j = let e : j - 0 ≡ j = omega arith in rw e refl

pub back_over_char : (xs : List ℕ) (j s n : ℕ) → IsBetween xs j → EndsWith utf8 (take j xs) s n → IsBetween xs (j - n) × IsStep xs (j - n) j
back_over_char xs j s n b h =
    let f = back_char utf8 utf8_is_code xs 0 j s n (omega arith) b.within (rw (range_front xs j) h) in
    let within = b.within in
    let len = f.1 in
    let fits = f.2 in (
      record { within = omega arith; outside = f.3 },
      record { piece = record { start = j - n; len = length (utf8 s); char = Some s }; is_piece = f.0; begins = refl; ends = omega arith },
    )

pub back_over_fault : (xs : List ℕ) (j : ℕ) → IsBetween xs j → 0 < j → NoCodeEnds utf8 (take j xs) → IsBetween xs (j - 1) × IsStep xs (j - 1) j
back_over_fault xs j b some none =
    let f = back_fault utf8 xs 0 j (outside_front utf8 xs) b.outside some b.within (rw (range_front xs j) none) in
    let within = b.within in (
      record { within = omega arith; outside = f.1 },
      record { piece = record { start = j - 1; len = 1; char = None }; is_piece = f.0; begins = refl; ends = omega arith },
    )

-- two steps that end at one offset begin at one
pub same_begin : OnePieceEnds utf8 → (xs : List ℕ) (i k j : ℕ) → IsStep xs i j → IsStep xs k j → i ≡ k
same_begin law xs i k j f g = sym f.begins ∙ ap (λ x. x.start) (law xs f.piece g.piece f.is_piece g.is_piece (f.ends ∙ sym g.ends)) ∙ g.begins
