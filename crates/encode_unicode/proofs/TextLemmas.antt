-- The properties that a window of a text keeps when a character is taken from either end.
use Rattle.std.proofs.Common.{◌≡◌, ℕ, ◌+◌, ◌-◌, ◌<◌, ◌≤◌, List, ◌++◌, length, get_or, take, drop, refl, ap, sym, ◌∙◌, arith, ⊎_elim, length-drop}
use Rattle.std.proofs.lemmas.Grind.{common_steps}
use Rattle.std.proofs.lemmas.List.{take-append-drop, take_all, take-take}
use Rattle.std.proofs.lemmas.Str.{IsUtf8-between, IsCharBoundary-start, IsCharBoundary-end}
use Rattle.std.specs.Int.{div_ceil}
use Rattle.std.specs.List.{flat_map}
use Rattle.std.specs.Prelude.{slice_range, Some, Ok}
use Rattle.std.specs.Str.{IsUtf8, IsCharBoundary}
use Rattle.utf_base.specs.Code.{utf8}
use Rattle.utf_base.specs.Ends.{EndsWith}
use Rattle.utf_base.specs.Front.{BeginsWith}
use Rattle.utf_base.specs.Piece.{Stands}
use Rattle.utf_base.proofs.Standing.{Stands-at, stands_in_whole}
use Rattle.utf_base.proofs.Utf8Code.{utf8_is_code, utf8-first, length_utf8}
use Rattle.utf_chars.proofs.Ranges.{range_after}
use Rattle.utf_chars.proofs.TextLemmas.{boundary_after}
use Rattle.utf_base.specs.Decoded.{decoded_bytes}
use Rattle.encode_unicode.proofs.TextEnds.{last_is_read}
use Rattle.encode_unicode.specs.TextWindow.{IsKeptWindow, IsLastCode, IsTextWindow, GivesFirstChar, GivesLastChar, BoundsScalars}
use Rattle.utf_base.proofs.JoinedLengths.{joined_bounds, some_utf8}

text_window : (xs : List ℕ) (i j : ℕ) → IsUtf8 xs → i ≤ j → IsCharBoundary xs i → IsCharBoundary xs j → IsTextWindow (record { whole = xs; front = i; back = j })
text_window xs i j h le front back = record { text = IsUtf8-between xs i j h le front back; front = front; back = back }

pub kept_whole : (text : List ℕ) → IsUtf8 text → IsKeptWindow text 0 (length text)
kept_whole text h = record {
  is_text = h;
  ordered = omega arith;
  between = text_window text 0 (length text) h (omega arith) (IsCharBoundary-start text h) (IsCharBoundary-end text);
}

-- the offset before a character is a boundary
boundary_before : (xs : List ℕ) (p s : ℕ) → Stands utf8 xs p s → IsCharBoundary xs p
boundary_before xs p s h =
    let first = Stands-at utf8 xs p s 0 p (omega arith) h (utf8_is_code.some s h.scalar) in
    (omega arith, λ lt high. ⊎_elim (λ (low : get_or (utf8 s) 0 0 < 0x80). absurd (omega arith)) (λ (high : 0xC2 ≤ get_or (utf8 s) 0 0). omega arith) (utf8-first s h.scalar))

pub first_taken : {xs : List ℕ} {i j s n : ℕ} → IsKeptWindow xs i j → BeginsWith utf8 (slice_range xs i j) s n
    → GivesFirstChar (record { whole = xs; front = i; back = j }) i s (record { whole = xs; front = i + n; back = j }) × IsKeptWindow xs (i + n) j × (j - (i + n) < j - i)
first_taken {xs} {i} {j} {s} {n} kept begins =
    let ordered = kept.ordered in
    let back = kept.between.back.0 in
    let whole = stands_in_whole utf8 xs i j 0 i s (omega arith) ordered back begins.0 in
    let len = begins.1 in
    let some = some_utf8 s in
    let following = range_after xs i j n (omega arith) in
    let span : n ≡ 0 + length (utf8 s) - 0 = omega arith in
    let code : take n (slice_range xs i j) ≡ utf8 s = ap (λ k. take k (slice_range xs i j)) span ∙ begins.0.equal in
    let front = boundary_after xs i s (i + n) kept.is_text kept.between.front whole.0 (omega arith) in
    let between = text_window xs (i + n) j kept.is_text (omega arith) front kept.between.back in (
      record {
        scalar = begins.0.scalar;
        code = sym (take-append-drop n (slice_range xs i j)) ∙ ap (λ ys. ys ++ drop n (slice_range xs i j)) code ∙ ap (λ ys. utf8 s ++ ys) (sym following);
        at_front = refl;
        left = ap (λ (k : ℕ). record { whole = xs; front = i + k; back = j }) len;
        begins = kept.between.front;
        between = between;
      },
      record { is_text = kept.is_text; ordered = omega arith; between = between },
      omega arith,
    )

pub last_taken : (xs : List ℕ) (i j s n m : ℕ) → IsKeptWindow xs i j → EndsWith utf8 (slice_range xs i j) s n → m ≡ j - n
    → GivesLastChar (record { whole = xs; front = i; back = j }) m s (record { whole = xs; front = i; back = m }) × IsKeptWindow xs i m × (m - i < j - i)
last_taken xs i j s n m kept ends e =
    let ordered = kept.ordered in
    let back = kept.between.back.0 in
    let stands = ends.0 in
    let len : length (slice_range xs i j) ≡ j - i = grind (arith, common_steps) in
    let some = some_utf8 s in
    let whole = stands_in_whole utf8 xs i j (length (slice_range xs i j) - n) m s (omega arith) ordered back stands in
    let span : length (slice_range xs i j) - n + length (utf8 s) - (length (slice_range xs i j) - n) ≡ length (utf8 s) = omega arith in
    let rest : length (drop (length (slice_range xs i j) - n) (slice_range xs i j)) ≤ length (utf8 s) = omega (arith, length-drop (length (slice_range xs i j) - n) (slice_range xs i j)) in
    let last : drop (length (slice_range xs i j) - n) (slice_range xs i j) ≡ utf8 s
    = sym (take_all _ (drop (length (slice_range xs i j) - n) (slice_range xs i j)) rest) ∙ ap (λ k. take k (drop (length (slice_range xs i j) - n) (slice_range xs i j))) (sym span) ∙ stands.equal in
    let place : length (slice_range xs i j) - n ≡ m - i = omega arith in
    let before : slice_range xs i m ≡ take (length (slice_range xs i j) - n) (slice_range xs i j)
    = sym (take-take (m - i) (j - i) (drop i xs) (omega arith)) ∙ ap (λ k. take k (slice_range xs i j)) (sym place) in
    let between = text_window xs i m kept.is_text (omega arith) kept.between.front (boundary_before xs m s whole.0) in (
      record {
        scalar = stands.scalar;
        code = sym (take-append-drop (length (slice_range xs i j) - n) (slice_range xs i j)) ∙ ap (λ ys. take (length (slice_range xs i j) - n) (slice_range xs i j) ++ ys) last ∙ ap (λ ys. ys ++ utf8 s) (sym before);
        at_back = refl;
        left = ap (λ (k : ℕ). record { whole = xs; front = i; back = k }) (omega arith);
        ends = kept.between.back;
        between = between;
      },
      record { is_text = kept.is_text; ordered = omega arith; between = between },
      omega arith,
    )

-- the window without its last character, if that was made of the code that ends the text
pub last_char_taken : {xs text code : List ℕ} {i j t n : ℕ} → IsKeptWindow xs i j → text ≡ slice_range xs i j → IsLastCode text code n → decoded_bytes code ≡ Ok t
    → GivesLastChar (record { whole = xs; front = i; back = j }) (j - n) t (record { whole = xs; front = i; back = j - n }) × IsKeptWindow xs i (j - n) × (j - n - i < j - i)
last_char_taken {xs} {text} {code} {i} {j} {t} {n} kept e last known =
    let same = last_is_read text code t n last known in
    let ends : EndsWith utf8 (slice_range xs i j) t n = rw (← e, ← same) last.ends in
    last_taken xs i j t n (j - n) kept ends refl

pub bounds_quarter : (xs : List ℕ) (i j n : ℕ) → IsKeptWindow xs i j → n ≡ div_ceil (j - i) 4 → BoundsScalars (slice_range xs i j) (n, Some (j - i))
bounds_quarter xs i j n kept e scalars is =
    let len : length (slice_range xs i j) ≡ j - i = grind (arith, common_steps) in
    let b = joined_bounds utf8 4 some_utf8 length_utf8 scalars in
    let all : length (flat_map utf8 scalars) ≡ j - i = ap length is ∙ len in
    (omega arith, omega arith)
