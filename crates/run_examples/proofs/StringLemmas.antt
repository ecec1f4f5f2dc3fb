-- Strings of JSON, piece by piece instead of byte by byte.
use Rattle.std.proofs.Common.{◌≡◌, ℕ, zero, suc, ◌+◌, ◌-◌, ◌<◌, ◌≤◌, List, ◌∷◌, length, get_or, drop, true, false, Some, nat_eq, ⊎_elim, arith, refl, ap, sym, ◌∙◌}
use Rattle.std.proofs.lemmas.Bool.{cases_lt}
use Rattle.std.proofs.lemmas.Grind.{common_steps}
use Rattle.std.proofs.lemmas.List.{drop_more}
use Rattle.std.specs.Prelude.{◌≢◌, slice_range}
use Rattle.std.specs.Result.{result_ok}
use Rattle.encode_unicode.specs.Code.{utf8}
use Rattle.encode_unicode.specs.CutLaws.{AsciiStandsAlone, PiecesNeverOverlap}
use Rattle.encode_unicode.specs.Kinds.{fault_kind}
use Rattle.encode_unicode.specs.Piece.{Piece}
use Rattle.encode_unicode.specs.Window.{Window, Item, GivesFront, IsFrontPiece}
use Rattle.encode_unicode.proofs.ForCallers.{utf8_is_code, no_code_where_fault}
use Rattle.cuts.proofs.ForwardRuns.{IsRunSoFar}
use Rattle.cuts.proofs.PieceRuns.{AtFront, at_front}
use Rattle.run_examples.specs.Strings.{string_end}

one_high : (b p : ℕ) (bytes : List ℕ) → 128 ≤ b → string_end false p (b ∷ bytes) ≡ string_end false (p + 1) bytes
one_high b p bytes high =
    let quote : nat_eq b 0x22 ≡ false = grind (arith, common_steps) in
    let slash : nat_eq b 0x5C ≡ false = grind (arith, common_steps) in
    rw (quote, slash) refl

-- bytes that are not ASCII are skipped
skip_high : (xs : List ℕ) (n p : ℕ) → p + n ≤ length xs → ((q : ℕ) → p ≤ q → q < p + n → 128 ≤ get_or xs q 0)
    → string_end false p (drop p xs) ≡ string_end false (p + n) (drop (p + n) xs)
skip_high xs zero p fits high = let e : p ≡ p + zero = omega arith in ap (λ k. string_end false k (drop k xs)) e
skip_high xs (suc n) p fits high =
    let more : p + 1 + n ≡ p + suc n = omega arith in
    ap (string_end false p) (drop_more xs p 0 (omega arith)) ∙ one_high (get_or xs p 0) p (drop (p + 1) xs) (high p (omega arith) (omega arith))
    ∙ skip_high xs n (p + 1) (omega arith) (λ q lo hi. high q (omega arith) (omega arith)) ∙ ap (λ k. string_end false k (drop k xs)) more

-- a piece of the bytes at the front of the window, and the window after it
pub record Passes (xs : List ℕ) (w v : Window) (n : ℕ) : Type 0 where
  pub some : 0 < n
  pub within : w.front + n ≤ length xs
  pub front : v.front ≡ w.front + n
  pub high : 1 < n → (q : ℕ) → w.front ≤ q → q < w.front + n → 128 ≤ get_or xs q 0

pub passes : AsciiStandsAlone → PiecesNeverOverlap utf8 → {xs : List ℕ} {items : List Item} {w v : Window} {x : Item} → IsRunSoFar xs items w → GivesFront w x v → Passes xs w v x.2
passes alone apart {xs} {w} {x} f g =
    let lt : w.front < length xs = rw (← f.end) g.some in
    let piece : IsFrontPiece (slice_range xs w.front (length xs)) x.1 x.2 = rw (f.whole, f.end) at g.piece in
    let at : AtFront utf8 fault_kind xs w.front x.2 x.1 = at_front utf8 fault_kind utf8_is_code no_code_where_fault xs w.front x.2 x.1 lt f.run.outside piece in
    let within = at.within in
    let this : Piece = record { start = w.front; len = x.2; char = result_ok x.1 } in
    record {
      some = at.some;
      within = at.within;
      front = ap (λ (u : Window). u.front) g.left;
      high = λ long q lo hi.
          ⊎_elim
          (λ (low : get_or xs q 0 < 128).
          let both = apart xs this (record { start = q; len = 1; char = Some (get_or xs q 0) }) at.piece (alone xs q (omega arith) low) in
          ⊎_elim
          (λ (later : w.front < q). let ends = both.1 later in absurd (omega arith))
          (λ (here : q ≤ w.front). let one : x.2 ≡ 1 = ap (λ (y : Piece). y.len) (both.0 (omega arith)) in absurd (omega arith))
          (cases_lt w.front q))
          (λ (ge : 128 ≤ get_or xs q 0). ge)
          (cases_lt (get_or xs q 0) 128);
    }

first_byte : (xs : List ℕ) (w v : Window) (n : ℕ) → Passes xs w v n → drop w.front xs ≡ get_or xs w.front 0 ∷ drop (w.front + 1) xs
first_byte xs w v n p = let some = p.some in let within = p.within in drop_more xs w.front 0 (omega arith)

-- an escaped character
pub pass_escaped : (xs : List ℕ) (w v : Window) (n : ℕ) → Passes xs w v n → string_end true w.front (drop w.front xs) ≡ string_end false v.front (drop v.front xs)
pass_escaped xs w v n p =
    ap (string_end true w.front) (first_byte xs w v n p)
    ∙ ⊎_elim
    (λ (long : 1 < n).
    let end : w.front + 1 + (n - 1) ≡ v.front = omega (arith, p.front) in
    skip_high xs (n - 1) (w.front + 1) (omega arith) (λ q lo hi. p.high long q (omega arith) (omega arith)) ∙ ap (λ k. string_end false k (drop k xs)) end)
    (λ (short : n ≤ 1). let end : w.front + 1 ≡ v.front = omega (arith, p.front) in ap (λ k. string_end false k (drop k xs)) end)
    (cases_lt 1 n)

-- a character that is no quote
pub pass_plain : (xs : List ℕ) (w v : Window) (n : ℕ) → Passes xs w v n → get_or xs w.front 0 ≢ 0x22
    → string_end false w.front (drop w.front xs) ≡ string_end (nat_eq (get_or xs w.front 0) 0x5C) v.front (drop v.front xs)
pass_plain xs w v n p plain =
    let within = p.within in
    ⊎_elim
    (λ (long : 1 < n).
    let high = p.high long w.front (omega arith) (omega arith) in
    let slash : nat_eq (get_or xs w.front 0) 0x5C ≡ false = grind (arith, common_steps) in
    skip_high xs n w.front within (p.high long) ∙ ap (λ k. string_end false k (drop k xs)) (sym p.front) ∙ ap (λ b. string_end b v.front (drop v.front xs)) (sym slash))
    (λ (short : n ≤ 1).
    let end : w.front + 1 ≡ v.front = omega (arith, p.front) in
    let quote : nat_eq (get_or xs w.front 0) 0x22 ≡ false = grind (arith, common_steps) in
    ap (string_end false w.front) (first_byte xs w v n p) ∙ rw quote (ap (λ k. string_end (nat_eq (get_or xs w.front 0) 0x5C) k (drop k xs)) end))
    (cases_lt 1 n)
