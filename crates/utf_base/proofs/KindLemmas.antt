-- The laws of single bytes and of the forward kind.
use Rattle.std.proofs.Common.{◌≡◌, ℕ, ◌+◌, ◌<◌, ◌≤◌, List, [], ◌∷◌, length, get_or, take, arith, refl, ap, sym, ◌∙◌, eqb, ltb, lit<, length-take}
use Rattle.std.proofs.lemmas.Grind.{common_steps}
use Rattle.std.proofs.lemmas.List.{get_or-take}
use Rattle.std.specs.Prelude.{slice_range}
use Rattle.utf_base.specs.Code.{utf8}
use Rattle.utf_base.specs.Kinds.{fault_kind, asked_by, value}
use Rattle.utf_base.specs.CutLaws.{AsciiStandsAlone}
use Rattle.utf_base.specs.KindLaws.{FourBytesDecide}
use Rattle.utf_base.proofs.Utf8Code.{utf8-1}
use Rattle.utf_base.proofs.FrontLemmas.{asked_le}

one_element : (xs : List ℕ) (p : ℕ) → p < length xs → slice_range xs p (p + 1) ≡ get_or xs p 0 ∷ []
one_element xs p h = grind (arith, common_steps)

pub ascii_stands_alone : AsciiStandsAlone
ascii_stands_alone xs p lt low =
    let code = utf8-1 (get_or xs p 0) low in
    let len : length (utf8 (get_or xs p 0)) ≡ 1 = ap length code in (
      record {
        scalar = record { below = omega arith; no_surrogate = λ g. absurd (omega arith) };
        within = omega arith;
        equal = rw len (one_element xs p lt ∙ sym code);
      },
      sym len,
    )

value-front : (w : List ℕ) → value (take 4 w) ≡ value w
unfolding value
value-front w = rw (get_or-take 4 w 0 0 (lit< tt), get_or-take 4 w 1 0 (lit< tt), get_or-take 4 w 2 0 (lit< tt), get_or-take 4 w 3 0 (lit< tt)) refl

-- whether there are fewer than k elements, with k at most 4, is determined by the first four
short-front : (n k m : ℕ) → k ≤ 4 → (n < 4 → m ≡ n) → (4 ≤ n → m ≡ 4) → ltb m k ≡ ltb n k
short-front n k m h p q = grind (arith, common_steps)

pub four_bytes_decide : FourBytesDecide
unfolding fault_kind
four_bytes_decide w =
    let empty : eqb (length (take 4 w)) 0 ≡ eqb (length w) 0 = grind (arith, common_steps) in
    let short : ltb (length (take 4 w)) (asked_by w) ≡ ltb (length w) (asked_by w)
    = short-front (length w) (asked_by w) (length (take 4 w)) (asked_le (get_or w 0 0)) (λ h. omega (arith, length-take 4 w)) (λ h. omega (arith, length-take 4 w)) in
    rw (empty, get_or-take 4 w 0 0 (lit< tt), get_or-take 4 w 1 0 (lit< tt), get_or-take 4 w 2 0 (lit< tt), get_or-take 4 w 3 0 (lit< tt), short, value-front w) refl
