-- What the first four of some bytes determine of all of them.
use Rattle.std.proofs.Common.{◌≡◌, ℕ, ◌∙◌, ◌≤◌, List, length, take, ap, sym, refl, Option, Some, None, Ok, IfSome, arith}
use Rattle.utf_base.specs.Code.{utf8}
use Rattle.utf_base.specs.Decoded.{decoded}
use Rattle.utf_base.specs.Front.{as_scalar, BeginsWith}
use Rattle.utf_base.proofs.DecodedLemmas.{decoded_code}
use Rattle.utf_base.proofs.Standing.{stands_in_whole}

-- the character that begins the four bytes begins all
pub four_decide : (w : List ℕ) (r : Option (ℕ × ℕ)) → 4 ≤ length w → IfSome r (λ x. BeginsWith utf8 (take 4 w) (as_scalar x.0) x.1) → IfSome r (λ x. decoded w ≡ Ok x)
four_decide w None enough begins = tt
four_decide w (Some (s, n)) enough (stands, len) =
    let whole = (stands_in_whole utf8 w 0 4 0 0 s refl (omega arith) enough stands).0 in
    decoded_code w s whole ∙ ap (λ n. Ok (s, n)) (sym len)
