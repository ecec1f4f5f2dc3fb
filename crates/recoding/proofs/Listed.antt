-- Lists of a known length, element by element.
use Rattle.std.proofs.Common.{◌≡◌, ℕ, zero, suc, ◌+◌, List, [], ◌∷◌, length, get_or, drop, arith, ap, sym, ◌∙◌}
use Rattle.std.proofs.Math.Seq.{drop-cons}
use Rattle.std.proofs.lemmas.List.{drop_all}

-- n elements from an offset on
abbrev pub elements_from : ℕ → ℕ → List ℕ → List ℕ
elements_from k zero w = []
elements_from k (suc n) w = get_or w k 0 ∷ elements_from (suc k) n w

elements_to_end : (k n : ℕ) (w : List ℕ) → length w ≡ k + n → elements_from k n w ≡ drop k w
elements_to_end k zero w h = sym (drop_all k w (omega arith))
elements_to_end k (suc n) w h = ap (λ ys. get_or w k 0 ∷ ys) (elements_to_end (suc k) n w (omega arith)) ∙ sym (drop-cons w k 0 (omega arith))

pub listed : (n : ℕ) (w : List ℕ) → length w ≡ n → elements_from 0 n w ≡ w
listed n w h = elements_to_end 0 n w (omega arith)
