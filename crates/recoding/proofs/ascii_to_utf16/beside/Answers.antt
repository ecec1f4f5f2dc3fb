use Rattle.std.proofs.Common.{◌≡◌, ◌+◌, ◌++◌, ℕ, List, length, take, drop, arith, ap, ap₂, sym, ◌∙◌, length-append, take-append-drop}
use borrow.Rule.Slice.PartMut.{put_mid}
use Rattle.std.proofs.lemmas.List.{append-nil, drop_all, take_at}
use Rattle.std.proofs.lemmas.Slice.{drop-put_mid, take-put_mid}
use Rattle.recoding.proofs.ascii_to_utf16.beside.Goals as goal

-- a list of two halves, of which each was written
both : (ys zs room xs vs : List ℕ) (n : ℕ) → ys ≡ xs → zs ≡ vs → length xs ≡ n → length vs ≡ n → length room ≡ n → put_mid n n (ys ++ room) zs ≡ xs ++ vs
both ys zs room xs vs n e f first second rest =
    let put = put_mid n n (ys ++ room) zs in
    let front : length ys ≡ n = ap length e ∙ first in
    let back : length zs ≡ n = ap length f ∙ second in
    let long = length-append ys room in
    let written : take (n + n) put ≡ take n (ys ++ room) ++ zs = take-put_mid n n (ys ++ room) zs (n + n) (omega arith) (omega arith) in
    let following : drop (n + n) put ≡ drop (n + n) (ys ++ room) = drop-put_mid n n (ys ++ room) zs (n + n) (omega arith) (omega arith) back in
    let none = drop_all (n + n) (ys ++ room) (omega arith) in
    sym (take-append-drop (n + n) put) ∙ ap₂ (λ ws ts. ws ++ ts) (written ∙ ap₂ (λ ws ts. ws ++ ts) (take_at ys room n front ∙ e) f) (following ∙ none) ∙ append-nil (xs ++ vs)

pub returns : goal.returns
returns c = both _ _ _ c.args.first c.args.second 16 c.copy_from_slice.ensures.after c.copy_from_slice-2.ensures.after (omega (arith, c.fits-first)) (omega (arith, c.fits-second)) (omega arith)
