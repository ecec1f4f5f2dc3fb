-- Parts fed one after another.
use Rattle.std.proofs.Common.{◌≡◌, ℕ, List, [], ◌∷◌, ◌++◌, ap, sym, ◌∙◌, subst, append_assoc}
use Rattle.std.proofs.lemmas.List.{append-nil}
use Rattle.std.specs.List.{concat}
use Rattle.recoding.specs.Recoded.{Recoding, IsRecoded, FeedsEach, PartsAreRecoded, PartsDoNotMatter, fresh}
use Rattle.recoding.proofs.Growing.{recoded_once}

-- the output for the remaining parts, whatever was carried over
rest_is_recoded : (r : Recoding) (parts : List (List ℕ)) (old new : List ℕ) → FeedsEach r parts old new
    → (grown : List ℕ) × (new ≡ old ++ grown) × IsRecoded r.from r.to (r.held ++ concat parts) grown
rest_is_recoded r [] old new f = (f.grown, f.appended, rw (append-nil r.held) f.recoded)
rest_is_recoded r (part ∷ parts) old new (s, mid, fed, rest) =
    let later = rest_is_recoded s parts mid new rest in
    let grows = fed.grows in
    let following : IsRecoded r.from r.to (s.held ++ concat parts) later.0 =
    subst (λ f. IsRecoded f r.to (s.held ++ concat parts) later.0) fed.from (subst (λ t. IsRecoded s.from t (s.held ++ concat parts) later.0) fed.to later.2) in
    let whole : IsRecoded r.from r.to ((r.held ++ part) ++ concat parts) (grows.grown ++ later.0) = grows.continues (concat parts) later.0 following in (
      grows.grown ++ later.0,
      later.1 ∙ ap (λ xs. xs ++ later.0) grows.appended ∙ append_assoc old grows.grown later.0,
      rw (append_assoc r.held part (concat parts)) at whole,
    )

pub parts_are_recoded : PartsAreRecoded
parts_are_recoded from to parts out f =
    let all = rest_is_recoded (fresh from to) parts [] out f in
    subst (λ xs. IsRecoded from to (concat parts) xs) (sym all.1) all.2

pub parts_do_not_matter : PartsDoNotMatter
parts_do_not_matter from to parts others out other same f g =
    let once = recoded_once from to (concat others) in
    let a : IsRecoded from to (concat others) out = subst (λ xs. IsRecoded from to xs out) same (parts_are_recoded from to parts out f) in
    let b = parts_are_recoded from to others other g in
    once.2 out a ∙ sym (once.2 other b)
