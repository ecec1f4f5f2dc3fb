-- Parts that are fed one after another are one part.
use Rattle.std.proofs.Common.{◌≡◌, ℕ, List, [], ◌++◌, refl, ap, sym, subst, ◌∙◌, append_assoc, arith}
use Rattle.std.proofs.lemmas.List.{append-nil}
use Rattle.recoding.specs.Recoded.{Recoding, IsRecoded, Grows, Feeds, fresh}
use Rattle.recoding.specs.Fed.{NothingIsFed, PartIsFed, FedIsFront, FedIsRecoded, TwoPartsAreOne, TwoPartsAreRecoded}
use Rattle.recoding.proofs.Growing.{recoded_once, Continues-none, Grows-append, Grows-trans}

pub parts_join : (r s t : Recoding) (part next old mid new : List ℕ) → Feeds r part old mid s → Feeds s next mid new t → Feeds r (part ++ next) old new t
parts_join r s t part next old mid new f g =
    let first : Grows r.from r.to ((r.held ++ part) ++ next) old mid (s.held ++ next) = Grows-append r.from r.to (r.held ++ part) s.held next old mid f.grows in
    let then : Grows r.from r.to (s.held ++ next) mid new t.held =
    subst (λ x. Grows x r.to (s.held ++ next) mid new t.held) f.from (subst (λ x. Grows s.from x (s.held ++ next) mid new t.held) f.to g.grows) in
    let both : Grows r.from r.to ((r.held ++ part) ++ next) old new t.held =
    Grows-trans r.from r.to ((r.held ++ part) ++ next) (s.held ++ next) t.held old mid new first then in
    record {
      grows = subst (λ xs. Grows r.from r.to xs old new t.held) (append_assoc r.held part next) both;
      from = g.from ∙ f.from;
      to = g.to ∙ f.to;
      few = g.few;
    }

pub nothing_is_fed : NothingIsFed
nothing_is_fed from to = record {
  once = record {
    grows = record { grown = []; appended = refl; continues = Continues-none from to [] };
    from = refl;
    to = refl;
    few = omega arith;
  };
}

pub part_is_fed : PartIsFed
part_is_fed from to bytes part more out new r s fed f e = record {
  once = rw e (parts_join (fresh from to) r s bytes part [] out new fed.once f);
}

pub fed_is_front : FedIsFront
fed_is_front from to bytes later out all r fed whole =
    let grows = fed.once.grows in
    let rest = recoded_once from to (r.held ++ later) in
    let first : IsRecoded from to (bytes ++ later) (grows.grown ++ rest.0) = grows.continues later rest.0 rest.1 in
    let once = recoded_once from to (bytes ++ later) in
    (rest.0, once.2 all whole ∙ sym (once.2 (grows.grown ++ rest.0) first) ∙ ap (λ xs. xs ++ rest.0) (sym grows.appended))

pub fed_is_recoded : FedIsRecoded
fed_is_recoded from to bytes all out new r fed last e =
    let grows = fed.once.grows in
    let held : IsRecoded from to r.held last.grown =
    subst (λ x. IsRecoded x to r.held last.grown) fed.once.from (subst (λ x. IsRecoded r.from x r.held last.grown) fed.once.to last.recoded) in
    let whole : IsRecoded from to (bytes ++ []) (grows.grown ++ last.grown) = grows.continues [] last.grown (rw (append-nil r.held) held) in
    let same : new ≡ grows.grown ++ last.grown = last.appended ∙ ap (λ xs. xs ++ last.grown) grows.appended in
    let joined : bytes ++ [] ≡ all = append-nil bytes ∙ sym e in
    subst (λ xs. IsRecoded from to xs new) joined (subst (λ xs. IsRecoded from to (bytes ++ []) xs) (sym same) whole)

pub two_parts_are_one : TwoPartsAreOne
two_parts_are_one part next old mid new r s t f g = parts_join r s t part next old mid new f g

pub two_parts_are_recoded : TwoPartsAreRecoded
two_parts_are_recoded from to part next old mid out new r s t is none f g last =
    let both = parts_join r s t part next old mid out f g in
    let once : Feeds (fresh from to) (part ++ next) [] out t = subst (λ u. Feeds u (part ++ next) [] out t) is (subst (λ xs. Feeds r (part ++ next) xs out t) none both) in
    fed_is_recoded from to (part ++ next) (part ++ next) out new t (record { once = once }) last refl
